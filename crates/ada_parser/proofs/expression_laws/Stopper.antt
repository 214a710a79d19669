-- The end of a text ends an expression of every level.
use Rattle.std.proofs.Common.{refl}
use Rattle.ada_expr_parser.specs.declared.items.ItemKind.TheVariants as item
use Rattle.ada_expr_parser.specs.declared.items.Item.{Item}
use Rattle.ada_expr_parser.specs.declared.levels.Level.{Level}
use Rattle.ada_expr_parser.specs.declared.levels.Level.TheVariants.{Logical, Relation, Simple, Term, Factor, Primary}
use Rattle.ada_parser.specs.expression_laws.Stopping.{Ends, EndsMark, EndsRange, EndsTarget, EndsChoice}
use Rattle.ada_parser.proofs.expression_laws.Primaries.{no_place}

pub stopper : Item
stopper = record { kind = item.End; span = no_place }

pub stopper_ends : (l : Level) → Ends l stopper
unfolding stopper
stopper_ends Logical = (((((refl, refl), refl), refl), refl), refl)
stopper_ends Relation = ((((refl, refl), refl), refl), refl)
stopper_ends Simple = (((refl, refl), refl), refl)
stopper_ends Term = ((refl, refl), refl)
stopper_ends Factor = (refl, refl)
stopper_ends Primary = (refl, refl)

pub stopper_mark : EndsMark stopper
unfolding stopper
stopper_mark = (stopper_ends Simple, refl)

pub stopper_range : EndsRange stopper
unfolding stopper
stopper_range = (stopper_mark, refl)

pub stopper_target : EndsTarget stopper
unfolding stopper
stopper_target = refl

pub stopper_choice : EndsChoice stopper
unfolding stopper
stopper_choice = (stopper_ends Logical, refl)
