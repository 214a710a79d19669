use Rattle.std.proofs.Common.{◌≡◌, drop, []}
use Rattle.ada_static_rules.specs.Sooner.{sooner}
use Rattle.scoped_names.specs.name_sets.Numbers.{numbers_in}
use Rattle.ada_decl_rules.specs.duplicates.NamingsInOrder.{first_repeated}
use Rattle.ada_decl_rules.proofs.duplicates.repeats.refuse_repeats.Given as goal

-- what is refused so far, and what is still to come
abbrev pub invariant-loop-naming : goal.invariant-loop-naming
invariant-loop-naming l = sooner l.refusal (first_repeated (numbers_in l.fixed) (numbers_in l.introduced) (drop l.naming-index l.namings)) ≡ first_repeated [] [] l.namings
