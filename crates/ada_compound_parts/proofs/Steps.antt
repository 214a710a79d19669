-- How compound statements end.
use Rattle.std.proofs.Common.{◌≡◌, List, Option, Some, None, Result}
use Rattle.ada_tree.specs.declared.naming.Span.{Span}
use Rattle.ada_tree.specs.declared.naming.Word.{Word}
use Rattle.ada_expr_parser.specs.declared.items.Item.{Item}
use Rattle.ada_expr_parser.specs.declared.errors.ParseError.{ParseError}
use Rattle.ada_expr_parser.specs.Gives.{Gives}
use Rattle.ada_phrase_parser.specs.Reading.{closed}
use Rattle.ada_compound_parts.specs.inner.ReadingParts.{loop_end}
use Rattle.ada_expr_parser.proofs.Steps.{fails_go_on}

-- a loop without a name ends with its semicolon
pub loop_none :
    {X A : Type 0} (tree : X → A) (behind : X → List Item) (result : Result X ParseError) (name : Option Word) (node : Span → A) (ts : List Item) →
    name ≡ None → Gives tree behind result (closed node ts) → Gives tree behind result (loop_end name node ts)
loop_none tree behind result None node ts is gives = gives
loop_none tree behind result (Some w) node ts is gives = cc

pub ruleset steps = (fails_go_on)
