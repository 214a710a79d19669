-- What a unit of a replay text is told before its text is made.
use Rattle.std.specs.Prelude.{ℕ, Option}
use Rattle.ada_tree.specs.declared.naming.NameId.{NameId}
use Rattle.ada_tree.specs.declared.naming.Span.{Span}
use Rattle.ada_tree.specs.PlainExpr.{PExpr}
use Rattle.syn_event.specs.Numbering.{Numbering}
use Rattle.replay_asking.specs.declared.names.added_names.AddedNames.{AddedNames}

-- The ids of the names that are added, and of the double of each entry's name; the member of an entry as a number, by its index if it has one; the program's numbers; and the number of a task that runs the unit.
pub record Voice : Type 0 where
  pub added : AddedNames
  pub double : NameId → NameId
  pub member : ℕ → Span → Option PExpr → PExpr
  pub numbers : Numbering
  pub task : ℕ
