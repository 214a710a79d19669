-- A unit of a collecting text, as a task that tells the recorder what it does (this project's rule): what must be known of the whole before its text is made.
use Rattle.std.specs.Prelude.{ℕ, Option, unwrap_or}
use Rattle.ada_tree.specs.declared.naming.NameId.{NameId}
use Rattle.ada_tree.specs.declared.naming.Span.{Span}
use Rattle.ada_tree.specs.PlainExpr.{PExpr}
use Rattle.syn_event.specs.Numbering.{Numbering, task_named}
use Rattle.normal_model.specs.RewrittenUnit.{RewrittenUnit}
use Rattle.replay_model.specs.Asking.{member_number}
use Rattle.collect_model.specs.declared.AddedNames.{AddedNames}
use Rattle.collect_model.specs.Names.{collect_names, added_in}

-- What a unit is told: the ids of the added names; how the member of the entry of a number is written as a number, at a place and by the index if there is one; the numbers of the program; and the number of the task that runs the unit.
pub record Teller : Type 0 where
  pub added : AddedNames
  pub member : ℕ → Span → Option PExpr → PExpr
  pub numbers : Numbering
  pub task : ℕ

-- the task of a name: each task of a normal form has one of its own; 0 where there is none, as in no legal program
abbrev pub task_of : Numbering → NameId → ℕ
task_of numbers name = unwrap_or (task_named numbers name) 0

-- the same for the unit of another task
abbrev pub teller_at : Teller → ℕ → Teller
teller_at x t = record { added = x.added; member = x.member; numbers = x.numbers; task = t }

-- What a unit of a normal form is told. The member of a plain entry is `0`, that of a family of integers the index, and that of another family the index's position.
abbrev pub teller_in : RewrittenUnit → Teller
teller_in u = record {
  added = added_in (collect_names u.setting.program);
  member = λ e s index. member_number u.setting s e index;
  numbers = u.setting.numbers;
  task = u.task;
}
