-- Which tasks are as the laws of one task ask (this project's rule).
use Rattle.std.specs.Prelude.{ℕ, ◌<◌, ℤ, List, [], length, None}
use Rattle.ada_tree.specs.PlainStmt.{PBody}
use Rattle.ada_value.specs.Variables.{Variables}
use Rattle.task_model.specs.Frames.{OwnBody, control}
use Rattle.task_model.specs.Setting.{Setting}
use Rattle.task_model.specs.Steps.{block_stmts, block_handlers}
use Rattle.task_model.specs.Tasks.{Task}
use Rattle.task_laws.specs.translation.Scopes.{AgreeOnTypes}
use Rattle.task_laws.specs.translation.Controls.{task_in, AreInside}
use Rattle.normal_laws.specs.runs.floors.NormalLists.{normal_lists}
use Rattle.normal_laws.specs.runs.floors.NormalFloors.{normal}
use Rattle.normal_laws.specs.runs.floors.Preludes.{Added, AreThere}
use Rattle.normal_laws.specs.runs.runs.Premises.{Rewrite, programs_of, unit_at, unit_before, unit_after, objects_before, objects_after, IsNormalForm}

-- a task of this number and input before its body, with these variables, that has written nothing
abbrev pub at_start : Setting → ℕ → List ℤ → PBody → Variables → Task
at_start g n input its V = task_in g n input [] (control (block_stmts its) (OwnBody (block_handlers its) None) [] V)

-- The tables of a program and its normal form agree, a task of that has its added variables, and at the start the task and its image are inside images.
pub record IsAsked (r : Rewrite) (t : ℕ) (added : Added (programs_of r) (programs_of r).original) (input : List ℤ) : Type 0 where
  pub types : AgreeOnTypes (programs_of r)
  pub there : AreThere added (objects_after r t)
  pub inside : AreInside (normal (normal_lists (unit_at r t)) added)
      (at_start (programs_of r).original t input (unit_before r t).body (objects_before r t))
      (at_start (programs_of r).made t input (unit_after r t).body (objects_after r t))

-- So it is with each task of each normal form.
abbrev pub FormsAreAsked : Type 0
FormsAreAsked = (r : Rewrite) → IsNormalForm r → (t : ℕ) → t < length r.numbers.tasks → (input : List ℤ) → (added : Added (programs_of r) (programs_of r).original) × IsAsked r t added input
