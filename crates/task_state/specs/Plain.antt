-- A task of the code as the task of the definitions, and how it turns at the end of a loop's statements.
use Rattle.std.specs.Prelude.{◌≡◌, ℕ, ℤ, pos, ◌+ℤ◌, ◌-ℤ◌, Bool, if◌then◌else◌, List, drop, Option, Result}
use Rattle.ada_tree.specs.declared.naming.Word.{Word}
use Rattle.ada_tree.specs.PlainExpr.{PDrange}
use Rattle.ada_tree.specs.PlainStmt.{PStmts, no_stmt, PPart}
use Rattle.ada_value.specs.declared.values.Value.{Value}
use Rattle.ada_value.specs.declared.values.Raised.{Raised}
use Rattle.ada_value.specs.declared.values.Limits.{Limits}
use Rattle.ada_value.specs.Values.{position_of}
use Rattle.ada_value.specs.Evaluating.{range_of}
use Rattle.ada_value.specs.Texts.{parts_output}
use Rattle.task_state.specs.frames.Stack.{control_on}
use Rattle.task_model.specs.Frames.{Turns, Loop}
use Rattle.task_model.specs.Tasks.{Task, rest_of, place_of, vars_of, gone_to}
use Rattle.task_model.specs.Steps.{loop_left}
use Rattle.task_state.specs.declared.state.TaskState.{TaskState}

-- The task of the definitions that a task of the code is: what was read of the input is gone.
abbrev pub plain_task : TaskState → Task
plain_task s = record {
  setting = s.links.now;
  number = s.number;
  control = control_on s.frames.stack s.objects;
  input = drop s.next s.input.items;
  output = s.output.items;
}

-- a discrete range where a task stands (3.6)
abbrev pub range_in : Task → PDrange → Result Limits Raised
range_in t r = range_of t.setting.types (vars_of t) r

-- the text of the parts of a PUT where a task stands (14.3)
abbrev pub text_in : Task → List PPart → Result (List ℕ) Raised
text_in t parts = parts_output t.setting.program.names t.setting.types (vars_of t) parts

-- the position behind that of a value, or before it where a loop counts backwards (5.5)
abbrev pub counted_from : Bool → Value → ℤ
counted_from backwards v = if backwards then position_of v -ℤ pos 1 else position_of v +ℤ pos 1

-- At the end of a loop's statements the task begins them again (5.5).
abbrev pub BeginsTurn : Task → Task → Type 0
BeginsTurn old new = (name : Option Word) (turns : Turns) (stmts : PStmts) → rest_of old ≡ no_stmt → place_of old ≡ Loop name turns stmts → new ≡ gone_to stmts old

-- At the end of a loop's statements the task has left the loop, without its parameter (5.5).
abbrev pub LeavesLoop : Task → Task → Type 0
LeavesLoop old new = (name : Option Word) (turns : Turns) (stmts : PStmts) → rest_of old ≡ no_stmt → place_of old ≡ Loop name turns stmts → new ≡ loop_left turns old
