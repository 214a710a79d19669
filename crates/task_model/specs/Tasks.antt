-- The state of one task, and the ways in which it goes on: behind a statement, into a branch, or as an exception is raised where it stands.
use Rattle.std.specs.Prelude.{ℕ, ℤ, List, ◌∷◌, ◌++◌, Result, Ok, Err}
use Rattle.ada_tree.specs.PlainExpr.{PExpr}
use Rattle.ada_tree.specs.PlainStmt.{PStmts, no_stmt, PMaybe, absent, present}
use Rattle.ada_value.specs.declared.values.Value.{Value}
use Rattle.ada_value.specs.declared.values.Raised.{Raised}
use Rattle.ada_value.specs.Variables.{Variables}
use Rattle.ada_value.specs.Evaluating.{evaluated}
use Rattle.task_model.specs.Setting.{Setting}
use Rattle.task_model.specs.Frames.{Around, PFrame, Control, control, in_front, settled_in, settled, raised_in}

-- A task: what it reads of its program, its number, where it stands, the integers left of its input, and what it has written.
pub record Task : Type 0 where
  pub setting : Setting
  pub number : ℕ
  pub control : Control
  pub input : List ℤ
  pub output : List ℕ

-- ---- its parts

-- the statements left in the innermost frame of a task
abbrev pub rest_of : Task → PStmts
rest_of t = t.control.top.rest

-- what the innermost frame of a task stands in
abbrev pub place_of : Task → Around
place_of t = t.control.top.place

-- the other frames of a task, the inner ones first
abbrev pub outer_of : Task → List PFrame
outer_of t = t.control.outer

-- the variables of a task, the inner ones first
abbrev pub vars_of : Task → Variables
vars_of t = t.control.vars

-- the value of an expression where the task stands
abbrev pub value_of : Task → PExpr → Result Value Raised
value_of t e = evaluated t.setting.types (vars_of t) e

-- the task as it stands elsewhere, or has other variables
abbrev pub with_control : Task → Control → Task
with_control t c = record { setting = t.setting; number = t.number; control = c; input = t.input; output = t.output }

-- the task with this input left (14.3)
abbrev pub with_input : Task → List ℤ → Task
with_input t input = record { setting = t.setting; number = t.number; control = t.control; input = input; output = t.output }

-- the task with more written (14.3)
abbrev pub with_text : Task → List ℕ → Task
with_text t text = record { setting = t.setting; number = t.number; control = t.control; input = t.input; output = t.output ++ text }

-- the task with its variables changed
abbrev pub with_vars : Task → Variables → Task
with_vars t vars = with_control t (control (rest_of t) (place_of t) (outer_of t) vars)

-- ---- going on

-- The task goes on with these statements in its innermost frame; a block that is over is left.
abbrev pub gone_to : PStmts → Task → Task
gone_to rest t = with_control t (settled_in (outer_of t) rest (place_of t) (vars_of t))

-- the statements of a part that may be left out
abbrev pub stmts_or_none : PMaybe → PStmts
stmts_or_none absent = no_stmt
stmts_or_none (present stmts) = stmts

-- The task enters a branch: its statements go in front of those behind.
abbrev pub entered : PStmts → PStmts → Task → Task
entered stmts behind t = gone_to (in_front stmts behind) t

-- The task in a new frame, with these behind it.
abbrev pub pushed : PStmts → Around → Variables → PStmts → Task → Task
pushed stmts place vars behind t =
    with_control t (settled_in (record { rest = behind; place = place_of t } ∷ outer_of t) stmts place vars)

-- The task as an exception is raised where it stands (11.4.1).
abbrev pub raised_there : Raised → Task → Task
raised_there x t = with_control t (settled (raised_in x (outer_of t) (place_of t) (vars_of t)))

-- the task as something comes out, or as the exception is raised where it stands
abbrev pub or_raised : {A : Type 0} → (A → Task) → Task → Result A Raised → Task
or_raised f t (Ok a) = f a
or_raised f t (Err x) = raised_there x t
