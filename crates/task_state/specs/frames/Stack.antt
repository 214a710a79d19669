-- The frames of a task without its variables, as plain data, and the task that has them.
use Rattle.std.specs.Prelude.{ℕ, Bool, List, drop}
use Rattle.ada_value.specs.Variables.{Variables}
use Rattle.task_model.specs.Frames.{PFrame, Control}
use Rattle.task_model.specs.Tasks.{Task, vars_of, with_control}
use Rattle.task_model.specs.Rendezvous.{behind_in}

-- The frames of a task: the innermost, and the others, the inner ones first.
pub record Stack : Type 0 where
  pub top : PFrame
  pub outer : List PFrame

-- What a contract sees of the frames that are held: the frames, and whether there is room for one more, so that it takes no memory.
pub record Held : Type 0 where
  pub stack : Stack
  pub reserved : Bool

-- a frame inside of others
abbrev pub with_part : PFrame → List PFrame → Stack
with_part part parts = record { top = part; outer = parts }

-- the frames behind the next statement, where none is left yet
abbrev pub passed : Stack → Stack
passed s = with_part record { rest = behind_in s.top.rest; place = s.top.place } s.outer

-- where a task stands that has these frames and variables
abbrev pub control_on : Stack → Variables → Control
control_on s vars = record { top = s.top; outer = s.outer; vars = vars }

-- The task with these frames, and with its own variables.
abbrev pub framed : Stack → Task → Task
framed s t = with_control t (control_on s (vars_of t))

-- The task with these frames, and without so many of its latest variables.
abbrev pub framed_without : ℕ → Stack → Task → Task
framed_without n s t = with_control t (control_on s (drop n (vars_of t)))
