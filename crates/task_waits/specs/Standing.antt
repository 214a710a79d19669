-- What a task stands at, as the code has it, and the parts of an accept that is opened.
use Rattle.std.specs.Prelude.{ℕ, List, [], map, Option, Some, None}
use Rattle.ada_tree.specs.PlainStmt.{PFormal, PStmts, no_stmt, no_handler, PAccept, accepting, plain_formal, seen}
use Rattle.event_machine.specs.declared.Choice.{Choice}
use Rattle.event_machine.specs.Offers.{Calls, Waits, Finishes, Ends, Aborts}
use Rattle.ada_value.specs.Variables.{Variables}
use Rattle.task_waits.specs.declared.calls.here.Here.{Here}
use Rattle.task_model.specs.Setting.{Setting}
use Rattle.task_model.specs.Frames.{OwnBody, control}
use Rattle.task_model.specs.Tasks.{Task, stmts_or_none}
use Rattle.task_model.specs.Waits.{Open, Accepts, Delays, Terminates}
use Rattle.task_model.specs.Stands as model
use Rattle.task_waits.specs.declared.stands.Stand.{Stand}
use Rattle.task_waits.specs.declared.stands.Stand.TheVariants as stand
use Rattle.task_waits.specs.declared.alternatives.Accepting.{Accepting}

-- A task of this setting and number with these variables and with no statement left. What is evaluated at a statement is the same in every task of the same setting, number and variables (`proofs/Standing`).
abbrev pub task_with : Setting → ℕ → Variables → Task
task_with g n vars = record { setting = g; number = n; control = control no_stmt (OwnBody no_handler None) [] vars; input = []; output = [] }

-- the task that evaluates
abbrev pub task_here : Here → Task
task_here here = task_with here.links.now here.number here.objects.now

-- What a task stands at, with the choices of its wait beside.
abbrev pub stand_as : Stand → List Choice → model.Stand
stand_as stand.Step choices = model.Steps
stand_as (stand.Raises x) choices = model.Raises x
stand_as (stand.Call form e i) choices = model.At (Calls form e i)
stand_as stand.Wait choices = model.At (Waits choices)
stand_as stand.Finish choices = model.At Finishes
stand_as stand.End choices = model.At Ends
stand_as (stand.Abort x) choices = model.At (Aborts x)

-- The parts of an accept that is opened: its formal part, the statements of its body, and those behind it.
pub record Parts : Type 0 where
  pub formals : List PFormal
  pub body : PStmts
  pub behind : PStmts

-- the parts as the code has them
abbrev pub plain_parts : Accepting → Parts
plain_parts a = record { formals = map plain_formal a.formals.now; body = seen a.body.now; behind = seen a.behind.now }

-- the statements of the body of an accept
abbrev pub body_accepted : PAccept → PStmts
body_accepted (accepting head stmts) = stmts_or_none stmts

-- the parts of an accept with the statements behind it
abbrev pub parts_behind : PAccept → PStmts → Parts
parts_behind (accepting head stmts) behind = record { formals = head.formals; body = stmts_or_none stmts; behind = behind }

-- the parts of an open alternative; one that is no accept has none
abbrev pub parts_in : Open → Parts
parts_in (Accepts e i head stmts behind) = record { formals = head.formals; body = stmts; behind = behind }
parts_in (Delays k d stmts) = record { formals = []; body = no_stmt; behind = no_stmt }
parts_in Terminates = record { formals = []; body = no_stmt; behind = no_stmt }

-- The parts of the open alternative that is taken; where there is none, as in no legal program, they are empty (9.5).
abbrev pub parts_opened : Option Open → Parts
parts_opened None = record { formals = []; body = no_stmt; behind = no_stmt }
parts_opened (Some o) = parts_in o
