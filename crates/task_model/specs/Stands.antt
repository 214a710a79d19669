-- What a task stands at: a local step, a local step in which the evaluation of a synchronizing statement raises, or an offer (9.4, 9.5, 9.7, 9.10; the division into steps is this project's rule).
use Rattle.std.specs.Prelude.{ℕ, Bool, true, false, List, [], ◌∷◌, Result, Ok, Err}
use Rattle.ada_tree.specs.PlainStmt.{PCallee, PStmt, SNull, SAssign, SDelay, SExit, SRaise, SAbort, SCall, SAccept, SWait, SConditional, STimed, SPut, SPutLine, SNewLine, SGet, SIf, SCase, SBlock, SLoop, PStmts, no_stmt, stmt_then}
use Rattle.event_machine.specs.declared.CallForm.{CallForm}
use Rattle.event_machine.specs.declared.CallForm.TheVariants as form
use Rattle.event_machine.specs.declared.Choice.{Choice}
use Rattle.event_machine.specs.Offers.{Offer, Nothing, Calls, Waits, Finishes, Ends, Aborts}
use Rattle.ada_value.specs.declared.values.Raised.{Raised}
use Rattle.ada_value.specs.declared.values.Raised.TheVariants as raised
use Rattle.task_model.specs.Setting.{callee_task}
use Rattle.task_model.specs.Frames.{Around, OwnBody, Block, Handling, Loop, Opened}
use Rattle.task_model.specs.Tasks.{Task, rest_of, place_of, vars_of, gone_to, raised_there}
use Rattle.task_model.specs.Steps.{assign_step, get_step, put_step, line_end, if_step, case_step, block_step, exit_step, raise_step, loop_step, turn_step}
use Rattle.task_model.specs.Calls.{Called, called}
use Rattle.task_model.specs.Waits.{Open, open_at, choices_of, is_present}

-- What a task stands at.
pub data Stand : Type 0 where
  -- a local step
  Steps : Stand
  -- a synchronizing statement whose evaluation raises this: a local step too
  Raises : Raised → Stand
  -- an offer
  At : Offer → Stand

-- ---- synchronizing statements

-- a call is offered where it could be evaluated, and else raises (9.5, 9.7.2, 9.7.3)
abbrev pub call_stand : CallForm → Result Called Raised → Stand
call_stand form (Ok c) = At (Calls form c.entry c.index)
call_stand form (Err x) = Raises x

-- a wait whose alternatives are all closed, without an else part, raises PROGRAM_ERROR (9.7.1)
abbrev pub choices_stand : List Choice → Stand
choices_stand [] = Raises raised.Program
choices_stand (c ∷ choices) = At (Waits (c ∷ choices))

-- a wait stands at its choices where its guards and indexes could be evaluated, and else raises (9.7.1)
abbrev pub wait_stand : Bool → Result (List Open) Raised → Stand
wait_stand has_else (Ok all) = choices_stand (choices_of has_else all)
wait_stand has_else (Err x) = Raises x

-- the abort of a task is offered where its name could be evaluated, and else raises (9.10)
abbrev pub name_stand : Result ℕ Raised → Stand
name_stand (Ok x) = At (Aborts x)
name_stand (Err x) = Raises x

-- an abort names its tasks one by one, and evaluates an index when its name's turn has come; one of no names is a statement that is passed (9.10; this project's rule)
abbrev pub abort_stand : Task → List PCallee → Stand
abort_stand t [] = Steps
abort_stand t (callee ∷ callees) = name_stand (callee_task t.setting (vars_of t) callee)

-- What a task stands at with this statement next.
abbrev pub stand_at : Task → PStmt → Stand
stand_at t (SCall call s) = call_stand form.Plain (called t.setting (vars_of t) call)
stand_at t (SConditional call more otherwise s) = call_stand form.Conditional (called t.setting (vars_of t) call)
stand_at t (STimed call more duration after s) = call_stand form.Timed (called t.setting (vars_of t) call)
stand_at t (SAccept accept s) = wait_stand false (open_at t (SAccept accept s))
stand_at t (SWait alts otherwise s) = wait_stand (is_present otherwise) (open_at t (SWait alts otherwise s))
stand_at t (SAbort callees s) = abort_stand t callees
stand_at t _ = Steps

-- What it stands at behind the last statement of a frame: the end of the unit, of an accept body, or of a loop's statements. The end of a block or handler is left at once, so nothing stands there.
abbrev pub stand_behind : Around → Stand
stand_behind (OwnBody handlers taken) = At Ends
stand_behind (Block handlers) = Steps
stand_behind (Handling x) = Steps
stand_behind (Loop name turns stmts) = Steps
stand_behind (Opened caller formals pending) = At Finishes

-- what a task stands at with these statements left in a frame of this sort
abbrev pub stand_with : Task → PStmts → Around → Stand
stand_with t no_stmt place = stand_behind place
stand_with t (stmt_then s rest) place = stand_at t s

-- What a task stands at.
abbrev pub stand_of : Task → Stand
stand_of t = stand_with t (rest_of t) (place_of t)

-- ---- the offer and the local step

-- the offer that a task stands at; at a local step it offers nothing
abbrev pub offered : Stand → Offer
offered Steps = Nothing
offered (Raises x) = Nothing
offered (At offer) = offer

-- What the task offers.
abbrev pub offer_of : Task → Offer
offer_of t = offered (stand_of t)

-- a task that stands there has a local step
abbrev pub steps_at : Stand → Bool
steps_at Steps = true
steps_at (Raises x) = true
steps_at (At offer) = false

-- The task has a local step.
abbrev pub can_step : Task → Bool
can_step t = steps_at (stand_of t)

-- The step at a statement that is no synchronizing one.
abbrev pub stepped_at : PStmt → PStmts → Task → Task
stepped_at (SNull s) behind t = gone_to behind t
stepped_at (SAssign target e s) behind t = assign_step target e behind t
stepped_at (SDelay duration s) behind t = gone_to behind t
stepped_at (SExit w test s) behind t = exit_step w test behind t
stepped_at (SRaise w s) behind t = raise_step w t
stepped_at (SAbort callees s) behind t = gone_to behind t
stepped_at (SPut parts s) behind t = put_step parts [] behind t
stepped_at (SPutLine parts s) behind t = put_step parts line_end behind t
stepped_at (SNewLine s) behind t = put_step [] line_end behind t
stepped_at (SGet target s) behind t = get_step target behind t
stepped_at (SIf arms otherwise s) behind t = if_step arms otherwise behind t
stepped_at (SCase e arms others s) behind t = case_step e arms others behind t
stepped_at (SBlock b s) behind t = block_step b behind t
stepped_at (SLoop name scheme stmts s) behind t = loop_step name scheme stmts behind t
stepped_at (SCall call s) behind t = t
stepped_at (SAccept accept s) behind t = t
stepped_at (SWait alts otherwise s) behind t = t
stepped_at (SConditional call more otherwise s) behind t = t
stepped_at (STimed call more duration after s) behind t = t

-- the step at the end of a frame: a loop turns or is left
abbrev pub stepped_behind : Around → Task → Task
stepped_behind (Loop name turns stmts) t = turn_step turns stmts t
stepped_behind (OwnBody handlers taken) t = t
stepped_behind (Block handlers) t = t
stepped_behind (Handling x) t = t
stepped_behind (Opened caller formals pending) t = t

-- the task after the step at its next statement, or at the end of its frame where no statement is left
abbrev pub stepped_with : PStmts → Around → Task → Task
stepped_with no_stmt place t = stepped_behind place t
stepped_with (stmt_then s rest) place t = stepped_at s rest t

-- the task after the step at which it stands; at an offer it stays as it is
abbrev pub stepped_by : Stand → Task → Task
stepped_by Steps t = stepped_with (rest_of t) (place_of t) t
stepped_by (Raises x) t = raised_there x t
stepped_by (At offer) t = t

-- The task after its local step; a task without one stays as it is.
abbrev pub stepped : Task → Task
stepped t = stepped_by (stand_of t) t
