-- What others do to a task, and the other parts of calls, waits and aborts, need no more room (6.4.1, 9.5, 9.7, 9.10, 11.5).
use Rattle.std.specs.Prelude.{ℕ, ◌≤◌, List, [], ◌∷◌, Option, Some, None}
use Rattle.std.proofs.Math.Nat.{max-le}
use Rattle.ada_tree.specs.PlainStmt.{PStmt, SNull, SAssign, SDelay, SExit, SRaise, SAbort, SCall, SAccept, SWait, SConditional, STimed, SPut, SPutLine, SNewLine, SGet, SIf, SCase, SBlock, SLoop, PStmts, no_stmt, stmt_then}
use Rattle.ada_value.specs.declared.values.Value.{Value}
use Rattle.ada_value.specs.declared.values.Raised.{Raised}
use Rattle.ada_value.specs.declared.values.Raised.TheVariants as raised
use Rattle.task_model.specs.Frames.{Around, OwnBody, Block, Handling, Loop, Opened, PFrame}
use Rattle.task_model.specs.Tasks.{Task, rest_of, place_of, outer_of, stmts_or_none, with_vars, gone_to}
use Rattle.task_model.specs.Calls.{Copies}
use Rattle.task_model.specs.Waits.{delay_stmts}
use Rattle.task_model.specs.Rendezvous.{behind_of, going_on, frame_left, body_closed, finished, more_at, more_in, come_back, copies_of, returned, pending_of, finals_of, resumed_with, resumed, call_failed, else_taken_at, else_taken_in, took_else, delay_taken_at, delay_taken_in, took_delay, passed_at, passed_in, past_name}
use Rattle.task_waits.specs.Room.{widest_stmt}
use Rattle.task_local.specs.room.Fitting.{FitsStmts, FitsParts, HasRoom}
use Rattle.task_local.proofs.room.Frames.{left_fits, right_fits, none_fits}
use Rattle.task_local.proofs.room.Steps.{gone_has_room, entered_has_room, raised_has_room, maybe_fits}
use Rattle.task_local.proofs.room.Opened.{behind_fits, delay_fits}

module _ (n : ℕ) where
  -- Behind the next statement.
  pub behind_has_room : (t : Task) → HasRoom n t → HasRoom n (gone_to (behind_of t) t)
  behind_has_room t k = gone_has_room n (behind_of t) t (behind_fits n (rest_of t) k.0.0) k

  -- ---- a rendezvous ends

  going_has_room : (o : Option Raised) (t : Task) → HasRoom n t → HasRoom n (going_on o t)
  going_has_room None t k = gone_has_room n (rest_of t) t k.0.0 k
  going_has_room (Some x) t k = raised_has_room n x t k

  left_has_room : (t : Task) (outer : List PFrame) → FitsParts n outer → HasRoom n t → HasRoom n (frame_left t outer)
  left_has_room t [] o k = k
  left_has_room t (part ∷ parts) o k = o

  closed_has_room : (place : Around) (t : Task) → HasRoom n t → HasRoom n (body_closed place t)
  closed_has_room (OwnBody handlers taken) t k = k
  closed_has_room (Block handlers) t k = k
  closed_has_room (Handling x) t k = k
  closed_has_room (Loop name turns stmts) t k = k
  closed_has_room (Opened caller formals pending) t k = going_has_room pending (frame_left t (outer_of t)) (left_has_room t (outer_of t) k.1 k)

  -- The acceptor as its innermost rendezvous has ended.
  pub finished_has_room : (t : Task) → HasRoom n t → HasRoom n (finished t)
  finished_has_room t k = closed_has_room (place_of t) t k

  -- ---- callers

  more_at_fits : (s : PStmt) → widest_stmt s ≤ n → FitsStmts n (more_at s)
  more_at_fits (SConditional call more otherwise s) h = left_fits _ _ h
  more_at_fits (STimed call more duration after s) h = left_fits _ _ h
  more_at_fits (SNull s) h = none_fits n
  more_at_fits (SAssign target e s) h = none_fits n
  more_at_fits (SDelay duration s) h = none_fits n
  more_at_fits (SExit w test s) h = none_fits n
  more_at_fits (SRaise w s) h = none_fits n
  more_at_fits (SAbort callees s) h = none_fits n
  more_at_fits (SCall call s) h = none_fits n
  more_at_fits (SAccept accept s) h = none_fits n
  more_at_fits (SWait alts otherwise s) h = none_fits n
  more_at_fits (SPut parts s) h = none_fits n
  more_at_fits (SPutLine parts s) h = none_fits n
  more_at_fits (SNewLine s) h = none_fits n
  more_at_fits (SGet target s) h = none_fits n
  more_at_fits (SIf arms otherwise s) h = none_fits n
  more_at_fits (SCase e arms others s) h = none_fits n
  more_at_fits (SBlock b s) h = none_fits n
  more_at_fits (SLoop name scheme stmts s) h = none_fits n

  more_fits : (rest : PStmts) → FitsStmts n rest → FitsStmts n (more_in rest)
  more_fits no_stmt h = none_fits n
  more_fits (stmt_then s rest) h = more_at_fits s (left_fits _ _ h)

  come_back_has_room : (t : Task) (copies : Copies) (o : Option Raised) → HasRoom n t → HasRoom n (come_back t copies o)
  come_back_has_room t copies None k =
      entered_has_room n (more_in (rest_of t)) (behind_of t) (with_vars t copies.vars) (more_fits (rest_of t) k.0.0) (behind_fits n (rest_of t) k.0.0) k
  come_back_has_room t copies (Some x) k = raised_has_room n x (with_vars t copies.vars) k

  -- The caller as values come back to it.
  pub returned_has_room : (values : List Value) (t : Task) → HasRoom n t → HasRoom n (returned values t)
  returned_has_room values t k = come_back_has_room t (copies_of t values) (copies_of t values).stopped k

  -- The caller as its rendezvous ends with an exception pending, or with values.
  pub resumed_with_has_room : (o : Option Raised) (values : List Value) (t : Task) → HasRoom n t → HasRoom n (resumed_with o values t)
  resumed_with_has_room (Some x) values t k = raised_has_room n x t k
  resumed_with_has_room None values t k = returned_has_room values t k

  -- The caller as its rendezvous with an acceptor ends.
  pub resumed_has_room : (acceptor t : Task) → HasRoom n t → HasRoom n (resumed acceptor t)
  resumed_has_room acceptor t k = resumed_with_has_room (pending_of acceptor) (finals_of acceptor) t k

  -- The caller as TASKING_ERROR is raised at its call.
  pub failed_has_room : (t : Task) → HasRoom n t → HasRoom n (call_failed t)
  failed_has_room t k = raised_has_room n raised.Tasking t k

  -- ---- other parts of calls and waits

  else_at_has_room : (s : PStmt) (behind : PStmts) (t : Task) → widest_stmt s ≤ n → FitsStmts n behind → HasRoom n t → HasRoom n (else_taken_at s behind t)
  else_at_has_room (SConditional call more otherwise s) behind t i b k = entered_has_room n otherwise behind t (right_fits _ _ i) b k
  else_at_has_room (SWait alts otherwise s) behind t i b k = entered_has_room n (stmts_or_none otherwise) behind t (maybe_fits n otherwise (right_fits _ _ (right_fits _ _ i))) b k
  else_at_has_room (SNull s) behind t i b k = k
  else_at_has_room (SAssign target e s) behind t i b k = k
  else_at_has_room (SDelay duration s) behind t i b k = k
  else_at_has_room (SExit w test s) behind t i b k = k
  else_at_has_room (SRaise w s) behind t i b k = k
  else_at_has_room (SAbort callees s) behind t i b k = k
  else_at_has_room (SCall call s) behind t i b k = k
  else_at_has_room (SAccept accept s) behind t i b k = k
  else_at_has_room (STimed call more duration after s) behind t i b k = k
  else_at_has_room (SPut parts s) behind t i b k = k
  else_at_has_room (SPutLine parts s) behind t i b k = k
  else_at_has_room (SNewLine s) behind t i b k = k
  else_at_has_room (SGet target s) behind t i b k = k
  else_at_has_room (SIf arms otherwise s) behind t i b k = k
  else_at_has_room (SCase e arms others s) behind t i b k = k
  else_at_has_room (SBlock its s) behind t i b k = k
  else_at_has_room (SLoop name scheme stmts s) behind t i b k = k

  else_in_has_room : (rest : PStmts) (t : Task) → FitsStmts n rest → HasRoom n t → HasRoom n (else_taken_in rest t)
  else_in_has_room no_stmt t i k = k
  else_in_has_room (stmt_then s rest) t i k = else_at_has_room s rest t (left_fits _ _ i) (right_fits _ _ i) k

  -- The task in the else part of its conditional call or selective wait.
  pub else_has_room : (t : Task) → HasRoom n t → HasRoom n (took_else t)
  else_has_room t k = else_in_has_room (rest_of t) t k.0.0 k

  delay_at_has_room : (d : ℕ) (s : PStmt) (behind : PStmts) (t : Task) → widest_stmt s ≤ n → FitsStmts n behind → HasRoom n t → HasRoom n (delay_taken_at d s behind t)
  delay_at_has_room d (STimed call more duration after s) behind t i b k = entered_has_room n after behind t (right_fits _ _ i) b k
  delay_at_has_room d (SWait alts otherwise s) behind t i b k = entered_has_room n (delay_stmts alts 0 d) behind t (delay_fits n alts 0 d (left_fits _ _ (right_fits _ _ i))) b k
  delay_at_has_room d (SNull s) behind t i b k = k
  delay_at_has_room d (SAssign target e s) behind t i b k = k
  delay_at_has_room d (SDelay duration s) behind t i b k = k
  delay_at_has_room d (SExit w test s) behind t i b k = k
  delay_at_has_room d (SRaise w s) behind t i b k = k
  delay_at_has_room d (SAbort callees s) behind t i b k = k
  delay_at_has_room d (SCall call s) behind t i b k = k
  delay_at_has_room d (SAccept accept s) behind t i b k = k
  delay_at_has_room d (SConditional call more otherwise s) behind t i b k = k
  delay_at_has_room d (SPut parts s) behind t i b k = k
  delay_at_has_room d (SPutLine parts s) behind t i b k = k
  delay_at_has_room d (SNewLine s) behind t i b k = k
  delay_at_has_room d (SGet target s) behind t i b k = k
  delay_at_has_room d (SIf arms otherwise s) behind t i b k = k
  delay_at_has_room d (SCase e arms others s) behind t i b k = k
  delay_at_has_room d (SBlock its s) behind t i b k = k
  delay_at_has_room d (SLoop name scheme stmts s) behind t i b k = k

  delay_in_has_room : (d : ℕ) (rest : PStmts) (t : Task) → FitsStmts n rest → HasRoom n t → HasRoom n (delay_taken_in d rest t)
  delay_in_has_room d no_stmt t i k = k
  delay_in_has_room d (stmt_then s rest) t i k = delay_at_has_room d s rest t (left_fits _ _ i) (right_fits _ _ i) k

  -- The task behind a delay of its selective wait, or behind the delay of its timed call.
  pub delay_has_room : (d : ℕ) (t : Task) → HasRoom n t → HasRoom n (took_delay d t)
  delay_has_room d t k = delay_in_has_room d (rest_of t) t k.0.0 k

  -- ---- abort

  passed_at_has_room : (s : PStmt) (behind : PStmts) (t : Task) → FitsStmts n behind → HasRoom n t → HasRoom n (passed_at s behind t)
  passed_at_has_room (SAbort [] s) behind t b k = k
  passed_at_has_room (SAbort (callee ∷ []) s) behind t b k = gone_has_room n behind t b k
  passed_at_has_room (SAbort (callee ∷ (next ∷ callees)) s) behind t b k = gone_has_room n (stmt_then (SAbort (next ∷ callees) s) behind) t (max-le (none_fits n) b) k
  passed_at_has_room (SNull s) behind t b k = k
  passed_at_has_room (SAssign target e s) behind t b k = k
  passed_at_has_room (SDelay duration s) behind t b k = k
  passed_at_has_room (SExit w test s) behind t b k = k
  passed_at_has_room (SRaise w s) behind t b k = k
  passed_at_has_room (SCall call s) behind t b k = k
  passed_at_has_room (SAccept accept s) behind t b k = k
  passed_at_has_room (SWait alts otherwise s) behind t b k = k
  passed_at_has_room (SConditional call more otherwise s) behind t b k = k
  passed_at_has_room (STimed call more duration after s) behind t b k = k
  passed_at_has_room (SPut parts s) behind t b k = k
  passed_at_has_room (SPutLine parts s) behind t b k = k
  passed_at_has_room (SNewLine s) behind t b k = k
  passed_at_has_room (SGet target s) behind t b k = k
  passed_at_has_room (SIf arms otherwise s) behind t b k = k
  passed_at_has_room (SCase e arms others s) behind t b k = k
  passed_at_has_room (SBlock its s) behind t b k = k
  passed_at_has_room (SLoop name scheme stmts s) behind t b k = k

  passed_in_has_room : (rest : PStmts) (t : Task) → FitsStmts n rest → HasRoom n t → HasRoom n (passed_in rest t)
  passed_in_has_room no_stmt t i k = k
  passed_in_has_room (stmt_then s rest) t i k = passed_at_has_room s rest t (right_fits _ _ i) k

  -- The task behind the next name of its abort statement.
  pub passed_has_room : (t : Task) → HasRoom n t → HasRoom n (past_name t)
  passed_has_room t k = passed_in_has_room (rest_of t) t k.0.0 k
