-- Nothing but a local step writes.
use Rattle.std.proofs.Common.{◌≡◌, ℕ, ℤ, List, [], ◌∷◌, Option, Some, None, refl}
use Rattle.ada_value.specs.declared.values.Raised.{Raised}
use Rattle.ada_tree.specs.PlainStmt.{PStmt, SWait, SConditional, STimed, PStmts, no_stmt, stmt_then}
use Rattle.task_model.specs.Frames.{Around, OwnBody, Block, Handling, Loop, Opened, PFrame}
use Rattle.task_model.specs.Tasks.{Task, rest_of, place_of, outer_of}
use Rattle.task_model.specs.Calls.{Copies, values_handed}
use Rattle.task_model.specs.Waits.{Open, Accepts, Delays, Terminates, alternative_for}
use Rattle.task_model.specs.Rendezvous as rendezvous
use Rattle.task_model.specs.TaskOps.{task_ops}
use Rattle.run_laws.specs.collecting.Settings.{IsSilent}

-- the second task has written what the first has
abbrev Same : Task → Task → Type 0
Same t u = u.output ≡ t.output

accepted-same : (e : ℕ) (i : ℤ) (caller : ℕ) (calling t : Task) → Same t (rendezvous.accepted e i caller calling t)
accepted-same e i caller calling t = by_open (alternative_for t e i)
  where
    by_open : (o : Option Open) → Same t (rendezvous.alternative_opened caller o (values_handed calling) t)
    by_open None = refl
    by_open (Some (Accepts f j head body behind)) = refl
    by_open (Some (Delays k duration stmts)) = refl
    by_open (Some Terminates) = refl

finished-same : (t : Task) → Same t (rendezvous.finished t)
finished-same t = by_place (place_of t)
  where
    left : (outer : List PFrame) → Same t (rendezvous.frame_left t outer)
    left [] = refl
    left (part ∷ parts) = refl

    on : (pending : Option Raised) → Same t (rendezvous.going_on pending (rendezvous.frame_left t (outer_of t)))
    on None = left (outer_of t)
    on (Some x) = left (outer_of t)

    by_place : (place : Around) → Same t (rendezvous.body_closed place t)
    by_place (OwnBody handlers taken) = refl
    by_place (Block handlers) = refl
    by_place (Handling x) = refl
    by_place (Loop name turns stmts) = refl
    by_place (Opened caller formals pending) = on pending

resumed-same : (acceptor t : Task) → Same t (rendezvous.resumed acceptor t)
resumed-same acceptor t = by_pending (rendezvous.pending_of acceptor)
  where
    back : (copies : Copies) (o : Option Raised) → Same t (rendezvous.come_back t copies o)
    back copies None = refl
    back copies (Some x) = refl

    by_pending : (o : Option Raised) → Same t (rendezvous.resumed_with o (rendezvous.finals_of acceptor) t)
    by_pending (Some x) = refl
    by_pending None = back (rendezvous.copies_of t (rendezvous.finals_of acceptor)) (rendezvous.copies_of t (rendezvous.finals_of acceptor)).stopped

else-same : (t : Task) → Same t (rendezvous.took_else t)
else-same t = by_rest (rest_of t)
  where
    by_stmt : (x : PStmt) (behind : PStmts) → Same t (rendezvous.else_taken_at x behind t)
    by_stmt (SConditional call more otherwise s) behind = refl
    by_stmt (SWait alts otherwise s) behind = refl
    by_stmt _ behind = refl

    by_rest : (rest : PStmts) → Same t (rendezvous.else_taken_in rest t)
    by_rest no_stmt = refl
    by_rest (stmt_then x behind) = by_stmt x behind

delay-same : (k : ℕ) (t : Task) → Same t (rendezvous.took_delay k t)
delay-same k t = by_rest (rest_of t)
  where
    by_stmt : (x : PStmt) (behind : PStmts) → Same t (rendezvous.delay_taken_at k x behind t)
    by_stmt (STimed call more duration after s) behind = refl
    by_stmt (SWait alts otherwise s) behind = refl
    by_stmt _ behind = refl

    by_rest : (rest : PStmts) → Same t (rendezvous.delay_taken_in k rest t)
    by_rest no_stmt = refl
    by_rest (stmt_then x behind) = by_stmt x behind

pub silent : IsSilent task_ops (λ t. t.output)
silent = record {
  accepted = λ e i c caller t. accepted-same e i c caller t;
  finished = finished-same;
  resumed = resumed-same;
  raised = λ t. refl;
  took_else = else-same;
  took_delay = delay-same;
}
