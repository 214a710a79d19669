-- What is taken at the next statement without a rendezvous.
use Rattle.std.proofs.Common.{◌≡◌, ℕ, refl, ap, ◌∙◌}
use Rattle.ada_tree.specs.PlainStmt.{PStmt, SNull, SAssign, SDelay, SExit, SRaise, SAbort, SCall, SAccept, SWait, SConditional, STimed, SPut, SPutLine, SNewLine, SGet, SIf, SCase, SBlock, SLoop, no_stmt, stmt_then}
use Rattle.task_model.specs.Tasks.{Task, rest_of}
use Rattle.task_model.specs.Rendezvous.{behind_of, else_taken_at, else_taken_in, took_else, delay_taken_at, delay_taken_in, took_delay}
use Rattle.task_local.specs.rendezvous.inner.Branches.{else_part, delay_part, part_taken}

else_at : (t : Task) (s : PStmt) → else_taken_at s (behind_of t) t ≡ part_taken (else_part s) t
else_at t (SNull s) = refl
else_at t (SAssign target e s) = refl
else_at t (SDelay d s) = refl
else_at t (SExit w e s) = refl
else_at t (SRaise w s) = refl
else_at t (SAbort callees s) = refl
else_at t (SCall call s) = refl
else_at t (SAccept accept s) = refl
else_at t (SWait alts otherwise s) = refl
else_at t (SConditional call more otherwise s) = refl
else_at t (STimed call more d after s) = refl
else_at t (SPut parts s) = refl
else_at t (SPutLine parts s) = refl
else_at t (SNewLine s) = refl
else_at t (SGet target s) = refl
else_at t (SIf arms otherwise s) = refl
else_at t (SCase e arms others s) = refl
else_at t (SBlock b s) = refl
else_at t (SLoop w scheme stmts s) = refl

pub takes_else : (t : Task) (s : PStmt) → rest_of t ≡ stmt_then s (behind_of t) → took_else t ≡ part_taken (else_part s) t
takes_else t s at = ap (λ rest. else_taken_in rest t) at ∙ else_at t s

pub no_else : (t : Task) → rest_of t ≡ no_stmt → took_else t ≡ t
no_else t at = ap (λ rest. else_taken_in rest t) at

delay_at : (k : ℕ) (t : Task) (s : PStmt) → delay_taken_at k s (behind_of t) t ≡ part_taken (delay_part k s) t
delay_at k t (SNull s) = refl
delay_at k t (SAssign target e s) = refl
delay_at k t (SDelay d s) = refl
delay_at k t (SExit w e s) = refl
delay_at k t (SRaise w s) = refl
delay_at k t (SAbort callees s) = refl
delay_at k t (SCall call s) = refl
delay_at k t (SAccept accept s) = refl
delay_at k t (SWait alts otherwise s) = refl
delay_at k t (SConditional call more otherwise s) = refl
delay_at k t (STimed call more d after s) = refl
delay_at k t (SPut parts s) = refl
delay_at k t (SPutLine parts s) = refl
delay_at k t (SNewLine s) = refl
delay_at k t (SGet target s) = refl
delay_at k t (SIf arms otherwise s) = refl
delay_at k t (SCase e arms others s) = refl
delay_at k t (SBlock b s) = refl
delay_at k t (SLoop w scheme stmts s) = refl

pub takes_delay : (k : ℕ) (t : Task) (s : PStmt) → rest_of t ≡ stmt_then s (behind_of t) → took_delay k t ≡ part_taken (delay_part k s) t
takes_delay k t s at = ap (λ rest. delay_taken_in k rest t) at ∙ delay_at k t s

pub no_delay : (k : ℕ) (t : Task) → rest_of t ≡ no_stmt → took_delay k t ≡ t
no_delay k t at = ap (λ rest. delay_taken_in k rest t) at
