-- What is evaluated at a statement is the same in every task of the same setting, number and variables.
use Rattle.std.specs.Prelude.{◌≡◌, ℕ, false, [], ◌∷◌, Option, Some, None, Ok, refl}
use Rattle.std.proofs.Common.{ap}
use Rattle.ada_tree.specs.PlainExpr.{PExpr}
use Rattle.ada_tree.specs.PlainStmt.{PStmt, SNull, SAssign, SDelay, SExit, SRaise, SAbort, SCall, SAccept, SWait, SConditional, STimed, SPut, SPutLine, SNewLine, SGet, SIf, SCase, SBlock, SLoop, PAccept, accepting, alternative, PAltKind, AAccept, ADelay, ATerminate, PAlts, no_alt, alt_then, PStmts, no_stmt}
use Rattle.ada_value.specs.Values.{and_then}
use Rattle.task_model.specs.Tasks.{Task, vars_of}
use Rattle.task_model.specs.Waits.{guard_holds, accept_opened, kind_opened, opened_if, delays_with, alternatives_open, open_at, is_present}
use Rattle.task_model.specs.Stands.{wait_stand, stand_at}
use Rattle.task_waits.specs.Standing.{task_with}

-- a task of the same setting, number and variables
abbrev pub alike : Task → Task
alike t = task_with t.setting t.number (vars_of t)

guard_alike : (t : Task) (g : Option PExpr) → guard_holds t g ≡ guard_holds (alike t) g
guard_alike t None = refl
guard_alike t (Some e) = refl

accept_alike : (t : Task) (a : PAccept) (behind : PStmts) → accept_opened t a behind ≡ accept_opened (alike t) a behind
accept_alike t (accepting head stmts) behind = refl

kind_alike : (t : Task) (what : PAltKind) (k : ℕ) → kind_opened t what k ≡ kind_opened (alike t) what k
kind_alike t (AAccept accept stmts) k = accept_alike t accept stmts
kind_alike t (ADelay d stmts) k = refl
kind_alike t ATerminate k = refl

alternatives_alike : (t : Task) (alts : PAlts) (k : ℕ) → alternatives_open t alts k ≡ alternatives_open (alike t) alts k
alternatives_alike t no_alt k = refl
alternatives_alike t (alt_then (alternative guard what s) rest) k = λ j.
    and_then (guard_alike t guard j) (λ b. opened_if b (kind_alike t what k j) (alternatives_alike t rest (delays_with what k) j))

-- What is open at a statement is open there in every task of the same setting, number and variables.
pub open_alike : (t : Task) (s : PStmt) → open_at t s ≡ open_at (alike t) s
open_alike t (SNull s) = refl
open_alike t (SAssign target e s) = refl
open_alike t (SDelay d s) = refl
open_alike t (SExit w e s) = refl
open_alike t (SRaise w s) = refl
open_alike t (SAbort cs s) = refl
open_alike t (SCall c s) = refl
open_alike t (SAccept a s) = ap (λ r. and_then r (λ o. Ok (o ∷ []))) (accept_alike t a no_stmt)
open_alike t (SWait alts otherwise s) = alternatives_alike t alts 0
open_alike t (SConditional c more otherwise s) = refl
open_alike t (STimed c more d after s) = refl
open_alike t (SPut ps s) = refl
open_alike t (SPutLine ps s) = refl
open_alike t (SNewLine s) = refl
open_alike t (SGet target s) = refl
open_alike t (SIf arms otherwise s) = refl
open_alike t (SCase e arms others s) = refl
open_alike t (SBlock b s) = refl
open_alike t (SLoop w scheme stmts s) = refl

-- What a task stands at with a statement next is what every task of the same setting, number and variables stands at there.
pub stand_alike : (t : Task) (s : PStmt) → stand_at t s ≡ stand_at (alike t) s
stand_alike t (SNull s) = refl
stand_alike t (SAssign target e s) = refl
stand_alike t (SDelay d s) = refl
stand_alike t (SExit w e s) = refl
stand_alike t (SRaise w s) = refl
stand_alike t (SAbort [] s) = refl
stand_alike t (SAbort (c ∷ cs) s) = refl
stand_alike t (SCall c s) = refl
stand_alike t (SAccept a s) = ap (wait_stand false) (open_alike t (SAccept a s))
stand_alike t (SWait alts otherwise s) = ap (wait_stand (is_present otherwise)) (open_alike t (SWait alts otherwise s))
stand_alike t (SConditional c more otherwise s) = refl
stand_alike t (STimed c more d after s) = refl
stand_alike t (SPut ps s) = refl
stand_alike t (SPutLine ps s) = refl
stand_alike t (SNewLine s) = refl
stand_alike t (SGet target s) = refl
stand_alike t (SIf arms otherwise s) = refl
stand_alike t (SCase e arms others s) = refl
stand_alike t (SBlock b s) = refl
stand_alike t (SLoop w scheme stmts s) = refl
