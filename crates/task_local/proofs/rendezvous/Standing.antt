-- A task that stands at the end of an accept body has nothing left in front of it.
use Rattle.std.proofs.Common.{◌≡◌, ◌+◌, ℕ, Bool, false, List, [], ◌∷◌, drop, Result, Ok, Err, refl, ap, ◌∙◌}
use Rattle.std.proofs.lemmas.List.{drop-drop}
use Rattle.ada_tree.specs.PlainStmt.{PCallee, PStmt, SNull, SAssign, SDelay, SExit, SRaise, SAbort, SCall, SAccept, SWait, SConditional, STimed, SPut, SPutLine, SNewLine, SGet, SIf, SCase, SBlock, SLoop, PStmts, no_stmt, stmt_then}
use Rattle.event_machine.specs.declared.CallForm.{CallForm}
use Rattle.event_machine.specs.declared.CallForm.TheVariants as form
use Rattle.event_machine.specs.declared.Choice.{Choice}
use Rattle.event_machine.specs.Offers.{Finishes}
use Rattle.ada_value.specs.declared.values.Raised.{Raised}
use Rattle.ada_value.specs.Variables.{Variables}
use Rattle.task_state.specs.frames.Stack.{Held}
use Rattle.task_state.specs.frames.Moves.{Closes}
use Rattle.task_model.specs.Setting.{callee_task}
use Rattle.task_model.specs.Frames.{Around}
use Rattle.task_model.specs.Tasks.{Task, rest_of, place_of, vars_of}
use Rattle.task_model.specs.Calls.{Called, called}
use Rattle.task_model.specs.Waits.{Open, open_at, choices_of, is_present}
use Rattle.task_model.specs.Stands.{call_stand, choices_stand, wait_stand, name_stand, abort_stand, stand_at, stand_with, offered, offer_of}
use Rattle.task_model.specs.Rendezvous.{finished}
use Rattle.task_state.specs.declared.state.TaskState.{TaskState}
use Rattle.task_state.specs.Plain.{plain_task}

-- ---- no statement is the end of an accept body

call_not : (form : CallForm) (r : Result Called Raised) → offered (call_stand form r) ≡ Finishes → ⊥
call_not form (Ok c) is = cc
call_not form (Err x) is = cc

choices_not : (choices : List Choice) → offered (choices_stand choices) ≡ Finishes → ⊥
choices_not [] is = cc
choices_not (c ∷ choices) is = cc

wait_not : (has_else : Bool) (r : Result (List Open) Raised) → offered (wait_stand has_else r) ≡ Finishes → ⊥
wait_not has_else (Ok all) is = choices_not (choices_of has_else all) is
wait_not has_else (Err x) is = cc

name_not : (r : Result ℕ Raised) → offered (name_stand r) ≡ Finishes → ⊥
name_not (Ok n) is = cc
name_not (Err x) is = cc

pub abort_not : (t : Task) (callees : List PCallee) → offered (abort_stand t callees) ≡ Finishes → ⊥
abort_not t [] is = cc
abort_not t (callee ∷ callees) is = name_not (callee_task t.setting (vars_of t) callee) is

stmt_not : (t : Task) (s : PStmt) → offered (stand_at t s) ≡ Finishes → ⊥
stmt_not t (SNull s) is = cc
stmt_not t (SAssign target e s) is = cc
stmt_not t (SDelay d s) is = cc
stmt_not t (SExit w e s) is = cc
stmt_not t (SRaise w s) is = cc
stmt_not t (SAbort callees s) is = abort_not t callees is
stmt_not t (SCall call s) is = call_not form.Plain (called t.setting (vars_of t) call) is
stmt_not t (SAccept accept s) is = wait_not false (open_at t (SAccept accept s)) is
stmt_not t (SWait alts otherwise s) is = wait_not (is_present otherwise) (open_at t (SWait alts otherwise s)) is
stmt_not t (SConditional call more otherwise s) is = call_not form.Conditional (called t.setting (vars_of t) call) is
stmt_not t (STimed call more d after s) is = call_not form.Timed (called t.setting (vars_of t) call) is
stmt_not t (SPut parts s) is = cc
stmt_not t (SPutLine parts s) is = cc
stmt_not t (SNewLine s) is = cc
stmt_not t (SGet target s) is = cc
stmt_not t (SIf arms otherwise s) is = cc
stmt_not t (SCase e arms others s) is = cc
stmt_not t (SBlock b s) is = cc
stmt_not t (SLoop w scheme stmts s) is = cc

end_with : (t : Task) (rest : PStmts) (place : Around) → offered (stand_with t rest place) ≡ Finishes → rest ≡ no_stmt
end_with t no_stmt place is = refl
end_with t (stmt_then s behind) place is = absurd (stmt_not t s is)

-- a task at the end of an accept body has no statement left there
pub at_end : (t : Task) → offer_of t ≡ Finishes → rest_of t ≡ no_stmt
at_end t is = end_with t (rest_of t) (place_of t) is

-- ---- the frame of an accept body goes with its variables

pub closes_from : (s : TaskState) (frames : Held) (fewer objects : Variables) (n m : ℕ) → fewer ≡ drop n s.objects → objects ≡ drop m fewer → Closes (n + m) s.frames.stack frames.stack →
    offer_of (plain_task s) ≡ Finishes → plain_task (record s { frames = frames; objects = objects }) ≡ finished (plain_task s)
closes_from s frames fewer objects n m leave again closes is =
    ap (λ vars. plain_task (record s { frames = frames; objects = vars })) (again ∙ ap (drop m) leave ∙ drop-drop m n s.objects) ∙
    closes (at_end (plain_task s) is) (plain_task s)
