-- Where a synchronizing statement stands there is no sequential step; and the step at what comes next.
use Rattle.std.proofs.Common.{◌≡◌, ◌==◌, ℕ, Bool, true, false, List, [], ◌∷◌, length, map, Option, Result, Ok, Err, refl, sym, ap, ◌∙◌, true≢false}
use Rattle.std.proofs.Math.Dec.{eqb-suc-zero}
use Rattle.ada_tree.specs.declared.naming.Span.{Span}
use Rattle.ada_tree.specs.declared.naming.Word.{Word}
use Rattle.ada_tree.specs.declared.statements.Callee.{Callee}
use Rattle.ada_tree.specs.PlainStmt.{PCallee, PStmt, SAbort, PStmts, no_stmt, stmt_then, PHandlers, plain_callee}
use Rattle.event_machine.specs.declared.CallForm.{CallForm}
use Rattle.event_machine.specs.declared.Choice.{Choice}
use Rattle.event_machine.specs.Offers.{Ends, Finishes}
use Rattle.ada_value.specs.declared.values.Raised.{Raised}
use Rattle.task_model.specs.declared.parameters.FormalParameter.{FormalParameter}
use Rattle.task_model.specs.Setting.{callee_task}
use Rattle.task_model.specs.Frames.{Turns, Around, OwnBody, Loop, Opened}
use Rattle.task_model.specs.Tasks.{Task, rest_of, place_of, vars_of, gone_to}
use Rattle.task_model.specs.Calls.{Called}
use Rattle.task_model.specs.Waits.{Open, choices_of}
use Rattle.task_model.specs.Rendezvous.{behind_in, behind_of}
use Rattle.task_model.specs.Steps.{turn_step}
use Rattle.task_model.specs.Stands.{Stand, Steps, Raises, At, abort_stand, call_stand, choices_stand, wait_stand, name_stand, stand_at, stand_with, stand_of, stepped_with}
use Rattle.task_steps.specs.Sequential.{is_step, stepped_there, aborted_none, sequential_by, sequential_step}

-- ---- synchronizing statements

pub call_is_none : (form : CallForm) (r : Result Called Raised) → is_step (call_stand form r) ≡ false
call_is_none form (Ok c) = refl
call_is_none form (Err x) = refl

pub call_stays : (form : CallForm) (r : Result Called Raised) (s : PStmt) (behind : PStmts) (t : Task) → stepped_there (call_stand form r) s behind t ≡ t
call_stays form (Ok c) s behind t = refl
call_stays form (Err x) s behind t = refl

choices_are_none : (choices : List Choice) → is_step (choices_stand choices) ≡ false
choices_are_none [] = refl
choices_are_none (c ∷ choices) = refl

pub wait_is_none : (has_else : Bool) (r : Result (List Open) Raised) → is_step (wait_stand has_else r) ≡ false
wait_is_none has_else (Ok all) = choices_are_none (choices_of has_else all)
wait_is_none has_else (Err x) = refl

choices_stay : (choices : List Choice) (s : PStmt) (behind : PStmts) (t : Task) → stepped_there (choices_stand choices) s behind t ≡ t
choices_stay [] s behind t = refl
choices_stay (c ∷ choices) s behind t = refl

pub wait_stays : (has_else : Bool) (r : Result (List Open) Raised) (s : PStmt) (behind : PStmts) (t : Task) → stepped_there (wait_stand has_else r) s behind t ≡ t
wait_stays has_else (Ok all) s behind t = choices_stay (choices_of has_else all) s behind t
wait_stays has_else (Err x) s behind t = refl

pub name_is_none : (r : Result ℕ Raised) → is_step (name_stand r) ≡ false
name_is_none (Ok n) = refl
name_is_none (Err x) = refl

pub name_stays : (r : Result ℕ Raised) (s : PStmt) (behind : PStmts) (t : Task) → stepped_there (name_stand r) s behind t ≡ t
name_stays (Ok n) s behind t = refl
name_stays (Err x) s behind t = refl

pub abort_stays : (t : Task) (callees : List PCallee) (s : Span) (behind : PStmts) → stepped_there (abort_stand t callees) (SAbort callees s) behind t ≡ aborted_none callees behind t
abort_stays t [] s behind = refl
abort_stays t (callee ∷ callees) s behind = name_stays (callee_task t.setting (vars_of t) callee) (SAbort (callee ∷ callees) s) behind t

pub abort_steps : (t : Task) (callees : List Callee) → (length callees == 0) ≡ true → true ≡ is_step (abort_stand t (map plain_callee callees))
abort_steps t [] h = refl
abort_steps t (callee ∷ callees) h = absurd (true≢false (sym h ∙ eqb-suc-zero (length callees)))

pub abort_passes : (t : Task) (callees : List Callee) (behind : PStmts) → (length callees == 0) ≡ true → gone_to behind t ≡ aborted_none (map plain_callee callees) behind t
abort_passes t [] behind h = refl
abort_passes t (callee ∷ callees) behind h = absurd (true≢false (sym h ∙ eqb-suc-zero (length callees)))

pub abort_waits : (t : Task) (callees : List Callee) → (length callees == 0) ≡ false → false ≡ is_step (abort_stand t (map plain_callee callees))
abort_waits t [] h = absurd (true≢false h)
abort_waits t (callee ∷ callees) h = sym (name_is_none (callee_task t.setting (vars_of t) (plain_callee callee)))

pub abort_keeps : (t : Task) (callees : List Callee) (behind : PStmts) → (length callees == 0) ≡ false → t ≡ aborted_none (map plain_callee callees) behind t
abort_keeps t [] behind h = absurd (true≢false h)
abort_keeps t (callee ∷ callees) behind h = refl

pub ruleset stands = (call_is_none, call_stays, wait_is_none, wait_stays, abort_stays)

-- ---- what comes next

pub stand_next : (t : Task) (s : PStmt) → rest_of t ≡ stmt_then s (behind_in (rest_of t)) → stand_of t ≡ stand_at t s
stand_next t s next = ap (λ rest. stand_with t rest (place_of t)) next

step_by : (stand : Stand) (t : Task) (s : PStmt) → rest_of t ≡ stmt_then s (behind_in (rest_of t)) → sequential_by stand t ≡ stepped_there stand s (behind_of t) t
step_by Steps t s next = ap (λ rest. stepped_with rest (place_of t) t) next
step_by (Raises x) t s next = refl
step_by (At offer) t s next = refl

pub step_next : (t : Task) (s : PStmt) → rest_of t ≡ stmt_then s (behind_in (rest_of t)) → sequential_step t ≡ stepped_there (stand_at t s) s (behind_of t) t
step_next t s next = ap (λ stand. sequential_by stand t) (stand_next t s next) ∙ step_by (stand_at t s) t s next

-- at the end of a frame
stand_at_end : (t : Task) (place : Around) → rest_of t ≡ no_stmt → place_of t ≡ place → stand_of t ≡ stand_with t no_stmt place
stand_at_end t place rest at = ap (λ r. stand_with t r (place_of t)) rest ∙ ap (stand_with t no_stmt) at

pub turn_stands : (t : Task) (name : Option Word) (turns : Turns) (stmts : PStmts) → rest_of t ≡ no_stmt → place_of t ≡ Loop name turns stmts → stand_of t ≡ Steps
turn_stands t name turns stmts rest at = stand_at_end t (Loop name turns stmts) rest at

pub turn_steps : (t : Task) (name : Option Word) (turns : Turns) (stmts : PStmts) → rest_of t ≡ no_stmt → place_of t ≡ Loop name turns stmts → sequential_step t ≡ turn_step turns stmts t
turn_steps t name turns stmts rest at =
    ap (λ stand. sequential_by stand t) (turn_stands t name turns stmts rest at) ∙ ap (λ r. stepped_with r (place_of t) t) rest ∙ ap (λ place. stepped_with no_stmt place t) at

pub body_stands : (t : Task) (caller : ℕ) (formals : List FormalParameter) (pending : Option Raised) → rest_of t ≡ no_stmt → place_of t ≡ Opened caller formals pending → stand_of t ≡ At Finishes
body_stands t caller formals pending rest at = stand_at_end t (Opened caller formals pending) rest at

pub unit_stands : (t : Task) (handlers : PHandlers) (taken : Option Raised) → rest_of t ≡ no_stmt → place_of t ≡ OwnBody handlers taken → stand_of t ≡ At Ends
unit_stands t handlers taken rest at = stand_at_end t (OwnBody handlers taken) rest at
