-- A task some of whose names were passed: what is done there is what is done to the whole abort statement, but for its names.
use Rattle.std.proofs.Common.{◌≡◌, ◌<◌, ℕ, ℤ, zero, suc, List, [], ◌∷◌, drop, length, length-drop, Result, Ok, Err, refl, ap, ◌∙◌, arith}
use Rattle.ada_tree.specs.declared.naming.Span.{Span}
use Rattle.ada_tree.specs.PlainStmt.{PCallee, PStmt, SAbort, PStmts, no_stmt, stmt_then}
use Rattle.event_machine.specs.Offers.{Finishes}
use Rattle.ada_value.specs.declared.values.Value.{Value}
use Rattle.ada_value.specs.declared.values.Raised.{Raised}
use Rattle.ada_value.specs.Variables.{Variables}
use Rattle.task_model.specs.Setting.{Setting, callee_task}
use Rattle.task_model.specs.Frames.{Around, PFrame, control}
use Rattle.task_model.specs.Tasks.{Task, rest_of, place_of, outer_of, vars_of, gone_to, raised_there, with_control}
use Rattle.task_model.specs.Calls.{call_in, called_by, opening_values, values_handed}
use Rattle.task_model.specs.Waits.{alternative_for}
use Rattle.task_model.specs.Stands.{Steps, stand_of, abort_stand, name_stand, offer_of}
use Rattle.task_model.specs.Rendezvous.{behind_in, behind_of, alternative_opened, returned, took_else, took_delay, else_taken_in, delay_taken_in, past_name, passed_at, passed_in}
use Rattle.task_local.specs.inner.Local.{named_from, left_from, behind_names, names_in, IsWithin}
use Rattle.task_local.proofs.rendezvous.Standing.{abort_not}

-- ---- none

none_at : (s : PStmt) → named_from 0 s ≡ s
none_at (SAbort cs s) = refl
none_at s = refl

none_in : (rest : PStmts) → left_from 0 rest ≡ rest
none_in no_stmt = refl
none_in (stmt_then s rest) = ap (λ x. stmt_then x rest) (none_at s)

-- a task is behind none of its names
pub none_passed : (t : Task) → behind_names 0 t ≡ t
none_passed t = ap (λ rest. record { setting = t.setting; number = t.number; control = control rest (place_of t) (outer_of t) (vars_of t); input = t.input; output = t.output }) (none_in (rest_of t))

-- ---- what is done there

-- a task of these parts
abbrev task_at : Setting → ℕ → List ℤ → List ℕ → PStmts → Around → List PFrame → Variables → Task
task_at g n input output rest place outer vars = record { setting = g; number = n; control = control rest place outer vars; input = input; output = output }

-- an accept body that is opened with these values (9.5)
abbrev pub opened_at : ℕ → ℤ → ℕ → List Value → Task → Task
opened_at e i caller values t = alternative_opened caller (alternative_for t e i) values t

-- what does not ask for names is the same
ends_alike : (k : ℕ) (g : Setting) (n : ℕ) (input : List ℤ) (output : List ℕ) (rest : PStmts) (place : Around) (outer : List PFrame) (vars : Variables) (values : List Value) →
    returned values (task_at g n input output (left_from k rest) place outer vars) ≡ returned values (task_at g n input output rest place outer vars)
ends_alike k g n input output no_stmt place outer vars values = refl
ends_alike k g n input output (stmt_then (SAbort cs s) rest) place outer vars values = refl
ends_alike k g n input output (stmt_then s rest) place outer vars values = refl

pub returned_alike : (k : ℕ) (t : Task) (values : List Value) → returned values (behind_names k t) ≡ returned values t
returned_alike k t values = ends_alike k t.setting t.number t.input t.output (rest_of t) (place_of t) (outer_of t) (vars_of t) values

opens_alike : (k : ℕ) (g : Setting) (n : ℕ) (input : List ℤ) (output : List ℕ) (rest : PStmts) (place : Around) (outer : List PFrame) (vars : Variables) (e : ℕ) (i : ℤ) (caller : ℕ) (values : List Value) →
    opened_at e i caller values (task_at g n input output (left_from k rest) place outer vars) ≡ opened_at e i caller values (task_at g n input output rest place outer vars)
opens_alike k g n input output no_stmt place outer vars e i caller values = refl
opens_alike k g n input output (stmt_then (SAbort cs s) rest) place outer vars e i caller values = refl
opens_alike k g n input output (stmt_then s rest) place outer vars e i caller values = refl

pub opened_alike : (k : ℕ) (t : Task) (e : ℕ) (i : ℤ) (caller : ℕ) (values : List Value) → opened_at e i caller values (behind_names k t) ≡ opened_at e i caller values t
opened_alike k t e i caller values = opens_alike k t.setting t.number t.input t.output (rest_of t) (place_of t) (outer_of t) (vars_of t) e i caller values

calls_alike : (k : ℕ) (rest : PStmts) → call_in (left_from k rest) ≡ call_in rest
calls_alike k no_stmt = refl
calls_alike k (stmt_then (SAbort cs s) rest) = refl
calls_alike k (stmt_then s rest) = refl

pub handed_alike : (k : ℕ) (t : Task) → values_handed (behind_names k t) ≡ values_handed t
handed_alike k t = ap (λ q. opening_values (called_by t.setting (vars_of t) q)) (calls_alike k (rest_of t))

pub raised_alike : (k : ℕ) (t : Task) (x : Raised) → raised_there x (behind_names k t) ≡ raised_there x t
raised_alike k t x = refl

-- ---- the end of an accept body

-- a task at the end of an accept body is behind none of its names
finishes_alike : (k : ℕ) (g : Setting) (n : ℕ) (input : List ℤ) (output : List ℕ) (rest : PStmts) (place : Around) (outer : List PFrame) (vars : Variables) →
    offer_of (task_at g n input output (left_from k rest) place outer vars) ≡ Finishes → task_at g n input output (left_from k rest) place outer vars ≡ task_at g n input output rest place outer vars
finishes_alike k g n input output no_stmt place outer vars h = refl
finishes_alike k g n input output (stmt_then (SAbort cs s) rest) place outer vars h = absurd (abort_not (task_at g n input output (left_from k (stmt_then (SAbort cs s) rest)) place outer vars) (drop k cs) h)
finishes_alike k g n input output (stmt_then s rest) place outer vars h = refl

pub finish_alike : (k : ℕ) (t : Task) → offer_of (behind_names k t) ≡ Finishes → behind_names k t ≡ t
finish_alike k t h = finishes_alike k t.setting t.number t.input t.output (rest_of t) (place_of t) (outer_of t) (vars_of t) h

-- ---- local steps

none_behind : (A : Type 0) (k : ℕ) (x : A) (xs : List A) → drop k [] ≡ x ∷ xs → ⊥
none_behind A zero x xs h = cc
none_behind A (suc k) x xs h = cc

more_left : (A : Type 0) (k : ℕ) (xs : List A) → k < length xs → drop k xs ≡ [] → ⊥
more_left A k xs h e = let none : length (drop k xs) ≡ 0 = ap length e in absurd (omega (arith, none, length-drop k xs, h))

abort_steps : (t : Task) (cs : List PCallee) → abort_stand t cs ≡ Steps → cs ≡ []
abort_steps t [] h = refl
abort_steps t (c ∷ cs) h = absurd (named_steps (callee_task t.setting (vars_of t) c) h)
  where
    named_steps : (r : Result ℕ Raised) → name_stand r ≡ Steps → ⊥
    named_steps (Ok x) k = cc
    named_steps (Err x) k = cc

-- a task that is behind names of an abort statement has no step, but for an exception
steps_alike : (k : ℕ) (g : Setting) (n : ℕ) (input : List ℤ) (output : List ℕ) (rest : PStmts) (place : Around) (outer : List PFrame) (vars : Variables) → IsWithin (suc k) rest →
    stand_of (task_at g n input output (left_from (suc k) rest) place outer vars) ≡ Steps → task_at g n input output (left_from (suc k) rest) place outer vars ≡ task_at g n input output rest place outer vars
steps_alike k g n input output no_stmt place outer vars w h = refl
steps_alike k g n input output (stmt_then (SAbort cs s) rest) place outer vars w h = absurd (more_left PCallee (suc k) cs (w (omega arith)) (abort_steps (task_at g n input output (left_from (suc k) (stmt_then (SAbort cs s) rest)) place outer vars) (drop (suc k) cs) h))
steps_alike k g n input output (stmt_then s rest) place outer vars w h = refl

pub step_alike : (k : ℕ) (t : Task) → IsWithin k (rest_of t) → stand_of (behind_names k t) ≡ Steps → behind_names k t ≡ t
step_alike zero t w h = none_passed t
step_alike (suc k) t w h = steps_alike k t.setting t.number t.input t.output (rest_of t) (place_of t) (outer_of t) (vars_of t) w h

-- ---- names that are passed

-- a name that is not the last one
one_more : (k : ℕ) (cs : List PCallee) (s : Span) (behind : PStmts) (t : Task) → suc k < length cs → passed_at (SAbort (drop k cs) s) behind t ≡ gone_to (stmt_then (SAbort (drop (suc k) cs) s) behind) t
one_more k [] s behind t h = absurd (omega arith)
one_more zero (c ∷ []) s behind t h = absurd (omega arith)
one_more zero (c ∷ (d ∷ cs)) s behind t h = refl
one_more (suc k) (c ∷ cs) s behind t h = one_more k cs s behind t (omega arith)

last_one : (k : ℕ) (cs : List PCallee) (s : Span) (behind : PStmts) (t : Task) → suc k ≡ length cs → passed_at (SAbort (drop k cs) s) behind t ≡ gone_to behind t
last_one k [] s behind t h = absurd (omega arith)
last_one zero (c ∷ []) s behind t h = refl
last_one zero (c ∷ (d ∷ cs)) s behind t h = absurd (omega arith)
last_one (suc k) (c ∷ cs) s behind t h = last_one k cs s behind t (omega arith)

passes_on : (k : ℕ) (rest : PStmts) (t : Task) → suc k < length (names_in rest) → passed_in (left_from k rest) t ≡ gone_to (left_from (suc k) rest) t
passes_on k no_stmt t h = absurd (omega arith)
passes_on k (stmt_then (SAbort cs s) rest) t h = one_more k cs s rest t h
passes_on k (stmt_then s rest) t h = absurd (omega arith)

goes_to_names : (k : ℕ) (rest : PStmts) (t : Task) → 0 < length (names_in rest) → gone_to (left_from k rest) t ≡ with_control t (control (left_from k rest) (place_of t) (outer_of t) (vars_of t))
goes_to_names k no_stmt t h = absurd (omega arith)
goes_to_names k (stmt_then s rest) t h = refl

-- Behind one name more, where it is not the last.
pub names_on : (k : ℕ) (t : Task) → suc k < length (names_in (rest_of t)) → past_name (behind_names k t) ≡ behind_names (suc k) t
names_on k t h = passes_on k (rest_of t) (behind_names k t) h ∙ goes_to_names (suc k) (rest_of t) (behind_names k t) (omega arith)

passes_last : (k : ℕ) (rest : PStmts) (t : Task) → suc k ≡ length (names_in rest) → passed_in (left_from k rest) t ≡ gone_to (behind_in rest) t
passes_last k no_stmt t h = absurd (omega arith)
passes_last k (stmt_then (SAbort cs s) rest) t h = last_one k cs s rest t h
passes_last k (stmt_then s rest) t h = absurd (omega arith)

-- Behind the last name the task is behind the statement.
pub names_end : (k : ℕ) (t : Task) → suc k ≡ length (names_in (rest_of t)) → past_name (behind_names k t) ≡ gone_to (behind_of t) t
names_end k t h = passes_last k (rest_of t) (behind_names k t) h

passes_none : (k : ℕ) (rest : PStmts) (t : Task) → length (names_in rest) ≡ 0 → IsWithin k rest → passed_in (left_from k rest) t ≡ t
passes_none k no_stmt t h w = refl
passes_none zero (stmt_then (SAbort [] s) rest) t h w = refl
passes_none (suc k) (stmt_then (SAbort [] s) rest) t h w = absurd (omega (arith, w (omega arith)))
passes_none k (stmt_then (SAbort (c ∷ cs) s) rest) t h w = absurd (omega arith)
passes_none k (stmt_then s rest) t h w = refl

-- Where there is no name nothing is passed.
pub names_none : (k : ℕ) (t : Task) → length (names_in (rest_of t)) ≡ 0 → IsWithin k (rest_of t) → past_name (behind_names k t) ≡ behind_names k t
names_none k t h w = passes_none k (rest_of t) (behind_names k t) h w

-- ---- other parts: an abort statement has none

takes_no_else : (k : ℕ) (rest : PStmts) (t : Task) → IsWithin (suc k) rest → else_taken_in (left_from (suc k) rest) t ≡ t
takes_no_else k no_stmt t w = refl
takes_no_else k (stmt_then (SAbort cs s) rest) t w = refl
takes_no_else k (stmt_then s rest) t w = absurd (omega (arith, w (omega arith)))

pub no_else : (k : ℕ) (t : Task) → IsWithin (suc k) (rest_of t) → took_else (behind_names (suc k) t) ≡ behind_names (suc k) t
no_else k t w = takes_no_else k (rest_of t) (behind_names (suc k) t) w

takes_no_delay : (m k : ℕ) (rest : PStmts) (t : Task) → IsWithin (suc k) rest → delay_taken_in m (left_from (suc k) rest) t ≡ t
takes_no_delay m k no_stmt t w = refl
takes_no_delay m k (stmt_then (SAbort cs s) rest) t w = refl
takes_no_delay m k (stmt_then s rest) t w = absurd (omega (arith, w (omega arith)))

pub no_delay : (m k : ℕ) (t : Task) → IsWithin (suc k) (rest_of t) → took_delay m (behind_names (suc k) t) ≡ behind_names (suc k) t
no_delay m k t w = takes_no_delay m k (rest_of t) (behind_names (suc k) t) w

-- ---- what the task stands at

stands_named : (k : ℕ) (g : Setting) (n : ℕ) (input : List ℤ) (output : List ℕ) (rest : PStmts) (place : Around) (outer : List PFrame) (vars : Variables) (c : PCallee) (cs : List PCallee) → drop k (names_in rest) ≡ c ∷ cs →
    stand_of (task_at g n input output (left_from k rest) place outer vars) ≡ name_stand (callee_task g vars c)
stands_named k g n input output no_stmt place outer vars c cs h = absurd (none_behind PCallee k c cs h)
stands_named k g n input output (stmt_then (SAbort ds s) rest) place outer vars c cs h = ap (abort_stand (task_at g n input output (left_from k (stmt_then (SAbort ds s) rest)) place outer vars)) h
stands_named k g n input output (stmt_then s rest) place outer vars c cs h = absurd (none_behind PCallee k c cs h)

-- Behind names that are not all the task stands at the next one.
pub stands_at_name : (k : ℕ) (t : Task) (c : PCallee) (cs : List PCallee) → drop k (names_in (rest_of t)) ≡ c ∷ cs → stand_of (behind_names k t) ≡ name_stand (callee_task t.setting (vars_of t) c)
stands_at_name k t c cs h = stands_named k t.setting t.number t.input t.output (rest_of t) (place_of t) (outer_of t) (vars_of t) c cs h
