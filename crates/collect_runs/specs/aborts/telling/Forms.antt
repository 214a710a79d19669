-- What is asked of the tasks of a normal form, wherever they stand, so that their images can tell the recorder what they do (this project's rule).
use Rattle.std.specs.Prelude.{◌≡◌, ℕ, suc, ◌+◌, ℤ, ◌<◌, ◌≤◌, true, false, if◌then◌else◌, List, [], ◌∷◌, length, None}
use Rattle.run_laws.specs.collecting.Settings.{is_call}
use Rattle.event_machine.specs.declared.CallForm.{CallForm}
use Rattle.event_machine.specs.Offers.{Calls, Finishes, Aborts, calls_in, is_conditional, is_timed, waits_with, opens, is_else, is_delay}
use Rattle.ada_tree.specs.declared.naming.Span.{Span}
use Rattle.ada_value.specs.declared.values.Value.{Value}
use Rattle.ada_tree.specs.Every.{alts_count}
use Rattle.ada_tree.specs.PlainStmt.{PCallee, SAbort, SWait, PStmts, stmt_then, PMaybe, PAlts}
use Rattle.task_model.specs.Frames.{Control, callers_in}
use Rattle.task_model.specs.Tasks.{Task, with_vars}
use Rattle.task_model.specs.declared.parameters.FormalParameter.{FormalParameter}
use Rattle.task_model.specs.Setting.{entry_parameters}
use Rattle.task_model.specs.Calls.{comes_back, values_handed}
use Rattle.task_model.specs.Stands.{stand_of, can_step, offer_of, stepped}
use Rattle.task_model.specs.Rendezvous.{accepted, finished, resumed, call_failed, took_else, took_delay, pending_of, finals_of, copies_of}
use Rattle.task_model.specs.TaskOps.{task_ops}
use Rattle.task_laws.specs.translation.Controls.{task_in}
use Rattle.collect_runs.specs.telling.Texts.{IsInteger}
use Rattle.collect_runs.specs.telling.Forms.{Form as PlainForm}
use Rattle.collect_runs.specs.aborts.telling.Texts.{Texts, plain, form, IsCalleeAlike}

-- how many of the formals' values come back
abbrev pub backs : List FormalParameter → ℕ
backs [] = 0
backs (f ∷ fs) = if comes_back f.mode then suc (backs fs) else backs fs

-- What comes back from the acceptor fits the caller: there is a value for each formal of its entry that comes back, and each goes to its actual.
pub record ComesBack (σ m : Task) : Type 0 where
  pub fits : (copies_of σ (finals_of m)).stopped ≡ None
  pub count : (form : CallForm) (e : ℕ) (i : ℤ) → offer_of σ ≡ Calls form e i → length (finals_of m) ≡ backs (entry_parameters σ.setting e)

-- Two tasks show the same, offer the same, hand over and back the same, and go on with what is so of both.
pub record GoAlike (IsLike : Task → Task → Type 0) (σ τ : Task) : Type 0 where
  pub setting : τ.setting ≡ σ.setting
  pub output : τ.output ≡ σ.output
  pub stands : stand_of τ ≡ stand_of σ
  pub callers : callers_in τ.control ≡ callers_in σ.control
  pub handed : values_handed τ ≡ values_handed σ
  pub pending : pending_of τ ≡ pending_of σ
  pub finals : finals_of τ ≡ finals_of σ
  pub stopped : (vs : List Value) → (copies_of τ vs).stopped ≡ (copies_of σ vs).stopped
  pub stepped : can_step σ ≡ true → IsLike (stepped σ) (stepped τ)
  pub accepted : (e : ℕ) (i : ℤ) (caller : ℕ) (v w : Task) → waits_with (opens e i) (offer_of σ) ≡ true → values_handed w ≡ values_handed v →
      IsLike (accepted e i caller v σ) (accepted e i caller w τ)
  pub finished : offer_of σ ≡ Finishes → IsLike (finished σ) (finished τ)
  pub resumed : (v w : Task) → is_call (offer_of σ) ≡ true → ComesBack σ v → pending_of w ≡ pending_of v → finals_of w ≡ finals_of v → IsLike (resumed v σ) (resumed w τ)
  pub raised : is_call (offer_of σ) ≡ true → IsLike (call_failed σ) (call_failed τ)
  pub call_else : (e : ℕ) (i : ℤ) → calls_in is_conditional e i (offer_of σ) ≡ true → IsLike (took_else σ) (took_else τ)
  pub expired : (e : ℕ) (i : ℤ) → calls_in is_timed e i (offer_of σ) ≡ true → IsLike (took_delay 1 σ) (took_delay 1 τ)
  pub took_else : waits_with is_else (offer_of σ) ≡ true → IsLike (took_else σ) (took_else τ)
  pub took_delay : (k : ℕ) → waits_with (is_delay k) (offer_of σ) ≡ true → IsLike (took_delay k σ) (took_delay k τ)
  pub passed : (v : ℕ) → offer_of σ ≡ Aborts v → IsLike (task_ops.passed σ) (task_ops.passed τ)

-- What is so of each task of the normal form: what is asked without aborts; and who is aborted is the same in both. Where a call's acceptor is aborted once
-- values have come back, but before anybody told so, in the normal form nothing has come back: the variables of the actuals differ. They are read no more
-- before they are assigned to again, so the two are alike in the sense of this relation.
pub record Form (x : Texts) : Type 1 where
  pub plainly : PlainForm (plain x)
  -- it is a task of the normal form
  pub within : (t : ℕ) (σ : Task) → plainly.IsSo t σ → t < x.recorder
  pub callees : (t : ℕ) (i : List ℤ) (w : List ℕ) (a : Control) → plainly.IsSo t (task_in (form x) t i w a) → can_step (task_in (form x) t i w a) ≡ false →
      (c : PCallee) (s : Span) (rest : PStmts) → a.top.rest ≡ stmt_then (SAbort (c ∷ []) s) rest → IsCalleeAlike x c a.vars
  -- no abort statement has more names than one
  pub aborts_one : (t : ℕ) (σ : Task) → plainly.IsSo t σ → (c d : PCallee) (cs : List PCallee) (s : Span) (rest : PStmts) → σ.control.top.rest ≡ stmt_then (SAbort (c ∷ d ∷ cs) s) rest → ⊥
  -- the alternatives of a wait, and its else part, have numbers of INTEGER
  pub parts : (t : ℕ) (i : List ℤ) (w : List ℕ) (a : Control) → plainly.IsSo t (task_in (form x) t i w a) → (alts : PAlts) (o : PMaybe) (s : Span) (rest : PStmts) →
      a.top.rest ≡ stmt_then (SWait alts o s) rest → (k : ℕ) → k ≤ alts_count alts + 1 → IsInteger k
  pub IsLike : ℕ → Task → Task → Type 0
  pub like_self : (t : ℕ) (σ : Task) → plainly.IsSo t σ → IsLike t σ σ
  pub like_through : (t : ℕ) (σ τ ρ : Task) → IsLike t σ τ → IsLike t τ ρ → IsLike t σ ρ
  pub like_so : (t : ℕ) (σ τ : Task) → IsLike t σ τ → plainly.IsSo t τ
  pub like_goes : (t : ℕ) (σ τ : Task) → IsLike t σ τ → GoAlike (IsLike t) σ τ
  pub passed : (t : ℕ) (σ : Task) → plainly.IsSo t σ → plainly.IsSo t (task_ops.passed σ)
  pub lost : (t : ℕ) (σ m : Task) → plainly.IsSo t σ → is_call (offer_of σ) ≡ true → pending_of m ≡ None →
      IsLike t (call_failed σ) (call_failed (with_vars σ (copies_of σ (finals_of m)).vars))
