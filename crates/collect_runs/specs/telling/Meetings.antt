-- For which state of the law's copy a task of the collecting text stands, beside a task of the normal form: before it tells, as it tells, at its call, or at an end (this project's rule).
use Rattle.std.specs.Prelude.{◌≡◌, ◌==◌, ℕ, ℤ, pos, Bool, true, false, [], ◌∷◌, Option, Some, None}
use Rattle.event_machine.specs.declared.CallForm.{CallForm}
use Rattle.event_machine.specs.Offers.{Calls, Finishes, Ends, Aborts, calls_in, is_conditional, is_timed, waits_with, opens, is_else, is_delay}
use Rattle.ada_tree.specs.PlainStmt.{SNull, PStmts, stmt_then}
use Rattle.ada_value.specs.declared.values.Raised.{Raised}
use Rattle.ada_value.specs.declared.values.Value.TheVariants.{Number, Truth}
use Rattle.task_model.specs.Frames.{raised_name, callers_in}
use Rattle.task_model.specs.Tasks.{Task, rest_of}
use Rattle.task_model.specs.Calls.{values_handed}
use Rattle.task_model.specs.Stands.{can_step, offer_of}
use Rattle.task_model.specs.Rendezvous.{accepted, finished, resumed, call_failed, took_else, took_delay, pending_of, finals_of}
use Rattle.task_laws.specs.statements.Blocks.{HasLeftBlocks}
use Rattle.task_laws.specs.translation.Controls.{Alike}
use Rattle.normal_laws.specs.runs.floors.Meetings.{AreValues}
use Rattle.normal_laws.specs.runs.floors.Preludes.{Reaches}
use Rattle.table_law.specs.States.{Offers}
use Rattle.run_laws.specs.collecting.Notes.{Note, BeforeCall, AtFinish, AtEnd}
use Rattle.run_laws.specs.collecting.Copies.{Due, Begun, TookElse, TookDelay, TookOther, Failed, Upset, telling, based_offer, due_note, done_by}
use Rattle.collect_runs.specs.recorder.Telling.{Tells}
use Rattle.collect_runs.specs.telling.Texts.{Texts, unit_translation, program_of, IsInteger}
use Rattle.collect_runs.specs.telling.Forms.{Form}

-- By finitely many local steps that write nothing the task comes to where it is so.
pub record ComesTo (IsSo : Task → Type 0) (κ : Task) : Type 0 where
  pub reached : Task
  pub reach : Reaches κ reached
  pub is : IsSo reached

-- the next statement is `null`
abbrev pub is_null_next : PStmts → Bool
is_null_next (stmt_then (SNull s) rest) = true
is_null_next rest = false

-- TASKING_ERROR is the exception that is pending at the end of an accept body
abbrev pub is_tasking : Option Raised → Bool
is_tasking None = false
is_tasking (Some e) = 9 == raised_name e

abbrev pub pends : Task → Bool
pends σ = is_tasking (pending_of σ)

module _ {x : Texts} (f : Form x) where
  -- ---- between synchronizing statements

  -- A task of the normal form and its image stand alike, and the image too is at the end of no block.
  pub record IsPair (t : ℕ) (σ κ : Task) : Type 0 where
    pub own : f.IsSo t σ
    pub alike : Alike (unit_translation x t) σ κ
    pub left : HasLeftBlocks κ

  -- So they do, and where the task has no local step the image is not before the `null` of a handler that caught an exception.
  pub record IsBased (t : ℕ) (σ κ : Task) : Type 0 where
    pub pair : IsPair t σ κ
    pub rests : can_step σ ≡ false → is_null_next (rest_of κ) ≡ false

  -- ---- notes

  -- The image calls NOTE with these numbers, and once it has been answered it comes to where it is so.
  pub record IsNoting (note : Note) (IsSo : Bool → Task → Type 0) (κ : Task) : Type 0 where
    pub offers : Offers κ (telling x.note)
    pub tells : Tells κ note
    pub answered : (answer : Bool) (j : Task) → pending_of j ≡ None → finals_of j ≡ Truth answer ∷ [] → ComesTo (IsSo answer) (resumed j κ)

  -- The image is to tell what the task has done.
  pub record IsOwing (t : ℕ) (due : Due Task) (σ κ : Task) : Type 0 where
    pub output : κ.output ≡ σ.output
    pub notes : IsNoting (due_note (program_of x) t due (offer_of σ)) (λ answer. IsBased t (done_by (program_of x) answer due σ)) κ

  -- ---- rendezvous

  -- Of two callers the image hands over its own number in front of the same values, which are of known kinds (6.4.1).
  pub record HandOverAlike (c : ℕ) (σ κ : Task) : Type 0 where
    pub fits : IsInteger c
    pub same : values_handed κ ≡ Number (pos c) ∷ values_handed σ
    pub known : AreValues x.programs (values_handed σ)

  -- At the ends of their accept bodies two acceptors hand back the same: the same exception, or the same values, which are of known kinds (6.4.1, 11.5).
  pub record HandBackAlike (σ κ : Task) : Type 0 where
    pub pending : pending_of κ ≡ pending_of σ
    pub finals : finals_of κ ≡ finals_of σ
    pub known : AreValues x.programs (finals_of σ)

  -- The image is at its call, of which it has told.
  pub record IsCalling (t : ℕ) (σ κ : Task) : Type 0 where
    pub output : κ.output ≡ σ.output
    pub offers : Offers κ (offer_of σ)
    pub over : HandOverAlike t σ κ
    pub returns : (m j : Task) → HandBackAlike m j → pends m ≡ false → ComesTo (IsBased t (resumed m σ)) (resumed j κ)
    pub upset : (m j : Task) → HandBackAlike m j → pends m ≡ true → (form : CallForm) (e : ℕ) (i : ℤ) → offer_of σ ≡ Calls form e i → ComesTo (IsOwing t (Upset e i) (resumed m σ)) (resumed j κ)
    pub took_else : (e : ℕ) (i : ℤ) → calls_in is_conditional e i (offer_of σ) ≡ true → ComesTo (IsOwing t TookOther σ) (took_else κ)
    pub expired : (e : ℕ) (i : ℤ) → calls_in is_timed e i (offer_of σ) ≡ true → ComesTo (IsOwing t TookOther σ) (took_delay 1 κ)
    pub failed : ComesTo (IsOwing t Failed σ) (call_failed κ)

  -- The image is at the end of its accept body, of which it has told.
  pub record IsEnding (t : ℕ) (σ κ : Task) : Type 0 where
    pub output : κ.output ≡ σ.output
    pub offers : Offers κ Finishes
    pub callers : callers_in κ.control ≡ callers_in σ.control
    pub back : HandBackAlike σ κ
    pub goes_on : ComesTo (IsBased t (finished σ)) (finished κ)

  -- The image is at its end, of which it has told.
  pub record IsLeaving (t : ℕ) (σ κ : Task) : Type 0 where
    pub output : κ.output ≡ σ.output
    pub offers : Offers κ Ends

  -- ---- where the task has no local step

  -- What the image does there: at a call or an end it tells, and at a wait it waits. As it has accepted a caller, or taken another part, it comes to where it is to tell so.
  pub record ActsAlike (t : ℕ) (σ κ : Task) : Type 0 where
    pub offers : ((v : ℕ) → offer_of σ ≡ Aborts v → ⊥) → Offers κ (based_offer x.note t (offer_of σ))
    pub at_call : (form : CallForm) (e : ℕ) (i : ℤ) → offer_of σ ≡ Calls form e i → IsNoting (BeforeCall t) (λ answer. IsCalling t σ) κ
    pub at_finish : offer_of σ ≡ Finishes → IsNoting (AtFinish t) (λ answer. IsEnding t σ) κ
    pub at_end : offer_of σ ≡ Ends → (t == 0) ≡ false → IsNoting (AtEnd t) (λ answer. IsLeaving t σ) κ
    pub accepted : (e : ℕ) (i : ℤ) → waits_with (opens e i) (offer_of σ) ≡ true → (c : ℕ) (v j : Task) → HandOverAlike c v j → ComesTo (IsOwing t (Begun c e i v) σ) (accepted e i c j κ)
    pub took_else : waits_with is_else (offer_of σ) ≡ true → ComesTo (IsOwing t TookElse σ) (took_else κ)
    pub took_delay : (k : ℕ) → waits_with (is_delay k) (offer_of σ) ≡ true → ComesTo (IsOwing t (TookDelay k) σ) (took_delay k κ)
