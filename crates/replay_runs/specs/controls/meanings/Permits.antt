-- What a task of the replay text is to do with its permit, beside a task of the normal form: offer what the permit is for, do what the event does to
-- the task, and say that it is done (this project's rule).
use Rattle.std.specs.Prelude.{◌≡◌, ℕ, ℤ, pos, true, false, ◌==◌, List, [], None}
use Rattle.event_machine.specs.declared.CallForm.TheVariants.{Plain}
use Rattle.event_machine.specs.declared.Event.{Event}
use Rattle.event_machine.specs.Offers.{Calls, calls_in, is_any_form, is_conditional, is_timed, waits_with, is_finish, opens, is_else, is_delay}
use Rattle.event_machine.specs.Worlds.{aborts}
use Rattle.ada_tree.specs.PlainProgram.{PProgram}
use Rattle.task_model.specs.Frames.{callers_in}
use Rattle.task_model.specs.Tasks.{Task}
use Rattle.task_model.specs.Calls.{values_handed}
use Rattle.task_model.specs.Stands.{offer_of}
use Rattle.task_model.specs.Rendezvous.{accepted, finished, resumed, call_failed, took_else, took_delay, past_name, pending_of, finals_of}
use Rattle.normal_laws.specs.runs.floors.Preludes.{Reaches}
use Rattle.normal_laws.specs.runs.floors.Meetings.{AreValues}
use Rattle.run_laws.specs.replaying.Permits.{Permit, ToMeet, ToFinish, ToElse, ToDelay, ToCallElse, ToExpire, ToFail, ToEnd, ToAbort, ToClose}
use Rattle.run_laws.specs.replaying.Copies.{Spots, held_offer}
use Rattle.replay_structure.specs.spots.Places.{text_spots}
use Rattle.replay_runs.specs.starts.Laws.{form_in}
use Rattle.table_law.specs.States.{Offers}
use Rattle.replay_runs.specs.controls.meanings.Pairs.{Comes}
use Rattle.replay_runs.specs.controls.translated.Laws.{form_and_text}

-- ---- saying

-- The image has written what the task has, and calls DONE with its number. Once that call has been answered it comes to where both are a pair again.
pub record IsSaying (far : Spots) (p : PProgram) (events : List Event) (t : ℕ) (σ κ : Task) : Type 0 where
  pub output : κ.output ≡ σ.output
  pub says : Offers κ (Calls Plain (text_spots far (form_in p)).done (pos t))
  pub answered : (j : Task) → pending_of j ≡ None → finals_of j ≡ [] → Comes p events t σ (resumed j κ)

-- By finitely many local steps that write nothing the image comes to where it is so.
pub record ComesToSay (far : Spots) (p : PProgram) (events : List Event) (t : ℕ) (σ κ : Task) : Type 0 where
  pub reached : Task
  pub reach : Reaches κ reached
  pub says : IsSaying far p events t σ reached

-- ---- rendezvous

-- Two callers hand over the same values, which are of known kinds (6.4.1).
pub record HandOverAlike (p : PProgram) (events : List Event) (σ κ : Task) : Type 0 where
  pub same : values_handed κ ≡ values_handed σ
  pub known : AreValues (form_and_text p events) (values_handed σ)

-- At the ends of their accept bodies two acceptors hand back the same: the same exception, or the same values, which are of known kinds (6.4.1, 11.5).
pub record HandBackAlike (p : PProgram) (events : List Event) (σ κ : Task) : Type 0 where
  pub pending : pending_of κ ≡ pending_of σ
  pub finals : finals_of κ ≡ finals_of σ
  pub known : AreValues (form_and_text p events) (finals_of σ)

-- Both stand at a call. They hand over alike. Where acceptors hand back alike both go on as a pair, and so they do where the acceptor is aborted.
pub record IsCalling (p : PProgram) (events : List Event) (t : ℕ) (σ κ : Task) : Type 0 where
  pub over : HandOverAlike p events σ κ
  pub resumed : (m j : Task) → HandBackAlike p events m j → Comes p events t (resumed m σ) (resumed j κ)
  pub raised : Comes p events t (call_failed σ) (call_failed κ)

-- Both wait for a call of this member of an entry, of which the image has the original one. Where callers hand over alike, both open their accept
-- bodies, and the image says that it is done.
abbrev pub IsAccepting : Spots → PProgram → List Event → ℕ → ℕ → ℤ → Task → Task → Type 0
IsAccepting far p events t e i σ κ = (caller : ℕ) (l k : Task) → HandOverAlike p events l k →
    ComesToSay far p events t (accepted e i caller l σ) (accepted ((text_spots far (form_in p)).original e) i caller k κ)

-- Both stand at the ends of their accept bodies and hand back alike. Behind these the image says that it is done.
pub record IsFinishing (far : Spots) (p : PProgram) (events : List Event) (t : ℕ) (σ κ : Task) : Type 0 where
  pub back : HandBackAlike p events σ κ
  pub goes_on : ComesToSay far p events t (finished σ) (finished κ)

-- ---- permits

-- What the permit is for, where the task of the normal form offers it: behind the event the image says that it is done; the caller in a rendezvous
-- says nothing, nor does one that ends.
abbrev pub ActsBy : Spots → PProgram → List Event → ℕ → Permit → Task → Task → Type 0
ActsBy far p events t (ToMeet e i) σ κ =
    (calls_in is_any_form e i (offer_of σ) ≡ true → IsCalling p events t σ κ) × (waits_with (opens e i) (offer_of σ) ≡ true → IsAccepting far p events t e i σ κ)
ActsBy far p events t ToFinish σ κ = is_finish (offer_of σ) ≡ true → IsFinishing far p events t σ κ
ActsBy far p events t ToElse σ κ = waits_with is_else (offer_of σ) ≡ true → ComesToSay far p events t (took_else σ) (took_else κ)
ActsBy far p events t (ToDelay k) σ κ = waits_with (is_delay k) (offer_of σ) ≡ true → ComesToSay far p events t (took_delay k σ) (took_delay k κ)
ActsBy far p events t (ToCallElse e i) σ κ = calls_in is_conditional e i (offer_of σ) ≡ true → ComesToSay far p events t (took_else σ) (took_else κ)
ActsBy far p events t (ToExpire e i) σ κ = calls_in is_timed e i (offer_of σ) ≡ true → ComesToSay far p events t (took_delay 1 σ) (took_delay 1 κ)
ActsBy far p events t (ToFail e i) σ κ = calls_in is_any_form e i (offer_of σ) ≡ true → ComesToSay far p events t (call_failed σ) (call_failed κ)
ActsBy far p events t ToEnd σ κ = Unit {0}
ActsBy far p events t (ToAbort v) σ κ = aborts v (offer_of σ) ≡ true → (v == t) ≡ false → ComesToSay far p events t (past_name σ) (past_name κ)
ActsBy far p events t ToClose σ κ = Unit {0}

-- The image has a permit. It has written what the task has, and offers what the permit is for where the task offers that, and else a call that is
-- never accepted. At the end of an accept body it has the task's callers. It does what the permit is for.
pub record IsHolding (far : Spots) (p : PProgram) (events : List Event) (t : ℕ) (permit : Permit) (σ κ : Task) : Type 0 where
  pub output : κ.output ≡ σ.output
  pub offers : Offers κ (held_offer (text_spots far (form_in p)) t permit (offer_of σ))
  pub callers : is_finish (offer_of κ) ≡ true → callers_in κ.control ≡ callers_in σ.control
  pub acts : ActsBy far p events t permit σ κ

-- By finitely many local steps that write nothing the image comes to where it is so.
pub record ComesToHold (far : Spots) (p : PProgram) (events : List Event) (t : ℕ) (permit : Permit) (σ κ : Task) : Type 0 where
  pub reached : Task
  pub reach : Reaches κ reached
  pub holds : IsHolding far p events t permit σ reached
