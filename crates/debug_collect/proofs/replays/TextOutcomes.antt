-- What the parts of replaying come to: the limit of events, and the refusal of a sequence.
use Rattle.std.proofs.Common.{◌≡◌, ◌<◌, ◌≤◌, ℕ, Bool, true, false, nat_lt, List, length, Result, Ok, Err, inl, inr, sym, ap, ◌∙◌, subst, arith}
use Rattle.std.specs.Prelude.{◌⊎◌, if◌then◌else◌}
use Rattle.ada_tree.specs.PlainProgram.{PProgram}
use Rattle.ada_tree.specs.TypeTable.{TypeTable}
use Rattle.event_machine.specs.declared.Event.{Event}
use Rattle.syn_event.specs.Numbering.{Numbering}
use Rattle.normal_form.specs.declared.errors.XformError.{XformError}
use Rattle.normal_form.specs.declared.errors.XformError.TheVariants as error
use Rattle.replay_model.specs.ReplayTree.{most_events, replay_tree, replayed}
use Rattle.debug_outcome.specs.Coming.{Stops, stop_by}
use Rattle.debug_outcome.specs.Outcomes.{Outcome, refuses}
use Rattle.debug_outcome.specs.Printing.{printed_outcome}
use Rattle.debug_outcome.specs.declared.refusal.Refusal.TheVariants.{TooMany}
use Rattle.debug_outcome.specs.declared.refusal.Listed.TheVariants.{Events}
use Rattle.debug_sequence.specs.Sequences.{ReadsAs}
use Rattle.debug_collect.specs.replays.inner.Printing.{replay_outcome, ComeTo}
use Rattle.debug_collect.specs.replays.ReplayOutcomes.{refusal_of_replay}
use Rattle.common_lemmas.proofs.Numbers.{lt_false, lt_true}

-- ---- the number of events

module _ (p : PProgram) (types : TypeTable) (numbers : Numbering) (events : List Event) where
  pub outcome_beyond : most_events < length events → replay_outcome (replayed p types numbers events) ≡ refuses (TooMany Events most_events)
  outcome_beyond more = ap (λ (b : Bool). replay_outcome (if b then Err most_events else Ok (replay_tree p types numbers events))) (lt_true most_events (length events) more)

  pub outcome_within : length events ≤ most_events → replay_outcome (replayed p types numbers events) ≡ printed_outcome (replay_tree p types numbers events)
  outcome_within few = ap (λ (b : Bool). replay_outcome (if b then Err most_events else Ok (replay_tree p types numbers events))) (lt_false most_events (length events) few)

-- ---- the error of an answer

abbrev error_or : {A : Type 0} → Result A XformError → XformError → XformError
error_or (Ok x) d = d
error_or (Err e) d = e

pub one_error : {A : Type 0} (r : Result A XformError) (e d : XformError) → r ≡ Err e → r ≡ Err d → e ≡ d
one_error {A} r e d h k = ap (λ (x : Result A XformError). error_or x e) (sym h ∙ k)

-- ---- the replay text of the events that the lines are

module _ (p : PProgram) (types : TypeTable) (numbers : Numbering) (lines : List ℕ) (events : List Event) (reads : ReadsAs lines numbers p.names events) where
  pub text_called : (text : PProgram) (o : Outcome) → replayed p types numbers events ≡ Ok text → o ≡ printed_outcome text → ComeTo p types numbers lines o
  text_called text o made is = inl (record { events = events; reads = reads; is = is ∙ sym (ap replay_outcome made) })

  too_many : nat_lt most_events (length events) ≡ true → ComeTo p types numbers lines (refuses (TooMany Events most_events))
  too_many h =
      inl (record {
        events = events;
        reads = reads;
        is = sym (ap (λ (b : Bool). replay_outcome (if b then Err most_events else Ok (replay_tree p types numbers events))) h);
      })

  pub stops_replay : (e : XformError) → (nat_lt most_events (length events) ≡ true → e ≡ error.TooManyEvents most_events) → (e ≡ error.Memory) ⊎ (nat_lt most_events (length events) ≡ true) →
      Stops (ComeTo p types numbers lines) (stop_by (refusal_of_replay e))
  stops_replay e limit (inl none) = subst (λ (x : XformError). Stops (ComeTo p types numbers lines) (stop_by (refusal_of_replay x))) (sym none) tt
  stops_replay e limit (inr long) = subst (λ (x : XformError). Stops (ComeTo p types numbers lines) (stop_by (refusal_of_replay x))) (sym (limit long)) (too_many long)
