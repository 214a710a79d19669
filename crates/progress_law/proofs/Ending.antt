-- What events tell of the end of the program is so of every run, of any tasks.
use Rattle.std.proofs.Common.{◌≡◌, ℕ, false, ◌||◌, List, [], ◌∷◌, ◌++◌, Option, Some, None, refl, ap, ◌∙◌}
use Rattle.std.specs.Prelude.{option_to_list, ℤ}
use Rattle.event_machine.specs.declared.Action.{Action}
use Rattle.event_machine.specs.declared.Action.TheVariants.{Local, Arrive, Start, Finish, Else, Delay, CallElse, Expire, Fail, Complete, Abort, End}
use Rattle.event_machine.specs.declared.Event.{Event}
use Rattle.event_machine.specs.declared.Event.TheVariants.{R, E, C as CallElseEvent, T as ExpireEvent, F, B}
use Rattle.event_machine.specs.Offers.{Offer, Nothing, Calls, Waits, Finishes, Ends, Aborts, aborted_by}
use Rattle.event_machine.specs.States.{State, Rules}
use Rattle.event_machine.specs.Effects.{event_of, after, call_event, abort_event, after_abort, offer_of_task}
use Rattle.event_machine.specs.Runs.{end_of, events_of}
use Rattle.event_machine.specs.Worlds.{is_last}
use Rattle.event_machine.specs.progress.Known.{Known, advanced, known_from}
use Rattle.event_machine.proofs.progress.Parties.{advanced_ended}

-- what is known after some events, and then others
pub known_further : (owner : ℕ → ℕ) (events more : List Event) (k : Known) → known_from owner k (events ++ more) ≡ known_from owner (known_from owner k events) more
known_further owner [] more k = refl
known_further owner (e ∷ events) more k = known_further owner events more (advanced owner k e)

module _ {L C : Type 0} (rules : Rules L C) (owner : ℕ → ℕ) where
  -- after the event of an action, if it has one
  abbrev one_more : Known → Option Event → Known
  one_more k o = known_from owner k (option_to_list o)

  ends_call : (make : ℕ → ℤ → Event) → ((e : ℕ) (i : ℤ) → is_last (make e i) ≡ false) → (k : Known) (offer : Offer) → (one_more k (call_event make offer)).ended ≡ k.ended
  ends_call make h k Nothing = refl
  ends_call make h k (Calls form e i) = advanced_ended owner k (make e i) ∙ ap (λ b. b || k.ended) (h e i)
  ends_call make h k (Waits choices) = refl
  ends_call make h k Finishes = refl
  ends_call make h k Ends = refl
  ends_call make h k (Aborts x) = refl

  ends_abort : (k : Known) (s : State C) (t : ℕ) (o : Option ℕ) → k.ended ≡ s.ended → (one_more k (abort_event t o)).ended ≡ (after_abort rules s t o).ended
  ends_abort k s t None h = h
  ends_abort k s t (Some x) h = advanced_ended owner k (B t x) ∙ h

  ends_after : (k : Known) (s : State C) (action : Action) → k.ended ≡ s.ended → (one_more k (event_of rules s action)).ended ≡ (after rules s action).ended
  ends_after k s (Local t) h = h
  ends_after k s (Arrive t) h = h
  ends_after k s (Start c) h = ends_call (λ e i. R c e i) (λ e i. refl) k (offer_of_task rules s c) ∙ h
  ends_after k s (Finish a) h = advanced_ended owner k (E a) ∙ h
  ends_after k s (Else a) h = h
  ends_after k s (Delay a n) h = h
  ends_after k s (CallElse c) h = ends_call (λ e i. CallElseEvent c e i) (λ e i. refl) k (offer_of_task rules s c) ∙ h
  ends_after k s (Expire c) h = ends_call (λ e i. ExpireEvent c e i) (λ e i. refl) k (offer_of_task rules s c) ∙ h
  ends_after k s (Fail c) h = ends_call (λ e i. F c e i) (λ e i. refl) k (offer_of_task rules s c) ∙ h
  ends_after k s (Complete a) h = h
  ends_after k s (Abort t) h = ends_abort k s t (aborted_by (offer_of_task rules s t)) h
  ends_after k s End h = refl

  -- After the actions the program has ended where it is known to have.
  pub ends_run : (actions : List Action) (k : Known) (s : State C) → k.ended ≡ s.ended → (known_from owner k (events_of rules s actions)).ended ≡ (end_of rules s actions).ended
  ends_run [] k s h = h
  ends_run (action ∷ actions) k s h =
      ap (λ (x : Known). x.ended) (known_further owner (option_to_list (event_of rules s action)) (events_of rules (after rules s action) actions) k) ∙
      ends_run actions (one_more k (event_of rules s action)) (after rules s action) (ends_after k s action h)
