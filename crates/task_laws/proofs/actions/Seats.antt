-- A run leaves as many tasks as there were.
use Rattle.std.proofs.Common.{◌≡◌, true, List, [], ◌∷◌, length, sym, ap, ◌∙◌, ⊎_elim, true≢false}
use Rattle.std.proofs.Math.ListN.{length-set}
use Rattle.event_machine.specs.declared.Action.{Action}
use Rattle.event_machine.specs.declared.Action.TheVariants.{Local, Arrive, Start, Finish, Else, Delay, CallElse, Expire, Fail, Complete, Abort, End}
use Rattle.event_machine.specs.States.{Seat, State}
use Rattle.event_machine.specs.Applying.{can}
use Rattle.event_machine.specs.Effects.{after}
use Rattle.event_machine.specs.Runs.{IsRun, end_of}
use Rattle.event_machine.specs.Programs.{Program, numbered, listed, by_number}
use Rattle.event_machine.proofs.Basics.{split}
use Rattle.event_machine.proofs.Erasing.{event_or_silent, is_silent}
use Rattle.event_machine.proofs.Joining.{after_acts, same_can, same_event, length_acted}

module _ {L : Type 0} (p : Program L) where
  silent_length : (s : State (List (Seat L))) (action : Action) → is_silent action ≡ true → length (after (listed p) s action).seats ≡ length s.seats
  silent_length s (Local t) k = length-set s.seats t _
  silent_length s (Arrive t) k = length-set s.seats t _
  silent_length s (Start c) k = absurd (true≢false (sym k))
  silent_length s (Finish a) k = absurd (true≢false (sym k))
  silent_length s (Else a) k = absurd (true≢false (sym k))
  silent_length s (Delay a j) k = absurd (true≢false (sym k))
  silent_length s (CallElse c) k = absurd (true≢false (sym k))
  silent_length s (Expire c) k = absurd (true≢false (sym k))
  silent_length s (Fail c) k = absurd (true≢false (sym k))
  silent_length s (Complete a) k = absurd (true≢false (sym k))
  silent_length s (Abort t) k = absurd (true≢false (sym k))
  silent_length s End k = absurd (true≢false (sym k))

  -- an action leaves as many tasks
  action_length : (s : State (List (Seat L))) (action : Action) → can (numbered p) (by_number p s) action ≡ true → length (after (listed p) s action).seats ≡ length s.seats
  action_length s action h = ⊎_elim
      (λ k. ap length (after_acts (listed p) s action k.0 (same_event p s action ∙ k.1.event)) ∙ length_acted p k.0 s.seats)
      (λ k. silent_length s action k)
      (event_or_silent p (by_number p s) action (split h).1)

  -- so does a run
  pub run_length : (actions : List Action) (s : State (List (Seat L))) → length s.seats ≡ p.size → IsRun (listed p) s actions → length (end_of (listed p) s actions).seats ≡ p.size
  run_length [] s e run = e
  run_length (action ∷ actions) s e run =
      run_length actions (after (listed p) s action) (action_length s action (sym (same_can p s e action) ∙ run.0) ∙ e) run.1
