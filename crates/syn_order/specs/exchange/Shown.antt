-- What the runs with a list of events show (this project's rule).
use Rattle.std.specs.Prelude.{◌≡◌, ℕ, List}
use Rattle.event_machine.specs.declared.Event.{Event}
use Rattle.event_machine.specs.States.{Seat, State, Rules}
use Rattle.event_machine.specs.Worlds.{still}
use Rattle.event_machine.specs.Tallies.{ComesTo}

-- Each task is in the same state, so that it has written the same, and stands alike, where one that waits or is queued is called live.
pub record IsShown {L : Type 0} (tasks others : ℕ → Seat L) : Type 0 where
  pub local : (t : ℕ) → (others t).local ≡ (tasks t).local
  pub standing : (t : ℕ) → still (others t).standing ≡ still (tasks t).standing

-- Whatever a run with the one list shows, some run with the other shows.
abbrev pub AllShownBy : {L C : Type 0} → Rules L C → State C → List Event → List Event → Type 0
AllShownBy {L} rules s xs ys =
    (tasks : ℕ → Seat L) (tally : ℕ → ℕ) → ComesTo rules s xs tasks tally →
    (others : ℕ → Seat L) × (other_tally : ℕ → ℕ) × ComesTo rules s ys others other_tally × IsShown tasks others
