-- Where a list of events leads, with a test on the local steps that each event finds made (this project's rule).
use Rattle.std.specs.Prelude.{◌≡◌, ℕ, Bool, true, List, [], ◌∷◌}
use Rattle.event_machine.specs.declared.Event.{Event}
use Rattle.event_machine.specs.Programs.{Program}
use Rattle.event_machine.specs.Worlds.{World}
use Rattle.event_machine.specs.Settling.{Fires}

-- The events happen one after the other and lead from the one world of bases to the other, and each finds each task after a number of local steps that
-- passes the test.
abbrev pub LeadsBy : {L : Type 0} → (Event → ℕ → ℕ → Bool) → Program L → World L → List Event → World L → Type 0
LeadsBy test p w [] last = w ≡ last
LeadsBy {L} test p w (e ∷ events) last =
    (next : World L) × (fires : Fires p w e next) × ((t : ℕ) → test e t (fires.steps t) ≡ true) × LeadsBy test p next events last
