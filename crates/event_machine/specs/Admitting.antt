-- What an event asks of the standings of the tasks alone: a list of events tells these without the program's text (this project's rule).
use Rattle.std.specs.Prelude.{◌≡◌, ℕ, true, false}
use Rattle.event_machine.specs.declared.Standing.TheVariants.{Live}
use Rattle.event_machine.specs.declared.Event.{Event}
use Rattle.event_machine.specs.declared.Event.TheVariants.{R, E, S, D, C, T, F, X, B, Z}
use Rattle.event_machine.specs.States.{Seat, is_closed, is_served, is_served_by}

-- The parties are free, and serve somebody or nobody, as the event asks; before the end of the program nobody is served.
abbrev pub IsAdmitted : {L : Type 0} → (ℕ → ℕ) → (ℕ → Seat L) → Event → Type 0
IsAdmitted owner tasks (R c e i) = ((tasks c).standing ≡ Live) × ((tasks (owner e)).standing ≡ Live) × (c ≡ owner e → ⊥)
IsAdmitted owner tasks (E a) = ((tasks a).standing ≡ Live) × ((c : ℕ) × (is_served_by a (tasks c).standing ≡ true))
IsAdmitted owner tasks (S a) = (tasks a).standing ≡ Live
IsAdmitted owner tasks (D a k) = (tasks a).standing ≡ Live
IsAdmitted owner tasks (C c e i) = ((tasks c).standing ≡ Live) × (is_closed (tasks (owner e)).standing ≡ false)
IsAdmitted owner tasks (T c e i) = ((tasks c).standing ≡ Live) × (is_closed (tasks (owner e)).standing ≡ false)
IsAdmitted owner tasks (F c e i) = ((tasks c).standing ≡ Live) × (is_closed (tasks (owner e)).standing ≡ true)
IsAdmitted owner tasks (X a) = ((tasks a).standing ≡ Live) × ((c : ℕ) → is_served_by a (tasks c).standing ≡ false)
IsAdmitted owner tasks (B t x) = (tasks t).standing ≡ Live
IsAdmitted owner tasks Z = (t : ℕ) → is_served (tasks t).standing ≡ false
