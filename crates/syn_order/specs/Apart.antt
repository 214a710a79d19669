-- Neighbours that touch no common task, and sequences that differ only in the order of such neighbours (this project's rule).
use Rattle.std.specs.Prelude.{◌≡◌, ℕ, ◌<◌, false, ◌&&◌, List, ◌∷◌}
use Rattle.event_machine.specs.declared.Event.{Event}
use Rattle.event_machine.specs.progress.Known.{Known, advanced, touches}

-- Apart: no task below n is touched by both events, by what is known before either.
abbrev pub AreApart : (ℕ → ℕ) → ℕ → Known → Event → Event → Type 0
AreApart owner n k e f = (t : ℕ) → t < n → (touches owner k e t && touches owner k f t) ≡ false

-- Alike: one sequence comes from the other by exchanging neighbours that are apart, again and again.
pub data AreAlike (owner : ℕ → ℕ) (n : ℕ) : Known → List Event → List Event → Type 0 where
  same : (k : Known) (events : List Event) → AreAlike owner n k events events
  first_same : (k : Known) (e : Event) (xs ys : List Event) → AreAlike owner n (advanced owner k e) xs ys → AreAlike owner n k (e ∷ xs) (e ∷ ys)
  exchanged : (k : Known) (e f : Event) (events : List Event) → AreApart owner n k e f → AreAlike owner n k (e ∷ f ∷ events) (f ∷ e ∷ events)
  further : (k : Known) (xs ys zs : List Event) → AreAlike owner n k xs ys → AreAlike owner n k ys zs → AreAlike owner n k xs zs
