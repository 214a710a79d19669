-- How the places of names are kept, so that a look-up takes one step.
use Rattle.std.specs.Prelude.{◌≡◌, ℕ, ◌==◌, if◌then◌else◌, List, [], ◌∷◌, length, map, reverse, Option, Some, None}
use Rattle.scoped_names.specs.declared.Slot.{Slot}

-- the names with what they mean, the latest first
abbrev pub seen : {T : Type 0} → List (Slot T) → List (ℕ × T)
seen slots = map (λ s. (s.name, s.thing)) (reverse slots)

-- the place of the latest slot of a name; `slots` are those from the latest on
abbrev pub latest_in : {T : Type 0} → List (Slot T) → ℕ → Option ℕ
latest_in [] name = None
latest_in (s ∷ rest) name = if s.name == name then Some (length rest) else latest_in rest name

-- each slot keeps the place of the one that it hides
abbrev pub AllHide : {T : Type 0} → List (Slot T) → Type 0
AllHide [] = Unit {0}
AllHide (s ∷ rest) = (s.hides ≡ latest_in rest s.name) × AllHide rest
