-- What a name means among names that are declared one after the other, of which the latest hides the others.
use Rattle.std.specs.Prelude.{ℕ, ◌==◌, List, find, Option, option_map}

-- `names` are the names with what they mean, the latest first
abbrev pub meaning_in : {T : Type 0} → List (ℕ × T) → ℕ → Option T
meaning_in names name = option_map (λ s. s.1) (find (λ s. s.0 == name) names)
