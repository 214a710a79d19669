-- Lists whose elements are tested together with what stands after them.
use Rattle.std.specs.Prelude.{Bool, true, false, ◌&&◌, List, [], ◌∷◌}

-- each element goes on, given the elements after it
abbrev pub every : {A : Type 0} → (A → List A → Bool) → List A → Bool
every goes_on [] = true
every goes_on (x ∷ rest) = goes_on x rest && every goes_on rest

-- the list begins with an element of the class
abbrev pub begins : {A : Type 0} → (A → Bool) → List A → Bool
begins class [] = false
begins class (x ∷ rest) = class x
