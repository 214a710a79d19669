-- What an output tells behind a write: all bytes appended, or a front of them (this project's rule).
use Rattle.std.specs.Prelude.{◌≡◌, ◌++◌, ℕ, List, [], ◌∷◌, Option, Some, None, Result, Ok, Err}

-- one text behind another; it stays shut, so that a literal text in front does not compute away
infixr 60 ◌⧺◌
unfoldable pub ◌⧺◌ : List ℕ → List ℕ → List ℕ
a ⧺ b = a ++ b

-- what is told once these bytes were appended
abbrev pub appended : Option (List ℕ) → List ℕ → Option (List ℕ)
appended None bytes = None
appended (Some old) bytes = Some (old ++ bytes)

-- a front of the bytes was appended, where that is told
abbrev pub Began : Option (List ℕ) → Option (List ℕ) → List ℕ → Type 0
Began old new bytes = (front : List ℕ) × (rest : List ℕ) × (bytes ≡ front ++ rest) × (new ≡ appended old front)

-- a write with this answer: a success appended all bytes, an error a front of them
unfoldable pub Wrote : {A E : Type 0} → Result A E → Option (List ℕ) → Option (List ℕ) → List ℕ → Type 0
Wrote (Ok x) old new bytes = new ≡ appended old bytes
Wrote (Err e) old new bytes = Began old new bytes

-- the texts of the members of a list, one behind the other
abbrev pub each_text : {X : Type 0} → (X → List ℕ) → List X → List ℕ
each_text text [] = []
each_text text (x ∷ xs) = text x ⧺ each_text text xs
