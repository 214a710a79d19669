-- The names of a program as a list of texts: the predefined ones, how the list begins, and what it is after a text is interned.
use Rattle.std.specs.Prelude.{◌≡◌, ◌≤◌, ◌^◌, ℕ, List, [], ◌∷◌, ◌++◌, Some, codes, length, take, slice_get, if◌then◌else◌}
use Rattle.std.specs.List.{list_any}
use Rattle.std.specs.Str.{bytes_eq}

-- the predefined names of this language and then its attributes, in the order of their ids: 0 to 17 and 18 to 24 (this project's rule)
abbrev pub predefined : List (List ℕ)
predefined =
    codes "INTEGER" ∷ codes "NATURAL" ∷ codes "POSITIVE" ∷ codes "BOOLEAN" ∷ codes "FALSE" ∷ codes "TRUE" ∷
    codes "CONSTRAINT_ERROR" ∷ codes "NUMERIC_ERROR" ∷ codes "PROGRAM_ERROR" ∷ codes "TASKING_ERROR" ∷ codes "STORAGE_ERROR" ∷ codes "END_ERROR" ∷
    codes "TEXT_IO" ∷ codes "INTEGER_IO" ∷ codes "PUT" ∷ codes "PUT_LINE" ∷ codes "NEW_LINE" ∷ codes "GET" ∷
    codes "FIRST" ∷ codes "LAST" ∷ codes "POS" ∷ codes "VAL" ∷ codes "SUCC" ∷ codes "PRED" ∷ codes "IMAGE" ∷ []

-- what is true of the names of every program
pub record AreNames (texts : List (List ℕ)) : Type 0 where
  -- the first ids are those of the predefined names
  pub begins : take (length predefined) texts ≡ predefined
  -- no text has two ids
  pub distinct : (t : List ℕ) (i j : ℕ) → slice_get texts i ≡ Some t → slice_get texts j ≡ Some t → i ≡ j
  -- an id fits 32 bits
  pub fits : length texts ≤ 2 ^ 32

-- the texts after one is interned: it goes last, where it is not there
abbrev pub interned : List (List ℕ) → List ℕ → List (List ℕ)
interned texts t = if list_any (bytes_eq t) texts then texts else texts ++ t ∷ []
