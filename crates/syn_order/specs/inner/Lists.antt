-- Lists of lists, by the place of the list.
use Rattle.std.specs.Prelude.{ℕ, List, [], ◌∷◌, ◌++◌, slice_index_or, slice_set}

-- the list at a place
abbrev pub at_place : {A : Type 0} → List (List A) → ℕ → List A
at_place lists t = slice_index_or lists t []

-- x behind those of the list at a place
abbrev pub put_behind : {A : Type 0} → List (List A) → ℕ → A → List (List A)
put_behind lists t x = slice_set lists t (at_place lists t ++ x ∷ [])
