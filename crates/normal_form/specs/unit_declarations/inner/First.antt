-- The first declarations of a normal form, one declaration after the other; of the task types on the way the names are known.
use Rattle.std.specs.Prelude.{ℕ, Bool, true, if◌then◌else◌, List, [], ◌∷◌, ◌++◌, is_some}
use Rattle.ada_tree.specs.PlainDecl.{PDecl, DObject, DTask, DTaskBody}
use Rattle.scoped_names.specs.Meaning.{meaning_in}
use Rattle.normal_model.specs.NormalTree.{mark_of}

-- the names of task types with that of one more, where it is one
abbrev pub with_name : List (ℕ × Bool) → Bool → ℕ → List (ℕ × Bool)
with_name known b name = if b then (name, true) ∷ known else known

-- what stands for a declaration among the first ones
abbrev pub first_of : List (ℕ × Bool) → PDecl → List PDecl
first_of known (DTask t s) = []
first_of known (DTaskBody w objects its s) = []
first_of known (DObject names constant shape init s) = if is_some (meaning_in known (mark_of shape).0) then [] else DObject names constant shape init s ∷ []
first_of known d = d ∷ []

-- the names of the task types behind a declaration
abbrev pub known_behind : List (ℕ × Bool) → PDecl → List (ℕ × Bool)
known_behind known (DTask t s) = with_name known t.of_kind t.name.name.0
known_behind known _ = known

-- The first declarations among declarations behind some task types.
abbrev pub first_list : List (ℕ × Bool) → List PDecl → List PDecl
first_list known [] = []
first_list known (d ∷ ds) = first_of known d ++ first_list (known_behind known d) ds
