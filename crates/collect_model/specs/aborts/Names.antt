-- The names that the collecting text of a program with abort statements has beside those of a collecting text without (this project's rule). No declared name of an original begins with DED_, so they mean nothing else. Each goes behind the names that are there, where it is not among them.
use Rattle.std.specs.Prelude.{ℕ, zero, suc, List, [], ◌∷◌, ◌++◌, codes, decimal}
use Rattle.std.specs.List.{fold}
use Rattle.ada_tree.specs.NameList.{interned}
use Rattle.ada_tree.specs.PlainProgram.{PProgram}
use Rattle.collect_model.specs.Names.{with_added}

-- ---- texts

-- the recorder's table of acceptors: for each task, who accepted its last call
abbrev pub acceptors_text : List ℕ
acceptors_text = codes "DED_ACC"

-- the loop parameter by which the recorder goes through the tasks
abbrev pub each_text : List ℕ
each_text = codes "DED_U"

-- the variables of the n-th place of a unit where calls are accepted, counted from 1: the caller that was taken there last, and whether it was refused
abbrev pub taken_text : ℕ → List ℕ
taken_text n = codes "DED_Q" ++ decimal n

abbrev pub refused_text : ℕ → List ℕ
refused_text n = codes "DED_R" ++ decimal n

-- ---- the names of the result

-- names, and those of the variables of the first n places
abbrev pub with_places : List (List ℕ) → ℕ → List (List ℕ)
with_places names zero = names
with_places names (suc n) = interned (interned (with_places names n) (taken_text (suc n))) (refused_text (suc n))

-- names, and those that each such text adds; proofs see into this where they ask to
unfoldable pub with_recorded : List (List ℕ) → List (List ℕ)
with_recorded names = fold interned (with_added names) (acceptors_text ∷ each_text ∷ [])

-- The names of the text of a normal form, in which no unit has more than n such places.
abbrev pub abort_names : PProgram → ℕ → List (List ℕ)
abort_names q n = with_places (with_recorded q.names) n
