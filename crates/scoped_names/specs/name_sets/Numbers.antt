-- Names and their numbers.
use Rattle.std.specs.Prelude.{ℕ, List, map}
use Rattle.ada_tree.specs.declared.naming.NameId.{NameId}

-- the name of a number
abbrev pub id_of : ℕ → NameId
id_of n = record { 0 = n }

-- names by their numbers
abbrev pub numbers_in : List NameId → List ℕ
numbers_in names = map (λ n. n.0) names
