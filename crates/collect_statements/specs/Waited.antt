-- The alternatives of a selective wait of a collecting text, as a list.
use Rattle.std.specs.Prelude.{ℕ, List, [], ◌∷◌}
use Rattle.ada_tree.specs.PlainStmt.{PAlt}
use Rattle.collect_model.specs.Teller.{Teller}
use Rattle.collect_model.specs.Waiting.{alternative_told, next_delay}

-- what stands in the place of alternatives, whose delay alternatives are numbered from k on
abbrev pub alternative_list : Teller → List PAlt → ℕ → List PAlt
alternative_list x [] k = []
alternative_list x (a ∷ rest) k = alternative_told x a k ∷ alternative_list x rest (next_delay a k)

-- the number of the delay alternative behind some alternatives, numbered from k on
abbrev pub number_behind : List PAlt → ℕ → ℕ
number_behind [] k = k
number_behind (a ∷ rest) k = number_behind rest (next_delay a k)
