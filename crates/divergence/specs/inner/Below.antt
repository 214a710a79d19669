-- The tasks before one, in order.
use Rattle.std.specs.Prelude.{ℕ, zero, suc, List, [], ◌∷◌, ◌++◌}

-- the tasks from 0 that come before the task n
abbrev pub tasks_below : ℕ → List ℕ
tasks_below zero = []
tasks_below (suc n) = tasks_below n ++ n ∷ []
