-- Lines that are gathered.
use Rattle.std.specs.Prelude.{ℕ, List}

-- their bytes so far, and how many puts found no memory
pub record Gathered : Type 0 where
  pub bytes : List ℕ
  pub refused : ℕ
