-- A line whose bytes are gathered.
use Rattle.std.specs.Prelude.{ℕ, List}

-- its bytes so far, and how many puts it has refused
pub record Gathered : Type 0 where
  pub bytes : List ℕ
  pub refused : ℕ
