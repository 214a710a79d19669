-- What is known of a load of real files: whether it counts as a fault (this project's rule).
use Rattle.std.specs.Prelude.{◌≡◌, ℕ, List, Result, Ok, Err}
use Rattle.ded_io.specs.Counts.{Rose}
use Rattle.ded_io.specs.declared.loading.LoadError.{LoadError}
use Rattle.ded_io.specs.declared.loading.LoadError.TheVariants.{Failed, TooLong, Memory}

-- a load that failed is a fault, and no other is
abbrev pub IsCounted : ℕ → Result (List ℕ) LoadError → ℕ → Type 0
IsCounted old (Ok bytes) new = new ≡ old
IsCounted old (Err Failed) new = Rose old new
IsCounted old (Err (TooLong limit)) new = new ≡ old
IsCounted old (Err Memory) new = new ≡ old
