-- What came of an output: a text that stands on it whole, a front of a text, or nothing; and whether a write failed (this project's rules).
use Rattle.std.specs.Prelude.{◌≡◌, ℕ, List, Option}
use Rattle.ded_io.specs.Counts.{Rose}
use Rattle.ded_io.specs.Written.{Began, appended}

-- all of the text was appended, and no write failed
abbrev pub IsWritten : Option (List ℕ) → Option (List ℕ) → ℕ → ℕ → List ℕ → Type 0
IsWritten told told' faults faults' text = (told' ≡ appended told text) × (faults' ≡ faults)

-- a write of the text failed, behind a front of it
abbrev pub IsBrokenOff : Option (List ℕ) → Option (List ℕ) → ℕ → ℕ → List ℕ → Type 0
IsBrokenOff told told' faults faults' text = Began told told' text × Rose faults faults'

-- nothing was appended, and no write failed
abbrev pub IsUntouched : Option (List ℕ) → Option (List ℕ) → ℕ → ℕ → Type 0
IsUntouched told told' faults faults' = (told' ≡ told) × (faults' ≡ faults)
