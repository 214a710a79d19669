-- Counts of faults: what it means that one rose, and that a rise is the cause of an answer (this project's rule).
use Rattle.std.specs.Prelude.{◌≡◌, ◌<◌, ◌+◌, ◌⊎◌, ℕ, min, Result, Ok, Err}

-- the last value of a count, the greatest of 64 bits; a count that stands there stays there
abbrev pub last_count : ℕ
last_count = 18446744073709551615

-- the count after one more fault
abbrev pub one_more : ℕ → ℕ
one_more n = min (n + 1) last_count

-- the count rose, or stands at its last value
unfoldable pub Rose : ℕ → ℕ → Type 0
Rose old new = (old < new) ⊎ ((old ≡ last_count) × (new ≡ last_count))

-- an error comes only where the count rose, and a success leaves the count
abbrev pub HasCause : {A E : Type 0} → ℕ → ℕ → Result A E → Type 0
HasCause old new (Ok x) = new ≡ old
HasCause old new (Err e) = Rose old new
