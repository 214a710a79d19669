-- What a page has taken: what is put on it goes to its output through a buffer, until a write fails (this project's rule).
use Rattle.std.specs.Prelude.{◌≡◌, ◌++◌, ◌+◌, ◌≤◌, ℕ, min, List, length, Bool, true, false, Option}
use Rattle.ded_io.specs.Counts.{last_count, Rose}
use Rattle.ded_io.specs.Written.{appended}

-- a page by itself: what waits in its buffer, whether a write failed, and how many bytes were put in all
pub record Sheet : Type 0 where
  pub waiting : List ℕ
  pub failed : Bool
  pub count : ℕ

-- a page with its output: what the output tells that it has, and its count of faults
pub record Drawing : Type 0 where
  pub told : Option (List ℕ)
  pub waiting : List ℕ
  pub failed : Bool
  pub count : ℕ
  pub faults : ℕ

abbrev pub over : Sheet → Option (List ℕ) → ℕ → Drawing
over sheet told faults = record { told = told; waiting = sheet.waiting; failed = sheet.failed; count = sheet.count; faults = faults }

-- of what waited and of these bytes a front went to the output, and this rest did not
pub record Passed (old new : Drawing) (bytes rest : List ℕ) : Type 0 where
  pub front : List ℕ
  pub parts : old.waiting ++ bytes ≡ front ++ rest
  pub told : new.told ≡ appended old.told front

-- bytes were put on a page, which had failed before or not, and has failed now or not: on a page without failure the rest waits; where a write failed, a front went out; and a failed page takes nothing more
abbrev pub Went : Bool → Bool → Drawing → Drawing → List ℕ → Type 0
Went false false old new bytes = Passed old new bytes new.waiting × (new.faults ≡ old.faults)
Went false true old new bytes = (rest : List ℕ) × Passed old new bytes rest × Rose old.faults new.faults
Went true false old new bytes = ⊥
Went true true old new bytes = (new.told ≡ old.told) × (new.faults ≡ old.faults)

-- the count of bytes, which stands still at its last value
abbrev pub Counted : ℕ → ℕ → List ℕ → Type 0
Counted old new bytes = old ≤ last_count → new ≡ min (old + length bytes) last_count

-- these bytes were put on the page
unfoldable pub Drew : Drawing → Drawing → List ℕ → Type 0
Drew old new bytes = Went old.failed new.failed old new bytes × Counted old.count new.count bytes
