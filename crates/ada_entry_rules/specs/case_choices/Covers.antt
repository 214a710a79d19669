-- Ranges of values without a value in common, each as its last value with its first one.
use Rattle.std.specs.Prelude.{◌≡◌, ℤ, ◌≤ℤ◌, ◌<ℤ◌, ◌⊎◌, List, Option, Some}
use Rattle.std.specs.Ordering.{int_cmp}
use Rattle.std.specs.Map.{lookup}
use Rattle.std.specs.BTreeMap.{is_at}

-- the first value of the range with that last value
abbrev pub first_of : List (ℤ × ℤ) → ℤ → Option ℤ
first_of ranges last = lookup (is_at (int_cmp last)) ranges

-- no range is empty, and of two ranges the one of the greater last value begins behind the other
pub record Apart (ranges : List (ℤ × ℤ)) : Type 0 where
  pub some : (last first : ℤ) → first_of ranges last ≡ Some first → first ≤ℤ last
  pub behind : (last first end start : ℤ) → first_of ranges last ≡ Some first → first_of ranges end ≡ Some start → last <ℤ end → last <ℤ start

-- a range that has a value
pub record Covers (ranges : List (ℤ × ℤ)) (z : ℤ) : Type 0 where
  pub last : ℤ
  pub first : ℤ
  pub is : first_of ranges last ≡ Some first
  pub from : first ≤ℤ z
  pub to : z ≤ℤ last

-- a value is one of a range or between two bounds
abbrev pub Reaches : List (ℤ × ℤ) → ℤ → ℤ → ℤ → Type 0
Reaches ranges first last z = Covers ranges z ⊎ ((first ≤ℤ z) × (z ≤ℤ last))

-- no range has a value from one to another one
pub record IsFree (ranges : List (ℤ × ℤ)) (first last : ℤ) : Type 0 where
  pub free : (end start : ℤ) → first_of ranges end ≡ Some start → first ≤ℤ end → last <ℤ start
