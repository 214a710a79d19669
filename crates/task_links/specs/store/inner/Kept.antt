-- How the variables of a task are kept: their values stand one behind another in one list, those of the latest variable last.
use Rattle.std.specs.Prelude.{◌≡◌, ◌≤◌, ◌+◌, ◌-◌, ℕ, nat_lt, if◌then◌else◌, List, [], ◌∷◌, map, slice_range, slice_set, Option, Some, None}
use Rattle.ada_value.specs.declared.values.Value.{Value}
use Rattle.ada_value.specs.Variables.{Object, Variables, object_with}
use Rattle.task_links.specs.declared.store.objects.Extent.{Extent}

-- the variable whose values stand in this part of the list
abbrev pub object_at : List Value → Extent → Object
object_at values x = object_with x.name x.form (slice_range values x.start x.end)

-- the variables of these names, the latest first
abbrev pub objects_kept : List Value → List (ℕ × Extent) → Variables
objects_kept values names = map (λ s. object_at values s.1) names

-- a variable, in front of the earlier ones, whose values end at n
pub record IsKept (s : ℕ × Extent) (n : ℕ) : Type 0 where
  -- it is kept for its own name
  pub name_is : s.0 ≡ s.1.name.0
  -- its values end there
  pub end_is : s.1.end ≡ n
  pub start_within : s.1.start ≤ s.1.end

-- The values of the latest variable end at n, those of each other one where those of the next later one start, and those of the earliest start at 0.
abbrev pub AreKept : List (ℕ × Extent) → ℕ → Type 0
AreKept [] n = n ≡ 0
AreKept (s ∷ rest) n = IsKept s n × AreKept rest s.1.start

-- a part of the list of values
pub record IsWithin (x : Extent) (n : ℕ) : Type 0 where
  pub start_within : x.start ≤ x.end
  pub end_within : x.end ≤ n

-- where the value at a place of a variable stands in the list, if there is such a place
abbrev pub slot_at : Extent → ℕ → Option ℕ
slot_at x k = if nat_lt k (x.end - x.start) then Some (x.start + k) else None

-- where the value at a place of a variable that may be none stands in the list
abbrev pub slot_of : Option Extent → ℕ → Option ℕ
slot_of None k = None
slot_of (Some x) k = slot_at x k

-- the latest variable
abbrev pub latest_of : List (ℕ × Extent) → Option Extent
latest_of [] = None
latest_of (s ∷ rest) = Some s.1

-- the list with a value there, if it is anywhere
abbrev pub set_there : List Value → Option ℕ → Value → List Value
set_there values None v = values
set_there values (Some i) v = slice_set values i v
