-- The events that open, as the code keeps them.
use Rattle.std.specs.Prelude.{◌≡◌, ◌≤◌, ◌<◌, ℕ, ℤ, ◌-◌, Bool, true, false, nat_lt, List, [], ◌∷◌, length, slice_get, Option, Some}
use Rattle.std.specs.Option.{option_map_or}
use Rattle.syn_constraint.specs.declared.surplus.Opening.{Opening}
use Rattle.syn_constraint.specs.declared.lasts.Lasts.{Lasts}
use Rattle.syn_constraint.specs.declared.reach.Reach.{Reach}
use Rattle.syn_constraint.specs.declared.reach.Reach.TheVariants.{Nowhere, Everywhere, At}
use Rattle.syn_constraint.specs.inner.Reaching.{reaches, value_of}
use Rattle.syn_constraint.specs.inner.Lasts.{last_at}

-- what is kept of an event: nothing where it opens at no value
abbrev pub kept_by : Reach → Opening → List Opening
kept_by Nowhere opening = []
kept_by Everywhere opening = opening ∷ []
kept_by (At z) opening = opening ∷ []

-- behind the opening more events were counted than the limit
abbrev pub is_over : ℕ → ℕ → Opening → Bool
is_over limit count opening = nat_lt opening.counted (count - limit)

-- the list has an opening at the place with more events behind it than the limit
abbrev pub is_over_at : List Opening → ℕ → ℕ → ℕ → Bool
is_over_at openings limit count j = option_map_or (is_over limit count) (slice_get openings j) false

-- the opening is closed at each of its values
abbrev pub IsClosed : Lasts → Opening → Type 0
IsClosed closed opening = (value : Option ℤ) → reaches opening.reach value ≡ true → opening.place < last_at closed value

-- the opening is not closed at its one value, or at none
abbrev pub IsOpenStill : Lasts → Opening → Type 0
IsOpenStill closed opening = (reaches opening.reach (value_of opening.reach) ≡ true) × (last_at closed (value_of opening.reach) ≤ opening.place)

-- whether the opening is closed
abbrev pub IsClosedTest : Lasts → Opening → Bool → Type 0
IsClosedTest closed opening true = IsClosed closed opening
IsClosedTest closed opening false = IsOpenStill closed opening

-- an opening past the limit is not closed, if there is one at the place
abbrev pub StopsAt : List Opening → Lasts → ℕ → ℕ → ℕ → Type 0
StopsAt openings closed limit count j = (opening : Opening) → is_over_at openings limit count j ≡ true → slice_get openings j ≡ Some opening → IsOpenStill closed opening

-- whether there is an opening at the place that is past the limit and closed
abbrev pub IsPassed : List Opening → Lasts → ℕ → ℕ → ℕ → Bool → Type 0
IsPassed openings closed limit count j true = (opening : Opening) × (slice_get openings j ≡ Some opening) × IsClosed closed opening
IsPassed openings closed limit count j false = StopsAt openings closed limit count j

-- the openings between two places of the list are closed
abbrev pub AreClosed : List Opening → Lasts → ℕ → ℕ → Type 0
AreClosed openings closed from to = (j : ℕ) (opening : Opening) → from ≤ j → j < to → slice_get openings j ≡ Some opening → IsClosed closed opening

-- The openings up to the place of the list are closed, and the one at that place has no more than the limit behind it, or is not closed.
pub record PassesClosed (openings : List Opening) (closed : Lasts) (limit count oldest next : ℕ) : Type 0 where
  pub passed : AreClosed openings closed oldest next
  pub within : oldest ≤ length openings → next ≤ length openings
  pub stops : StopsAt openings closed limit count next
