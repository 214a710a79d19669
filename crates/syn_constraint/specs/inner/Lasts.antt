-- Last places by the value of `?`, as the code keeps them.
use Rattle.std.specs.Prelude.{◌≡◌, ◌≤◌, ◌<◌, ℕ, ℤ, Bool, true, false, max, Option, Some, None}
use Rattle.syn_constraint.specs.declared.lasts.Lasts.{Lasts}
use Rattle.syn_constraint.specs.declared.reach.Reach.{Reach}
use Rattle.syn_constraint.specs.inner.Reaching.{reaches, value_of}
use Rattle.syn_constraint.specs.inner.Values.{number_at}

-- the last place that was noted at the value, or at all of them
abbrev pub last_at : Lasts → Option ℤ → ℕ
last_at lasts None = lasts.everywhere
last_at lasts (Some z) = max lasts.everywhere (number_at lasts.single z)

-- the earliest of the last places at the values of the reach: it is that of the one value, or of none; there is none where there is no such value
abbrev pub IsLongestAgo : Lasts → Reach → Option ℕ → Type 0
IsLongestAgo lasts reach None = (value : Option ℤ) → reaches reach value ≡ false
IsLongestAgo lasts reach (Some k) =
    (reaches reach (value_of reach) ≡ true) × (last_at lasts (value_of reach) ≡ k) × ((value : Option ℤ) → reaches reach value ≡ true → k ≤ last_at lasts value)

-- at a value of the reach nothing was noted
abbrev pub IsUnseen : Lasts → Reach → Bool → Type 0
IsUnseen lasts reach true = (reaches reach (value_of reach) ≡ true) × (last_at lasts (value_of reach) ≡ 0)
IsUnseen lasts reach false = (value : Option ℤ) → reaches reach value ≡ true → 0 < last_at lasts value
