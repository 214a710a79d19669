-- How many events are counted in the windows of each value of `?`, as the code keeps it.
use Rattle.std.specs.Prelude.{ℕ, ℤ, suc, Bool, ◌&&◌, nat_lt, nat_le, Some, if◌then◌else◌}
use Rattle.syn_constraint.specs.declared.surplus_by_value.Tallies.{Tallies}
use Rattle.syn_constraint.specs.declared.lasts.Lasts.{Lasts}
use Rattle.syn_constraint.specs.declared.reach.Reach.{Reach}
use Rattle.syn_constraint.specs.declared.reach.Reach.TheVariants.{Nowhere, Everywhere, At}
use Rattle.syn_constraint.specs.inner.Values.{number_at}
use Rattle.syn_constraint.specs.inner.Lasts.{last_at}

-- how many are counted at the value behind the last event that closes
abbrev pub live_at : Tallies → Lasts → ℤ → ℕ
live_at tallies closed z = if nat_lt (last_at closed (Some z)) (number_at tallies.places z) then number_at tallies.counts z else 0

-- a window stands open at the value
abbrev pub is_open_at : Lasts → Lasts → ℤ → Bool
is_open_at opened closed z = nat_lt 0 (last_at opened (Some z)) && nat_le (last_at closed (Some z)) (last_at opened (Some z))

-- how many are counted in the open window with one more event that is counted at one value
abbrev pub count_now : Tallies → Lasts → Lasts → Reach → ℕ
count_now tallies opened closed Nowhere = 0
count_now tallies opened closed Everywhere = 0
count_now tallies opened closed (At z) = if is_open_at opened closed z then suc (live_at tallies closed z) else 0
