-- Places that count from 1, as tests of them: which is the last up to one, how many there are, and how many are counted in a window that is open.
use Rattle.std.specs.Prelude.{ℕ, ℤ, zero, suc, ◌+◌, Bool, true, false, ◌&&◌, nat_lt, nat_le, List, Option, if◌then◌else◌}
use Rattle.std.specs.Option.{option_map_or}
use Rattle.event_machine.specs.declared.Event.{Event}
use Rattle.syn_constraint.specs.declared.constraints.Pattern.{Pattern}
use Rattle.syn_constraint.specs.Matching.{matches}
use Rattle.syn_constraint.specs.Breaking.{event_at}

-- the event at the place matches the pattern
abbrev pub matches_at : List Event → Pattern → Option ℤ → ℕ → Bool
matches_at events pattern value k = option_map_or (matches pattern value) (event_at events k) false

-- the last of the places up to n; 0 where there is none
abbrev pub last_of : (ℕ → Bool) → ℕ → ℕ
last_of p zero = zero
last_of p (suc n) = if p (suc n) then suc n else last_of p n

-- how many places there are up to n
abbrev pub total_of : (ℕ → Bool) → ℕ → ℕ
total_of p zero = zero
total_of p (suc n) = total_of p n + (if p (suc n) then 1 else 0)

-- a window stands open behind n: one of the places that open is no earlier than the last that closes
abbrev pub is_open : (ℕ → Bool) → (ℕ → Bool) → ℕ → Bool
is_open opens closes n = nat_lt 0 (last_of opens n) && nat_le (last_of closes n) (last_of opens n)

-- how many places are counted in the window that stands open behind n
abbrev pub live_of : (ℕ → Bool) → (ℕ → Bool) → (ℕ → Bool) → ℕ → ℕ
live_of opens closes counts zero = zero
live_of opens closes counts (suc n) =
    if closes (suc n) then 0
    else (if counts (suc n) && is_open opens closes n then suc (live_of opens closes counts n) else live_of opens closes counts n)
