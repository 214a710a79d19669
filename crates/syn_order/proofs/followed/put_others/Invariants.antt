use Rattle.std.proofs.Common.{◌≡◌, ◌+◌, ℕ, ◌||◌, ◌==◌, if◌then◌else◌, take}
use Rattle.std.specs.Prelude.{nat_lt}
use Rattle.event_machine.specs.Soundness.{times}
use Rattle.syn_order.proofs.followed.put_others.Given as goal

-- the callers up to here have gone in
abbrev pub invariant-loop-c : goal.invariant-loop-c
invariant-loop-c l = (u : ℕ) →
    times u l.touched.items ≡ times u l.fn.touched.items + (if ((u == l.a) || (u == l.b)) then 0 else (if nat_lt u l.count then times u (take l.c-index l.callers) else 0))
