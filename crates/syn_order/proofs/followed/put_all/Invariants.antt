use Rattle.std.proofs.Common.{◌≡◌, ◌+◌, ℕ, if◌then◌else◌}
use Rattle.std.specs.Prelude.{nat_lt}
use Rattle.event_machine.specs.Soundness.{times}
use Rattle.syn_order.proofs.followed.put_all.Given as goal

-- the tasks up to here have gone in
abbrev pub invariant-loop-t : goal.invariant-loop-t
invariant-loop-t l = (u : ℕ) → times u l.touched.items ≡ times u l.fn.touched.items + (if nat_lt u l.t then 1 else 0)
