use Rattle.std.proofs.Common.{◌-◌, ◌≤◌, length}
use Rattle.syn_constraint.specs.inner.Openings.{AreClosed}
use Rattle.syn_constraint.proofs.surplus.pass_closed.Given as goal

-- the openings so far are closed
abbrev pub invariant-loop-next : goal.invariant-loop-next
invariant-loop-next l = record {
  passed : AreClosed l.openings l.closed l.oldest l.next;
  within : l.oldest ≤ length l.openings → l.next ≤ length l.openings;
}

abbrev pub decreases-loop-next : goal.decreases-loop-next
decreases-loop-next l = length l.openings - l.next
