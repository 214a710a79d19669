use Rattle.std.proofs.Common.{◌≤ℤ◌, ◌<ℤ◌, ◌+◌, ◌-◌, ℤ}
use borrow.Author.Differences.{up, down}
use Rattle.ada_entry_rules.specs.case_choices.Covers.{Covers}
use Rattle.ada_entry_rules.proofs.case_choices.choices.leaves_out.Given as goal

-- the values before the next one are there
abbrev pub invariant-leaves : goal.invariant-leaves
invariant-leaves l = record { from : l.values.first ≤ℤ l.next; there : (z : ℤ) → l.values.first ≤ℤ z → z <ℤ l.next → Covers l.covered z }

-- the values from the next one on
abbrev pub decreases-leaves : goal.decreases-leaves
decreases-leaves l = (up l.values.last + down l.next + 1) - (down l.values.last + up l.next)
