use Rattle.std.proofs.Common.{◌↔◌, ◌≤ℤ◌, ℤ, length}
use Rattle.ada_entry_rules.specs.case_choices.Covers.{Reaches}
use Rattle.ada_entry_rules.proofs.case_choices.covered.Covered.add.Given as goal

-- what the ranges and the bounds reach stays
abbrev pub invariant-loop-start : goal.invariant-loop-start
invariant-loop-start l = record { forward : l.low ≤ℤ l.high; reach : (z : ℤ) → Reaches l.self l.low l.high z ↔ Reaches l.fn.self l.fn.first l.fn.last z }

-- each turn takes a range out
abbrev pub decreases-loop-start : goal.decreases-loop-start
decreases-loop-start l = length l.self
