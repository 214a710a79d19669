use Rattle.std.proofs.Common.{length}
use Rattle.syn_constraint.proofs.Formatted.{ConstraintsReadTo}
use Rattle.syn_constraint.proofs.reading.read_constraints.Given as goal

-- the file is read up to the rest
abbrev pub invariant-loop-rest : goal.invariant-loop-rest
invariant-loop-rest l = ConstraintsReadTo l.numbers l.bytes l.constraints.items l.rest

abbrev pub decreases-loop-rest : goal.decreases-loop-rest
decreases-loop-rest l = length l.rest
