use Rattle.std.proofs.Common.{◌≡◌, take}
use Rattle.debug_sequence.specs.RequireOutcomes.{AreFindings}
use Rattle.debug_sequence.proofs.requiring.findings_of.Given as goal

-- this is found of the constraints so far, and so many there are
abbrev pub invariant-loop-constraint : goal.invariant-loop-constraint
invariant-loop-constraint l = AreFindings l.events 1 (take l.constraint-index l.constraints) l.findings.items × (l.number ≡ l.constraint-index)
