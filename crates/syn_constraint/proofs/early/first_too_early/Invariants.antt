use Rattle.syn_constraint.proofs.Steps.{AreSeen}
use Rattle.syn_constraint.proofs.early.first_too_early.Given as goal

-- the places of the earlier pattern are noted, and no event so far comes too early
abbrev pub invariant-loop-event : goal.invariant-loop-event
invariant-loop-event l = AreSeen l.events l.early l.late l.event-index l.place l.seen
