use Rattle.syn_constraint.proofs.Tallied.{AreWindows}
use Rattle.syn_constraint.proofs.surplus_by_value.first_surplus_by_value.Given as goal

-- the places that open and close are noted, the counts are those of the open windows, and no event so far is one too many
abbrev pub invariant-loop-event : goal.invariant-loop-event
invariant-loop-event l = AreWindows l.events l.limit l.counted l.opens l.closes l.event-index l.place l.opened l.closed l.tallies
