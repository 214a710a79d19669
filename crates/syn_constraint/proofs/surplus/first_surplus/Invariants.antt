use Rattle.syn_constraint.proofs.Opened.{AreOpened}
use Rattle.syn_constraint.proofs.surplus.first_surplus.Given as goal

-- the openings are kept, those that are passed over are closed, and no event so far is one too many
abbrev pub invariant-loop-event : goal.invariant-loop-event
invariant-loop-event l = AreOpened l.events l.limit l.counted l.opens l.closes l.event-index l.place l.count l.oldest l.closed l.openings.items
