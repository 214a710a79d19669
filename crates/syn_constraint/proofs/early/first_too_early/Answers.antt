use Rattle.std.proofs.Common.{pos}
use Rattle.event_machine.specs.declared.Event.TheVariants.{R}
use Rattle.syn_constraint.proofs.Steps.{seen-start, seen-break, seen-more, seen-end}
use Rattle.syn_constraint.proofs.early.first_too_early.Goals as goal

pub loop-event-init : goal.loop-event-init
loop-event-init c = seen-start c.args.events.now c.args.early.now c.args.late.now c.in_ok-seen.seen c.in_ok-seen.ensures

pub returns-then-is_unseen : goal.returns-then-is_unseen
returns-then-is_unseen c =
    seen-break c.args.events.now c.args.early.now c.args.late.now c.loop-event.event-index c.loop-event.place (R 0 0 (pos 0)) c.reach_of.result c.loop-event.seen
    c.loop-event-test.true c.loop-event.invariant c.reach_of.ensures c.if-is_unseen.ensures

pub loop-event-preserved : goal.loop-event-preserved
loop-event-preserved c =
    seen-more c.args.events.now c.args.early.now c.args.late.now c.loop-event.event-index c.loop-event.place (R 0 0 (pos 0)) c.reach_of.result c.reach_of-in-loop-event.result
    c.loop-event.seen c.note.new.self c.loop-event-test.true c.loop-event.invariant c.reach_of.ensures c.if-is_unseen.ensures c.reach_of-in-loop-event.ensures c.in_ok-note.ensures

pub returns : goal.returns
returns c =
    seen-end c.args.events.now c.args.early.now c.args.late.now c.loop-event.event-index c.loop-event.place c.loop-event.seen c.loop-event-test.false c.loop-event.invariant
