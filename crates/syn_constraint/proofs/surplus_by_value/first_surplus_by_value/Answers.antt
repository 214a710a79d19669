use Rattle.std.proofs.Common.{get_or, pos}
use Rattle.event_machine.specs.declared.Event.{Event}
use Rattle.event_machine.specs.declared.Event.TheVariants.{R}
use Rattle.syn_constraint.proofs.Tallied.{windows-start, closed-next, windows-room, windows-break, windows-more, windows-end, single-reach}
use Rattle.syn_constraint.proofs.surplus_by_value.first_surplus_by_value.Goals as goal

pub loop-event-init : goal.loop-event-init
loop-event-init c =
    windows-start c.args.events.now c.args.limit c.args.counted.now c.args.opens.now c.args.closes.now c.in_ok-opened.opened c.in_ok-closed.closed c.in_ok-tallies.tallies
    c.in_ok-opened.ensures c.in_ok-closed.ensures c.in_ok-tallies.ensures

pub count_more-requires-clause-single : goal.count_more-requires-clause-single
count_more-requires-clause-single c =
    single-reach c.args.counted.now (get_or c.args.events.now c.loop-event.event-index (R 0 0 (pos 0))) c.reach_of-in-loop-event.result c.requires.varied c.reach_of-in-loop-event.ensures

pub count_more-requires-clause-room : goal.count_more-requires-clause-room
count_more-requires-clause-room c =
    windows-room c.args.events.now c.args.limit c.args.counted.now c.args.opens.now c.args.closes.now c.loop-event.event-index c.loop-event.place c.loop-event.opened c.loop-event.closed c.note.new.self c.loop-event.tallies
    c.loop-event.invariant
    (closed-next c.args.events.now c.args.limit c.args.counted.now c.args.opens.now c.args.closes.now c.loop-event.event-index c.loop-event.place (R 0 0 (pos 0)) c.reach_of.result c.loop-event.opened c.loop-event.closed
    c.note.new.self c.loop-event.tallies c.loop-event-test.true c.loop-event.invariant c.reach_of.ensures c.in_ok-note.ensures)

pub returns-then-limit-count : goal.returns-then-limit-count
returns-then-limit-count c =
    windows-break c.args.events.now c.args.limit c.args.counted.now c.args.opens.now c.args.closes.now c.loop-event.event-index c.loop-event.place c.in_ok-count.count (R 0 0 (pos 0)) c.reach_of-in-loop-event.result
    c.loop-event.opened c.loop-event.closed c.note.new.self c.loop-event.tallies c.loop-event-test.true c.loop-event.invariant
    (closed-next c.args.events.now c.args.limit c.args.counted.now c.args.opens.now c.args.closes.now c.loop-event.event-index c.loop-event.place (R 0 0 (pos 0)) c.reach_of.result c.loop-event.opened c.loop-event.closed
    c.note.new.self c.loop-event.tallies c.loop-event-test.true c.loop-event.invariant c.reach_of.ensures c.in_ok-note.ensures)
    c.reach_of-in-loop-event.ensures c.in_ok-count.ensures.count c.if-limit-count.true

pub loop-event-preserved : goal.loop-event-preserved
loop-event-preserved c =
    windows-more c.args.events.now c.args.limit c.args.counted.now c.args.opens.now c.args.closes.now c.loop-event.event-index c.loop-event.place c.in_ok-count.count (R 0 0 (pos 0)) c.reach_of-in-loop-event.result
    c.reach_of-in-loop-event-2.result c.loop-event.opened c.note-in-loop-event.new.self c.loop-event.closed c.note.new.self c.loop-event.tallies c.count_more.new.tallies c.requires.varied c.loop-event-test.true
    c.loop-event.invariant
    (closed-next c.args.events.now c.args.limit c.args.counted.now c.args.opens.now c.args.closes.now c.loop-event.event-index c.loop-event.place (R 0 0 (pos 0)) c.reach_of.result c.loop-event.opened c.loop-event.closed
    c.note.new.self c.loop-event.tallies c.loop-event-test.true c.loop-event.invariant c.reach_of.ensures c.in_ok-note.ensures)
    c.reach_of-in-loop-event.ensures c.in_ok-count.ensures.count c.if-limit-count.false c.in_ok-count.ensures.live c.in_ok-count.ensures.places c.reach_of-in-loop-event-2.ensures c.in_ok-note-2.ensures

pub returns : goal.returns
returns c =
    windows-end c.args.events.now c.args.limit c.args.counted.now c.args.opens.now c.args.closes.now c.loop-event.event-index c.loop-event.place c.loop-event.opened c.loop-event.closed c.loop-event.tallies
    c.loop-event-test.false c.loop-event.invariant
