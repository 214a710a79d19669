use Rattle.std.proofs.Common.{◌≡◌, ◌+◌, true, None, ap, ◌∙◌, sym, subst, refl, arith, pos}
use Rattle.std.specs.Prelude.{◌&&◌}
use Rattle.event_machine.specs.declared.Event.TheVariants.{R}
use Rattle.syn_constraint.specs.declared.surplus.Opening.{Opening}
use Rattle.syn_constraint.specs.inner.Places.{matches_at}
use Rattle.syn_constraint.specs.inner.Openings.{is_over_at, PassesClosed}
use Rattle.syn_constraint.proofs.Windows.{total-within}
use Rattle.syn_constraint.proofs.Opened.{opened-start, opened-break, opened-more, opened-end}
use Rattle.syn_constraint.proofs.surplus.first_surplus.Goals as goal

pub loop-event-init : goal.loop-event-init
loop-event-init c =
    opened-start c.args.events.now c.args.limit c.args.counted.now c.args.opens.now c.args.closes.now c.in_ok-closed.closed c.new-openings.result.items c.in_ok-closed.ensures c.new-openings.ensures.items

pub one_more_if-count-requires : goal.one_more_if-count-requires
one_more_if-count-requires c =
    omega (arith, c.loop-event.invariant.counted, total-within (matches_at c.args.events.now c.args.counted.now None) c.loop-event.event-index, c.loop-event-test.true, c.requires.short)

pub returns-then-is_surplus : goal.returns-then-is_surplus
returns-then-is_surplus c =
    opened-break c.args.events.now c.args.limit c.args.counted.now c.args.opens.now c.args.closes.now c.loop-event.event-index c.loop-event.place c.loop-event.count c.one_more_if-count.result c.loop-event.oldest
    c.pass_closed-oldest.result c.is_everywhere-counts.result (R 0 0 (pos 0)) c.reach_of.result c.reach_of-in-loop-event.result c.loop-event.closed c.note.new.self c.loop-event.openings.items c.requires.alike
    c.loop-event-test.true c.loop-event.invariant c.reach_of.ensures c.in_ok-note.ensures c.reach_of-in-loop-event.ensures c.is_everywhere-counts.ensures c.one_more_if-count.ensures
    (subst (λ t. PassesClosed t c.note.new.self c.args.limit c.one_more_if-count.result c.loop-event.oldest c.pass_closed-oldest.result) c.deref.ensures.value c.pass_closed-oldest.ensures)
    (sym (c.if-is_surplus.ensures ∙ ap (λ t. c.is_everywhere-counts.result && is_over_at t c.args.limit c.one_more_if-count.result c.pass_closed-oldest.result) c.deref-in-loop-event.ensures.value))

pub loop-event-preserved : goal.loop-event-preserved
loop-event-preserved c =
    let opening : Opening = record { reach = c.reach_of-in-loop-event-2.result; place = c.loop-event.place + 1; counted = c.one_more_if-count.result } in
    opened-more c.args.events.now c.args.limit c.args.counted.now c.args.opens.now c.args.closes.now c.loop-event.event-index c.loop-event.place c.loop-event.count c.one_more_if-count.result c.loop-event.oldest
    c.pass_closed-oldest.result c.is_everywhere-counts.result (R 0 0 (pos 0)) c.reach_of.result c.reach_of-in-loop-event.result c.loop-event.closed c.note.new.self c.loop-event.openings.items opening
    c.keep.new.openings.items c.requires.alike c.loop-event-test.true c.loop-event.invariant c.reach_of.ensures c.in_ok-note.ensures c.reach_of-in-loop-event.ensures c.is_everywhere-counts.ensures
    c.one_more_if-count.ensures
    (subst (λ t. PassesClosed t c.note.new.self c.args.limit c.one_more_if-count.result c.loop-event.oldest c.pass_closed-oldest.result) c.deref.ensures.value c.pass_closed-oldest.ensures)
    (sym (c.if-is_surplus.ensures ∙ ap (λ t. c.is_everywhere-counts.result && is_over_at t c.args.limit c.one_more_if-count.result c.pass_closed-oldest.result) c.deref-in-loop-event.ensures.value))
    c.reach_of-in-loop-event-2.ensures refl refl c.in_ok-keep.ensures

pub returns : goal.returns
returns c =
    opened-end c.args.events.now c.args.limit c.args.counted.now c.args.opens.now c.args.closes.now c.loop-event.event-index c.loop-event.place c.loop-event.count c.loop-event.oldest c.loop-event.closed
    c.loop-event.openings.items c.loop-event-test.false c.loop-event.invariant
