use Rattle.std.proofs.Common.{◌≡◌, ◌∙◌, ap, sym, length, map, arith}
use Rattle.syn_event.specs.Numbering.{Numbering}
use Rattle.syn_order.specs.inner.Places.{left}
use Rattle.syn_order.proofs.Taking.{used_up_further, first_left_is}
use Rattle.syn_order.proofs.joining.first_not_used_up.Goals as goal

pub loop-t-preserved : goal.loop-t-preserved
loop-t-preserved c = used_up_further (left (map (λ v. v.items) c.args.lists.now) c.args.places.now) c.loop-t.t c.loop-t.invariant (sym c.is_left.ensures ∙ c.if-is_left.false)

pub returns-then-is_left-clause-first : goal.returns-then-is_left-clause-first
returns-then-is_left-clause-first c =
    let count : length c.as_slice.result.now ≡ length c.args.numbers.now.tasks = ap length c.as_slice.ensures.value ∙ ap (λ (n : Numbering). length n.tasks) c.numbers.view_is in
    first_left_is (length c.args.numbers.now.tasks) (left (map (λ v. v.items) c.args.lists.now) c.args.places.now) c.loop-t.t (omega (arith, count, c.loop-t-test.true)) c.loop-t.invariant (sym c.is_left.ensures ∙ c.if-is_left.true)

pub returns-clause-used_up : goal.returns-clause-used_up
returns-clause-used_up c =
    let count : length c.as_slice.result.now ≡ length c.args.numbers.now.tasks = ap length c.as_slice.ensures.value ∙ ap (λ (n : Numbering). length n.tasks) c.numbers.view_is in
    λ q u l. c.loop-t.invariant u (omega (arith, count, l, c.loop-t-test.false))
