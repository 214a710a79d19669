use Rattle.std.proofs.Common.{◌≡◌, ◌&&◌, ◌∙◌, ap, sym, arith, length}
use Rattle.event_machine.specs.progress.Known.{touches}
use Rattle.syn_event.specs.Numbering.{Numbering, owner_of}
use Rattle.syn_order.proofs.Neighbours.{apart_further, apart_at_end, not_apart}
use Rattle.syn_order.proofs.exchanging.are_apart.Goals as goal

pub loop-t-preserved : goal.loop-t-preserved
loop-t-preserved c =
    apart_further (λ u. touches (owner_of c.args.numbers.now) c.args.progress.now c.args.e.now u && touches (owner_of c.args.numbers.now) c.args.progress.now c.args.f.now u)
    c.loop-t.t c.loop-t.invariant (sym c.is_shared.ensures ∙ c.if-is_shared.false)

pub returns-then-is_shared : goal.returns-then-is_shared
returns-then-is_shared c =
    let count : length c.as_slice.result.now ≡ length c.args.numbers.now.tasks = ap length c.as_slice.ensures.value ∙ ap (λ (n : Numbering). length n.tasks) c.numbers.view_is in
    not_apart (λ u. touches (owner_of c.args.numbers.now) c.args.progress.now c.args.e.now u && touches (owner_of c.args.numbers.now) c.args.progress.now c.args.f.now u)
    (length c.args.numbers.now.tasks) c.loop-t.t (omega (arith, count, c.loop-t-test.true)) (sym c.is_shared.ensures ∙ c.if-is_shared.true)

pub returns : goal.returns
returns c =
    let count : length c.as_slice.result.now ≡ length c.args.numbers.now.tasks = ap length c.as_slice.ensures.value ∙ ap (λ (n : Numbering). length n.tasks) c.numbers.view_is in
    apart_at_end (λ u. touches (owner_of c.args.numbers.now) c.args.progress.now c.args.e.now u && touches (owner_of c.args.numbers.now) c.args.progress.now c.args.f.now u)
    (length c.args.numbers.now.tasks) c.loop-t.t (omega (arith, count, c.loop-t-test.false)) c.loop-t.invariant
