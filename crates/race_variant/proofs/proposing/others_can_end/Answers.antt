use Rattle.std.proofs.Common.{◌∙◌, ◌<◌, pred, length, sym, arith}
use Rattle.common_lemmas.proofs.Numbers.{below_pred}
use Rattle.race_variant.specs.inner.Passing.{seen_at}
use Rattle.race_variant.proofs.Ending.{ends_next, ends_not}
use Rattle.race_variant.proofs.proposing.others_can_end.Goals as goal

pub loop-t-preserved : goal.loop-t-preserved
loop-t-preserved c =
    ends_next (seen_at c.args.j.now.tasks c.args.settled.now) c.loop-t.t c.loop-t.auto.t c.loop-t.invariant (sym c.can_end.ensures ∙ c.if-not-can_end.false)

pub returns-then-not-can_end : goal.returns-then-not-can_end
returns-then-not-can_end c =
    let less : c.loop-t.t < length c.args.numbers.now.tasks = omega (arith, c.count_of-count.ensures.is) in
    sym (ends_not (seen_at c.args.j.now.tasks c.args.settled.now) (pred (length c.args.numbers.now.tasks)) c.loop-t.t c.loop-t.auto.t
    (below_pred (length c.args.numbers.now.tasks) c.loop-t.t less) (sym c.can_end.ensures ∙ c.if-not-can_end.true))
