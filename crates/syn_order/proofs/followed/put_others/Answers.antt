use Rattle.std.specs.Prelude.{nat_lt}
use Rattle.syn_order.proofs.Touching.{no_others, other_more}
use Rattle.syn_order.proofs.followed.put_others.Goals as goal

pub loop-c-init : goal.loop-c-init
loop-c-init c = λ u. no_others u c.args.a c.args.b _ (nat_lt u c.args.count)

pub loop-c-preserved : goal.loop-c-preserved
loop-c-preserved c = λ u. other_more u c.args.callers.now c.loop-c.c-index _ _ _ _ c.args.a c.args.b c.args.count c.loop-c-test.true (c.loop-c.invariant u) (c.in_ok-put_other.ensures u)
