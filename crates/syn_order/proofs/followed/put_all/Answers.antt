use Rattle.syn_order.proofs.Touching.{all_more}
use Rattle.syn_order.proofs.followed.put_all.Goals as goal

pub loop-t-preserved : goal.loop-t-preserved
loop-t-preserved c = λ u. all_more u _ _ _ c.loop-t.t c.args.count c.loop-t-test.true (c.loop-t.invariant u) (c.in_ok-put_one.ensures u)
