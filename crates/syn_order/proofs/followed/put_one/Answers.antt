use Rattle.std.proofs.Common.{refl, arith}
use Rattle.syn_order.proofs.Touching.{put_one_in, put_one_out}
use Rattle.syn_order.proofs.followed.put_one.Goals as goal

pub returns-then-t-count : goal.returns-then-t-count
returns-then-t-count c = λ u. put_one_out u c.args.touched.now.items _ c.args.t c.args.count (omega arith) refl

pub returns : goal.returns
returns c = λ u. put_one_in u c.args.touched.now.items _ c.args.t c.args.count (omega arith) c.in_ok-push.ensures.items
