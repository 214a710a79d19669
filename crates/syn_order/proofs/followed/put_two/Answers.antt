use Rattle.std.specs.Prelude.{nat_lt}
use Rattle.common_lemmas.proofs.Numbers.{unequal}
use Rattle.common_lemmas.proofs.Results.{on_ok}
use Rattle.syn_order.proofs.Touching.{put_two_same, put_two_other}
use Rattle.syn_order.proofs.followed.put_two.Goals as goal

pub returns-then-a-b : goal.returns-then-a-b
returns-then-a-b c = λ u. put_two_same u _ _ c.args.a c.args.b (nat_lt u c.args.count) c.if-a-b.true (c.in_ok-put_one.ensures u)

pub returns : goal.returns
returns c = on_ok c.put_one-2.result (λ h u. put_two_other u _ _ _ c.args.a c.args.b (nat_lt u c.args.count) (unequal c.args.a c.args.b c.if-a-b.false) (c.in_ok-put_one.ensures u) (h u)) c.put_one-2.ensures
