use Rattle.std.proofs.Common.{inl, inr}
use Rattle.std.specs.Prelude.{nat_lt}
use Rattle.common_lemmas.proofs.Results.{on_ok}
use Rattle.syn_order.proofs.Touching.{other_out, other_in}
use Rattle.syn_order.proofs.followed.put_other.Goals as goal

pub returns-then-c-a : goal.returns-then-c-a
returns-then-c-a c = λ u. other_out u _ c.args.c c.args.a c.args.b (nat_lt u c.args.count) (inl c.if-c-a.true)

pub returns-then-c-b : goal.returns-then-c-b
returns-then-c-b c = λ u. other_out u _ c.args.c c.args.a c.args.b (nat_lt u c.args.count) (inr c.if-c-b.true)

pub returns : goal.returns
returns c = on_ok c.put_one.result (λ h u. other_in u _ _ c.args.c c.args.a c.args.b (nat_lt u c.args.count) c.if-c-a.false c.if-c-b.false (h u)) c.put_one.ensures
