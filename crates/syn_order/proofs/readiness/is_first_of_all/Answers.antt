use Rattle.std.proofs.Common.{◌≡◌, subst, length, map, Some, arith}
use Rattle.std.specs.Prelude.{◌↔◌, IsTrue}
use Rattle.syn_order.specs.Orders.{first}
use Rattle.syn_order.specs.inner.Places.{left}
use Rattle.syn_order.proofs.Taking.{all_further, all_not, all_end}
use Rattle.syn_order.proofs.readiness.is_first_of_all.Goals as goal

pub loop-t-preserved : goal.loop-t-preserved
loop-t-preserved c = all_further (λ u. first (left (map (λ v. v.items) c.args.lists.now) c.args.places.now u) ≡ Some c.args.e.now) c.loop-t.t c.is_event.result c.loop-t.invariant c.if-not-is_event.false
    (subst (λ o. IsTrue c.is_event.result ↔ (o ≡ Some c.args.e.now)) c.first_left.ensures c.is_event.ensures)

pub returns-then-not-is_event : goal.returns-then-not-is_event
returns-then-not-is_event c = all_not (λ u. first (left (map (λ v. v.items) c.args.lists.now) c.args.places.now u) ≡ Some c.args.e.now) (length c.args.lists.now) c.loop-t.t c.is_event.result (omega arith) c.if-not-is_event.true
    (subst (λ o. IsTrue c.is_event.result ↔ (o ≡ Some c.args.e.now)) c.first_left.ensures c.is_event.ensures)

pub returns : goal.returns
returns c = all_end (λ u. first (left (map (λ v. v.items) c.args.lists.now) c.args.places.now u) ≡ Some c.args.e.now) (length c.args.lists.now) c.loop-t.t (omega arith) c.loop-t.invariant
