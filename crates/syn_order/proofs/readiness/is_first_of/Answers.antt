use Rattle.std.proofs.Common.{◌≡◌, subst, length, map, Some, arith}
use Rattle.std.specs.Prelude.{◌↔◌, IsTrue}
use Rattle.syn_order.specs.Orders.{first}
use Rattle.syn_order.specs.inner.Places.{left}
use Rattle.syn_order.proofs.Taking.{is_past, is_there}
use Rattle.syn_order.proofs.readiness.is_first_of.Goals as goal

pub returns-then-t-lists : goal.returns-then-t-lists
returns-then-t-lists c = is_past (first (left (map (λ v. v.items) c.args.lists.now) c.args.places.now c.args.t) ≡ Some c.args.e.now) (length c.args.lists.now) c.args.t (omega arith)

pub returns : goal.returns
returns c = is_there (first (left (map (λ v. v.items) c.args.lists.now) c.args.places.now c.args.t) ≡ Some c.args.e.now) c.is_event.result (length c.args.lists.now) c.args.t (omega arith)
    (subst (λ o. IsTrue c.is_event.result ↔ (o ≡ Some c.args.e.now)) c.first_left.ensures c.is_event.ensures)
