use Rattle.std.proofs.Common.{◌≡◌, length, map, Some}
use Rattle.syn_order.specs.Orders.{first}
use Rattle.syn_order.specs.inner.Places.{left}
use Rattle.syn_order.proofs.Taking.{not_two, both_of_two}
use Rattle.syn_order.proofs.readiness.is_first_of_two.Goals as goal

pub returns-then-not-is_first_of : goal.returns-then-not-is_first_of
returns-then-not-is_first_of c = not_two (λ u. first (left (map (λ v. v.items) c.args.lists.now) c.args.places.now u) ≡ Some c.args.e.now) (length c.args.lists.now) c.args.a c.args.b c.is_first_of.result c.if-not-is_first_of.true c.is_first_of.ensures

pub returns : goal.returns
returns c = both_of_two (λ u. first (left (map (λ v. v.items) c.args.lists.now) c.args.places.now u) ≡ Some c.args.e.now) (length c.args.lists.now) c.args.a c.args.b c.is_first_of.result c.is_first_of-2.result c.if-not-is_first_of.false c.is_first_of.ensures c.is_first_of-2.ensures
