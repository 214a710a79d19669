use Rattle.std.proofs.Common.{◌≡◌, length, map, Some}
use Rattle.syn_order.specs.Orders.{first}
use Rattle.syn_order.specs.inner.Places.{left}
use Rattle.syn_order.proofs.Taking.{one_iff}
use Rattle.syn_order.proofs.readiness.is_first_of_one.Goals as goal

pub returns : goal.returns
returns c = one_iff (λ u. first (left (map (λ v. v.items) c.args.lists.now) c.args.places.now u) ≡ Some c.args.e.now) (length c.args.lists.now) c.args.a c.is_first_of.result c.is_first_of.ensures
