use Rattle.std.proofs.Common.{◌≡◌, length, map, Some}
use Rattle.syn_order.specs.Orders.{first}
use Rattle.syn_order.specs.inner.Places.{left}
use Rattle.syn_order.proofs.Taking.{each_further, each_not, each_end}
use Rattle.syn_order.proofs.readiness.is_first_of_each.Goals as goal

pub loop-t-preserved : goal.loop-t-preserved
loop-t-preserved c = each_further (λ u. first (left (map (λ v. v.items) c.args.lists.now) c.args.places.now u) ≡ Some c.args.e.now) (length c.args.lists.now) c.args.tasks.now c.loop-t.t-index _ c.is_first_of.result c.loop-t-test.true c.loop-t.invariant c.if-not-is_first_of.false c.is_first_of.ensures

pub returns-then-not-is_first_of : goal.returns-then-not-is_first_of
returns-then-not-is_first_of c = each_not (λ u. first (left (map (λ v. v.items) c.args.lists.now) c.args.places.now u) ≡ Some c.args.e.now) (length c.args.lists.now) c.args.tasks.now c.loop-t.t-index _ c.is_first_of.result c.loop-t-test.true c.if-not-is_first_of.true c.is_first_of.ensures

pub returns : goal.returns
returns c = each_end (λ u. first (left (map (λ v. v.items) c.args.lists.now) c.args.places.now u) ≡ Some c.args.e.now) (length c.args.lists.now) c.args.tasks.now c.loop-t.t-index c.loop-t-test.false c.loop-t.invariant
