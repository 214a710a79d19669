use Rattle.std.proofs.Common.{map, refl}
use Rattle.syn_order.specs.inner.Places.{left}
use Rattle.syn_order.proofs.Taking.{left_further}
use Rattle.syn_order.proofs.places.take_firsts.Goals as goal

pub loop-t-init : goal.loop-t-init
loop-t-init c = record { many = c.requires; taken = λ u. refl }

pub loop-t-preserved : goal.loop-t-preserved
loop-t-preserved c = record {
  many = c.take_first.ensures.count;
  taken = λ u. left_further (left (map (λ v. v.items) c.args.lists.now) c.args.places.now u) (left (map (λ v. v.items) c.args.lists.now) c.loop-t.places u) _
      c.args.tasks.now c.loop-t.t-index _ u c.loop-t-test.true (c.loop-t.invariant.taken u) (c.take_first.ensures.taken u);
}
