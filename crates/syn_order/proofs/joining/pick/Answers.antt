use Rattle.std.proofs.Common.{length, map, arith}
use Rattle.syn_event.specs.Numbering.{owner_of}
use Rattle.syn_order.specs.inner.Places.{left}
use Rattle.syn_order.proofs.Taking.{none_before, none_further, picked_at}
use Rattle.syn_order.proofs.joining.pick.Goals as goal

pub loop-t-init : goal.loop-t-init
loop-t-init c = none_before (owner_of c.args.numbers.now) (length c.args.lists.now) c.args.followed.now.progress (left (map (λ v. v.items) c.args.lists.now) c.args.places.now)

pub loop-t-preserved : goal.loop-t-preserved
loop-t-preserved c = none_further (owner_of c.args.numbers.now) (length c.args.lists.now) c.args.followed.now.progress (left (map (λ v. v.items) c.args.lists.now) c.args.places.now) c.loop-t.t (omega arith) c.loop-t.invariant
    (c.ready_at.ensures.none c.in-None.is)

pub returns-in-Some-clause-picked : goal.returns-in-Some-clause-picked
returns-in-Some-clause-picked c = picked_at (owner_of c.args.numbers.now) (length c.args.lists.now) c.args.followed.now.progress (left (map (λ v. v.items) c.args.lists.now) c.args.places.now) c.loop-t.t c.in-Some.e (omega arith) c.loop-t.invariant
    c.in-Some.ensures.first c.in-Some.ensures.ready

pub returns-clause-none : goal.returns-clause-none
returns-clause-none c = λ q u l. c.loop-t.invariant u (omega (arith, l))
