use Rattle.std.proofs.Common.{ℕ, List, sym, subst, length, map}
use Rattle.event_machine.specs.declared.Event.{Event}
use Rattle.syn_event.specs.Numbering.{owner_of}
use Rattle.syn_order.specs.Orders.{list_at, IsPicked}
use Rattle.syn_order.specs.inner.Callers.{AreTouched}
use Rattle.syn_order.specs.inner.Places.{left}
use Rattle.syn_order.proofs.Following.{known_tasks}
use Rattle.syn_order.proofs.Taking.{Picks, picks_further, left_taken, fewer_left}
use Rattle.syn_order.proofs.joining.take_all.Goals as goal

pub put_touched-requires-clause-tasks : goal.put_touched-requires-clause-tasks
put_touched-requires-clause-tasks c =
    known_tasks (owner_of c.args.numbers.now) (length c.args.numbers.now.tasks) c.loop-e.events.items c.loop-e.followed.progress c.loop-e.invariant.picks.is_known

pub loop-e-preserved : goal.loop-e-preserved
loop-e-preserved c =
    let owner = owner_of c.args.numbers.now in
    let n = length c.args.numbers.now.tasks in
    let lists = map (λ v. v.items) c.args.lists.now in
    let k = c.loop-e.followed.progress in
    let h = c.loop-e.invariant in
    let sized = known_tasks owner n c.loop-e.events.items k h.picks.is_known in
    let picked = subst (λ (m : ℕ). IsPicked owner m k (left lists c.loop-e.places) c.in-Some.e) c.requires.tasks c.in-Some.ensures.picked in
    let touched = subst (AreTouched owner k c.in-Some.e) (sym c.deref.ensures.value) c.in_ok-put_touched.ensures in
    let less = left_taken owner n k (left lists c.loop-e.places) (left lists c.take_firsts.new.places) c.in-Some.e c.deref.result.now sized touched c.take_firsts.ensures.taken in
    record {
      many = c.take_firsts.ensures.count;
      callers = c.in_ok-advance.ensures.callers;
      picks = subst (λ (es : List Event). Picks owner n (list_at lists) (left lists c.take_firsts.new.places) c.advance.new.self.progress es) (sym c.in_ok-push.ensures.items)
          (picks_further owner n (list_at lists) (left lists c.loop-e.places) (left lists c.take_firsts.new.places) k c.advance.new.self.progress c.loop-e.events.items c.in-Some.e h.picks picked
          c.in_ok-advance.ensures.known less);
    }

pub loop-e-smaller : goal.loop-e-smaller
loop-e-smaller c =
    let owner = owner_of c.args.numbers.now in
    let n = length c.args.numbers.now.tasks in
    let lists = map (λ v. v.items) c.args.lists.now in
    let k = c.loop-e.followed.progress in
    let sized = known_tasks owner n c.loop-e.events.items k c.loop-e.invariant.picks.is_known in
    let picked = subst (λ (m : ℕ). IsPicked owner m k (left lists c.loop-e.places) c.in-Some.e) c.requires.tasks c.in-Some.ensures.picked in
    let touched = subst (AreTouched owner k c.in-Some.e) (sym c.deref.ensures.value) c.in_ok-put_touched.ensures in
    fewer_left owner n k (left lists c.loop-e.places) (left lists c.take_firsts.new.places) c.in-Some.e sized picked
    (left_taken owner n k (left lists c.loop-e.places) (left lists c.take_firsts.new.places) c.in-Some.e c.deref.result.now sized touched c.take_firsts.ensures.taken)
