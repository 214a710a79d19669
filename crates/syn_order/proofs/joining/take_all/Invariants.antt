use Rattle.std.proofs.Common.{◌≡◌, length, map}
use Rattle.syn_event.specs.Numbering.{owner_of}
use Rattle.syn_order.specs.Orders.{list_at}
use Rattle.syn_order.specs.inner.Callers.{AreCallers}
use Rattle.syn_order.specs.inner.Places.{left}
use Rattle.syn_order.proofs.Picking.{total}
use Rattle.syn_order.proofs.Taking.{Picks}
use Rattle.syn_order.proofs.joining.take_all.Given as goal

-- the events so far are picked, and this is left
abbrev pub invariant-loop-e : goal.invariant-loop-e
invariant-loop-e l = record {
  many : length l.places ≡ length l.lists;
  callers : AreCallers l.followed.progress (map (λ v. v.items) l.followed.callers.items);
  picks : Picks (owner_of l.numbers) (length l.numbers.tasks) (list_at (map (λ v. v.items) l.lists)) (left (map (λ v. v.items) l.lists) l.places) l.followed.progress l.events.items;
}

-- fewer events are left
abbrev pub decreases-loop-e : goal.decreases-loop-e
decreases-loop-e l = total (owner_of l.numbers) (length l.numbers.tasks) (left (map (λ v. v.items) l.lists) l.places) (length l.numbers.tasks)
