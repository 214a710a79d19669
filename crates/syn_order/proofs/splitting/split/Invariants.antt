use Rattle.std.proofs.Common.{◌≡◌, ◌<◌, ℕ, length, map, take}
use Rattle.event_machine.specs.progress.Known.{known_at_start, known}
use Rattle.syn_event.specs.Numbering.{owner_of}
use Rattle.syn_order.specs.Orders.{AreAdmitted, split}
use Rattle.syn_order.specs.inner.Lists.{at_place}
use Rattle.syn_order.specs.inner.Callers.{AreCallers}
use Rattle.syn_order.proofs.splitting.split.Given as goal

-- the events up to here are admitted, and the lists have them
abbrev pub invariant-loop-e : goal.invariant-loop-e
invariant-loop-e l = record {
  counted : l.at ≡ l.e-index;
  admitted : AreAdmitted (owner_of l.numbers) (known_at_start (length l.numbers.tasks)) (take l.e-index l.events);
  is_known : l.followed.progress ≡ known (owner_of l.numbers) (length l.numbers.tasks) (take l.e-index l.events);
  callers : AreCallers l.followed.progress (map (λ v. v.items) l.followed.callers.items);
  many : length l.lists.items ≡ length l.numbers.tasks;
  lists : (u : ℕ) → u < length l.numbers.tasks →
      at_place (map (λ v. v.items) l.lists.items) u ≡ split (owner_of l.numbers) (known_at_start (length l.numbers.tasks)) (take l.e-index l.events) u;
}
