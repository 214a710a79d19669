use Rattle.std.proofs.Common.{◌≡◌, length, take}
use Rattle.event_machine.specs.progress.Known.{known_at_start, known}
use Rattle.syn_event.specs.Numbering.{owner_of}
use Rattle.syn_order.specs.Orders.{AreAdmitted}
use Rattle.syn_order.proofs.exchanging.follow.Given as goal

-- the events up to here are admitted
abbrev pub invariant-loop-e : goal.invariant-loop-e
invariant-loop-e l = record {
  counted : l.at ≡ l.e-index;
  admitted : AreAdmitted (owner_of l.numbers) (known_at_start (length l.numbers.tasks)) (take l.e-index l.events);
  is_known : l.progress ≡ known (owner_of l.numbers) (length l.numbers.tasks) (take l.e-index l.events);
}
