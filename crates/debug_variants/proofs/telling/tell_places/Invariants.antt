use Rattle.std.proofs.Common.{◌≡◌, ◌+◌}
use Rattle.task_machine.specs.Table.{setup_in}
use Rattle.debug_variants.specs.inner.Placing.{AreToldTo}
use Rattle.debug_variants.proofs.telling.tell_places.Given as goal

-- the places of the events gone by are told, and the judge stands for these events
abbrev pub invariant-loop-event : goal.invariant-loop-event
invariant-loop-event g l = record {
  told : AreToldTo (setup_in l.fn.links l.fn.inputs) l.fn.links.numbers l.fn.bound l.events l.event-index l.judge (g.K.Sink.told l.fn.out) (g.K.Sink.told l.out) (g.K.Sink.faults l.fn.out) (g.K.Sink.faults l.out);
  number : l.number ≡ l.event-index + 1;
}
