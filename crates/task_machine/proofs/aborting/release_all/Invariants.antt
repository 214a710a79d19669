use Rattle.std.proofs.Common.{◌≡◌, map, take, drop, ◌++◌}
use Rattle.event_machine.specs.Effects.{released}
use Rattle.task_model.specs.TaskOps.{task_ops}
use Rattle.task_machine.proofs.aborting.release_all.Given as goal

-- the tasks gone by are released
abbrev pub invariant-loop-seat : goal.invariant-loop-seat
invariant-loop-seat l =
    l.seats ≡ map (released task_ops l.x) (take l.seat-index l.initial.seats) ++ drop l.seat-index l.initial.seats
