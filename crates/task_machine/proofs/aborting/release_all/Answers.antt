use Rattle.event_machine.specs.Effects.{released}
use Rattle.task_model.specs.TaskOps.{task_ops}
use Rattle.task_machine.proofs.Mapping.{map_more}
use Rattle.task_machine.proofs.aborting.release_all.Goals as goal

pub loop-seat-preserved : goal.loop-seat-preserved
loop-seat-preserved c =
    map_more (released task_ops c.args.x) c.args.seats.now c.loop-seat.seats c.loop-seat.seat-index _ _
    c.loop-seat-test.true c.loop-seat.invariant c.release.ensures
