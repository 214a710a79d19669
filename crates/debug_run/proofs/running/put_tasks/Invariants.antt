use Rattle.std.proofs.Common.{◌≡◌, drop}
use Rattle.task_model.specs.picked_runs.Outputs.{output_of}
use Rattle.debug_run.specs.texts.RunText.{task_part, task_parts, lines_at}
use Rattle.debug_run.proofs.texts.Lining.{HasLines}
use Rattle.debug_run.proofs.running.put_tasks.Given as goal

-- the lines so far, and those of the tasks that are left, are all lines; no fault was met
abbrev pub invariant-loop-t : goal.invariant-loop-t
invariant-loop-t g l =
    HasLines (g.K.Sink.told l.initial.out) (g.K.Sink.told l.out) (task_parts l.names (output_of l.machine) l.tasks) (lines_at (task_part l.names (output_of l.machine)) l.t (drop l.t l.tasks))
    × (g.K.Sink.faults l.out ≡ g.K.Sink.faults l.initial.out)
