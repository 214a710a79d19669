use Rattle.std.proofs.Common.{◌≡◌, drop}
use Rattle.debug_run.specs.texts.RunText.{task_line, task_lines, lines_at}
use Rattle.debug_run.proofs.texts.Lining.{HasLines}
use Rattle.debug_run.proofs.texts.run_text.put_tasks.Given as goal

-- the lines so far, and those of the tasks that are left, are all lines; no fault was met
abbrev pub invariant-loop-t : goal.invariant-loop-t
invariant-loop-t g l =
    HasLines (g.K.Sink.told l.initial.out) (g.K.Sink.told l.out) (task_lines l.names l.tasks) (lines_at (task_line l.names) l.t (drop l.t l.tasks))
    × (g.K.Sink.faults l.out ≡ g.K.Sink.faults l.initial.out)
