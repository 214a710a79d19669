use Rattle.collect_runs.proofs.aborts.translation.Carried.{abort_translates, abort_is_closed, abort_steps, abort_raises, abort_keeps_variables, abort_starts}
use Rattle.collect_runs.proofs.aborts.translation.laws.Goals as goal

pub returns : goal.returns
returns c = record { translates = abort_translates; closed = abort_is_closed; steps = abort_steps; raises = abort_raises; variables = abort_keeps_variables; starts = abort_starts }
