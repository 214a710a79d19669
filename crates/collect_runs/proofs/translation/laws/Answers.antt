use Rattle.collect_runs.proofs.translation.Carried.{collect_translates, collect_is_closed, collect_steps, collect_raises, collect_keeps_variables, collect_starts}
use Rattle.collect_runs.proofs.translation.Instance.{met_by_each}
use Rattle.collect_runs.proofs.translation.laws.Goals as goal

pub returns : goal.returns
returns c = record { translates = collect_translates; closed = collect_is_closed; steps = collect_steps; raises = collect_raises; variables = collect_keeps_variables; starts = collect_starts; met = met_by_each }
