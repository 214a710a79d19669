use Rattle.collect_runs.proofs.aborts.recorder.Taking.{recorders_take_notes}
use Rattle.collect_runs.proofs.aborts.recorder.laws.Goals as goal

pub returns : goal.returns
returns c = record { takes = recorders_take_notes }
