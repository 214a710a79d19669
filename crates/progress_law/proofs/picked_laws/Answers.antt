use Rattle.progress_law.proofs.Picked.{picked_is_run}
use Rattle.progress_law.proofs.Runs.{picked_events_tell}
use Rattle.progress_law.proofs.picked_laws.Goals as goal

pub returns : goal.returns
returns g c = record { runs = picked_is_run; told = picked_events_tell }
