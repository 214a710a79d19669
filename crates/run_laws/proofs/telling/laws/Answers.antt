use Rattle.run_laws.proofs.telling.Instances.{knows_runs, met_by_events}
use Rattle.run_laws.proofs.telling.laws.Goals as goal

pub returns : goal.returns
returns g c = record { knows = knows_runs; met = met_by_events }
