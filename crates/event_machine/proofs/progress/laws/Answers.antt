use Rattle.event_machine.proofs.progress.Runs.{told_by_events, feasible_is_admitted}
use Rattle.event_machine.proofs.progress.laws.Goals as goal

pub returns : goal.returns
returns g c = record { told = told_by_events; admitted = feasible_is_admitted }
