use Rattle.replay_runs.proofs.controls.bodies.Well.{legal_is_well_made}
use Rattle.replay_runs.proofs.controls.bodies.Unjoined.{legal_tasks_join_nobody}
use Rattle.replay_runs.proofs.controls.bodies.Whole.{legal_has_body, is_met}
use Rattle.replay_runs.proofs.controls.bodies.laws.Goals as goal

pub returns : goal.returns
returns c = record { well = legal_is_well_made; joins = legal_tasks_join_nobody; has = legal_has_body; met = is_met }
