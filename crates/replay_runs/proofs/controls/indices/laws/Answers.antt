use Rattle.replay_runs.proofs.controls.indices.Joined.{legal_units_start, units_stay, legal_variables_are_added, legal_indices_evaluate}
use Rattle.replay_runs.proofs.controls.indices.laws.Goals as goal

pub returns : goal.returns
returns c = record { starts = legal_units_start; stays = units_stay; added = legal_variables_are_added; indices = legal_indices_evaluate }
