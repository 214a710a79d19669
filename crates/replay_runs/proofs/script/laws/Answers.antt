use Rattle.replay_runs.proofs.script.Spelled.{spells, apart}
use Rattle.replay_runs.proofs.script.laws.Goals as goal

pub returns : goal.returns
returns c = record { spells = spells; apart = apart }
