use Rattle.normal_laws.proofs.existence.statements.Normal.{bodies_name_simply, legal_tasks_name_simply, names_stay_simple}
use Rattle.normal_laws.proofs.existence.statements.laws.Goals as goal

pub returns : goal.returns
returns c = record { bodies = bodies_name_simply; legal = legal_tasks_name_simply; stays = names_stay_simple }
