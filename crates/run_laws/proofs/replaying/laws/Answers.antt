use Rattle.run_laws.proofs.replaying.Instances.{met_by_all}
use Rattle.run_laws.proofs.replaying.Carried.{law_of_replaying}
use Rattle.run_laws.proofs.replaying.laws.Goals as goal

pub returns : goal.returns
returns g c = record { controlled = law_of_replaying; met = met_by_all }
