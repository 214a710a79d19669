use Rattle.run_laws.proofs.imitation.Carried.{law_of_imitation, law_of_fine_tasks, met_by_all}
use Rattle.run_laws.proofs.imitation.laws.Goals as goal

pub returns : goal.returns
returns g c = record { same = law_of_imitation; fine = law_of_fine_tasks; met = met_by_all }
