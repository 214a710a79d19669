use Rattle.run_laws.proofs.collecting.Carried.{law_of_collecting}
use Rattle.run_laws.proofs.collecting.Instances.{met_by_all}
use Rattle.run_laws.proofs.collecting.Examples.{pair_collected}
use Rattle.run_laws.proofs.collecting.laws.Goals as goal

pub returns : goal.returns
returns g c = record { collects = law_of_collecting; met = met_by_all; example = pair_collected }
