use Rattle.run_laws.proofs.aborts.Carried.{law_of_collecting, law_of_refusals}
use Rattle.run_laws.proofs.aborts.Instances.{met_by_all}
use Rattle.run_laws.proofs.aborts.Examples.{trio_collected}
use Rattle.run_laws.proofs.aborts.laws.Goals as goal

pub returns : goal.returns
returns g c = record { collects = law_of_collecting; refused = law_of_refusals; met = met_by_all; example = trio_collected }
