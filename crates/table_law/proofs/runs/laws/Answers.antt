use Rattle.table_law.proofs.runs.Always.{always_stands, always_goes_on}
use Rattle.table_law.proofs.runs.Bodies.{bodies_permit}
use Rattle.table_law.proofs.runs.Instance.{example_runs, example_has}
use Rattle.table_law.proofs.runs.laws.Goals as goal

pub returns : goal.returns
returns c = record { stands = always_stands; goes_on = always_goes_on; met = example_runs; bodies = bodies_permit; has = example_has }
