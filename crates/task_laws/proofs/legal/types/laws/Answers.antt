use Rattle.task_laws.proofs.legal.types.TaskTypes.{tasks-have-types}
use Rattle.task_laws.proofs.legal.literals.Coloured.{coloured-is-met}
use Rattle.task_laws.proofs.legal.types.laws.Goals as goal

pub returns : goal.returns
returns c = record { tasks = tasks-have-types; met = (coloured-is-met.rules, coloured-is-met.placed, coloured-is-met.small) }
