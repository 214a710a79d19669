use Rattle.task_laws.proofs.legal.literals.Indices.{literals-have-values, indices-are-literals}
use Rattle.task_laws.proofs.legal.literals.Coloured.{coloured-is-met}
use Rattle.task_laws.proofs.legal.literals.laws.Goals as goal

pub returns : goal.returns
returns c = record { values = literals-have-values; indices = indices-are-literals; met = coloured-is-met }
