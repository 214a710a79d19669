use Rattle.task_laws.proofs.invariants.Beginning.{kept_first, kept_on}
use Rattle.task_laws.proofs.invariants.Instance.{is_met}
use Rattle.task_laws.proofs.invariants.laws.Goals as goal

pub returns : goal.returns
returns c = record { first = kept_first; on = kept_on; met = is_met }
