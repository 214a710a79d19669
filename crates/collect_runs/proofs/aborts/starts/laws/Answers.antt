use Rattle.collect_runs.proofs.aborts.starts.Naming.{legal_has_names}
use Rattle.collect_runs.proofs.aborts.starts.Flags.{legal_is_recorder}
use Rattle.collect_runs.proofs.aborts.starts.laws.Goals as goal

pub returns : goal.returns
returns c = record { named = legal_has_names; recorder = legal_is_recorder }
