use Rattle.collect_runs.proofs.starts.NoAborts.{legal_has_no_aborts}
use Rattle.collect_runs.proofs.starts.Legal.{legal_forms_are_collected}
use Rattle.collect_runs.proofs.starts.FlagsType.{legal_has_flags}
use Rattle.collect_runs.proofs.starts.Recorder.{legal_is_recorder}
use Rattle.collect_runs.proofs.starts.laws.Goals as goal

pub returns : goal.returns
returns c = record { no_aborts = legal_has_no_aborts; flags = legal_has_flags; recorder = legal_is_recorder; collected = legal_forms_are_collected }
