use Rattle.collect_runs.proofs.aborts.originals.Programs.{legal_texts_collect_programs}
use Rattle.collect_runs.proofs.aborts.originals.Example.{is_met}
use Rattle.collect_runs.proofs.aborts.originals.laws.Goals as goal

pub returns : goal.returns
returns c = record { texts = legal_texts_collect_programs; met = is_met }
