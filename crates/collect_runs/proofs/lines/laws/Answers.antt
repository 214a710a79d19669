use Rattle.collect_runs.proofs.lines.Texts.{records_are_texts, records_are_files}
use Rattle.collect_runs.proofs.lines.laws.Goals as goal

pub returns : goal.returns
returns c = record { texts = records_are_texts; files = records_are_files }
