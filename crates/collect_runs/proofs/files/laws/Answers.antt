use Rattle.collect_runs.proofs.files.Texts.{records_make_files}
use Rattle.collect_runs.proofs.files.Sequences.{runs_are_recorded}
use Rattle.collect_runs.proofs.files.Machines.{machines_are_recorded}
use Rattle.collect_runs.proofs.files.laws.Goals as goal

pub returns : goal.returns
returns c = record { texts = records_make_files; runs = runs_are_recorded; machines = machines_are_recorded }
