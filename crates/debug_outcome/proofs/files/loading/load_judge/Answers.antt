use Rattle.std.proofs.Common.{[], ◌∷◌}
use Rattle.debug_outcome.specs.words.Commands.{name_as}
use Rattle.debug_outcome.specs.Loads.{file_named}
use Rattle.debug_outcome.proofs.Joined.{first_unloaded, later_unloaded}
use Rattle.debug_outcome.specs.files.Giving.{start_contents}
use Rattle.debug_outcome.specs.files.Wanting.{start_files, original_bytes, sequence_limit}
use Rattle.debug_outcome.proofs.files.loading.load_judge.Goals as goal

pub returns-in-Err-clause-came : goal.returns-in-Err-clause-came
returns-in-Err-clause-came g c =
    first_unloaded g.F.TracedFiles.leads c.args.files.now c.load_start.new.files (g.F.Files.told c.args.files.now) (start_files c.args.asked.file.now original_bytes (name_as c.args.asked.inputs)) (file_named c.args.asked.sequence.now sequence_limit ∷ [])
    (g.F.Files.faults c.args.files.now) (g.F.Files.faults c.load_start.new.files) c.in-Err.stop c.in-Err.ensures.came

pub returns-in-Err-load_file-clause-came : goal.returns-in-Err-load_file-clause-came
returns-in-Err-load_file-clause-came g c =
    later_unloaded g.F.TracedFiles.leads c.args.files.now c.load_file.new.files (g.F.Files.told c.args.files.now) (start_files c.args.asked.file.now original_bytes (name_as c.args.asked.inputs)) (file_named c.args.asked.sequence.now sequence_limit ∷ []) c.load_start.new.files (start_contents c.in-Ok.start)
    (g.F.Files.told c.load_start.new.files) (g.F.Files.faults c.args.files.now) (g.F.Files.faults c.load_start.new.files) (g.F.Files.faults c.load_file.new.files) c.in-Err-load_file.stop c.in-Ok.ensures.told_stays c.in-Ok.ensures.count_never_falls c.in-Ok.ensures.came c.in-Err-load_file.ensures.came
