use Rattle.std.proofs.Common.{[], ◌∷◌}
use Rattle.debug_outcome.specs.Loads.{file_named}
use Rattle.debug_outcome.proofs.Joined.{first_unloaded, later_unloaded}
use Rattle.debug_outcome.specs.files.Giving.{replay_contents}
use Rattle.debug_outcome.specs.files.Wanting.{replay_files, constraints_limit}
use Rattle.debug_outcome.proofs.files.loading.load_require.Goals as goal

pub returns-in-Err-clause-came : goal.returns-in-Err-clause-came
returns-in-Err-clause-came g c =
    first_unloaded g.F.TracedFiles.leads c.args.files.now c.load_replay.new.files (g.F.Files.told c.args.files.now) (replay_files c.args.asked.file.now c.args.asked.sequence.now) (file_named c.args.asked.constraints.now constraints_limit ∷ [])
    (g.F.Files.faults c.args.files.now) (g.F.Files.faults c.load_replay.new.files) c.in-Err.stop c.in-Err.ensures.came

pub returns-in-Err-load_file-clause-came : goal.returns-in-Err-load_file-clause-came
returns-in-Err-load_file-clause-came g c =
    later_unloaded g.F.TracedFiles.leads c.args.files.now c.load_file.new.files (g.F.Files.told c.args.files.now) (replay_files c.args.asked.file.now c.args.asked.sequence.now) (file_named c.args.asked.constraints.now constraints_limit ∷ []) c.load_replay.new.files (replay_contents c.in-Ok.sequenced)
    (g.F.Files.told c.load_replay.new.files) (g.F.Files.faults c.args.files.now) (g.F.Files.faults c.load_replay.new.files) (g.F.Files.faults c.load_file.new.files) c.in-Err-load_file.stop c.in-Ok.ensures.told_stays c.in-Ok.ensures.count_never_falls c.in-Ok.ensures.came c.in-Err-load_file.ensures.came
