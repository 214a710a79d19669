use Rattle.std.proofs.Common.{[], ◌∷◌}
use Rattle.debug_outcome.specs.words.Commands.{name_as}
use Rattle.debug_outcome.specs.Loads.{file_named, files_named}
use Rattle.debug_outcome.proofs.Joined.{later_unloaded}
use Rattle.debug_outcome.specs.files.Wanting.{inputs_limit}
use Rattle.debug_outcome.proofs.files.loading.load_start.Goals as goal

pub returns-in-Err-load_named-clause-came : goal.returns-in-Err-load_named-clause-came
returns-in-Err-load_named-clause-came g c =
    later_unloaded g.F.TracedFiles.leads c.args.files.now c.load_named.new.files (g.F.Files.told c.args.files.now) (file_named c.args.file.now c.args.limit ∷ []) (files_named (name_as c.args.inputs) inputs_limit) c.load_file.new.files (c.in-Ok.text.items ∷ [])
    (g.F.Files.told c.load_file.new.files) (g.F.Files.faults c.args.files.now) (g.F.Files.faults c.load_file.new.files) (g.F.Files.faults c.load_named.new.files) c.in-Err-load_named.stop c.in-Ok.ensures.told_stays c.in-Ok.ensures.count_never_falls c.in-Ok.ensures.came c.in-Err-load_named.ensures.came
