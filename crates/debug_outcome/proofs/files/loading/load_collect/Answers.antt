use Rattle.debug_outcome.specs.words.Commands.{name_as, source_as}
use Rattle.debug_outcome.proofs.Joined.{first_unloaded, later_unloaded}
use Rattle.debug_outcome.specs.files.Giving.{start_contents}
use Rattle.debug_outcome.specs.files.Wanting.{choice_files, original_bytes, start_files}
use Rattle.debug_outcome.proofs.files.loading.load_collect.Goals as goal

pub returns-in-Err-clause-came : goal.returns-in-Err-clause-came
returns-in-Err-clause-came g c =
    first_unloaded g.F.TracedFiles.leads c.args.files.now c.load_start.new.files (g.F.Files.told c.args.files.now) (start_files c.args.asked.file.now original_bytes (name_as c.args.asked.inputs)) (choice_files (source_as c.args.asked.choices))
    (g.F.Files.faults c.args.files.now) (g.F.Files.faults c.load_start.new.files) c.in-Err.stop c.in-Err.ensures.came

pub returns-in-Err-load_choices-clause-came : goal.returns-in-Err-load_choices-clause-came
returns-in-Err-load_choices-clause-came g c =
    later_unloaded g.F.TracedFiles.leads c.args.files.now c.load_choices.new.files (g.F.Files.told c.args.files.now) (start_files c.args.asked.file.now original_bytes (name_as c.args.asked.inputs)) (choice_files (source_as c.args.asked.choices)) c.load_start.new.files (start_contents c.in-Ok.start)
    (g.F.Files.told c.load_start.new.files) (g.F.Files.faults c.args.files.now) (g.F.Files.faults c.load_start.new.files) (g.F.Files.faults c.load_choices.new.files) c.in-Err-load_choices.stop c.in-Ok.ensures.told_stays c.in-Ok.ensures.count_never_falls c.in-Ok.ensures.came c.in-Err-load_choices.ensures.came
