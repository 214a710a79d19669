use Rattle.std.proofs.Common.{[], ◌∷◌}
use Rattle.debug_outcome.specs.words.Words.{AsksMigrate}
use Rattle.debug_outcome.specs.Coming.{Never}
use Rattle.debug_core.proofs.Calling.{all_loaded, not_loaded}
use Rattle.debug_core.proofs.migrate_command.migrate_command.Goals as goal

pub returns-in-Ok : goal.returns-in-Ok
returns-in-Ok g c =
    all_loaded g.F.TracedFiles.leads c.args.files.now c.load_replay.new.files (g.F.Files.told c.args.files.now) (g.F.Files.faults c.args.files.now) (g.F.Files.faults c.load_replay.new.files) (AsksMigrate c.args.asked.file.now c.args.asked.sequence.now) (c.in-Ok.found.text.items ∷ c.in-Ok.found.sequence.items ∷ []) (g.O.Sink.told c.args.out.now) (g.O.Sink.told c.migrate_files.new.out) (g.O.Sink.faults c.args.out.now) (g.O.Sink.faults c.migrate_files.new.out)
    c.migrate_files.result c.in-Ok.ensures.came c.migrate_files.ensures

pub returns-in-Err : goal.returns-in-Err
returns-in-Err g c =
    not_loaded g.F.TracedFiles.leads c.args.files.now c.load_replay.new.files (g.F.Files.told c.args.files.now) (g.F.Files.faults c.args.files.now) (g.F.Files.faults c.load_replay.new.files) (AsksMigrate c.args.asked.file.now c.args.asked.sequence.now) (λ loads. Never) (g.O.Sink.told c.args.out.now) (g.O.Sink.faults c.args.out.now) c.in-Err.stop c.in-Err.ensures.came
