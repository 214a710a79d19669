use Rattle.debug_outcome.specs.files.Giving.{require_contents}
use Rattle.debug_outcome.specs.words.Words.{AsksRequire}
use Rattle.debug_outcome.specs.Coming.{Never}
use Rattle.debug_core.proofs.Calling.{all_loaded, not_loaded}
use Rattle.debug_core.proofs.require_command.require_command.Goals as goal

pub returns-in-Ok : goal.returns-in-Ok
returns-in-Ok g c =
    all_loaded g.F.TracedFiles.leads c.args.files.now c.load_require.new.files (g.F.Files.told c.args.files.now) (g.F.Files.faults c.args.files.now) (g.F.Files.faults c.load_require.new.files) (AsksRequire c.args.asked.file.now c.args.asked.sequence.now c.args.asked.constraints.now)
    (require_contents c.in-Ok.found) (g.O.Sink.told c.args.out.now) (g.O.Sink.told c.require_files.new.out) (g.O.Sink.faults c.args.out.now) (g.O.Sink.faults c.require_files.new.out)
    c.require_files.result c.in-Ok.ensures.came c.require_files.ensures

pub returns-in-Err : goal.returns-in-Err
returns-in-Err g c =
    not_loaded g.F.TracedFiles.leads c.args.files.now c.load_require.new.files (g.F.Files.told c.args.files.now) (g.F.Files.faults c.args.files.now) (g.F.Files.faults c.load_require.new.files) (AsksRequire c.args.asked.file.now c.args.asked.sequence.now c.args.asked.constraints.now)
    (λ loads. Never) (g.O.Sink.told c.args.out.now) (g.O.Sink.faults c.args.out.now) c.in-Err.stop c.in-Err.ensures.came
