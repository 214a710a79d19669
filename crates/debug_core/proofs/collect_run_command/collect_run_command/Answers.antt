use Rattle.debug_outcome.specs.words.Commands.{name_as, source_as}
use Rattle.debug_outcome.specs.words.Words.{AsksCollectRun}
use Rattle.debug_outcome.specs.Coming.{Never}
use Rattle.debug_outcome.specs.files.Giving.{given_as, inputs_in}
use Rattle.debug_core.proofs.Calling.{both_there, not_loaded}
use Rattle.debug_core.proofs.Recording.{collect_run_loaded}
use Rattle.debug_core.proofs.collect_run_command.collect_run_command.Goals as goal

pub returns-in-Ok : goal.returns-in-Ok
returns-in-Ok g c =
    collect_run_loaded g.F.TracedFiles.leads c.args.files.now c.load_collect.new.files (g.F.Files.told c.args.files.now) (g.F.Files.faults c.args.files.now) (g.F.Files.faults c.load_collect.new.files) c.args.asked.file.now c.in-Ok.found.start.text.items (name_as c.args.asked.inputs) (inputs_in c.in-Ok.found.start) (both_there _ _ c.in-Ok.found.start.inputs c.args.asked.inputs c.in-Ok.ensures.named)
    (g.O.Sink.told c.args.out.now) (g.O.Sink.told c.record_files.new.out) (g.O.Sink.faults c.args.out.now) (g.O.Sink.faults c.record_files.new.out) c.record_files.result (source_as c.args.asked.choices) (given_as c.in-Ok.found.choices) c.args.asked.turns c.in-Ok.ensures.chosen c.in-Ok.ensures.came c.record_files.ensures

pub returns-in-Err : goal.returns-in-Err
returns-in-Err g c =
    not_loaded g.F.TracedFiles.leads c.args.files.now c.load_collect.new.files (g.F.Files.told c.args.files.now) (g.F.Files.faults c.args.files.now) (g.F.Files.faults c.load_collect.new.files) (AsksCollectRun c.args.asked.file.now (name_as c.args.asked.inputs) (source_as c.args.asked.choices) c.args.asked.turns)
    (λ loads. Never) (g.O.Sink.told c.args.out.now) (g.O.Sink.faults c.args.out.now) c.in-Err.stop c.in-Err.ensures.came
