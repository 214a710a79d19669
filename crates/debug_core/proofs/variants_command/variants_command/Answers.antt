use Rattle.debug_outcome.specs.words.Commands.{name_as}
use Rattle.debug_outcome.specs.words.Words.{AsksVariants}
use Rattle.debug_outcome.specs.files.Giving.{inputs_in}
use Rattle.debug_core.specs.Answers.{GrowsFor}
use Rattle.debug_core.proofs.Calling.{both_there, variants_loaded, not_loaded}
use Rattle.debug_core.proofs.variants_command.variants_command.Goals as goal

pub returns-in-Ok : goal.returns-in-Ok
returns-in-Ok g c =
    variants_loaded g.F.TracedFiles.leads c.args.files.now c.load_judge.new.files (g.F.Files.told c.args.files.now) (g.F.Files.faults c.args.files.now) (g.F.Files.faults c.load_judge.new.files) c.args.asked.file.now c.in-Ok.found.start.text.items (name_as c.args.asked.inputs) (inputs_in c.in-Ok.found.start) (both_there _ _ c.in-Ok.found.start.inputs c.args.asked.inputs c.in-Ok.ensures.named)
    (g.O.Sink.told c.args.out.now) (g.O.Sink.told c.variants_files.new.out) (g.O.Sink.faults c.args.out.now) (g.O.Sink.faults c.variants_files.new.out) c.variants_files.result c.args.asked.sequence.now c.in-Ok.found.sequence.items c.args.asked.bound c.in-Ok.ensures.came c.variants_files.ensures

pub returns-in-Err : goal.returns-in-Err
returns-in-Err g c =
    not_loaded g.F.TracedFiles.leads c.args.files.now c.load_judge.new.files (g.F.Files.told c.args.files.now) (g.F.Files.faults c.args.files.now) (g.F.Files.faults c.load_judge.new.files) (AsksVariants c.args.asked.file.now (name_as c.args.asked.inputs) c.args.asked.sequence.now c.args.asked.bound)
    (λ loads. GrowsFor (AsksVariants c.args.asked.file.now (name_as c.args.asked.inputs) c.args.asked.sequence.now c.args.asked.bound) (g.F.Files.told c.args.files.now) (g.F.Files.faults c.args.files.now) (g.F.Files.faults c.load_judge.new.files) loads)
    (g.O.Sink.told c.args.out.now) (g.O.Sink.faults c.args.out.now) c.in-Err.stop c.in-Err.ensures.came
