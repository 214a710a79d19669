use Rattle.debug_outcome.specs.words.Commands.{name_as, source_as}
use Rattle.debug_outcome.specs.words.Words.{AsksContinue}
use Rattle.debug_outcome.specs.files.Giving.{given_as, inputs_in}
use Rattle.debug_outcome.specs.Coming.{Never}
use Rattle.debug_core.proofs.Calling.{both_there, continue_loaded, not_loaded}
use Rattle.debug_core.proofs.continue_command.continue_command.Goals as goal

pub continue_files-requires-clause-within : goal.continue_files-requires-clause-within
continue_files-requires-clause-within g c = c.in-Ok.ensures.came.is_so.are.0.within

pub returns-in-Ok : goal.returns-in-Ok
returns-in-Ok g c =
    continue_loaded g.F.TracedFiles.leads c.args.files.now c.load_continue.new.files (g.F.Files.told c.args.files.now) (g.F.Files.faults c.args.files.now) (g.F.Files.faults c.load_continue.new.files) c.args.asked.judged.file.now c.in-Ok.found.judged.start.text.items (name_as c.args.asked.judged.inputs) (inputs_in c.in-Ok.found.judged.start) (both_there _ _ c.in-Ok.found.judged.start.inputs c.args.asked.judged.inputs c.in-Ok.ensures.named)
    (g.O.Sink.told c.args.out.now) (g.O.Sink.told c.continue_files.new.out) (g.O.Sink.faults c.args.out.now) (g.O.Sink.faults c.continue_files.new.out) c.continue_files.result c.args.asked.judged.sequence.now c.in-Ok.found.judged.sequence.items (source_as c.args.asked.choices) (given_as c.in-Ok.found.choices) c.args.asked.count c.args.asked.judged.bound c.in-Ok.ensures.chosen c.in-Ok.ensures.came c.continue_files.ensures

pub returns-in-Err : goal.returns-in-Err
returns-in-Err g c =
    not_loaded g.F.TracedFiles.leads c.args.files.now c.load_continue.new.files (g.F.Files.told c.args.files.now) (g.F.Files.faults c.args.files.now) (g.F.Files.faults c.load_continue.new.files) (AsksContinue c.args.asked.judged.file.now (name_as c.args.asked.judged.inputs) c.args.asked.judged.sequence.now (source_as c.args.asked.choices) c.args.asked.count c.args.asked.judged.bound)
    (λ loads. Never) (g.O.Sink.told c.args.out.now) (g.O.Sink.faults c.args.out.now) c.in-Err.stop c.in-Err.ensures.came
