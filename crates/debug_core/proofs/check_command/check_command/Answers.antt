use Rattle.std.proofs.Common.{List, ℕ, [], ◌∷◌, subst}
use Rattle.debug_outcome.specs.words.Words.{AsksCheck}
use Rattle.debug_outcome.specs.Coming.{Comes, Never}
use Rattle.debug_core.specs.CheckMeaning.{CheckMeans}
use Rattle.debug_core.proofs.Calling.{all_loaded, not_loaded}
use Rattle.debug_core.proofs.check_command.check_command.Goals as goal

pub returns-in-Ok : goal.returns-in-Ok
returns-in-Ok g c =
    all_loaded g.F.TracedFiles.leads c.args.files.now c.load_file.new.files (g.F.Files.told c.args.files.now) (g.F.Files.faults c.args.files.now) (g.F.Files.faults c.load_file.new.files) (AsksCheck c.args.file.now) (c.in-Ok.text.items ∷ []) (g.O.Sink.told c.args.out.now) (g.O.Sink.told c.check_text.new.out) (g.O.Sink.faults c.args.out.now) (g.O.Sink.faults c.check_text.new.out)
    c.check_text.result c.in-Ok.ensures.came
    (subst (λ (text : List ℕ). Comes (CheckMeans text) Never (g.O.Sink.told c.args.out.now) (g.O.Sink.told c.check_text.new.out) (g.O.Sink.faults c.args.out.now) (g.O.Sink.faults c.check_text.new.out) c.check_text.result) c.deref.ensures.value c.check_text.ensures)

pub returns-in-Err : goal.returns-in-Err
returns-in-Err g c =
    not_loaded g.F.TracedFiles.leads c.args.files.now c.load_file.new.files (g.F.Files.told c.args.files.now) (g.F.Files.faults c.args.files.now) (g.F.Files.faults c.load_file.new.files) (AsksCheck c.args.file.now) (λ loads. Never) (g.O.Sink.told c.args.out.now) (g.O.Sink.faults c.args.out.now) c.in-Err.stop c.in-Err.ensures.came
