use Rattle.std.proofs.Common.{List, ℕ, [], ◌∷◌, subst}
use Rattle.debug_outcome.specs.words.Words.{AsksCollect}
use Rattle.debug_outcome.specs.Coming.{Comes, Never}
use Rattle.debug_core.specs.CollectMeaning.{CollectMeans}
use Rattle.debug_core.proofs.Calling.{all_loaded, not_loaded}
use Rattle.debug_core.proofs.collect_command.collect_command.Goals as goal

pub returns-in-Ok : goal.returns-in-Ok
returns-in-Ok g c =
    all_loaded g.F.TracedFiles.leads c.args.files.now c.load_file.new.files (g.F.Files.told c.args.files.now) (g.F.Files.faults c.args.files.now) (g.F.Files.faults c.load_file.new.files) (AsksCollect c.args.file.now) (c.in-Ok.text.items ∷ []) (g.O.Sink.told c.args.out.now) (g.O.Sink.told c.collect_text.new.out) (g.O.Sink.faults c.args.out.now) (g.O.Sink.faults c.collect_text.new.out)
    c.collect_text.result c.in-Ok.ensures.came
    (subst (λ (text : List ℕ). Comes (CollectMeans text) Never (g.O.Sink.told c.args.out.now) (g.O.Sink.told c.collect_text.new.out) (g.O.Sink.faults c.args.out.now) (g.O.Sink.faults c.collect_text.new.out) c.collect_text.result) c.deref.ensures.value c.collect_text.ensures)

pub returns-in-Err : goal.returns-in-Err
returns-in-Err g c =
    not_loaded g.F.TracedFiles.leads c.args.files.now c.load_file.new.files (g.F.Files.told c.args.files.now) (g.F.Files.faults c.args.files.now) (g.F.Files.faults c.load_file.new.files) (AsksCollect c.args.file.now) (λ loads. Never) (g.O.Sink.told c.args.out.now) (g.O.Sink.faults c.args.out.now) c.in-Err.stop c.in-Err.ensures.came
