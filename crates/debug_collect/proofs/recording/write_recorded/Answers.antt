use Rattle.std.proofs.Common.{◌≡◌}
use Rattle.ada_tree.specs.PlainProgram.{PProgram, plain_program}
use Rattle.debug_outcome.specs.Coming.{Never}
use Rattle.debug_outcome.specs.Outcomes.{writes}
use Rattle.debug_outcome.proofs.Comings.{comes_more}
use Rattle.debug_run.specs.RunOutcomes.{run_status}
use Rattle.debug_collect.specs.Recorded.{IsRecorded}
use Rattle.debug_collect.proofs.Keeping.{run_called, text_legal}
use Rattle.debug_collect.proofs.Legality.{few_tasks}
use Rattle.debug_collect.proofs.recording.write_recorded.Goals as goal

pub record-requires-clause-few : goal.record-requires-clause-few
record-requires-clause-few g c = few_tasks (plain_program c.args.program.now) c.args.types.now c.args.numbers.now c.requires.own

pub record-requires-clause-legal : goal.record-requires-clause-legal
record-requires-clause-legal g c =
    text_legal (plain_program c.args.program.now) c.requires.legal c.args.types.now c.args.numbers.now c.requires.own (plain_program c.in-Ok.text) c.in-Ok.ensures.text

pub returns-in-Ok-record : goal.returns-in-Ok-record
returns-in-Ok-record g c =
    let p : PProgram = plain_program c.args.program.now in
    comes_more (λ o. o ≡ writes c.in-Ok-record.recorded.file.items (run_status c.in-Ok-record.recorded.end))
    (IsRecorded g.C.Chooser.word g.C.Chooser.next p c.args.types.now c.args.numbers.now c.args.inputs.now c.args.choices.now c.args.turns) Never Never
    (g.K.Sink.told c.args.out.now) (g.K.Sink.told c.put_recorded.new.out) (g.K.Sink.faults c.args.out.now) (g.K.Sink.faults c.put_recorded.new.out) c.put_recorded.result
    (λ o is. run_called p c.requires.legal c.args.types.now c.args.numbers.now c.requires.own (plain_program c.in-Ok.text) c.in-Ok.ensures.text
    g.C.Chooser.word g.C.Chooser.next c.args.inputs.now c.args.choices.now c.args.turns c.in-Ok-record.recorded c.in-Ok-record.ensures o is) (λ o never. never)
    c.put_recorded.ensures
