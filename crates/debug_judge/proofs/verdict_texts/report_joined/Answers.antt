use Rattle.std.proofs.Common.{List, subst, refl, inl, inr}
use Rattle.ada_tree.specs.PlainProgram.{PProgram, plain_program}
use Rattle.event_machine.specs.declared.Event.{Event}
use Rattle.syn_event.specs.Numbering.{Numbering}
use Rattle.seq_file.specs.Files.{AreFit}
use Rattle.task_model.specs.Machine.{ProgramWithInputs}
use Rattle.task_machine.specs.Table.{setup_in}
use Rattle.debug_outcome.specs.Coming.{Never, Stops}
use Rattle.debug_outcome.proofs.Comings.{comes_more, stops_come, stops_more}
use Rattle.debug_sequence.specs.Sequences.{ReadsAs, IsRefusedSequence}
use Rattle.debug_judge.specs.JudgeOutcomes.{IsVerdictText, SequenceMeans}
use Rattle.debug_judge.specs.JudgedLines.{IsFoundOf}
use Rattle.debug_judge.proofs.Giving.{nothing_follows}
use Rattle.debug_judge.proofs.Ordered.{judged_by_order}
use Rattle.debug_judge.proofs.verdict_texts.report_joined.Goals as goal

pub returns-in-Err : goal.returns-in-Err
returns-in-Err g c =
    let setup : ProgramWithInputs = setup_in c.args.links.now c.args.inputs.now in
    stops_come (SequenceMeans setup c.args.links.now.numbers c.args.lines.now c.args.bound) Never (g.K.Sink.told c.args.out.now) (g.K.Sink.faults c.args.out.now) c.in-Err.stop
    (stops_more (IsRefusedSequence setup.program.names c.args.links.now.numbers c.args.lines.now) (SequenceMeans setup c.args.links.now.numbers c.args.lines.now c.args.bound) c.in-Err.stop
    (λ o refused. inr refused)
    (subst (λ (q : PProgram). Stops (IsRefusedSequence q.names c.args.links.now.numbers c.args.lines.now) c.in-Err.stop) c.program.ensures
    (subst (λ (n : Numbering). Stops (IsRefusedSequence (plain_program c.program.result.now).names n c.args.lines.now) c.in-Err.stop) c.numbers.ensures c.in-Err.ensures.refused)))

pub returns-in-Ok-judge_events : goal.returns-in-Ok-judge_events
returns-in-Ok-judge_events g c =
    let setup : ProgramWithInputs = setup_in c.args.links.now c.args.inputs.now in
    let numbers : Numbering = c.args.links.now.numbers in
    let events : List Event = c.in-Ok.events.items in
    let reads : ReadsAs c.args.lines.now numbers setup.program.names events =
    subst (λ (q : PProgram). ReadsAs c.args.lines.now numbers q.names events) c.program.ensures
    (subst (λ (n : Numbering). ReadsAs c.args.lines.now n (plain_program c.program.result.now).names events) c.numbers.ensures c.in-Ok.ensures.reads) in
    let fit : AreFit numbers events = subst (λ (n : Numbering). AreFit n events) c.numbers.ensures c.in-Ok.ensures.fit in
    comes_more (IsVerdictText setup numbers c.args.bound events) (SequenceMeans setup numbers c.args.lines.now c.args.bound) Never Never
    (g.K.Sink.told c.args.out.now) (g.K.Sink.told c.report_found.new.out) (g.K.Sink.faults c.args.out.now) (g.K.Sink.faults c.report_found.new.out) c.report_found.result
    (λ o judged. inl (record {
      events = events;
      reads = reads;
      orders = judged_by_order setup numbers c.args.bound c.args.lines.now events c.requires.short c.requires.name c.requires.tasks reads;
      judged = judged;
    })) (λ o never. never)
    (c.report_found.ensures setup c.args.bound events refl (nothing_follows events fit.end)
    (subst (λ (es : List Event). IsFoundOf setup numbers c.args.bound es c.in-Ok-judge_events.found) c.deref.ensures.value c.in-Ok-judge_events.ensures))
