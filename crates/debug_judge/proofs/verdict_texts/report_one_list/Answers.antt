use Rattle.std.proofs.Common.{Err, sym, subst, refl, inl, inr}
use Rattle.task_model.specs.Machine.{ProgramWithInputs}
use Rattle.task_machine.specs.Table.{setup_in}
use Rattle.debug_outcome.specs.Coming.{Comes, Never, stop_by}
use Rattle.debug_outcome.specs.declared.stopping.Stop.{Stop}
use Rattle.debug_outcome.proofs.Comings.{comes_more, stops_come, stops_more}
use Rattle.debug_outcome.specs.sequences.BadSequences.{IsBadSequence, refusal_of_sequence}
use Rattle.debug_outcome.proofs.sequences.Telling.{stops_sequence}
use Rattle.debug_judge.specs.JudgeOutcomes.{IsVerdictText, SequenceMeans}
use Rattle.debug_judge.specs.JudgedLines.{AreFound, FailsBy}
use Rattle.debug_judge.proofs.Giving.{nothing_follows}
use Rattle.debug_judge.proofs.Ordered.{no_lists}
use Rattle.debug_judge.proofs.verdict_texts.report_one_list.Goals as goal

pub report_found-requires-clause-numbers : goal.report_found-requires-clause-numbers
report_found-requires-clause-numbers g c = sym c.in-Ok.ensures.found.found_of.numbers_are

pub report_found-requires-clause-settled : goal.report_found-requires-clause-settled
report_found-requires-clause-settled g c = c.in-Ok.ensures.found.found_of.settled

pub returns-in-Ok : goal.returns-in-Ok
returns-in-Ok g c =
    let setup : ProgramWithInputs = setup_in c.args.links.now c.args.inputs.now in
    let of : AreFound setup c.args.links.now.numbers c.args.bound c.args.lines.now c.in-Ok.found = c.in-Ok.ensures.found in
    comes_more (IsVerdictText setup c.args.links.now.numbers c.args.bound of.events) (SequenceMeans setup c.args.links.now.numbers c.args.lines.now c.args.bound) Never Never
    (g.K.Sink.told c.args.out.now) (g.K.Sink.told c.report_found.new.out) (g.K.Sink.faults c.args.out.now) (g.K.Sink.faults c.report_found.new.out) c.report_found.result
    (λ o judged. inl (record {
      events = of.events;
      reads = inl of.reads;
      orders = no_lists setup c.args.links.now.numbers c.args.bound c.args.lines.now of.events of.reads;
      judged = judged;
    })) (λ o never. never)
    (c.report_found.ensures setup c.args.bound of.events refl (nothing_follows of.events of.reads.fit.end) of.found_of)

pub returns-in-Err-Seq : goal.returns-in-Err-Seq
returns-in-Err-Seq g c =
    let setup : ProgramWithInputs = setup_in c.args.links.now c.args.inputs.now in
    subst
    (λ (stop : Stop). Comes (SequenceMeans setup c.args.links.now.numbers c.args.lines.now c.args.bound) Never (g.K.Sink.told c.args.out.now) (g.K.Sink.told c.args.out.now) (g.K.Sink.faults c.args.out.now)
    (g.K.Sink.faults c.args.out.now) (Err stop))
    (sym c.sequence_failure.ensures)
    (stops_come (SequenceMeans setup c.args.links.now.numbers c.args.lines.now c.args.bound) Never (g.K.Sink.told c.args.out.now) (g.K.Sink.faults c.args.out.now) (stop_by (refusal_of_sequence c.in-Err-Seq.error))
    (stops_more (IsBadSequence setup.program.names c.args.links.now.numbers c.args.lines.now) (SequenceMeans setup c.args.links.now.numbers c.args.lines.now c.args.bound) (stop_by (refusal_of_sequence c.in-Err-Seq.error))
    (λ o bad. inr (inl (c.requires.format, bad)))
    (stops_sequence setup.program.names c.args.links.now.numbers c.args.lines.now c.in-Err-Seq.error
    (subst (FailsBy setup c.args.links.now.numbers c.args.lines.now) c.in-Err-Seq.field-0-is c.in-Err-Seq.ensures.fault))))
