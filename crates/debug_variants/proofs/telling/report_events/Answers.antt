use Rattle.std.proofs.Common.{inl, inr, sym, ◌∙◌, refl}
use Rattle.task_model.specs.Machine.{ProgramWithInputs}
use Rattle.task_machine.specs.Table.{setup_in}
use Rattle.debug_outcome.specs.Coming.{Never}
use Rattle.debug_outcome.proofs.Comings.{comes_more}
use Rattle.debug_judge.specs.JudgeOutcomes.{IsVerdictText}
use Rattle.debug_judge.proofs.Giving.{nothing_follows}
use Rattle.debug_variants.specs.VariantsOutcomes.{IsVariantsText, VariantsOf}
use Rattle.debug_variants.proofs.Verdicts.{feasible_found, other_found}
use Rattle.debug_variants.proofs.telling.report_events.Goals as goal

pub judge_events-requires-clause-end : goal.judge_events-requires-clause-end
judge_events-requires-clause-end g c = nothing_follows c.args.events.now c.requires.end

pub tell_places-requires-clause-feasible : goal.tell_places-requires-clause-feasible
tell_places-requires-clause-feasible g c =
    feasible_found (setup_in c.args.links.now c.args.inputs.now) c.args.links.now.numbers c.args.bound c.args.events.now c.in-Ok.found.verdict c.in-Ok.ensures.verdict
    (sym c.is_feasible.ensures ∙ c.if-is_feasible.true)

pub report_found-requires-clause-numbers : goal.report_found-requires-clause-numbers
report_found-requires-clause-numbers g c = sym c.in-Ok.ensures.numbers_are

pub report_found-requires-clause-settled : goal.report_found-requires-clause-settled
report_found-requires-clause-settled g c = c.in-Ok.ensures.settled

pub returns-then-is_feasible : goal.returns-then-is_feasible
returns-then-is_feasible g c =
    let setup : ProgramWithInputs = setup_in c.args.links.now c.args.inputs.now in
    comes_more (IsVariantsText setup c.args.links.now.numbers c.args.bound c.args.events.now) (VariantsOf setup c.args.links.now.numbers c.args.bound c.args.events.now)
    (IsVariantsText setup c.args.links.now.numbers c.args.bound c.args.events.now) (VariantsOf setup c.args.links.now.numbers c.args.bound c.args.events.now)
    (g.K.Sink.told c.args.out.now) (g.K.Sink.told c.tell_places.new.out) (g.K.Sink.faults c.args.out.now) (g.K.Sink.faults c.tell_places.new.out) c.tell_places.result
    (λ o told. inl told) (λ o told. inl told) c.tell_places.ensures

pub returns : goal.returns
returns g c =
    let setup : ProgramWithInputs = setup_in c.args.links.now c.args.inputs.now in
    comes_more (IsVerdictText setup c.args.links.now.numbers c.args.bound c.args.events.now) (VariantsOf setup c.args.links.now.numbers c.args.bound c.args.events.now)
    Never (VariantsOf setup c.args.links.now.numbers c.args.bound c.args.events.now)
    (g.K.Sink.told c.args.out.now) (g.K.Sink.told c.report_found.new.out) (g.K.Sink.faults c.args.out.now) (g.K.Sink.faults c.report_found.new.out) c.report_found.result
    (λ o judged. inr (record {
      other = other_found setup c.args.links.now.numbers c.args.bound c.args.events.now c.in-Ok.found.verdict c.in-Ok.ensures.verdict (sym c.is_feasible.ensures ∙ c.if-is_feasible.false);
      judged = judged;
    })) (λ o never. absurd never)
    (c.report_found.ensures setup c.args.bound c.args.events.now refl (nothing_follows c.args.events.now c.requires.end) c.in-Ok.ensures)
