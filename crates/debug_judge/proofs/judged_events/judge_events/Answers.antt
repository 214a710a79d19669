use Rattle.std.proofs.Common.{List, take, arith, sym, subst}
use Rattle.std.proofs.lemmas.List.{take_more, take_all}
use Rattle.event_machine.specs.declared.Event.{Event}
use Rattle.task_model.specs.Machine.{ProgramWithInputs}
use Rattle.task_machine.specs.Table.{setup_in}
use Rattle.feasible.proofs.Fronts.{no_end_front}
use Rattle.debug_judge.specs.JudgedLines.{IsFoundOf}
use Rattle.debug_judge.proofs.Giving.{few_given}
use Rattle.debug_judge.proofs.judged_events.judge_events.Goals as goal

pub give-requires-clause-taken : goal.give-requires-clause-taken
give-requires-clause-taken c =
    (few_given (setup_in c.args.links.now c.args.inputs.now) c.args.links.now.numbers c.args.local_bound c.args.events.now c.loop-event.event-index c.loop-event.found c.loop-event.invariant c.loop-event-test.true c.requires.few).0

pub give-requires-clause-count : goal.give-requires-clause-count
give-requires-clause-count c =
    (few_given (setup_in c.args.links.now c.args.inputs.now) c.args.links.now.numbers c.args.local_bound c.args.events.now c.loop-event.event-index c.loop-event.found c.loop-event.invariant c.loop-event-test.true c.requires.few).1

pub loop-event-preserved : goal.loop-event-preserved
loop-event-preserved c =
    let setup : ProgramWithInputs = setup_in c.args.links.now c.args.inputs.now in
    let events : List Event = c.args.events.now in
    subst (λ (es : List Event). IsFoundOf setup c.args.links.now.numbers c.args.local_bound es c.give.new.found) (sym (take_more events c.loop-event.event-index _ c.loop-event-test.true))
    (c.in_ok-give.ensures setup c.args.links.now.numbers c.args.local_bound (take c.loop-event.event-index events) c.loop-event.invariant
    (no_end_front events c.loop-event.event-index c.loop-event-test.true c.requires.end))

pub returns : goal.returns
returns c =
    subst (λ (es : List Event). IsFoundOf (setup_in c.args.links.now c.args.inputs.now) c.args.links.now.numbers c.args.local_bound es c.loop-event.found)
    (take_all c.loop-event.event-index c.args.events.now (omega arith)) c.loop-event.invariant
