use Rattle.std.proofs.Common.{inl, inr}
use Rattle.debug_outcome.specs.Coming.{Never}
use Rattle.debug_outcome.specs.files.Giving.{given_as}
use Rattle.debug_outcome.proofs.Comings.{comes_more, stops_come, stops_more}
use Rattle.debug_core.specs.ChoiceTexts.{AreBadChoices}
use Rattle.debug_core.specs.ChosenEvents.{GoesOnBy, GoesOnUnder}
use Rattle.debug_core.specs.inner.Started.{choosing_of, setup_of}
use Rattle.debug_core.proofs.chosen_events.go_on_under.Goals as goal

pub returns-in-Ok : goal.returns-in-Ok
returns-in-Ok g c =
    comes_more (GoesOnBy (setup_of c.args.start.now) c.args.start.now.legal.numbers c.args.lines.now c.args.most.count c.args.most.bound (choosing_of c.in-Ok.choosing))
    (GoesOnUnder (setup_of c.args.start.now) c.args.start.now.legal.numbers c.args.lines.now (given_as c.args.choices.now) c.args.most.count c.args.most.bound) Never Never
    (g.O.Sink.told c.args.out.now) (g.O.Sink.told c.go_on_chosen.new.out) (g.O.Sink.faults c.args.out.now) (g.O.Sink.faults c.go_on_chosen.new.out) c.go_on_chosen.result
    (λ o goes_on. inl (record { choosing = choosing_of c.in-Ok.choosing; are = c.in-Ok.ensures.choosing; called = goes_on })) (λ o never. never) c.go_on_chosen.ensures

pub returns-in-Err : goal.returns-in-Err
returns-in-Err g c =
    stops_come (GoesOnUnder (setup_of c.args.start.now) c.args.start.now.legal.numbers c.args.lines.now (given_as c.args.choices.now) c.args.most.count c.args.most.bound) Never (g.O.Sink.told c.args.out.now) (g.O.Sink.faults c.args.out.now) c.in-Err.stop
    (stops_more (AreBadChoices (given_as c.args.choices.now)) (GoesOnUnder (setup_of c.args.start.now) c.args.start.now.legal.numbers c.args.lines.now (given_as c.args.choices.now) c.args.most.count c.args.most.bound) c.in-Err.stop (λ o bad. inr bad) c.in-Err.ensures.cause)
