use Rattle.std.proofs.Common.{inl, inr}
use Rattle.debug_outcome.specs.Coming.{Never}
use Rattle.debug_outcome.specs.files.Giving.{given_as}
use Rattle.debug_outcome.proofs.Comings.{comes_more, stops_come, stops_more}
use Rattle.debug_core.specs.ChoiceTexts.{AreBadChoices}
use Rattle.debug_core.specs.CollectRunMeaning.{RecordsBy, RecordsUnder}
use Rattle.debug_core.specs.inner.Started.{choosing_of, setup_of}
use Rattle.debug_core.proofs.collect_run_command.record_under.Goals as goal

pub returns-in-Ok : goal.returns-in-Ok
returns-in-Ok g c =
    comes_more (RecordsBy (setup_of c.args.start.now) c.args.start.now.legal.numbers c.args.turns (choosing_of c.in-Ok.choosing)) (RecordsUnder (setup_of c.args.start.now) c.args.start.now.legal.numbers (given_as c.args.choices.now) c.args.turns) Never Never
    (g.O.Sink.told c.args.out.now) (g.O.Sink.told c.record_chosen.new.out) (g.O.Sink.faults c.args.out.now) (g.O.Sink.faults c.record_chosen.new.out) c.record_chosen.result
    (λ o recorded. inl (record { choosing = choosing_of c.in-Ok.choosing; are = c.in-Ok.ensures.choosing; called = recorded })) (λ o never. never)
    c.record_chosen.ensures

pub returns-in-Err : goal.returns-in-Err
returns-in-Err g c =
    stops_come (RecordsUnder (setup_of c.args.start.now) c.args.start.now.legal.numbers (given_as c.args.choices.now) c.args.turns) Never (g.O.Sink.told c.args.out.now) (g.O.Sink.faults c.args.out.now) c.in-Err.stop
    (stops_more (AreBadChoices (given_as c.args.choices.now)) (RecordsUnder (setup_of c.args.start.now) c.args.start.now.legal.numbers (given_as c.args.choices.now) c.args.turns) c.in-Err.stop (λ o bad. inr bad) c.in-Err.ensures.cause)
