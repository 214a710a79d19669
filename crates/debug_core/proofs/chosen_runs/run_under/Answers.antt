use Rattle.std.proofs.Common.{inl, inr}
use Rattle.debug_outcome.specs.files.Giving.{given_as}
use Rattle.debug_outcome.proofs.Comings.{comes_more, stops_come, stops_more}
use Rattle.debug_core.specs.ChoiceTexts.{AreBadChoices}
use Rattle.debug_core.specs.ChosenRuns.{IsRunBy, RunsUnder}
use Rattle.debug_core.specs.inner.Started.{choosing_of, setup_of}
use Rattle.debug_core.proofs.chosen_runs.run_under.Goals as goal

pub returns-in-Ok : goal.returns-in-Ok
returns-in-Ok g c =
    comes_more (IsRunBy (setup_of c.args.start.now) c.args.start.now.legal.numbers c.args.turns (choosing_of c.in-Ok.choosing)) (RunsUnder (setup_of c.args.start.now) c.args.start.now.legal.numbers (given_as c.args.choices.now) c.args.turns) (IsRunBy (setup_of c.args.start.now) c.args.start.now.legal.numbers c.args.turns (choosing_of c.in-Ok.choosing)) (RunsUnder (setup_of c.args.start.now) c.args.start.now.legal.numbers (given_as c.args.choices.now) c.args.turns) (g.O.Sink.told c.args.out.now) (g.O.Sink.told c.run_chosen.new.out) (g.O.Sink.faults c.args.out.now) (g.O.Sink.faults c.run_chosen.new.out) c.run_chosen.result
    (λ o is_run. inl (record { choosing = choosing_of c.in-Ok.choosing; are = c.in-Ok.ensures.choosing; called = is_run }))
    (λ o is_run. inl (record { choosing = choosing_of c.in-Ok.choosing; are = c.in-Ok.ensures.choosing; called = is_run }))
    c.run_chosen.ensures

pub returns-in-Err : goal.returns-in-Err
returns-in-Err g c =
    stops_come (RunsUnder (setup_of c.args.start.now) c.args.start.now.legal.numbers (given_as c.args.choices.now) c.args.turns) (RunsUnder (setup_of c.args.start.now) c.args.start.now.legal.numbers (given_as c.args.choices.now) c.args.turns) (g.O.Sink.told c.args.out.now) (g.O.Sink.faults c.args.out.now) c.in-Err.stop
    (stops_more (AreBadChoices (given_as c.args.choices.now)) (RunsUnder (setup_of c.args.start.now) c.args.start.now.legal.numbers (given_as c.args.choices.now) c.args.turns) c.in-Err.stop (λ o bad. inr bad) c.in-Err.ensures.cause)
