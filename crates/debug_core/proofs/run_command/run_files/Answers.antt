use Rattle.std.proofs.Common.{inl}
use Rattle.debug_outcome.specs.files.Giving.{given_as, inputs_in}
use Rattle.debug_outcome.proofs.Comings.{comes_more}
use Rattle.debug_core.specs.ChosenRuns.{RunsUnder}
use Rattle.debug_core.specs.RunMeaning.{RunMeans}
use Rattle.debug_core.specs.inner.Started.{setup_of}
use Rattle.debug_core.proofs.run_command.run_files.Goals as goal

pub returns-in-Ok : goal.returns-in-Ok
returns-in-Ok g c =
    comes_more (RunsUnder (setup_of c.in-Ok.start) c.in-Ok.start.legal.numbers (given_as c.args.found.now.choices) c.args.turns) (RunMeans c.args.found.now.start.text.items (inputs_in c.args.found.now.start) (given_as c.args.found.now.choices) c.args.turns) (RunsUnder (setup_of c.in-Ok.start) c.in-Ok.start.legal.numbers (given_as c.args.found.now.choices) c.args.turns) (RunMeans c.args.found.now.start.text.items (inputs_in c.args.found.now.start) (given_as c.args.found.now.choices) c.args.turns) (g.O.Sink.told c.args.out.now) (g.O.Sink.told c.run_under.new.out) (g.O.Sink.faults c.args.out.now) (g.O.Sink.faults c.run_under.new.out) c.run_under.result
    (λ o runs. inl (record { setup = setup_of c.in-Ok.start; numbers = c.in-Ok.start.legal.numbers; is_start = c.in-Ok.ensures.start; runs = runs }))
    (λ o runs. inl (record { setup = setup_of c.in-Ok.start; numbers = c.in-Ok.start.legal.numbers; is_start = c.in-Ok.ensures.start; runs = runs }))
    c.run_under.ensures
