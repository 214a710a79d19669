use Rattle.std.proofs.Common.{List, ℕ, subst}
use Rattle.debug_outcome.specs.Coming.{Comes}
use Rattle.debug_core.specs.ChoiceTexts.{FromList}
use Rattle.debug_core.specs.ChosenRuns.{IsRunBy}
use Rattle.debug_core.specs.inner.Started.{setup_of}
use Rattle.debug_core.proofs.chosen_runs.run_chosen.Goals as goal

pub returns-in-FromList : goal.returns-in-FromList
returns-in-FromList g c =
    rw c.in-FromList.is
    (subst
    (λ (list : List ℕ). Comes (IsRunBy (setup_of c.args.start.now) c.args.start.now.legal.numbers c.args.turns (FromList list)) (IsRunBy (setup_of c.args.start.now) c.args.start.now.legal.numbers c.args.turns (FromList list)) (g.O.Sink.told c.args.out.now) (g.O.Sink.told c.run_by.new.out) (g.O.Sink.faults c.args.out.now) (g.O.Sink.faults c.run_by.new.out) c.run_by.result)
    c.new.ensures c.run_by.ensures)

pub returns-in-FromSeed : goal.returns-in-FromSeed
returns-in-FromSeed g c = rw c.in-FromSeed.is (rw c.new-in-FromSeed.ensures at c.run_by-in-FromSeed.ensures)
