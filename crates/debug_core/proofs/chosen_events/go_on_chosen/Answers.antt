use Rattle.std.proofs.Common.{List, ℕ, subst}
use Rattle.debug_outcome.specs.Coming.{Comes, Never}
use Rattle.debug_core.specs.ChoiceTexts.{FromList}
use Rattle.debug_core.specs.ChosenEvents.{GoesOnBy}
use Rattle.debug_core.specs.inner.Started.{setup_of}
use Rattle.debug_core.proofs.chosen_events.go_on_chosen.Goals as goal

pub returns-in-FromList : goal.returns-in-FromList
returns-in-FromList g c =
    rw c.in-FromList.is
    (subst
    (λ (list : List ℕ). Comes (GoesOnBy (setup_of c.args.start.now) c.args.start.now.legal.numbers c.args.lines.now c.args.most.count c.args.most.bound (FromList list)) Never (g.O.Sink.told c.args.out.now) (g.O.Sink.told c.go_on_by.new.out) (g.O.Sink.faults c.args.out.now) (g.O.Sink.faults c.go_on_by.new.out) c.go_on_by.result)
    c.new.ensures c.go_on_by.ensures)

pub returns-in-FromSeed : goal.returns-in-FromSeed
returns-in-FromSeed g c = rw c.in-FromSeed.is (rw c.new-in-FromSeed.ensures at c.go_on_by-in-FromSeed.ensures)
