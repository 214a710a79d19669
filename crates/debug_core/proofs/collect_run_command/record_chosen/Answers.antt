use Rattle.std.proofs.Common.{List, ℕ, subst}
use Rattle.debug_outcome.specs.Coming.{Comes, Never}
use Rattle.debug_core.specs.ChoiceTexts.{FromList}
use Rattle.debug_core.specs.CollectRunMeaning.{RecordsBy}
use Rattle.debug_core.specs.inner.Started.{setup_of}
use Rattle.debug_core.proofs.collect_run_command.record_chosen.Goals as goal

pub returns-in-FromList : goal.returns-in-FromList
returns-in-FromList g c =
    rw c.in-FromList.is
    (subst
    (λ (list : List ℕ). Comes (RecordsBy (setup_of c.args.start.now) c.args.start.now.legal.numbers c.args.turns (FromList list)) Never (g.O.Sink.told c.args.out.now) (g.O.Sink.told c.record_by.new.out) (g.O.Sink.faults c.args.out.now) (g.O.Sink.faults c.record_by.new.out) c.record_by.result)
    c.new.ensures c.record_by.ensures)

pub returns-in-FromSeed : goal.returns-in-FromSeed
returns-in-FromSeed g c = rw c.in-FromSeed.is (rw c.new-in-FromSeed.ensures at c.record_by-in-FromSeed.ensures)
