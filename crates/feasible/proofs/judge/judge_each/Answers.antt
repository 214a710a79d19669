use Rattle.std.proofs.Common.{◌<◌, ◌∙◌, sym, subst, take, length, arith}
use Rattle.std.proofs.lemmas.List.{take_more}
use Rattle.feasible.specs.Keeping.{StandsFor}
use Rattle.feasible.proofs.Continuing.{verdict_whole}
use Rattle.feasible.proofs.Fronts.{no_end_front}
use Rattle.feasible.proofs.judge.judge_each.Goals as goal

pub loop-e-preserved : goal.loop-e-preserved
loop-e-preserved c =
    let events = c.args.events.now in
    let i = c.loop-e.e-index in
    let less : i < length events = c.loop-e-test.true in
    record {
      stands = λ setup s none. subst (λ es. StandsFor setup es c.next.new.self) (sym (take_more events i _ less))
          (c.in-Ok.ensures.stands setup (take i events) (c.loop-e.invariant.stands setup s none) (no_end_front events i less none));
      taken = omega (arith, c.in-Ok.ensures.taken);
      numbers = c.in-Ok.ensures.numbers ∙ c.loop-e.invariant.numbers;
      bound = c.in-Ok.ensures.bound ∙ c.loop-e.invariant.bound;
    }

pub returns : goal.returns
returns c = λ setup s none.
    verdict_whole setup c.args.events.now c.loop-e.e-index c.loop-e.judge c.args.judge.now.numbers c.args.judge.now.bound c.verdict.result
    (c.loop-e.invariant.stands setup s none) (omega arith) c.loop-e.invariant.numbers c.loop-e.invariant.bound c.verdict.ensures
