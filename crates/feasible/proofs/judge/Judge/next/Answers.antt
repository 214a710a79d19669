use Rattle.std.proofs.Common.{ap}
use Rattle.feasible.proofs.Continuing.{verdict_next, stands_next, settled_next}
use Rattle.feasible.specs.Kept.{Kept}
use Rattle.feasible.proofs.Rested.{rested_next, others_next}
use Rattle.feasible.proofs.judge.Judge.next.Goals as goal

pub returns-clause-verdict : goal.returns-clause-verdict
returns-clause-verdict c = λ setup events s more.
    verdict_next setup events c.args.self.now c.args.e.now c.advance.new.self.tasks c.advance.new.self.steps c.advance.result s more
    c.advance.ensures.same c.advance.ensures.decided

pub returns-clause-stands : goal.returns-clause-stands
returns-clause-stands c = λ setup events s more.
    stands_next setup events c.args.self.now c.advance.new.self c.args.e.now c.advance.result s more c.advance.ensures.stays c.advance.ensures.decided
    c.advance.ensures.taken c.advance.ensures.ended c.advance.ensures.last c.advance.ensures.numbers c.advance.ensures.bound c.advance.ensures.memory

pub returns-clause-settled : goal.returns-clause-settled
returns-clause-settled c =
    settled_next c.args.self.now c.args.e.now c.advance.new.self.tasks c.advance.new.self.steps c.advance.result c.advance.ensures.decided

pub returns-clause-rested : goal.returns-clause-rested
returns-clause-rested c =
    rested_next c.args.self.now c.args.e.now c.advance.new.self.tasks c.advance.new.self.steps c.advance.result c.advance.ensures.decided

pub returns-clause-others : goal.returns-clause-others
returns-clause-others c = λ setup events s more t settled.
    others_next setup events c.args.self.now c.args.e.now c.advance.new.self.tasks c.advance.new.self.steps c.advance.result s more
    (λ other. ap (λ (k : Kept). k.tasks) (c.advance.ensures.stays other)) c.advance.ensures.decided t settled
