use Rattle.feasible.proofs.Resting.{settle_exact, settle_stands, settle_others}
use Rattle.feasible.proofs.judge.Judge.settle.Goals as goal

pub returns-clause-exact : goal.returns-clause-exact
returns-clause-exact c = λ setup events s.
    settle_exact setup events c.args.self.now c.run_task.new.self c.args.task c.run_task.result s c.run_task.ensures.run c.run_task.ensures.settled c.run_task.ensures.stuck

pub returns-clause-stands : goal.returns-clause-stands
returns-clause-stands c = λ setup events s.
    settle_stands setup events c.args.self.now c.run_task.new.self c.run_task.result s c.run_task.ensures.run c.run_task.ensures.numbers c.run_task.ensures.bound
    c.run_task.ensures.taken c.run_task.ensures.ended c.run_task.ensures.verdict c.run_task.ensures.memory

pub returns-clause-others : goal.returns-clause-others
returns-clause-others c = λ t h. settle_others c.args.self.now c.run_task.new.self t c.run_task.result c.run_task.ensures.run h
