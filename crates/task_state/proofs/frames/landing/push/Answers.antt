use Rattle.std.proofs.Common.{reverse}
use Rattle.task_state.specs.frames.Seen.{stack_of}
use Rattle.task_state.proofs.frames.CallLemmas.{push_settles}
use Rattle.task_state.proofs.frames.landing.push.Goals as goal

pub returns-clause-ok : goal.returns-clause-ok
returns-clause-ok c =
    push_settles
    c.args.frame
    c.args.top
    c.passed.result
    c.args.outer.now.items
    c.reserve.new.self.items
    c.push_reserved.new.self.items
    (stack_of c.settle.result (reverse c.settle.new.outer.items))
    c.reserve.ensures.items
    c.push_reserved.ensures.items
    c.passed.ensures.rest
    c.settle.ensures.settles
