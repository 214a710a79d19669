use Rattle.std.proofs.Common.{ap}
use Rattle.task_state.specs.frames.Stack.{Held}
use Rattle.task_state.proofs.frames.CallLemmas.{leaves_nothing}
use Rattle.task_state.proofs.frames.frames.Frames.leave_loop.Goals as goal

pub returns-in_default : goal.returns-in_default
returns-in_default c =
    leaves_nothing
    c.self.inside.top
    c.self.inside.outer.items
    c.args.self.now.stack
    (ap (λ (h : Held). h.stack) c.self.view_is)
    c.self.invariant.0
    c.in_default.not-Loop
