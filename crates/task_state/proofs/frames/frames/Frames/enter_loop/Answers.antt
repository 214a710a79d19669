use Rattle.std.proofs.Common.{ap, reverse}
use Rattle.ada_tree.specs.PlainStmt.{seen}
use Rattle.task_model.specs.Frames.{Loop}
use Rattle.task_state.specs.frames.Seen.{stack_of, turns_as}
use Rattle.task_state.specs.frames.Stack.{Held}
use Rattle.task_state.proofs.frames.CallLemmas.{pushed_from}
use Rattle.task_state.proofs.frames.frames.Frames.enter_loop.Goals as goal

pub returns-clause-ok : goal.returns-clause-ok
returns-clause-ok c =
    pushed_from
    (seen c.args.stmts.now)
    (Loop c.args.name (turns_as c.args.turns) (seen c.args.stmts.now))
    c.args.self.now.stack
    (stack_of c.self.inside.top (reverse c.self.inside.outer.items))
    (stack_of c.in_ok-self-inside.field-0 (reverse c.push.new.outer.items))
    (ap (λ (h : Held). h.stack) c.self.view_is)
    c.in_ok-self-inside.ensures.ok
