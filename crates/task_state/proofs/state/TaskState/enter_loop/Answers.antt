use Rattle.ada_tree.specs.PlainStmt.{seen}
use Rattle.task_state.specs.frames.Seen.{turns_as}
use Rattle.task_model.specs.Frames.{Loop}
use Rattle.task_state.proofs.Moving.{enters_frame}
use Rattle.task_state.proofs.state.TaskState.enter_loop.Goals as goal

pub returns-clause-ok : goal.returns-clause-ok
returns-clause-ok c =
    enters_frame
    c.enter_loop.result
    c.args.self.now
    c.enter_loop.new.self
    (seen c.args.stmts.now)
    (Loop c.args.name (turns_as c.args.turns) (seen c.args.stmts.now))
    c.enter_loop.ensures.ok
