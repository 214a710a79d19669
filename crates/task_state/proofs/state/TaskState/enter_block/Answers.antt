use Rattle.ada_tree.specs.PlainStmt.{seen}
use Rattle.task_state.specs.frames.Seen.{seen_handlers}
use Rattle.task_model.specs.Frames.{Block}
use Rattle.task_state.proofs.Moving.{enters_frame}
use Rattle.task_state.proofs.state.TaskState.enter_block.Goals as goal

pub returns-clause-ok : goal.returns-clause-ok
returns-clause-ok c =
    enters_frame c.enter_block.result c.args.self.now c.enter_block.new.self (seen c.args.stmts.now) (Block (seen_handlers c.args.handlers.now)) c.enter_block.ensures.ok
