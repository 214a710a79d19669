use Rattle.ada_tree.specs.PlainStmt.{seen}
use Rattle.task_state.proofs.Moving.{enters_branch}
use Rattle.task_state.proofs.state.TaskState.enter.Goals as goal

pub returns-clause-ok : goal.returns-clause-ok
returns-clause-ok c = enters_branch c.enter.result c.args.self.now c.enter.new.self (seen c.args.branch.now) c.enter.ensures.ok
