use Rattle.task_state.proofs.Moving.{exits_from}
use Rattle.task_state.proofs.state.TaskState.exit.Goals as goal

pub returns : goal.returns
returns c = exits_from c.args.self.now c.exit-gone.new.self c.leave.new.self c.exit-gone.result c.args.name c.leave.ensures c.exit-gone.ensures
