use Rattle.task_state.proofs.Moving.{raises_from}
use Rattle.task_state.proofs.state.TaskState.raise.Goals as goal

pub returns : goal.returns
returns c = raises_from c.args.self.now c.raise-gone.new.self c.leave.new.self c.raise-gone.result c.args.raised c.leave.ensures c.raise-gone.ensures
