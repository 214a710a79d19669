use Rattle.task_state.proofs.Moving.{leaves_from}
use Rattle.task_state.proofs.state.TaskState.leave_loop.Goals as goal

pub returns : goal.returns
returns c = leaves_from c.args.self.now c.leave_loop-gone.new.self c.leave.new.self c.leave_loop-gone.result c.leave.ensures c.leave_loop-gone.ensures
