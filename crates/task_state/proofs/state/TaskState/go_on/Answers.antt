use Rattle.task_state.specs.Plain.{plain_task}
use Rattle.task_state.proofs.state.TaskState.go_on.Goals as goal

pub returns : goal.returns
returns c = c.go_on.ensures (plain_task c.args.self.now)
