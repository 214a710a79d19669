use Rattle.task_state.specs.Plain.{plain_task}
use Rattle.task_state.proofs.state.TaskState.begin_turn.Goals as goal

pub returns : goal.returns
returns c name turns stmts rest at = c.begin_turn.ensures name turns stmts rest at (plain_task c.args.self.now)
