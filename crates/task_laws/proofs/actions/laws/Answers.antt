use Rattle.task_laws.proofs.actions.Numbers.{tasks_are_few, entries_are_few}
use Rattle.task_laws.proofs.actions.Behind.{actions_are_few}
use Rattle.task_laws.proofs.actions.laws.Goals as goal

pub returns : goal.returns
returns c = record { tasks = tasks_are_few; entries = entries_are_few; actions = actions_are_few }
