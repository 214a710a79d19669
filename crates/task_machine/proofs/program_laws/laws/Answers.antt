use Rattle.task_machine.proofs.Judged.{view_unique, by_table}
use Rattle.task_machine.proofs.OneVerdict.{verdict_unique}
use Rattle.task_machine.proofs.Deciding.{verdict_exists}
use Rattle.task_machine.proofs.program_laws.laws.Goals as goal

pub returns-clause-views : goal.returns-clause-views
returns-clause-views c = view_unique

pub returns-clause-second_law : goal.returns-clause-second_law
returns-clause-second_law c = by_table

pub returns-clause-one_verdict : goal.returns-clause-one_verdict
returns-clause-one_verdict c = verdict_unique

pub returns-clause-some_verdict : goal.returns-clause-some_verdict
returns-clause-some_verdict c = verdict_exists
