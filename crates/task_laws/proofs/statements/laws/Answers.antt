use Rattle.task_laws.proofs.statements.Legal.{legal_exits_leave}
use Rattle.task_laws.proofs.statements.Carried.{exits_start, exits_stay, exits_are_in_loops}
use Rattle.task_laws.proofs.statements.Blocks.{tasks_start_outside, tasks_leave_blocks}
use Rattle.task_laws.proofs.statements.laws.Goals as goal

pub returns : goal.returns
returns c = record { legal = legal_exits_leave; starts = exits_start; stays = exits_stay; in_loops = exits_are_in_loops; outside = tasks_start_outside; blocks = tasks_leave_blocks }
