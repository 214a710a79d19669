use Rattle.progress_law.proofs.Halting.{halted_is_over}
use Rattle.progress_law.proofs.Runs.{known_by_event, events_tell, feasible_is_admitted, judged_is_admitted, are_instances}
use Rattle.progress_law.proofs.laws.Goals as goal

pub returns : goal.returns
returns c = record { step_by_step = known_by_event; told = events_tell; admitted = feasible_is_admitted; judged = judged_is_admitted; over = halted_is_over; instance = are_instances }
