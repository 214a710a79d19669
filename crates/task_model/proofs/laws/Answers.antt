use Rattle.task_model.proofs.Lawful.{lawful}
use Rattle.task_model.proofs.Following.{openings_open, runs_agree, killed_is_aborted, rests_meet, feasible_by_conditions, feasible_is_admitted, feasible_exactly, rest_exactly}
use Rattle.task_model.proofs.laws.Goals as goal

pub returns : goal.returns
returns c = record {
  lawful = lawful;
  openings = openings_open;
  determinacy = runs_agree;
  killed = killed_is_aborted;
  first_law = rests_meet;
  second_law = feasible_by_conditions;
  admitted = feasible_is_admitted;
  feasible = feasible_exactly;
  rest = rest_exactly;
}
