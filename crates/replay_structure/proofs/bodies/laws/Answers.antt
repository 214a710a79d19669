use Rattle.replay_structure.proofs.bodies.Bodies.{tasks_keep_numbers, units_are_replayed, added_tasks_run}
use Rattle.replay_structure.proofs.bodies.Programs.{programs_run}
use Rattle.replay_structure.proofs.bodies.Examples.{is_met}
use Rattle.replay_structure.proofs.bodies.laws.Goals as goal

pub returns : goal.returns
returns c = record { tasks = tasks_keep_numbers; units = units_are_replayed; added = added_tasks_run; programs = programs_run; met = is_met }
