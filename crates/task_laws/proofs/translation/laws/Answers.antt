use Rattle.task_laws.proofs.translation.Carried.{steps_follow, steps_follow_in_loops, raises_follow, values_follow}
use Rattle.task_laws.proofs.translation.Own.{met_by_itself}
use Rattle.task_laws.proofs.translation.laws.Goals as goal

pub returns : goal.returns
returns g c = record { steps = steps_follow; in_loops = steps_follow_in_loops; raises = raises_follow; values = values_follow; met = met_by_itself }
