use Rattle.normal_laws.specs.runs.forms.Choosing.{choosing}
use Rattle.normal_laws.proofs.existence.Instance.{choosing-is-legal}
use Rattle.normal_laws.proofs.existence.Coloured.{coloured-is-legal}
use Rattle.task_laws.specs.legal.literals.Colours.{coloured}
use Rattle.replay_runs.proofs.controls.formed.Bodies.{legal_bodies_are_formed, legal_tasks_are_formed, formed_stays}
use Rattle.replay_runs.proofs.controls.formed.Order.{legal_normal_forms}
use Rattle.replay_runs.proofs.controls.formed.Static.{legal_static_indices_stay}
use Rattle.replay_runs.proofs.controls.formed.laws.Goals as goal

pub returns : goal.returns
returns c = record {
  bodies = legal_bodies_are_formed;
  starts = legal_tasks_are_formed;
  stays = formed_stays;
  indices = legal_static_indices_stay;
  normal = legal_normal_forms;
  met = (legal_normal_forms choosing choosing-is-legal, legal_normal_forms coloured coloured-is-legal);
}
