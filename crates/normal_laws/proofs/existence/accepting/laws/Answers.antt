use Rattle.normal_laws.proofs.existence.Instance.{choosing-is-legal}
use Rattle.normal_laws.proofs.existence.Coloured.{coloured-is-legal}
use Rattle.normal_laws.proofs.existence.accepting.Bodies.{legal_bodies_can_accept, legal_tasks_can_accept, can_accept_stays}
use Rattle.normal_laws.proofs.existence.accepting.laws.Goals as goal

pub returns : goal.returns
returns c = record { bodies = legal_bodies_can_accept; starts = legal_tasks_can_accept; stays = can_accept_stays; met = (choosing-is-legal, coloured-is-legal) }
