use Rattle.replay_runs.proofs.controls.images.Asking.{images_ask, legal_asking_offers}
use Rattle.replay_runs.proofs.controls.images.Catching.{images_come_to_ask}
use Rattle.replay_runs.proofs.controls.images.Leading.{legal_permits_lead}
use Rattle.replay_runs.proofs.controls.images.laws.Goals as goal

pub returns : goal.returns
returns c = record { ask = images_ask; come = images_come_to_ask; offers = legal_asking_offers; lead = legal_permits_lead }
