use Rattle.normal_laws.proofs.structure.numbers.Extents.{extent-alike}
use Rattle.replay_structure.proofs.texts.Rooted.{replay_is_rooted, replay_agrees}
use Rattle.replay_structure.proofs.texts.Numbered.{replay_numbered}
use Rattle.replay_structure.proofs.texts.Asked.{legal_is_asked}
use Rattle.replay_structure.proofs.texts.laws.Goals as goal

pub returns : goal.returns
returns c = record { rooted = replay_is_rooted; agree = replay_agrees; extents = extent-alike; numbered = replay_numbered; met = legal_is_asked }
