use Rattle.replay_structure.proofs.checkable.Whole.{normal_is_checkable, replay_text_meets}
use Rattle.replay_structure.proofs.checkable.Instance.{example_is_prepared, example_meets}
use Rattle.replay_structure.proofs.checkable.laws.Goals as goal

pub returns : goal.returns
returns c = record { checkable = normal_is_checkable; meets = replay_text_meets; met = (example_is_prepared, example_meets) }
