use Rattle.replay_structure.proofs.checked.Whole.{replay_meets_checks}
use Rattle.replay_structure.proofs.checked.Instance.{example_is_checkable}
use Rattle.replay_structure.proofs.checked.laws.Goals as goal

pub returns : goal.returns
returns c = record { meets = replay_meets_checks; met = example_is_checkable }
