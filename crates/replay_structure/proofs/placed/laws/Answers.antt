use Rattle.replay_structure.proofs.placed.Carried.{all_replays_placed, all_scripts_placed}
use Rattle.replay_structure.proofs.placed.Instance.{example_is_met}
use Rattle.replay_structure.proofs.placed.laws.Goals as goal

pub returns : goal.returns
returns c = record { placed = all_replays_placed; scripts = all_scripts_placed; met = example_is_met }
