use Rattle.replay_structure.proofs.legal.known.Known.{known_have_literals, known_replay_is_placed}
use Rattle.replay_structure.proofs.legal.known.Instance.{is_met}
use Rattle.replay_structure.proofs.legal.known.laws.Goals as goal

pub returns : goal.returns
returns c = record { literals = known_have_literals; placed = known_replay_is_placed; met = is_met }
