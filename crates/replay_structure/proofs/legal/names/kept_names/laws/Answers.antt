use Rattle.replay_structure.proofs.legal.names.kept_names.Known.{legal_is_kept, known_are_held, known_replay_is_as_promised}
use Rattle.replay_structure.proofs.legal.names.kept_names.Instance.{is_met}
use Rattle.replay_structure.proofs.legal.names.kept_names.laws.Goals as goal

pub returns : goal.returns
returns c = record { kept = legal_is_kept; held = known_are_held; promised = known_replay_is_as_promised; met = is_met }
