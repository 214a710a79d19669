use Rattle.replay_structure.proofs.legal.names.kept_names.Instance.{is_met}
use Rattle.replay_structure.proofs.legal.names.Form.{legal_normal_is_form}
use Rattle.replay_structure.proofs.legal.names.Legal.{known_replay_meets_at_places, known_replay_is_legal, replay_is_as_promised}
use Rattle.replay_structure.proofs.legal.names.laws.Goals as goal

pub returns : goal.returns
returns c = record {
  form = legal_normal_is_form;
  places = known_replay_meets_at_places;
  legal = known_replay_is_legal;
  promised = replay_is_as_promised;
  met = (is_met.0, is_met.1);
}
