use Rattle.replay_structure.proofs.legal.Legal.{legal_replay_has_numbers, legal_replay_meets_types, legal_replay_meets_checks, replay_is_legal, replay_is_as_promised}
use Rattle.replay_structure.proofs.legal.Prepared.{legal_is_prepared}
use Rattle.replay_structure.proofs.legal.Examples.{is_met}
use Rattle.replay_structure.proofs.legal.laws.Goals as goal

pub returns : goal.returns
returns c = record {
  numbered = legal_replay_has_numbers;
  types = legal_replay_meets_types;
  checks = legal_replay_meets_checks;
  prepared = legal_is_prepared;
  legal = replay_is_legal;
  promised = replay_is_as_promised;
  met = is_met;
}
