use Rattle.replay_structure.proofs.declares_once.Statements.{body-same}
use Rattle.replay_structure.proofs.declares_once.Whole.{replay_declares_once}
use Rattle.replay_structure.proofs.declares_once.Legal.{legal_leaves_names, legal_replay_declares_once}
use Rattle.replay_structure.proofs.declares_once.Examples.{is_met}
use Rattle.replay_structure.proofs.declares_once.laws.Goals as goal

pub returns : goal.returns
returns c = record {
  names = body-same;
  once = replay_declares_once;
  leaves = legal_leaves_names;
  legal = legal_replay_declares_once;
  met = is_met;
}
