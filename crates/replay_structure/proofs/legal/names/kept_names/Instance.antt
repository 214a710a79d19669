-- A program and a whole run of it are as the laws ask.
use Rattle.replay_structure.proofs.legal.known.Instance.{known}
use Rattle.replay_structure.proofs.legal.Examples as examples
use Rattle.replay_structure.specs.legal.names.kept_names.Laws.{IsMet}

pub is_met : IsMet
is_met = (examples.is_met.0, known, examples.is_met.1.places)
