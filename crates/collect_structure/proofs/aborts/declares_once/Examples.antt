-- Two programs that are as the law asks.
use Rattle.normal_laws.proofs.existence.Instance.{choosing-is-legal}
use Rattle.normal_laws.proofs.existence.Coloured.{coloured-is-legal}
use Rattle.collect_structure.specs.aborts.declares_once.Laws.{IsMet}
use Rattle.collect_structure.proofs.aborts.declares_once.Legal.{legal_leaves_names}

pub is_met : IsMet
is_met = (legal_leaves_names _ choosing-is-legal, legal_leaves_names _ coloured-is-legal)
