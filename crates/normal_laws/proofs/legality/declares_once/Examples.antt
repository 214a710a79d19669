-- Two programs that are as the law asks.
use Rattle.normal_laws.proofs.existence.Instance.{choosing-is-legal}
use Rattle.normal_laws.proofs.existence.Coloured.{coloured-is-legal}
use Rattle.normal_laws.specs.legality.declares_once.Laws.{IsMet}
use Rattle.normal_laws.proofs.legality.declares_once.Whole.{normal_declares_once}

pub is_met : IsMet
is_met = (normal_declares_once _ choosing-is-legal, normal_declares_once _ coloured-is-legal)
