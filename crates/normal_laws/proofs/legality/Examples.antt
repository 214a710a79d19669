-- Two programs that are as the law asks.
use Rattle.normal_laws.proofs.existence.Instance.{choosing-is-legal}
use Rattle.normal_laws.proofs.existence.Coloured.{coloured-is-legal}
use Rattle.normal_laws.specs.legality.Laws.{IsMet}
use Rattle.normal_laws.proofs.legality.Legal.{normal_is_legal}

pub is_met : IsMet
is_met = (normal_is_legal _ choosing-is-legal, normal_is_legal _ coloured-is-legal)
