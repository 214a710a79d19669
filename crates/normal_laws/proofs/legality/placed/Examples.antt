-- Two programs that are as the law asks.
use Rattle.normal_laws.proofs.existence.Instance.{choosing-is-legal}
use Rattle.normal_laws.proofs.existence.Coloured.{coloured-is-legal}
use Rattle.normal_laws.specs.legality.placed.Laws.{IsMet}
use Rattle.normal_laws.proofs.legality.placed.Placed.{normal_is_placed}

pub is_met : IsMet
is_met = (normal_is_placed _ choosing-is-legal, normal_is_placed _ coloured-is-legal)
