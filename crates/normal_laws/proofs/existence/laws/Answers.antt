use Rattle.normal_laws.proofs.existence.Joined.{legal_is_normalisable, legal_is_normal, legal_shows_same, legal_is_calm}
use Rattle.normal_laws.proofs.existence.Instance.{choosing-is-legal}
use Rattle.normal_laws.proofs.existence.Coloured.{coloured-is-legal}
use Rattle.normal_laws.proofs.existence.laws.Goals as goal

pub returns : goal.returns
returns c = record { normalisable = legal_is_normalisable; normal = legal_is_normal; same = legal_shows_same; calm = legal_is_calm; met = (choosing-is-legal, coloured-is-legal) }
