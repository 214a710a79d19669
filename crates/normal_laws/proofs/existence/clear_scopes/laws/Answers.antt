use Rattle.normal_laws.proofs.existence.clear_scopes.Apart.{callees-are-told, original-is-ready}
use Rattle.normal_laws.proofs.existence.Instance.{choosing-is-legal}
use Rattle.normal_laws.proofs.existence.Coloured.{coloured-is-legal}
use Rattle.normal_laws.proofs.existence.clear_scopes.laws.Goals as goal

pub returns : goal.returns
returns c = record { told = callees-are-told; ready = original-is-ready; met = (choosing-is-legal, coloured-is-legal) }
