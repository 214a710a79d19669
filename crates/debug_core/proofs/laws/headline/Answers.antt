use Rattle.debug_core.proofs.Promised as proofs
use Rattle.debug_core.proofs.laws.headline.Goals as goal

pub returns : goal.returns
returns c = proofs.headline
