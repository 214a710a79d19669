use Rattle.debug_core.proofs.CollectedFile as proofs
use Rattle.debug_core.proofs.laws.collected.Goals as goal

pub returns : goal.returns
returns c = proofs.collected_headline
