use Rattle.debug_core.proofs.OneAnswer as proofs
use Rattle.debug_core.proofs.laws.one_answer.Goals as goal

pub returns : goal.returns
returns c = proofs.one_answer
