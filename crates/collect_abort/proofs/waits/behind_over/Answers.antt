use Rattle.std.proofs.Common.{rules}
use Rattle.collect_abort.specs.Waited.{over_then}
use Rattle.collect_abort.proofs.waits.behind_over.Goals as goal

pub returns : goal.returns
unfolding over_then
returns c = search rules
