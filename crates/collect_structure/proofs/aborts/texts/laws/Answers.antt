use Rattle.collect_structure.proofs.aborts.texts.Rooted.{abort_is_rooted, abort_agrees}
use Rattle.collect_structure.proofs.aborts.texts.Numbered.{abort_numbered}
use Rattle.collect_structure.proofs.aborts.texts.laws.Goals as goal

pub returns : goal.returns
returns c = record { rooted = abort_is_rooted; agree = abort_agrees; numbered = abort_numbered }
