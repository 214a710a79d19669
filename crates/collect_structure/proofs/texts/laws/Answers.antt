use Rattle.collect_structure.proofs.texts.Rooted.{collect_is_rooted, collect_agrees}
use Rattle.collect_structure.proofs.texts.Numbered.{collect_numbered}
use Rattle.collect_structure.proofs.texts.laws.Goals as goal

pub returns : goal.returns
returns c = record { rooted = collect_is_rooted; agree = collect_agrees; numbered = collect_numbered }
