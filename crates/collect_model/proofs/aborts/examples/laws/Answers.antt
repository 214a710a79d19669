use Rattle.collect_model.proofs.aborts.examples.Texts.{are_met}
use Rattle.collect_model.proofs.aborts.examples.laws.Goals as goal

pub returns : goal.returns
returns c = record { met = are_met }
