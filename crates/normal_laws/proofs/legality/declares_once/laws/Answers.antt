use Rattle.normal_laws.proofs.legality.declares_once.Whole.{normal_declares_once}
use Rattle.normal_laws.proofs.legality.declares_once.Examples.{is_met}
use Rattle.normal_laws.proofs.legality.declares_once.laws.Goals as goal

pub returns : goal.returns
returns c = record { once = normal_declares_once; met = is_met }
