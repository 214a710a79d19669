use Rattle.collect_structure.proofs.declares_once.Whole.{collect_declares_once}
use Rattle.collect_structure.proofs.declares_once.Legal.{legal_leaves_names, legal_collect_declares_once}
use Rattle.collect_structure.proofs.declares_once.Examples.{is_met}
use Rattle.collect_structure.proofs.declares_once.laws.Goals as goal

pub returns : goal.returns
returns c = record { once = collect_declares_once; leaves = legal_leaves_names; legal = legal_collect_declares_once; met = is_met }
