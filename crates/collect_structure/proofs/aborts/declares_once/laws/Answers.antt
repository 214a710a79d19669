use Rattle.collect_structure.proofs.aborts.declares_once.Whole.{abort_declares_once}
use Rattle.collect_structure.proofs.aborts.declares_once.Legal.{legal_leaves_names, legal_abort_declares_once}
use Rattle.collect_structure.proofs.aborts.declares_once.Examples.{is_met}
use Rattle.collect_structure.proofs.aborts.declares_once.laws.Goals as goal

pub returns : goal.returns
returns c = record { once = abort_declares_once; leaves = legal_leaves_names; legal = legal_abort_declares_once; met = is_met }
