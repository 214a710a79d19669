use Rattle.normal_laws.proofs.existence.Instance.{choosing-is-legal}
use Rattle.normal_laws.proofs.existence.Coloured.{coloured-is-legal}
use Rattle.collect_structure.proofs.aborts.legal.Placed.{legal_abort_is_placed}
use Rattle.collect_structure.proofs.aborts.legal.Legal.{abort_has_numbers, abort_meets_checks}
use Rattle.collect_structure.proofs.aborts.legal.Types.{abort_meets_types, abort_is_legal, abort_is_as_promised}
use Rattle.collect_structure.proofs.aborts.laws.Goals as goal

pub returns : goal.returns
returns c = record {
  placed = legal_abort_is_placed;
  numbered = abort_has_numbers;
  types = abort_meets_types;
  checks = abort_meets_checks;
  legal = abort_is_legal;
  promised = abort_is_as_promised;
  met = (choosing-is-legal, coloured-is-legal);
}
