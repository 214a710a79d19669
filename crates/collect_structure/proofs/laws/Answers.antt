use Rattle.normal_laws.proofs.existence.Instance.{choosing-is-legal}
use Rattle.normal_laws.proofs.existence.Coloured.{coloured-is-legal}
use Rattle.collect_structure.proofs.legal.Placed.{legal_collect_is_placed}
use Rattle.collect_structure.proofs.legal.Legal.{collect_has_numbers, collect_meets_checks}
use Rattle.collect_structure.proofs.legal.Types.{collect_meets_types, collect_is_legal, collect_is_as_promised}
use Rattle.collect_structure.proofs.laws.Goals as goal

pub returns : goal.returns
returns c = record {
  placed = legal_collect_is_placed;
  numbered = collect_has_numbers;
  types = collect_meets_types;
  checks = collect_meets_checks;
  legal = collect_is_legal;
  promised = collect_is_as_promised;
  met = (choosing-is-legal, coloured-is-legal);
}
