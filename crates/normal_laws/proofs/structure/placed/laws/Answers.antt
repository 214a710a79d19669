use Rattle.normal_laws.proofs.structure.placed.Originals.{all_normal_placed, all_originals_placed}
use Rattle.normal_laws.proofs.structure.placed.Instance.{example_is_placeable}
use Rattle.normal_laws.proofs.structure.placed.laws.Goals as goal

pub returns : goal.returns
returns c = record { placed = all_normal_placed; originals = all_originals_placed; met = example_is_placeable }
