use Rattle.normal_laws.proofs.structure.numbers.Numbered.{normal_has_numbers}
use Rattle.normal_laws.proofs.structure.numbers.Examples.{is_met}
use Rattle.normal_laws.proofs.structure.numbers.laws.Goals as goal

pub returns : goal.returns
returns c = record { numbered = normal_has_numbers; met = is_met }
