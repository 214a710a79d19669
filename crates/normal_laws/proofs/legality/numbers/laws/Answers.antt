use Rattle.normal_laws.proofs.legality.numbers.Numbered.{none_legal_is_ded, legal_has_numbers}
use Rattle.normal_laws.proofs.legality.numbers.Examples.{is_met}
use Rattle.normal_laws.proofs.legality.numbers.laws.Goals as goal

pub returns : goal.returns
returns c = record { none = none_legal_is_ded; numbered = legal_has_numbers; met = is_met }
