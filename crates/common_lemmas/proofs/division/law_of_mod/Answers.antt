use Rattle.common_lemmas.proofs.division.ModulusLaws.{modulus_law}
use Rattle.common_lemmas.proofs.division.law_of_mod.Goals as goal

pub returns : goal.returns
returns c = modulus_law
