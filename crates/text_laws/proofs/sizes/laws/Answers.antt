use Rattle.text_laws.proofs.sizes.Read.{read_has_few_names, read_has_names, read_weighs_little, read_is_light}
use Rattle.text_laws.proofs.sizes.laws.Goals as goal

pub returns : goal.returns
returns c = record { few = read_has_few_names; names = read_has_names; weights = read_weighs_little; light = read_is_light }
