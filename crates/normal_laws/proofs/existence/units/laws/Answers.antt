use Rattle.normal_laws.proofs.existence.units.Fields.{legal_is_ordered, legal_has_tokens, legal_names_tell, legal_conforms, legal_types_are_full, locals_are_free, legal_is_own, legal_is_plain, legal_is_well, light_has_few, few_names_small}
use Rattle.normal_laws.proofs.existence.Instance.{choosing-is-legal}
use Rattle.normal_laws.proofs.existence.Coloured.{coloured-is-legal}
use Rattle.normal_laws.proofs.existence.units.laws.Goals as goal

pub returns : goal.returns
returns c = record { ordered = legal_is_ordered; tokens = legal_has_tokens; tell = legal_names_tell; conforms = legal_conforms; full = legal_types_are_full; free = locals_are_free; own = legal_is_own; plain = legal_is_plain; well = legal_is_well; few = light_has_few; small = few_names_small; met = (choosing-is-legal, coloured-is-legal) }
