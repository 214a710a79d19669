use Rattle.std.specs.Prelude.{[]}
use Rattle.normal_laws.proofs.runs.forms.Instance.{can_be_normal}
use Rattle.normal_laws.proofs.runs.forms.Choosing.{chooses, two_variables}
use Rattle.normal_laws.specs.runs.forms.Choosing.{choosing}
use Rattle.normal_laws.proofs.runs.forms.Making.{made_is_normal, programs_show_same, made_is_calm}
use Rattle.normal_laws.proofs.runs.forms.laws.Goals as goal

pub returns : goal.returns
returns c = record { made = made_is_normal; same = programs_show_same; calm = made_is_calm; met = (can_be_normal, chooses, made_is_normal choosing [] chooses, two_variables) }
