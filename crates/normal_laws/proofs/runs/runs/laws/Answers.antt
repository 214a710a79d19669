use Rattle.normal_laws.proofs.runs.runs.Imitating.{normal_forms_show_same, normal_forms_are_calm}
use Rattle.normal_laws.proofs.runs.runs.Instance.{is_met}
use Rattle.normal_laws.proofs.runs.runs.laws.Goals as goal

pub returns : goal.returns
returns c = record { same = normal_forms_show_same; calm = normal_forms_are_calm; met = is_met }
