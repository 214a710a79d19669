-- Two programs that are as the law asks, by computation.
use Rattle.std.proofs.Common.{refl}
use Rattle.std.specs.Fmt.{digits}
use Rattle.syn_event.specs.declared.numbering.Mode.TheVariants.{Any}
use Rattle.syn_event.specs.CheckRefusals.{MeetsCheckRules}
use Rattle.normal_laws.specs.runs.forms.Choosing.{choosing}
use Rattle.normal_laws.specs.runs.forms.Normalisable.{made_for}
use Rattle.task_laws.specs.legal.literals.Colours.{coloured}
use Rattle.normal_laws.specs.legality.checks.Laws.{IsMet}

choosing-meets : MeetsCheckRules (made_for choosing) Any
unfolding digits
choosing-meets = refl

coloured-meets : MeetsCheckRules (made_for coloured) Any
unfolding digits
coloured-meets = refl

pub is_met : IsMet
is_met = (choosing-meets, coloured-meets)
