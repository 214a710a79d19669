use Rattle.ada_check_places.proofs.parts.Forming.{forms_more, forms_end}
use Rattle.ada_check_places.proofs.parts.waits.forms_of.Goals as goal

pub loop-alt-preserved : goal.loop-alt-preserved
loop-alt-preserved c = forms_more c.args.alts.now c.loop-alt.alt-index c.alt-item.result _ _ _ c.loop-alt-test.true c.alt-item.is c.loop-alt.invariant c.with_kind-forms.ensures

pub returns : goal.returns
returns c = forms_end c.args.alts.now c.loop-alt.alt-index _ _ c.loop-alt-test.false c.loop-alt.invariant
