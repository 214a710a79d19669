use Rattle.std.proofs.Common.{◌∙◌, refl}
use Rattle.ada_check_rules.proofs.rules.Marking.{unmarked}
use Rattle.ada_check_rules.proofs.rules.asking_by_mode.has_mark.Goals as goal

pub loop-place-preserved : goal.loop-place-preserved
loop-place-preserved c = unmarked c.args.text.now c.loop-place.place c.starts_with.result _ c.loop-place-test.true c.starts_with.ensures.value refl c.if-starts_with.false ∙ c.loop-place.invariant
