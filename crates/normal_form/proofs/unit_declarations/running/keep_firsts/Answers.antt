use Rattle.normal_form.proofs.unit_declarations.FirstTasks.{first_step}
use Rattle.normal_form.proofs.unit_declarations.running.keep_firsts.Goals as goal

pub loop-place-preserved : goal.loop-place-preserved
loop-place-preserved c =
    first_step c.args.firsts.now c.loop-place.firsts c.keep_first.new.firsts c.args.tasks.now c.loop-place.place c.in_ok-number_of.field-0 _
    c.loop-place-test.true c.in_ok-number_of.ensures c.loop-place.invariant c.in_ok-keep_first.ensures
