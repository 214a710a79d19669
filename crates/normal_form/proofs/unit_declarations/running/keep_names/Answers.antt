use Rattle.normal_form.proofs.unit_declarations.NamesBeside.{names_more}
use Rattle.normal_form.proofs.unit_declarations.running.keep_names.Goals as goal

pub loop-place-preserved : goal.loop-place-preserved
loop-place-preserved c =
    names_more c.args.lookups.now c.args.tasks.now c.loop-place.place c.in_ok-number_of.field-0 _ c.task-name.result c.args.groups.now c.loop-place.groups c.keep.new.groups
    c.loop-place-test.true c.requires.tasks c.in_ok-number_of.ensures (c.task-name.ensures c.args.lookups.now c.requires.names) c.loop-place.invariant c.in_ok-keep.ensures
