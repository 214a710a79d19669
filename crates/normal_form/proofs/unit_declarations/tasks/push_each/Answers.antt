use Rattle.std.proofs.Common.{map, ap, ◌∙◌}
use Rattle.normal_form.specs.unit_declarations.inner.Tasks.{seen_task}
use Rattle.normal_form.proofs.unit_declarations.Calling.{declared_more}
use Rattle.normal_form.proofs.unit_declarations.tasks.push_each.Goals as goal

pub loop-place-preserved : goal.loop-place-preserved
loop-place-preserved c =
    declared_more c.args.lookups.now c.args.tasks.now c.loop-place.place c.in_ok-number_of.field-0 _ c.task-name.result c.group.result.now _ _ _
    c.loop-place-test.true c.requires.tasks c.in_ok-number_of.ensures (c.task-name.ensures c.args.lookups.now c.requires.names)
    (ap (map seen_task) c.group.ensures ∙ c.requires.groups _) c.loop-place.invariant c.in_ok-push_called.ensures
