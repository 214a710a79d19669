use Rattle.std.proofs.Common.{◌∙◌, sym, length, [], ◌∷◌, ◌++◌}
use Rattle.event_machine.specs.declared.Action.TheVariants.{End}
use Rattle.event_machine.specs.Applying.{actions_below}
use Rattle.task_model.specs.TaskOps.{task_ops}
use Rattle.task_machine.specs.Table.{applies_in, seen_in}
use Rattle.task_machine.proofs.Listed.{enabled_of-ended, enabled_of-open, listed_onto}
use Rattle.task_machine.proofs.machine.list_enabled.Goals as goal

pub returns-then-ended-clause-listed : goal.returns-then-ended-clause-listed
returns-then-ended-clause-listed c =
    c.clear.ensures.items ∙ sym (enabled_of-ended c.args.numbers.now c.args.seats.now c.args.line.now c.args.ended c.if-ended.true)

pub returns-in-Ok-clause-listed : goal.returns-in-Ok-clause-listed
returns-in-Ok-clause-listed c =
    let s = seen_in c.args.seats.now c.args.line.now in
    listed_onto (applies_in c.args.numbers.now c.args.seats.now c.args.line.now) c.clear.new.self.items c.list_all.new.out.items
    (actions_below task_ops s (length c.args.seats.now) ++ End ∷ []) c.clear.ensures.items c.in_ok-list_all.ensures
    ∙ sym (enabled_of-open c.args.numbers.now c.args.seats.now c.args.line.now c.args.ended c.if-ended.false)
