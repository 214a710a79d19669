use Rattle.std.proofs.Common.{[], ◌∷◌}
use Rattle.event_machine.specs.declared.Action.TheVariants.{Start, Expire, Fail}
use Rattle.event_machine.specs.Applying.{actions_of}
use Rattle.syn_event.specs.Numbering.{owner_of}
use Rattle.task_model.specs.TaskOps.{task_ops}
use Rattle.task_machine.specs.Table.{applies_in, seen_in}
use Rattle.task_machine.proofs.Fewer.{of_queued, appended_fewer}
use Rattle.task_machine.proofs.listing.list_queued.Goals as goal

pub returns : goal.returns
returns c =
    let p = applies_in c.args.numbers.now c.args.seats.now c.args.line.now in
    let s = seen_in c.args.seats.now c.args.line.now in
    let owner = owner_of c.args.numbers.now in
    let t = c.args.t in
    appended_fewer p c.args.out.now.items c.list.new.out.items (actions_of task_ops s t) (Start t ∷ Expire t ∷ Fail t ∷ [])
    (of_queued task_ops owner s t c.requires.queued)
    c.in_ok-list.ensures
