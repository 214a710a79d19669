use Rattle.std.proofs.Common.{[], ◌∷◌, ◌∙◌, ap, sym}
use Rattle.event_machine.specs.declared.Action.TheVariants.{Start}
use Rattle.event_machine.specs.Applying.{actions_of}
use Rattle.event_machine.specs.States.{is_live, is_waiting, is_queued}
use Rattle.syn_event.specs.Numbering.{owner_of}
use Rattle.task_model.specs.TaskOps.{task_ops}
use Rattle.task_machine.specs.Table.{applies_in, seen_in}
use Rattle.task_machine.proofs.Fewer.{of_other, appended_fewer}
use Rattle.task_machine.proofs.listing.list_task.Goals as goal

pub returns : goal.returns
returns c =
    let p = applies_in c.args.numbers.now c.args.seats.now c.args.line.now in
    let s = seen_in c.args.seats.now c.args.line.now in
    let owner = owner_of c.args.numbers.now in
    let t = c.args.t in
    appended_fewer p c.args.out.now.items c.push_if.new.out.items (actions_of task_ops s t) (Start t ∷ [])
    (of_other task_ops owner s t
    (ap is_live (sym c.standing_at-standing.ensures) ∙ sym c.is_live.ensures ∙ c.if-is_live.false)
    (ap is_waiting (sym c.standing_at-standing.ensures) ∙ sym c.is_waiting.ensures ∙ c.if-is_waiting.false)
    (ap is_queued (sym c.standing_at-standing.ensures) ∙ sym c.is_queued.ensures ∙ c.if-is_queued.false))
    c.in_ok-push_if.ensures
