use Rattle.std.proofs.Common.{[], ◌∷◌, ◌∙◌, sym}
use Rattle.event_machine.specs.declared.Action.TheVariants.{Local, Arrive, Start, Finish, CallElse, Fail, Complete, Abort}
use Rattle.event_machine.specs.Applying.{actions_of}
use Rattle.syn_event.specs.Numbering.{owner_of}
use Rattle.task_model.specs.TaskOps.{task_ops}
use Rattle.task_machine.specs.Table.{applies_in, seen_in, seat_of}
use Rattle.task_model.proofs.Lawful.{lawful}
use Rattle.task_machine.proofs.Fewer.{of_stepping, of_live, appended_fewer}
use Rattle.task_machine.proofs.listing.list_live.Goals as goal

pub returns-then-has_step : goal.returns-then-has_step
returns-then-has_step c =
    let p = applies_in c.args.numbers.now c.args.seats.now c.args.line.now in
    let s = seen_in c.args.seats.now c.args.line.now in
    let owner = owner_of c.args.numbers.now in
    let t = c.args.t in
    appended_fewer p c.args.out.now.items c.push_if.new.out.items (actions_of task_ops s t) (Local t ∷ [])
    (of_stepping task_ops owner s t (lawful.rests (seat_of c.args.seats.now t).local (sym c.has_step.ensures ∙ c.if-has_step.true)))
    c.in_ok-push_if.ensures

pub returns : goal.returns
returns c =
    let p = applies_in c.args.numbers.now c.args.seats.now c.args.line.now in
    let s = seen_in c.args.seats.now c.args.line.now in
    let owner = owner_of c.args.numbers.now in
    let t = c.args.t in
    appended_fewer p c.args.out.now.items c.list.new.out.items (actions_of task_ops s t)
    (Arrive t ∷ Start t ∷ Finish t ∷ CallElse t ∷ Fail t ∷ Complete t ∷ Abort t ∷ [])
    (of_live task_ops owner s t c.requires.live (sym c.has_step.ensures ∙ c.if-has_step.false))
    c.in_ok-list.ensures
