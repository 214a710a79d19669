use Rattle.std.proofs.Common.{[], ◌∷◌, ◌++◌}
use Rattle.event_machine.specs.declared.Action.TheVariants.{Start, Else}
use Rattle.event_machine.specs.Applying.{actions_of, delay_actions}
use Rattle.syn_event.specs.Numbering.{owner_of}
use Rattle.task_model.specs.TaskOps.{task_ops}
use Rattle.task_machine.specs.Table.{applies_in, seen_in, seat_of, offer_in_seat}
use Rattle.task_machine.proofs.Fewer.{of_waiting, appended_fewer}
use Rattle.task_machine.proofs.Filtered.{filter_two}
use Rattle.task_machine.proofs.listing.list_waiting.Goals as goal

pub returns : goal.returns
returns c =
    let p = applies_in c.args.numbers.now c.args.seats.now c.args.line.now in
    let s = seen_in c.args.seats.now c.args.line.now in
    let owner = owner_of c.args.numbers.now in
    let t = c.args.t in
    let delays = delay_actions t (offer_in_seat (seat_of c.args.seats.now t)) in
    appended_fewer p c.args.out.now.items c.list_delays.new.out.items (actions_of task_ops s t) ((Start t ∷ Else t ∷ []) ++ delays)
    (of_waiting task_ops owner s t c.requires.waiting)
    (filter_two p c.args.out.now.items c.list.new.out.items c.list_delays.new.out.items (Start t ∷ Else t ∷ []) delays c.in_ok-list.ensures c.in_ok-list_delays.ensures)
