use Rattle.std.proofs.Common.{◌≤◌, sym, ap, subst, arith}
use Rattle.task_model.specs.Starting.{Unit, unit_of}
use Rattle.task_local.specs.room.Fitting.{HasRoom}
use Rattle.task_local.proofs.room.Standing.{started_has_room}
use Rattle.task_waits.specs.Room.{widest_body}
use Rattle.task_local.proofs.task_parts.TaskParts.start.Goals as goal

pub renew-requires : goal.renew-requires
renew-requires c =
    let g = c.args.links.now in
    let unit = unit_of g.program g.numbers c.args.task in
    let width = ap (λ (u : Unit). widest_body u.body) c.unit_of.ensures in
    let fits : widest_body unit.body ≤ c.widest_in-widest.result = omega (arith, c.widest_in-widest.ensures, width) in
    record {
      room = subst (λ t. HasRoom c.widest_in-widest.result t) (sym c.in_ok-state.ensures) (started_has_room c.widest_in-widest.result g c.args.task unit c.args.input.now fits);
      wide = c.in_ok-choices.ensures.capacity;
      few = omega arith;
    }
