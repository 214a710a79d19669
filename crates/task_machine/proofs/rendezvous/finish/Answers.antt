use Rattle.std.proofs.Common.{◌∙◌, ap}
use Rattle.task_model.specs.Rendezvous.{finished}
use Rattle.event_machine.specs.Effects.{freed}
use Rattle.task_machine.specs.Table.{store, seat_of, offer_in_seat}
use Rattle.task_machine.proofs.Finishing.{ends_both, stays_there}
use Rattle.task_machine.proofs.rendezvous.finish.Goals as goal

pub close-requires : goal.close-requires
close-requires c =
    ap (λ tasks. offer_in_seat (seat_of tasks c.args.a)) c.in_ok-part_first.ensures.ok
    ∙ stays_there c.args.numbers.now c.args.seats.now c.args.a c.in_ok-pending.pending c.deref.result.now c.in_ok-pending.ensures.pending (c.deref.ensures.value ∙ c.in_ok-pending.ensures.values)
    ∙ c.requires

pub returns-clause-ok : goal.returns-clause-ok
returns-clause-ok c =
    c.close.ensures
    ∙ ap (λ tasks. freed store finished tasks c.args.a) c.in_ok-part_first.ensures.ok
    ∙ ends_both c.args.numbers.now c.args.seats.now c.args.a c.in_ok-pending.pending c.deref.result.now c.in_ok-pending.ensures.pending (c.deref.ensures.value ∙ c.in_ok-pending.ensures.values)
