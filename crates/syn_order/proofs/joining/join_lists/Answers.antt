use Rattle.std.proofs.Common.{◌∙◌, subst, length, map}
use Rattle.std.proofs.lemmas.List.{with_items_is}
use Rattle.syn_event.specs.Numbering.{owner_of}
use Rattle.syn_order.specs.Orders.{list_at}
use Rattle.syn_order.specs.inner.Places.{left, IsFirstLeft}
use Rattle.syn_order.proofs.Taking.{run_stuck}
use Rattle.syn_order.proofs.joining.join_lists.Goals as goal

pub returns-in-Some-clause-refused : goal.returns-in-Some-clause-refused
returns-in-Some-clause-refused c =
    let lists = map (λ v. v.items) c.args.lists.now in
    let n = length c.args.numbers.now.tasks in
    run_stuck (owner_of c.args.numbers.now) n (list_at lists) (left lists c.take_all.new.places) c.in_ok-events.events.items c.in-Some.task c.in_ok-events.ensures.run
    (subst (λ ps. IsFirstLeft n (left lists ps) c.in-Some.task)
    (c.deref.ensures.value ∙ with_items_is c.in_ok-places.places c.take_all.new.places (c.take_all.auto.places ∙ c.deref_mut.ensures.len)) c.in-Some.ensures.first)
