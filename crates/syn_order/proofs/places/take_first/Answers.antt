use Rattle.std.proofs.Common.{◌∙◌, ap, length, map, get_or, set, arith}
use Rattle.std.proofs.lemmas.List.{length-map}
use Rattle.syn_order.specs.inner.Places.{left, next_place}
use Rattle.syn_order.proofs.Taking.{left_set, left_past}
use Rattle.syn_order.proofs.places.take_first.Goals as goal

pub returns-then-t-places-clause-taken : goal.returns-then-t-places-clause-taken
returns-then-t-places-clause-taken c =
    let count = length-map c.args.lists.now (λ v. v.items) in
    λ u. left_past (map (λ v. v.items) c.args.lists.now) c.args.places.now c.args.t u (omega (arith, count, c.requires, c.if-t-places.true))

pub returns-clause-taken : goal.returns-clause-taken
returns-clause-taken c = λ u.
    ap (λ p. left (map (λ v. v.items) c.args.lists.now) (set c.args.places.now c.args.t p) u)
    (c.next_place.ensures ∙ ap (λ xs. next_place (get_or c.args.places.now c.args.t 0) (length xs)) c.list_of.ensures)
    ∙ left_set (map (λ v. v.items) c.args.lists.now) c.args.places.now c.args.t u 0 c.if-t-places.false
