use Rattle.std.proofs.Common.{◌≡◌, ◌<◌, ◌∙◌, ℕ, true, ap, sym, subst, length, map, Some}
use Rattle.std.specs.Prelude.{◌↔◌, IsTrue}
use Rattle.event_machine.specs.Soundness.{times}
use Rattle.event_machine.specs.progress.Known.{touches}
use Rattle.syn_event.specs.Numbering.{owner_of}
use Rattle.syn_order.specs.Orders.{first}
use Rattle.syn_order.specs.inner.Lists.{at_place}
use Rattle.syn_order.specs.inner.Places.{left}
use Rattle.syn_order.proofs.Taking.{aborting_iff}
use Rattle.syn_order.proofs.readiness.is_first.Goals as goal

pub returns-else-not-is_first_of_two : goal.returns-else-not-is_first_of_two
returns-else-not-is_first_of_two c =
    let lists = left (map (λ v. v.items) c.args.lists.now) c.args.places.now in
    subst
    (λ v. IsTrue c.is_first_of_each.result ↔ ((u : ℕ) → u < length c.args.lists.now → touches (owner_of c.args.numbers.now) c.args.followed.now.progress v u ≡ true → first (lists u) ≡ Some c.args.e.now))
    (sym c.in-B.is)
    (aborting_iff (owner_of c.args.numbers.now) c.args.followed.now.progress (map (λ v. v.items) c.args.followed.now.callers.items) c.requires.callers
    (λ u. first (lists u) ≡ Some c.args.e.now) (length c.args.lists.now) c.is_first_of_two-in-B.result c.is_first_of_each.result c.in-B.t c.in-B.x c.if-not-is_first_of_two.false
    c.is_first_of_two-in-B.ensures
    (subst (λ xs. IsTrue c.is_first_of_each.result ↔ ((u : ℕ) → u < length c.args.lists.now → 0 < times u xs → first (lists u) ≡ Some c.args.e.now))
    (c.callers_of-in-B.ensures ∙ ap (λ vs. at_place (map (λ v. v.items) vs) c.in-B.x) c.deref-in-B.ensures.value) c.is_first_of_each.ensures))
