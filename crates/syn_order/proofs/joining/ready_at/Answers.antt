use Rattle.std.proofs.Common.{◌∙◌, sym, length, map}
use Rattle.syn_event.specs.Numbering.{owner_of}
use Rattle.syn_order.specs.inner.Places.{left}
use Rattle.syn_order.proofs.Taking.{late_end, not_ready_at, nothing_at}
use Rattle.syn_order.proofs.joining.ready_at.Goals as goal

pub returns-then-is_late_end-clause-none : goal.returns-then-is_late_end-clause-none
returns-then-is_late_end-clause-none c = λ q. late_end (owner_of c.args.numbers.now) (length c.args.lists.now) c.args.followed.now.progress (left (map (λ v. v.items) c.args.lists.now) c.args.places.now) c.args.t c.in-Some.e
    (sym c.first_left.ensures ∙ c.in-Some.is) (sym c.is_late_end.ensures ∙ c.if-is_late_end.true)

pub returns-then-not-is_ready-clause-none : goal.returns-then-not-is_ready-clause-none
returns-then-not-is_ready-clause-none c = λ q. not_ready_at (owner_of c.args.numbers.now) (length c.args.lists.now) c.args.followed.now.progress (left (map (λ v. v.items) c.args.lists.now) c.args.places.now) c.args.t c.in-Some.e c.is_ready.result
    (sym c.first_left.ensures ∙ c.in-Some.is) c.if-not-is_ready.true c.is_ready.ensures

pub returns-in-None-clause-none : goal.returns-in-None-clause-none
returns-in-None-clause-none c = λ q. nothing_at (owner_of c.args.numbers.now) (length c.args.lists.now) c.args.followed.now.progress (left (map (λ v. v.items) c.args.lists.now) c.args.places.now) c.args.t (sym c.first_left.ensures ∙ c.in-None.is)
