use Rattle.std.proofs.Common.{◌∙◌, sym, length, map}
use Rattle.syn_event.specs.Numbering.{owner_of}
use Rattle.syn_order.specs.inner.Places.{left}
use Rattle.syn_order.proofs.Taking.{ready_not, ready_iff}
use Rattle.syn_order.proofs.readiness.is_ready.Goals as goal

pub returns-then-not-admits : goal.returns-then-not-admits
returns-then-not-admits c = ready_not (owner_of c.args.numbers.now) (length c.args.lists.now) c.args.followed.now.progress (left (map (λ v. v.items) c.args.lists.now) c.args.places.now) c.args.e.now
    (sym c.admits.ensures ∙ c.if-not-admits.true)

pub returns : goal.returns
returns c = ready_iff (owner_of c.args.numbers.now) (length c.args.lists.now) c.args.followed.now.progress (left (map (λ v. v.items) c.args.lists.now) c.args.places.now) c.args.e.now
    c.is_first.result (sym c.admits.ensures ∙ c.if-not-admits.false) c.is_first.ensures
