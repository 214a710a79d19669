use Rattle.std.proofs.Common.{◌+◌, refl, ap, length}
use Rattle.syn_event.specs.Numbering.{owner_of}
use Rattle.syn_order.proofs.Following.{admitted_further, known_further}
use Rattle.syn_order.specs.Refusals.{IsSplitError}
use Rattle.syn_order.proofs.Neighbours.{refused_error, passed_on}
use Rattle.syn_order.proofs.exchanging.follow.Goals as goal

pub loop-e-init : goal.loop-e-init
loop-e-init c = record { counted = refl; admitted = tt; is_known = c.in_ok-progress.ensures }

pub loop-e-preserved : goal.loop-e-preserved
loop-e-preserved c =
    let owner = owner_of c.args.numbers.now in
    let n = length c.args.numbers.now.tasks in
    let h = c.loop-e.invariant in
    record {
      counted = ap (λ m. m + 1) h.counted;
      admitted = admitted_further owner n c.args.events.now c.loop-e.e-index _ c.loop-e-test.true c.loop-e.progress h.is_known h.admitted c.in_ok-go_on.ensures.admitted;
      is_known = known_further owner n c.args.events.now c.loop-e.e-index _ c.loop-e-test.true c.loop-e.progress h.is_known h.admitted c.go_on.new.progress c.in_ok-go_on.ensures.known;
    }

pub returns-in_err-go_on-clause-refused : goal.returns-in_err-go_on-clause-refused
returns-in_err-go_on-clause-refused c =
    let owner = owner_of c.args.numbers.now in
    let n = length c.args.numbers.now.tasks in
    let h = c.loop-e.invariant in
    passed_on c.from_residual-in_err-go_on.result c.in_err-go_on.field-0.0 (IsSplitError owner n c.args.events.now) c.from_residual-in_err-go_on.ensures.1
    (refused_error owner n c.args.events.now c.loop-e.e-index _ c.loop-e.progress c.in_err-go_on.field-0.0 (c.loop-e.at + 1) c.loop-e-test.true h.is_known h.admitted
    (ap (λ m. m + 1) h.counted) c.in_err-go_on.ensures.refused c.in_err-go_on.ensures.not_admitted)
