use Rattle.std.proofs.Common.{◌+◌, ◌-◌, length, arith}
use Rattle.syn_event.specs.Numbering.{owner_of}
use Rattle.syn_order.specs.Refusals.{IsSplitError}
use Rattle.syn_order.proofs.Neighbours.{refused_longer, last_but_one_refused, last_refused, last_admitted, last_apart_iff, passed_on}
use Rattle.syn_order.proofs.exchanging.last_apart.Goals as goal

pub returns-in_err-progress-clause-refused : goal.returns-in_err-progress-clause-refused
returns-in_err-progress-clause-refused c =
    let owner = owner_of c.args.numbers.now in
    let n = length c.args.numbers.now.tasks in
    passed_on c.from_residual.result c.in_err-progress.field-0.0 (IsSplitError owner n c.args.events.now) c.from_residual.ensures.1
    (refused_longer owner n (c.args.k - 1) c.args.events.now c.in_err-progress.field-0.0 (omega arith) c.in_err-progress.ensures.refused)

pub returns-in_err-go_on-clause-refused : goal.returns-in_err-go_on-clause-refused
returns-in_err-go_on-clause-refused c =
    let owner = owner_of c.args.numbers.now in
    let n = length c.args.numbers.now.tasks in
    passed_on c.from_residual-in_err-go_on.result c.in_err-go_on.field-0.0 (IsSplitError owner n c.args.events.now) c.from_residual-in_err-go_on.ensures.1
    (last_but_one_refused owner n c.args.events.now (c.args.k - 1) (omega arith) c.in_ok-progress.progress c.in_ok-progress.ensures.known c.in_ok-progress.ensures.admitted
    _ c.in_err-go_on.field-0.0 c.args.k (omega arith) c.in_err-go_on.ensures.refused c.in_err-go_on.ensures.not_admitted)

pub returns-in_err-go_on-2-clause-refused : goal.returns-in_err-go_on-2-clause-refused
returns-in_err-go_on-2-clause-refused c =
    let owner = owner_of c.args.numbers.now in
    let n = length c.args.numbers.now.tasks in
    passed_on c.from_residual-in_err-go_on-2.result c.in_err-go_on-2.field-0.0 (IsSplitError owner n c.args.events.now) c.from_residual-in_err-go_on-2.ensures.1
    (last_refused owner n c.args.events.now (c.args.k - 1) (omega arith) c.in_ok-progress.progress c.in_ok-progress.ensures.known c.in_ok-progress.ensures.admitted
    _ c.go_on.new.progress c.in_ok-go_on.ensures.known c.in_ok-go_on.ensures.admitted
    _ c.in_err-go_on-2.field-0.0 (c.args.k + 1) (omega arith) c.in_err-go_on-2.ensures.refused c.in_err-go_on-2.ensures.not_admitted)

pub returns-clause-admitted : goal.returns-clause-admitted
returns-clause-admitted c =
    last_admitted (owner_of c.args.numbers.now) (length c.args.numbers.now.tasks) c.args.events.now (c.args.k - 1) (omega arith) c.in_ok-progress.progress
    c.in_ok-progress.ensures.known c.in_ok-progress.ensures.admitted _ c.go_on.new.progress c.in_ok-go_on.ensures.known c.in_ok-go_on.ensures.admitted
    _ c.in_ok-go_on-2.ensures.admitted

pub returns-clause-apart : goal.returns-clause-apart
returns-clause-apart c =
    last_apart_iff (owner_of c.args.numbers.now) (length c.args.numbers.now.tasks) c.args.events.now (c.args.k - 1) (omega arith) c.in_ok-progress.progress
    c.in_ok-progress.ensures.known c.in_ok-progress.ensures.admitted c.args.k _ _ c.are_apart-apart.result (omega arith) c.are_apart-apart.ensures
