use Rattle.std.proofs.Common.{◌≡◌, ◌+◌, sym, subst, pred, length, arith, Some, None}
use Rattle.task_machine.specs.Conditions.{failing_in, others_may_end}
use Rattle.feasible.specs.Failing.{view_at}
use Rattle.feasible.proofs.Asking.{others_at, others_first}
use Rattle.common_lemmas.proofs.Numbers.{below_pred}
use Rattle.feasible.proofs.conditions.failing_others.Goals as goal

pub returns-in-Some : goal.returns-in-Some
returns-in-Some c =
    let seats = c.args.seats.now in
    sym (others_first seats (pred (length seats)) c.loop-t.t c.in-Some.why (below_pred (length seats) c.loop-t.t c.loop-t-test.true)
    (others_at seats c.loop-t.t (Some c.in-Some.why) c.loop-t.auto.t c.loop-t.invariant c.in-Some.ensures))

pub loop-t-preserved : goal.loop-t-preserved
loop-t-preserved c =
    let seats = c.args.seats.now in
    let e : c.loop-t.t ≡ pred (c.loop-t.t + 1) = omega arith in
    subst (λ n. failing_in (view_at seats) (others_may_end n) ≡ None) e
    (others_at seats c.loop-t.t None c.loop-t.auto.t c.loop-t.invariant c.in-None.ensures)
