use Rattle.std.proofs.Common.{◌≡◌, subst, pred, length, arith}
use Rattle.std.specs.Prelude.{All}
use Rattle.task_machine.specs.Conditions.{tasks_to}
use Rattle.feasible.specs.Keeping.{IsSettled}
use Rattle.feasible.specs.inner.Needs.{tasks_below}
use Rattle.feasible.proofs.Running.{stuck_next, have_run_on, all_stay, tasks_from, settled_all, settled_more}
use Rattle.common_lemmas.proofs.Numbers.{below_pred}
use Rattle.feasible.proofs.settling.settle_all.Goals as goal

pub returns-then-not-branch-clause-run : goal.returns-then-not-branch-clause-run
returns-then-not-branch-clause-run c = have_run_on c.args.bound c.loop-t.invariant.0 c.in_ok-settle.ensures.run

pub returns-then-not-branch-clause-settled : goal.returns-then-not-branch-clause-settled
returns-then-not-branch-clause-settled c =
    let n = pred (length c.args.seats.now) in
    let parts = tasks_from n c.loop-t.t (below_pred (length c.args.seats.now) c.loop-t.t c.loop-t-test.true) in
    stuck_next c.args.bound c.settle.new.seats c.settle.new.steps (tasks_below c.loop-t.t) parts.0 (tasks_to n) c.loop-t.t parts.1
    (all_stay c.args.bound c.in_ok-settle.ensures.run (tasks_below c.loop-t.t) c.loop-t.invariant.1) (c.in_ok-settle.ensures.stuck c.if-not-branch.true)

pub loop-t-preserved : goal.loop-t-preserved
loop-t-preserved c = (
  have_run_on c.args.bound c.loop-t.invariant.0 c.in_ok-settle.ensures.run,
  settled_more c.settle.new.seats c.loop-t.t
      (all_stay c.args.bound c.in_ok-settle.ensures.run (tasks_below c.loop-t.t) c.loop-t.invariant.1) (c.in_ok-settle.ensures.settled c.if-not-branch.false),
)

pub returns-clause-settled : goal.returns-clause-settled
returns-clause-settled c =
    let end' : c.loop-t.t ≡ length c.args.seats.now = omega arith in
    settled_all (length c.args.seats.now) c.loop-t.seats c.loop-t.invariant.0.size
    (subst (λ n. All (IsSettled c.loop-t.seats) (tasks_below n)) end' c.loop-t.invariant.1)
