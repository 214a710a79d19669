use Rattle.std.proofs.Common.{[], ◌∷◌, refl}
use Rattle.std.proofs.lemmas.List.Elements.{All-nil, All-cons}
use Rattle.feasible.specs.Keeping.{IsSettled}
use Rattle.feasible.proofs.Running.{stuck_next, have_run_on, settled_stays}
use Rattle.feasible.proofs.settling.settle_two.Goals as goal

pub returns-then-not-branch-clause-settled : goal.returns-then-not-branch-clause-settled
returns-then-not-branch-clause-settled c =
    stuck_next c.args.bound c.settle.new.seats c.settle.new.steps [] (c.args.u ∷ []) (c.args.t ∷ c.args.u ∷ []) c.args.t refl (All-nil (IsSettled c.settle.new.seats))
    (c.in_ok-settle.ensures.stuck c.if-not-branch.true)

pub returns-then-branch-clause-run : goal.returns-then-branch-clause-run
returns-then-branch-clause-run c = have_run_on c.args.bound c.in_ok-settle.ensures.run c.in_ok-settle-2.ensures.run

pub returns-then-branch-clause-settled : goal.returns-then-branch-clause-settled
returns-then-branch-clause-settled c =
    All-cons (IsSettled c.settle-2.new.seats) c.args.t (c.args.u ∷ [])
    (settled_stays c.args.bound c.in_ok-settle-2.ensures.run c.args.t (c.in_ok-settle.ensures.settled c.if-not-branch.false))
    (All-cons (IsSettled c.settle-2.new.seats) c.args.u [] (c.in_ok-settle-2.ensures.settled c.if-branch.true) (All-nil (IsSettled c.settle-2.new.seats)))

pub returns-else-branch-clause-run : goal.returns-else-branch-clause-run
returns-else-branch-clause-run c = have_run_on c.args.bound c.in_ok-settle.ensures.run c.in_ok-settle-2.ensures.run

pub returns-else-branch-clause-settled : goal.returns-else-branch-clause-settled
returns-else-branch-clause-settled c =
    stuck_next c.args.bound c.settle-2.new.seats c.settle-2.new.steps (c.args.t ∷ []) [] (c.args.t ∷ c.args.u ∷ []) c.args.u refl
    (All-cons (IsSettled c.settle-2.new.seats) c.args.t []
    (settled_stays c.args.bound c.in_ok-settle-2.ensures.run c.args.t (c.in_ok-settle.ensures.settled c.if-not-branch.false))
    (All-nil (IsSettled c.settle-2.new.seats)))
    (c.in_ok-settle-2.ensures.stuck c.if-branch.false)
