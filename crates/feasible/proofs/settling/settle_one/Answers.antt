use Rattle.std.proofs.Common.{[], ◌∷◌, refl}
use Rattle.std.proofs.lemmas.List.Elements.{All-nil}
use Rattle.feasible.specs.Keeping.{IsSettled}
use Rattle.feasible.proofs.Running.{stuck_next}
use Rattle.feasible.proofs.settling.settle_one.Goals as goal

pub returns-else-branch-clause-settled : goal.returns-else-branch-clause-settled
returns-else-branch-clause-settled c =
    stuck_next c.args.bound c.settle.new.seats c.settle.new.steps [] [] (c.args.t ∷ []) c.args.t refl (All-nil (IsSettled c.settle.new.seats))
    (c.in_ok-settle.ensures.stuck c.if-branch.false)
