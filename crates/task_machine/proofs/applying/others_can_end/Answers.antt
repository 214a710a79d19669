use Rattle.std.proofs.Common.{length, pred, sym, ◌∙◌, arith}
use Rattle.task_machine.specs.Table.{seen_in}
use Rattle.task_machine.proofs.Ending.{others_can_end-not}
use Rattle.common_lemmas.proofs.Numbers.{below_pred}
use Rattle.task_machine.proofs.applying.others_can_end.Goals as goal

pub returns-then-not-can_end : goal.returns-then-not-can_end
returns-then-not-can_end c =
    let seats = c.args.seats.now in
    sym (others_can_end-not (seen_in seats c.args.line.now) (pred (length seats)) c.loop-t.t (omega arith)
    (below_pred (length seats) c.loop-t.t (omega arith)) (sym c.can_end.ensures ∙ c.if-not-can_end.true))
