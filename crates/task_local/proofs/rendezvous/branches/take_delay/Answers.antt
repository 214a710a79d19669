use Rattle.std.proofs.Common.{◌∙◌, sym, ap}
use Rattle.ada_tree.specs.PlainStmt.{plain_stmt}
use Rattle.task_state.specs.Plain.{plain_task}
use Rattle.task_local.specs.rendezvous.inner.Branches.{part_taken}
use Rattle.task_local.proofs.rendezvous.Taking.{takes_delay, no_delay}
use Rattle.task_local.proofs.rendezvous.branches.take_delay.Goals as goal

pub returns-in-Stmt : goal.returns-in-Stmt
returns-in-Stmt c =
    let t = plain_task c.args.task.now in
    c.take_part.ensures ∙ ap (λ part. part_taken part t) c.delay_part.ensures ∙ sym (takes_delay c.args.k t (plain_stmt c.in-Stmt.stmt.now) c.in-Stmt.ensures)

pub returns-in-Turn : goal.returns-in-Turn
returns-in-Turn c = sym (no_delay c.args.k (plain_task c.args.task.now) c.in-Turn.ensures.0)

pub returns-in-EndOfBody : goal.returns-in-EndOfBody
returns-in-EndOfBody c = sym (no_delay c.args.k (plain_task c.args.task.now) c.in-EndOfBody.ensures.0)

pub returns-in-EndOfUnit : goal.returns-in-EndOfUnit
returns-in-EndOfUnit c = sym (no_delay c.args.k (plain_task c.args.task.now) c.in-EndOfUnit.ensures.0)
