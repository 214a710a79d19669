use Rattle.ada_tree.specs.PlainStmt.{plain_stmt}
use Rattle.task_state.specs.Plain.{plain_task}
use Rattle.task_waits.specs.Standing.{plain_parts}
use Rattle.task_local.proofs.rendezvous.Bodies.{accepts_next}
use Rattle.task_local.proofs.rendezvous.opening.accepting.Goals as goal

pub returns-in-Stmt : goal.returns-in-Stmt
returns-in-Stmt c =
    accepts_next
    (plain_task c.args.task.now)
    (plain_stmt c.in-Stmt.stmt.now)
    c.args.member.entry
    c.args.member.index
    (plain_parts c.alternative_for.result)
    c.in-Stmt.ensures
    c.alternative_for.ensures
