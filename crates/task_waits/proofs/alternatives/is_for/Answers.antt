use Rattle.ada_tree.specs.PlainStmt.{plain_accept}
use Rattle.task_waits.specs.Standing.{task_here}
use Rattle.task_waits.proofs.Offering.{accept_not_for}
use Rattle.task_waits.proofs.alternatives.is_for.Goals as goal

pub returns-in-Err : goal.returns-in-Err
returns-in-Err c = λ behind. accept_not_for (task_here c.args.here.now) (plain_accept c.args.accept.now) behind c.in-Err.field-0 c.args.member.entry c.args.member.index c.in-Err.ensures
