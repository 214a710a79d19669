use Rattle.ada_tree.specs.PlainStmt.{plain_body}
use Rattle.collect_statements.specs.Looked.{teller_of}
use Rattle.collect_xform.proofs.units.Steps.{told-body}
use Rattle.collect_xform.proofs.units.units.tell_body.Goals as goal

pub returns : goal.returns
returns c =
    told-body (teller_of c.args.x.now) c.task_of.result _ c.args.name.span (plain_body c.args.body.now) (plain_body c.collect_task.new.body) c.collect_task.result c.task_of.ensures c.collect_task.ensures
