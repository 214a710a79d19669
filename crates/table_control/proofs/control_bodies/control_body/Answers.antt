use Rattle.table_control.proofs.Permitted.{permitted}
use Rattle.table_control.proofs.control_bodies.control_body.Goals as goal

pub returns-clause-permits : goal.returns-clause-permits
returns-clause-permits c =
    permitted c.args.names.now c.control_names.new.names c.in_ok-n.n c.args.ops.now c.args.numbers.now.tasks c.args.s c.body_by.result c.in_ok-n.ensures.texts c.in_ok-n.ensures.ids c.body_by.ensures.objects c.body_by.ensures.body
