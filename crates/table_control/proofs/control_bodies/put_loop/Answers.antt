use Rattle.ada_tree.specs.PlainStmt.{plain_stmt}
use Rattle.replay_model.specs.tables.ControlBodies.{loop_over, loops}
use Rattle.table_control.proofs.Lists.{put-more}
use Rattle.table_control.proofs.Shapes.{one-loop}
use Rattle.table_control.proofs.control_bodies.put_loop.Goals as goal

pub returns : goal.returns
returns c =
    put-more plain_stmt c.args.out.now.items c.push_stmt.new.list.items c.loop_over.result (loop_over c.args.n.now c.args.infos.now c.args.s c.args.count) (loops c.args.n.now c.args.infos.now c.args.s c.args.count)
    c.push_stmt.result c.push_stmt.ensures c.loop_over.ensures (one-loop c.args.n.now c.args.infos.now c.args.s c.args.count c.if-count-eq0.false)
