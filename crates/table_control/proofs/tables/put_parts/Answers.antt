use Rattle.std.proofs.Common.{map}
use Rattle.ada_tree.specs.PlainExpr.{plain_expr}
use Rattle.normal_model.specs.Members.{integer_literal}
use Rattle.replay_model.specs.tables.Columns.{says}
use Rattle.table_control.proofs.Lists.{turn-more}
use Rattle.table_control.proofs.tables.put_parts.Goals as goal

pub loop-op-preserved : goal.loop-op-preserved
loop-op-preserved c =
    turn-more plain_expr (λ op. integer_literal c.args.s (says c.args.column op)) (map plain_expr c.args.out.now.items) c.loop-op.out.items c.push_expr.new.list.items c.args.made.now c.loop-op.op-index _ c.said.result
    c.loop-op-test.true c.loop-op.invariant c.in_ok-push_expr.ensures c.said.ensures
