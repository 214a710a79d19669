use Rattle.std.proofs.Common.{map}
use Rattle.ada_tree.specs.PlainStmt.{plain_formal}
use Rattle.collect_statements.proofs.Copied.{plain-turn}
use Rattle.collect_statements.proofs.serving.put_copies.Goals as goal

pub loop-formal-preserved : goal.loop-formal-preserved
loop-formal-preserved c =
    plain-turn plain_formal (map plain_formal c.args.out.now.items) c.loop-formal.out.items c.push_formal.new.list.items c.args.formals.now c.loop-formal.formal-index c.formal-item.result c.copy.result c.loop-formal-test.true c.formal-item.is c.loop-formal.invariant c.in_ok-push_formal.ensures c.copy.ensures
