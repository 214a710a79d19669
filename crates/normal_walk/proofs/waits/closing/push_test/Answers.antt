use Rattle.std.proofs.Common.{map, sym}
use Rattle.ada_tree.specs.PlainStmt.{plain_alt, seen}
use Rattle.normal_walk.proofs.waits.Guarding.{test-placed, test-there}
use Rattle.normal_walk.proofs.waits.closing.push_test.Goals as goal

pub keep_expr-requires : goal.keep_expr-requires
keep_expr-requires c = test-there c.args.span c.args.alts.now c.put_test-done.new.test c.put_test-done.result c.requires.some (sym c.requires.guarded) c.put_test-done.ensures

pub returns : goal.returns
returns c =
    test-placed c.args.span (map plain_alt c.args.alts.now) c.put_test-done.new.test c.put_test-done.result c.keep_expr.result c.raise_if.result c.push_made.result (seen c.args.out.now.items) (seen c.push_made.new.out.items)
    (sym c.requires.guarded) c.put_test-done.ensures c.keep_expr.ensures c.raise_if.ensures c.push_made.ensures
