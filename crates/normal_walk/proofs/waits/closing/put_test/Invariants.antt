use Rattle.std.proofs.Common.{◌≡◌, None, map, option_map}
use Rattle.ada_tree.specs.PlainExpr.{plain_expr}
use Rattle.ada_tree.specs.PlainStmt.{plain_alt}
use Rattle.normal_walk.specs.waits.inner.Closing.{closed_from, guards_in}
use Rattle.normal_walk.proofs.waits.Guarding.{left_from}
use Rattle.normal_walk.proofs.waits.closing.put_test.Given as goal

-- the test so far, before the guards that are left
abbrev pub invariant-loop-alt : goal.invariant-loop-alt
invariant-loop-alt l = closed_from l.span (option_map plain_expr l.test) (guards_in (left_from l.alts l.alt-index)) ≡ closed_from l.span None (guards_in (map plain_alt l.alts))
