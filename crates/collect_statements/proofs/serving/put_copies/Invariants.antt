use Rattle.std.proofs.Common.{◌≡◌, ◌++◌, map, take}
use Rattle.ada_tree.specs.PlainStmt.{plain_formal}
use Rattle.collect_statements.proofs.serving.put_copies.Given as goal

abbrev pub invariant-loop-formal : goal.invariant-loop-formal
invariant-loop-formal l = map plain_formal l.out.items ≡ map plain_formal l.initial.out.items ++ map plain_formal (take l.formal-index l.formals)
