use Rattle.std.proofs.Common.{◌≡◌, ◌++◌, map, take}
use Rattle.ada_tree.specs.PlainExpr.{plain_expr}
use Rattle.normal_model.specs.Members.{integer_literal}
use Rattle.replay_model.specs.tables.Columns.{says}
use Rattle.table_control.proofs.tables.put_parts.Given as goal

abbrev pub invariant-loop-op : goal.invariant-loop-op
invariant-loop-op l = map plain_expr l.out.items ≡ map plain_expr l.initial.out.items ++ map (λ op. integer_literal l.s (says l.column op)) (take l.op-index l.made)
