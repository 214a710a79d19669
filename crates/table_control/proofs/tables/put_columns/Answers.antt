use Rattle.std.proofs.Common.{map}
use Rattle.ada_tree.specs.PlainDecl.{plain_decl}
use Rattle.replay_model.specs.tables.Tables.{table_declared}
use Rattle.table_control.proofs.Lists.{turn-more}
use Rattle.table_control.proofs.tables.put_columns.Goals as goal

pub loop-column-preserved : goal.loop-column-preserved
loop-column-preserved c =
    turn-more plain_decl (λ column. table_declared c.args.n.now c.args.s column c.args.made.now) (map plain_decl c.args.out.now.items) c.loop-column.out.items c.push_decl.new.list.items c.args.columns.now c.loop-column.column-index _ c.table_declared.result
    c.loop-column-test.true c.loop-column.invariant c.in_ok-push_decl.ensures c.table_declared.ensures
