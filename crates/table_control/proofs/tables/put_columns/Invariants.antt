use Rattle.std.proofs.Common.{◌≡◌, ◌++◌, map, take}
use Rattle.ada_tree.specs.PlainDecl.{plain_decl}
use Rattle.replay_model.specs.tables.Tables.{table_declared}
use Rattle.table_control.proofs.tables.put_columns.Given as goal

abbrev pub invariant-loop-column : goal.invariant-loop-column
invariant-loop-column l = map plain_decl l.out.items ≡ map plain_decl l.initial.out.items ++ map (λ column. table_declared l.n l.s column l.made) (take l.column-index l.columns)
