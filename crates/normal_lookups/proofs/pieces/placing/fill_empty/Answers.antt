use Rattle.std.proofs.Common.{◌==◌, List, length, ap, ◌∙◌}
use Rattle.ada_tree.specs.declared.statements.Stmt.{Stmt}
use Rattle.normal_lookups.proofs.pieces.Fronts.{filled}
use Rattle.normal_lookups.proofs.pieces.placing.fill_empty.Goals as goal

pub returns-else-is_empty : goal.returns-else-is_empty
returns-else-is_empty c = filled c.args.span c.args.stmts.now.items c.is_empty.result (c.is_empty.ensures ∙ ap (λ (l : List Stmt). length l == 0) c.as_slice.ensures.value) c.if-is_empty.false
