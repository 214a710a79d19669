use Rattle.std.proofs.Common.{refl, codes}
use Rattle.ada_tree.specs.PlainExpr.{plain_expr}
use Rattle.ada_printer.specs.ExprText.{expr_text}
use Rattle.ada_printer.proofs.Listed.{drew_seen_list}
use Rattle.ada_printer.proofs.expressions.put_separated_exprs.Goals as goal

pub returns-in-len1-up : goal.returns-in-len1-up
returns-in-len1-up g c =
    drew_seen_list _ _ plain_expr (codes ", ") (expr_text c.args.names.now) c.args.exprs.now _ c.first-item.result _ _ _ c.in-len1-up.len_at_least c.first-item.is refl
    c.put_expr.ensures c.put_more_exprs.ensures
