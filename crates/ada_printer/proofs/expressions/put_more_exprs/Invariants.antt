use Rattle.std.proofs.Common.{take, map, codes}
use Rattle.ded_io.specs.Written.{◌⧺◌, each_text}
use Rattle.ada_tree.specs.PlainExpr.{plain_expr}
use Rattle.ada_printer.specs.ExprText.{expr_text}
use Rattle.ded_io.specs.pages.Pages.{Drew, over}
use Rattle.ada_printer.proofs.expressions.put_more_exprs.Given as goal

abbrev pub invariant-loop-expr : goal.invariant-loop-expr
invariant-loop-expr g l =
    Drew (over l.initial.page (g.K.Sink.told l.initial.out) (g.K.Sink.faults l.initial.out)) (over l.page (g.K.Sink.told l.out) (g.K.Sink.faults l.out))
    (each_text (λ e. codes ", " ⧺ expr_text l.names e) (map plain_expr (take l.expr-index l.exprs)))
