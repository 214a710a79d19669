use Rattle.std.proofs.Common.{◌≤◌, ◌+◌, ◌-◌, true, false, sym, ◌∙◌, ap, arith}
use Rattle.ada_expr_parser.specs.readers.Readers.{go_on}
use Rattle.ada_tree.specs.PlainExpr.{plain_expr}
use Rattle.ada_tree.specs.PlainStmt.{PStmt}
use Rattle.ada_expr_parser.specs.Trees.{levels, indexed}
use Rattle.ada_expr_parser.specs.Parts.{expr_behind}
use Rattle.ada_simple_stmt_parser.specs.inner.ReadingSimple.{get_index}
use Rattle.ada_simple_stmt_parser.proofs.Got.{full_deep, full_ends, indexed_is, got_behind}
use Rattle.ada_phrase_parser.proofs.Named.{faults_here}
use Rattle.ada_simple_stmt_parser.proofs.name_statements.get_indexed.Goals as goal

pub returns-then-is_operator-clause-tree : goal.returns-then-is_operator-clause-tree
returns-then-is_operator-clause-tree c =
    let low : c.args.depth ≤ levels (plain_expr c.args.arg) + 1 = omega (arith, c.requires.height, c.if-height-depth.true) in
    rw (full_deep c.args.depth c.args.word c.args.name (plain_expr c.args.arg) c.args.close c.args.items.now _ c.requires.depth low c.in-len1-up.len_at_least (sym c.is_symbol.ensures ∙ c.if-is_symbol.false) (sym c.is_operator.ensures ∙ c.if-is_operator.true))
    (faults_here PStmt true c.args.items.now _ c.in-len1-up.len_at_least)

pub returns-then-height-depth-clause-tree : goal.returns-then-height-depth-clause-tree
returns-then-height-depth-clause-tree c =
    let low : c.args.depth ≤ levels (plain_expr c.args.arg) + 1 = omega (arith, c.requires.height, c.if-height-depth.true) in
    rw (full_ends c.args.depth c.args.word c.args.name (plain_expr c.args.arg) c.args.close c.args.items.now _ c.requires.depth low c.in-len1-up.len_at_least (sym c.is_symbol.ensures ∙ c.if-is_symbol.false) (sym c.is_operator.ensures ∙ c.if-is_operator.false))
    (faults_here PStmt false c.args.items.now _ c.in-len1-up.len_at_least)

pub returns-clause-tree : goal.returns-clause-tree
returns-clause-tree c =
    rw (indexed_is c.args.depth c.args.word c.args.name (plain_expr c.args.arg) c.args.close c.args.items.now _ c.in-len1-up.len_at_least (sym c.is_symbol.ensures ∙ c.if-is_symbol.false)
    ∙ ap (λ r. go_on r (get_index c.args.depth c.args.word))
    (got_behind c.args.depth (indexed c.args.name (plain_expr c.args.arg) c.args.close) c.args.items.now c.requires.depth
    ∙ ap (λ e. expr_behind (c.args.depth - 1) e c.args.items.now) (sym c.in_ok-first.ensures.tree) ∙ c.in_ok-index.ensures.tree))
    c.get_index.ensures.tree
