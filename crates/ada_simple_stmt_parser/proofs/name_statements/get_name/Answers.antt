use Rattle.std.proofs.Common.{◌≡◌, ◌-◌, sym, ◌∙◌, ap, rules, arith}
use Rattle.ada_expr_parser.specs.readers.Readers.{bind, token, go_on}
use Rattle.ada_expr_parser.specs.Tests.{word}
use Rattle.ada_expr_parser.specs.Gives.{Fails}
use Rattle.ada_expr_parser.specs.Parts.{expression}
use Rattle.ada_expr_parser.proofs.Steps.{fails_go_on}
use Rattle.ada_simple_stmt_parser.specs.inner.ReadingSimple.{get_name, get_index}
use Rattle.ada_simple_stmt_parser.proofs.Got.{got_is, got_alone}
use Rattle.ada_simple_stmt_parser.proofs.name_statements.get_name.Goals as goal

pub returns-then-is_symbol-clause-tree : goal.returns-then-is_symbol-clause-tree
returns-then-is_symbol-clause-tree c =
    rw (got_alone c.args.depth c.args.word c.in_ok-name.name c.args.items.now c.in_ok-name.behind.now _ c.in_ok-name.ensures.tree c.in-len1-up.len_at_least (sym c.is_symbol.ensures ∙ c.if-is_symbol.true))
    c.get_or_index.ensures.tree

pub returns-in_err-index-clause-tree : goal.returns-in_err-index-clause-tree
returns-in_err-index-clause-tree c =
    let is : bind (token word) (get_name c.args.depth c.args.word) c.args.items.now ≡ go_on (expression (c.args.depth - 1) c.args.items.now) (get_index c.args.depth c.args.word) =
    got_is c.args.depth c.args.word c.in_ok-name.name c.args.items.now c.in_ok-name.behind.now _ c.in_ok-name.ensures.tree c.in-len1-up.len_at_least (sym c.is_symbol-opens.ensures ∙ c.if-not-opens.true) (sym c.is_symbol.ensures ∙ c.if-is_symbol.false) (omega (arith, c.if-depth-eq0.false)) in
    let fails : Fails c.in_err-index.field-0.0 (bind (token word) (get_name c.args.depth c.args.word) c.args.items.now) = rw is (fails_go_on _ _ (get_index c.args.depth c.args.word) c.in_err-index.ensures.tree) in
    search (rules, fails)

pub returns-then-not-opens-clause-tree : goal.returns-then-not-opens-clause-tree
returns-then-not-opens-clause-tree c =
    let is : bind (token word) (get_name c.args.depth c.args.word) c.args.items.now ≡ go_on (expression (c.args.depth - 1) c.args.items.now) (get_index c.args.depth c.args.word) =
    got_is c.args.depth c.args.word c.in_ok-name.name c.args.items.now c.in_ok-name.behind.now _ c.in_ok-name.ensures.tree c.in-len1-up.len_at_least (sym c.is_symbol-opens.ensures ∙ c.if-not-opens.true) (sym c.is_symbol.ensures ∙ c.if-is_symbol.false) (omega (arith, c.if-depth-eq0.false)) in
    rw (is ∙ ap (λ r. go_on r (get_index c.args.depth c.args.word)) c.in_ok-index.ensures.tree) c.get_index.ensures.tree
