use Rattle.std.proofs.Common.{◌≡◌, ◌-◌, sym, ◌∙◌, ap, rules}
use Rattle.ada_expr_parser.specs.readers.Readers.{bind, token, go_on}
use Rattle.ada_expr_parser.specs.Tests.{word}
use Rattle.ada_expr_parser.specs.Gives.{Fails}
use Rattle.ada_expr_parser.specs.Parts.{expression}
use Rattle.ada_expr_parser.proofs.Steps.{fails_go_on}
use Rattle.ada_phrase_parser.specs.Reading.{accept_name, behind_index}
use Rattle.ada_phrase_parser.proofs.Named.{accept_is}
use Rattle.ada_phrase_parser.proofs.operands.behind_name.Goals as goal

pub returns-in_err-index-clause-tree : goal.returns-in_err-index-clause-tree
returns-in_err-index-clause-tree c =
    let is : bind (token word) (accept_name c.args.depth) c.args.items.now ≡ go_on (expression (c.args.depth - 1) c.args.items.now) behind_index =
    accept_is c.args.depth c.in_ok-name.name c.args.items.now c.in_ok-name.rest.now _ c.in_ok-name.ensures.tree c.in-len1-up.len_at_least (sym c.is_formal_mark.ensures ∙ c.if-is_formal_mark.false) c.if-depth-gt0.true in
    let fails : Fails c.in_err-index.field-0.0 (bind (token word) (accept_name c.args.depth) c.args.items.now) = rw is (fails_go_on _ _ behind_index c.in_err-index.ensures.tree) in
    search (rules, fails)

pub returns-then-depth-gt0-clause-tree : goal.returns-then-depth-gt0-clause-tree
returns-then-depth-gt0-clause-tree c =
    let is : bind (token word) (accept_name c.args.depth) c.args.items.now ≡ go_on (expression (c.args.depth - 1) c.args.items.now) behind_index =
    accept_is c.args.depth c.in_ok-name.name c.args.items.now c.in_ok-name.rest.now _ c.in_ok-name.ensures.tree c.in-len1-up.len_at_least (sym c.is_formal_mark.ensures ∙ c.if-is_formal_mark.false) c.if-depth-gt0.true in
    rw (is ∙ ap (λ r. go_on r behind_index) c.in_ok-index.ensures.tree) c.behind_index.ensures.tree
