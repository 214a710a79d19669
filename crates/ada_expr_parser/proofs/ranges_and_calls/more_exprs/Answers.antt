use Rattle.std.proofs.Common.{◌≡◌, ◌++◌, ◌∷◌, [], map, refl, sym, ap, ◌∙◌, arith}
use Rattle.std.proofs.lemmas.List.{map-append}
use Rattle.ada_expr_parser.specs.readers.Readers.{fronted, items_in}
use Rattle.ada_tree.specs.PlainExpr.{plain_expr}
use Rattle.ada_expr_parser.specs.Parts.{is_comma, next_expr}
use Rattle.ada_expr_parser.proofs.Lists.{list_goes}
use Rattle.ada_expr_parser.proofs.ranges_and_calls.more_exprs.Goals as goal

pub commas-preserved : goal.commas-preserved
commas-preserved c =
    let before = c.commas.invariant in
    let g = list_goes is_comma (next_expr c.args.depth) (map plain_expr c.commas.list.items) before.0 c.commas.rest.now _ (plain_expr c.in_ok-expr.expr) c.in_ok-expr.behind.now
    c.in-len1-up.len_at_least before.1 (sym c.is_comma.ensures ∙ c.if-not-is_comma.false) c.in_ok-expr.ensures.tree c.in_ok-expr.ensures.shorter in
    let grown : map plain_expr c.add.new.list.items ≡ map plain_expr c.commas.list.items ++ plain_expr c.in_ok-expr.expr ∷ [] = rw (c.in_ok-add.ensures.added, map-append) refl in (
      g.0,
      g.1,
      omega (arith, before.2, c.in_ok-expr.ensures.shorter),
      ap (λ done. fronted done (items_in g.0 is_comma (next_expr c.args.depth) c.in_ok-expr.behind.now)) grown ∙ sym g.2 ∙ before.3,
    )
