use Rattle.std.proofs.Common.{ap, ◌∙◌, ◌+◌, ◌∷◌, ◌++◌, map, option_map}
use Rattle.ada_tree.specs.PlainExpr.{plain_expr}
use Rattle.ada_tree.specs.PlainStmt.{PHead, plain_formal}
use Rattle.syn_event.specs.declared.limits.What.TheVariants.{Nesting}
use Rattle.syn_event.specs.CheckScope.{counts, accepts}
use Rattle.syn_event.specs.CheckSites.{site, if_there, expr_sites, names_sites, formal_names}
use Rattle.ada_check_rules.specs.rules.RefusedFirst.{refused_first}
use Rattle.ada_check_rules.proofs.rules.Meeting.{before, joined}
use Rattle.ada_check_places.proofs.parts.statement_parts.walk_head.Goals as goal

pub returns : goal.returns
returns c =
    let around = c.args.around.now in
    let h : PHead = record { entry = c.args.entry; index = option_map plain_expr c.args.index.now; formals = map plain_formal c.args.formals.now; span = c.args.span } in
    let index = if_there (expr_sites around (c.args.k + 1)) h.index in
    let names = names_sites around (formal_names h.formals) in
    c.first-3.ensures
    ∙ before c.args.by.now around (counts Nesting 0 c.args.k c.args.span) (site around (accepts h) ∷ index ++ names) _ _ (c.refuse_deep-deep.ensures around)
    (c.first-2.ensures
    ∙ before c.args.by.now around (accepts h) (index ++ names) _ _ (c.refuse_accept-place.ensures c.args.by.now h.index h.formals)
    (c.first.ensures
    ∙ joined c.args.by.now index names _ _
    (c.in_ok-at.ensures ∙ ap (λ n. refused_first c.args.by.now (if_there (expr_sites around n) h.index)) c.in_ok-deeper.ensures)
    (c.walk_formals-names.ensures around)))
