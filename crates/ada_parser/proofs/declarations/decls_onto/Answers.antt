use Rattle.std.proofs.Common.{◌≡◌, ◌||◌, false, sym, ap, ◌∙◌, rules, map}
use Rattle.ada_expr_parser.specs.readers.Readers.{fronted}
use Rattle.ada_tree.specs.PlainDecl.{plain_decl}
use Rattle.ada_parser.specs.inner.ReadingDeclarativeParts.{begins_behind, is_body, decl, decl_list}
use Rattle.ada_phrase_parser.specs.Views.{told}
use Rattle.ada_expr_parser.specs.Gives.{Fails}
use Rattle.ada_phrase_parser.proofs.Lists.{grown}
use Rattle.ada_parser.proofs.RowLists.{row_empty, row_over, row_fails, row_goes}
use Rattle.ada_parser.proofs.StmtLaws.{level_laws}
use Rattle.ada_parser.proofs.UnitLaws.{decl_shortens}
use Rattle.ada_parser.proofs.declarations.decls_onto.Goals.{then-behind, else-behind}
use Rattle.ada_parser.proofs.declarations.decls_onto.Goals as goal

pub returns-in_default-clause-tree : goal.returns-in_default-clause-tree
returns-in_default-clause-tree c =
    row_empty begins_behind is_body (decl (told c.args.source.now) c.args.depth) (map plain_decl c.decls.list.items) (map plain_decl c.args.list.now.items) c.decls.behind false c.decls.rest.now c.args.items.now c.decls.invariant c.in_default.len_below

pub returns-then-not-begins_decl-clause-tree : goal.returns-then-not-begins_decl-clause-tree
returns-then-not-begins_decl-clause-tree c =
    row_over begins_behind is_body (decl (told c.args.source.now) c.args.depth) (decl_shortens (told c.args.source.now) (level_laws (told c.args.source.now)) c.args.depth)
    (map plain_decl c.decls.list.items) (map plain_decl c.args.list.now.items) c.decls.behind false c.decls.rest.now c.args.items.now _ c.decls.invariant c.in-len1-up.len_at_least (sym c.begins_decl.ensures ∙ c.if-not-begins_decl.true)

pub returns-in_err-decl-clause-tree : goal.returns-in_err-decl-clause-tree
returns-in_err-decl-clause-tree c =
    let fails : Fails c.in_err-decl.field-0.0 (fronted (map plain_decl c.args.list.now.items) (decl_list (told c.args.source.now) c.args.depth false c.args.items.now)) =
    row_fails begins_behind is_body (decl (told c.args.source.now) c.args.depth) (decl_shortens (told c.args.source.now) (level_laws (told c.args.source.now)) c.args.depth)
    (map plain_decl c.decls.list.items) (map plain_decl c.args.list.now.items) c.decls.behind false c.decls.rest.now c.args.items.now _ c.in_err-decl.field-0.0 c.decls.invariant c.in-len1-up.len_at_least (sym c.begins_decl.ensures ∙ c.if-not-begins_decl.false) c.in_err-decl.ensures.tree in
    search (rules, fails)

pub decls-preserved : goal.decls-preserved
decls-preserved c =
    let turned : c.if-behind.behind ≡ (c.decls.behind || is_body (plain_decl c.in_ok-decl.decl)) =
    elim c.if-behind.branch [
      | then-behind w ↦ w.behind-is ∙ (w.if-behind.true ∙ ap (λ b. b || is_body (plain_decl c.in_ok-decl.decl)) (sym w.if-behind.true))
      | else-behind w ↦ w.behind-is ∙ (w.is_body-behind.ensures ∙ ap (λ b. b || is_body (plain_decl c.in_ok-decl.decl)) (sym w.if-behind.false))
    ] in
    row_goes begins_behind is_body (decl (told c.args.source.now) c.args.depth) (decl_shortens (told c.args.source.now) (level_laws (told c.args.source.now)) c.args.depth)
    (map plain_decl c.decls.list.items) (map plain_decl c.args.list.now.items) c.decls.behind false c.decls.rest.now c.args.items.now _
    (map plain_decl c.add.new.list.items) c.if-behind.behind (plain_decl c.in_ok-decl.decl) c.in_ok-decl.after.now (grown plain_decl c.decls.list.items c.add.new.list.items c.in_ok-decl.decl c.in_ok-add.ensures.added) turned c.decls.invariant
    c.in-len1-up.len_at_least (sym c.begins_decl.ensures ∙ c.if-not-begins_decl.false) c.in_ok-decl.ensures.tree
