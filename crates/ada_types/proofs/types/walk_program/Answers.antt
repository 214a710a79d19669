use Rattle.std.proofs.Common.{◌++◌, ◌∷◌, [], ◌∙◌, ap, sym, subst, map, true}
use Rattle.ada_tree.specs.PlainStmt.{plain_body}
use Rattle.ada_tree.specs.PlainDecl.{decls_of, plain_decl}
use Rattle.ada_static_rules.specs.Declaring.{before_all, first_scope, inner_scope, after_decls}
use Rattle.ada_static_rules.specs.Sites.{names_sites, decls_sites, body_sites}
use Rattle.ada_static_rules.specs.RefusedFirst.{refused_first}
use Rattle.ada_decl_rules.specs.duplicates.NamingsInOrder.{namings_of}
use Rattle.ada_decl_rules.specs.duplicates.NamedSoFar.{AreAt}
use Rattle.ada_static_rules.proofs.Meeting.{joined}
use Rattle.ada_types.proofs.TypeDecls.{behind_names}
use Rattle.ada_decl_rules.proofs.duplicates.Behind.{at_first, noted_first}
use Rattle.ada_types.proofs.types.walk_program.Goals as goal

pub walk_decls-requires : goal.walk_decls-requires
walk_decls-requires c = subst (λ s. AreAt s c.in_ok-notes.notes) (sym c.in_ok-first_scope.ensures) (at_first c.in_ok-notes.notes c.args.p.now.name c.in_ok-notes.ensures)

pub returns : goal.returns
returns c =
    let name = c.args.p.now.name in
    let ds = decls_of (map plain_decl c.args.p.now.decls.items) in
    let body = plain_body c.args.p.now.body in
    let start = first_scope name in
    let end = after_decls start ds in
    let places = names_sites true before_all (name ∷ []) ++ decls_sites start ds in
    let first = c.in_ok-first_scope.ensures in
    let given = decls_of (map plain_decl c.deref.result.now) in
    let same = ap (λ xs. decls_of (map plain_decl xs)) c.deref.ensures.value in
    let scope = c.in_ok-walked.ensures.walked.scope_is ∙ ap (λ s. after_decls s given) first ∙ ap (after_decls start) same in
    record {
      types_are = c.into_types.ensures ∙ ap (λ s. s.types) (c.in_ok-inner.ensures.kept ∙ scope);
      others_are =
          c.first.ensures
          ∙ joined places (body_sites (inner_scope end) body) _ _
          (behind_names before_all (name ∷ []) (decls_sites start ds) _ (c.in_ok-walked.ensures.walked.refusal_is ∙ ap (λ s. refused_first (decls_sites s given)) first ∙ ap (λ l. refused_first (decls_sites start l)) same))
          (c.in_ok-inner.ensures.told ∙ ap (λ s. refused_first (body_sites (inner_scope s) body)) scope);
      repeated_is = c.in_ok-repeated.ensures places (inner_scope end)
          (c.in_ok-walked.ensures.noted
          ∙ ap (λ s. c.in_ok-notes.notes.namings ++ namings_of (decls_sites s given)) first
          ∙ ap (λ l. c.in_ok-notes.notes.namings ++ namings_of (decls_sites start l)) same
          ∙ noted_first c.in_ok-notes.notes name ds c.in_ok-notes.ensures);
    }
