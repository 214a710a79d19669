use Rattle.std.proofs.Common.{◌≡◌, List, map, sym, ap, ◌∙◌, arith}
use Rattle.ada_tree.proofs.Rows.{rows}
use Rattle.ada_tree.specs.declared.declarations.Decl.{Decl}
use Rattle.ada_tree.specs.PlainStmt.{plain_body}
use Rattle.ada_tree.specs.PlainDecl.{DTaskBody, decls_of, plain_decl}
use Rattle.normal_form.proofs.Copying.{seen_put}
use Rattle.normal_form.proofs.body_copies.push_bodies_of.Goals as goal

pub returns-else-is_empty-clause-decls : goal.returns-else-is_empty-clause-decls
returns-else-is_empty-clause-decls c =
    let tree : plain_decl c.args.decl.now ≡ DTaskBody c.in-TaskBody.name (decls_of (map plain_decl c.in-TaskBody.objects.items)) (plain_body c.in-TaskBody.body) c.args.decl.now.span = grind (arith, rows) in
    seen_put c.args.lookups.now (plain_decl c.args.decl.now) (DTaskBody c.in-TaskBody.name (decls_of (map plain_decl c.deref.result.now)) (plain_body c.in-TaskBody.body) c.args.decl.now.span)
    c.push_run.result (map plain_decl c.args.out.now.items) (map plain_decl c.push_run.new.out.items)
    (tree ∙ ap (λ (l : List Decl). DTaskBody c.in-TaskBody.name (decls_of (map plain_decl l)) (plain_body c.in-TaskBody.body) c.args.decl.now.span) (sym c.deref.ensures.value))
    c.push_run.ensures.decls
