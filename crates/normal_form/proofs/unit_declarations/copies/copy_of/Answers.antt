use Rattle.std.proofs.Common.{map, sym, ap, Vec, Global}
use Rattle.ada_tree.specs.declared.declarations.Decl.{Decl}
use Rattle.ada_tree.specs.PlainStmt.{plain_body}
use Rattle.ada_tree.specs.PlainDecl.{DTaskBody, decls_of, plain_decl}
use Rattle.ada_stmt_copy.proofs.expressions.Carried.{two}
use Rattle.normal_model.specs.Ranges.{word_at}
use Rattle.normal_form.proofs.unit_declarations.Listing.{front_rows}
use Rattle.normal_form.proofs.unit_declarations.copies.copy_of.Goals as goal

pub returns : goal.returns
returns c =
    let x = c.args.copied.now in
    two (λ (v : Vec Decl Global). map plain_decl v.items) plain_body plain_decl (λ o b. DTaskBody (word_at x.name.span c.args.name) (decls_of o) b x.span)
    _ _ _
    c.task_body_of.result c.objects_with-objects.result c.copy-its.result
    c.task_body_of.ensures c.objects_with-objects.ensures c.copy-its.ensures
    (ap (λ r. DTaskBody (word_at x.name.span c.args.name) r (plain_body x.its.now) x.span) (sym (front_rows (map plain_decl x.objects.now) (map plain_decl x.vars.now))))
