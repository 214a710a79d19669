use Rattle.std.proofs.Common.{◌≡◌, ap, sym, ◌∙◌, map, arith}
use Rattle.ada_tree.specs.PlainStmt.{plain_body}
use Rattle.ada_tree.specs.PlainDecl.{DTaskBody, plain_decl, decls_of}
use Rattle.ada_tree.proofs.Rows.{rows}
use Rattle.ada_check_rules.specs.rules.RefusedFirst.{refused_first}
use Rattle.ada_check.specs.inner.TaskBodies.{task_body_sites, body_part}
use Rattle.ada_check.proofs.declarations.walk_if_body.Goals as goal

pub returns-in_ok-refusal-in-TaskBody-clause-told : goal.returns-in_ok-refusal-in-TaskBody-clause-told
returns-in_ok-refusal-in-TaskBody-clause-told c =
    let shape : plain_decl c.args.decl.now ≡ DTaskBody c.in-TaskBody.name (decls_of (map plain_decl c.in-TaskBody.objects.items)) (plain_body c.in-TaskBody.body) c.args.decl.now.span = grind (arith, rows) in
    c.in_ok-refusal-in-TaskBody.ensures.told
    ∙ ap (λ l. refused_first c.args.by.now (task_body_sites c.args.around.now c.in-TaskBody.name (decls_of (map plain_decl l)) (plain_body c.in-TaskBody.body))) c.deref.ensures.value
    ∙ ap (λ d. refused_first c.args.by.now (body_part c.args.around.now d)) (sym shape)
