use Rattle.std.proofs.Common.{length, map, max, ap, ◌∙◌}
use Rattle.std.proofs.lemmas.Result.{on_ok_weaker}
use Rattle.ada_tree.specs.PlainStmt.{plain_body}
use Rattle.ada_tree.specs.PlainDecl.{plain_decl}
use Rattle.normal_form.proofs.Copying.{run_put, variables_made}
use Rattle.normal_form.proofs.body_copies.push_run.Goals as goal

pub returns-in-Ok-clause-decls : goal.returns-in-Ok-clause-decls
returns-in-Ok-clause-decls c =
    run_put c.args.lookups.now c.args.decl.now c.first-task.result (map plain_decl c.deref.result.now) (plain_body c.in-Ok.its) c.names.result.now
    c.push_copies.result (map plain_decl c.args.out.now.items) (map plain_decl c.push_copies.new.out.items)
    (c.first-task.ensures c.args.lookups.now c.requires.running) (c.names.ensures c.args.lookups.now c.requires.running)
    (ap (map plain_decl) (c.deref.ensures.value ∙ c.take_variables-vars.ensures.taken) ∙ c.in-Ok.ensures.variables) c.in-Ok.ensures.body c.push_copies.ensures

pub returns-in-Ok-clause-count : goal.returns-in-Ok-clause-count
returns-in-Ok-clause-count c =
    let g = c.args.lookups.now in
    on_ok_weaker c.push_copies.result
    (λ h. ap (λ n. length n.variables.items) c.take_variables-vars.ensures.names ∙ c.in-Ok.ensures.count
    ∙ ap (max (length c.args.track.now.names.variables.items)) (variables_made g c.args.decl.now c.first-task.result c.rewrite_unit-its.new.track.decls.items (c.first-task.ensures g c.requires.running) c.in-Ok.ensures.variables))
    c.push_copies.ensures
