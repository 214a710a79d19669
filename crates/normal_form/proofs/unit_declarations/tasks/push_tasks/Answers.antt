use Rattle.std.proofs.Common.{map, flat_map, sym, ap, ◌∙◌}
use Rattle.ada_tree.specs.PlainDecl.{decls_of, plain_decl}
use Rattle.ada_tree.specs.PlainProgram.{plain_program}
use Rattle.normal_form.specs.unit_declarations.inner.Tasks.{task_called}
use Rattle.normal_form.proofs.unit_declarations.Listing.{rows_of}
use Rattle.normal_form.proofs.unit_declarations.tasks.push_tasks.Goals as goal

pub push_each-requires-clause-groups : goal.push_each-requires-clause-groups
push_each-requires-clause-groups c = λ q.
    c.in_ok-groups.ensures q
    ∙ ap (flat_map (task_called q))
    (rows_of c.args.lookups.now (plain_program c.program.result.now) (map plain_decl c.deref.result.now) (c.program.ensures ∙ ap (λ g. g.program) c.links.ensures) (ap (λ l. decls_of (map plain_decl l)) (sym c.deref.ensures.value)))
