use Rattle.ada_tree.specs.PlainDecl.{plain_decl}
use Rattle.normal_form.specs.unit_declarations.inner.Tasks.{task_called}
use Rattle.normal_form.proofs.unit_declarations.Listing.{flat_seen_more}
use Rattle.normal_form.proofs.unit_declarations.tasks.keep_decls.Goals as goal

pub loop-decl-preserved : goal.loop-decl-preserved
loop-decl-preserved c = λ q.
    flat_seen_more (task_called q) plain_decl c.args.decls.now c.loop-decl.decl-index c.decl-item.result _ _ _ c.loop-decl-test.true c.decl-item.is (c.loop-decl.invariant q) (c.in_ok-keep_decl.ensures q)
