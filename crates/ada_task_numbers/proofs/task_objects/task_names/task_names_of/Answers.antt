use Rattle.ada_check_rules.proofs.rules.Listing.{cut}
use Rattle.ada_task_numbers.proofs.task_objects.Parting.{parts_more}
use Rattle.ada_task_numbers.proofs.task_objects.task_names.task_names_of.Goals as goal

pub loop-decl-preserved : goal.loop-decl-preserved
loop-decl-preserved c = record {
  named = c.in_ok-push_declared.ensures.named;
  told = parts_more c.deref-decl-items.result.now c.loop-decl.decl-index c.decl-item.result _ _ _ _ _ (cut c.deref-decl-items.result.now c.loop-decl.decl-index c.decl-item.result c.loop-decl-test.true c.decl-item.is) c.loop-decl.invariant.told c.in_ok-push_declared.ensures.parts c.in_ok-push_declared.ensures.types;
}
