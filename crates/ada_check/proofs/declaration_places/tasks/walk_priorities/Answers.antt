use Rattle.ada_tree.specs.PlainDecl.{plain_priority}
use Rattle.ada_tree.specs.PlainDecl.{PPriority}
use Rattle.syn_event.specs.CheckSites.{expr_sites}
use Rattle.ada_check_rules.proofs.rules.Listing.{list_more, list_end}
use Rattle.ada_check.proofs.declaration_places.tasks.walk_priorities.Goals as goal

pub loop-priority-preserved : goal.loop-priority-preserved
loop-priority-preserved c =
    list_more c.args.by.now plain_priority (λ (p : PPriority). expr_sites c.args.around.now 2 p.value) c.args.priorities.now c.loop-priority.priority-index c.priority-item.result _ _ _ _ c.loop-priority-test.true c.priority-item.is c.loop-priority.invariant c.in_ok-found.ensures c.first-refusal.ensures

pub returns : goal.returns
returns c = list_end c.args.by.now plain_priority (λ (p : PPriority). expr_sites c.args.around.now 2 p.value) c.args.priorities.now c.loop-priority.priority-index _ _ c.loop-priority-test.false c.loop-priority.invariant
