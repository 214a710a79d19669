use Rattle.std.proofs.Common.{Some}
use Rattle.ada_tree.specs.PlainDecl.{PPriority, plain_priority}
use Rattle.ada_static_rules.specs.Scope.{integer_kind}
use Rattle.ada_static_rules.specs.Sites.{static_of}
use Rattle.ada_static_rules.proofs.Listing.{list_more, list_end}
use Rattle.ada_types.proofs.tasks.walk_priorities.Goals as goal

pub loop-priority-preserved : goal.loop-priority-preserved
loop-priority-preserved c =
    list_more plain_priority (λ (p : PPriority). static_of c.args.scope.now (Some integer_kind) p.value) c.args.priorities.now c.loop-priority.priority-index c.priority-item.result c.loop-priority.refusal c.walk_static.result.refusal c.first-refusal.result _
    c.loop-priority-test.true c.priority-item.is c.loop-priority.invariant
    c.walk_static.ensures.refusal_is
    c.first-refusal.ensures

pub returns : goal.returns
returns c = list_end plain_priority (λ (p : PPriority). static_of c.args.scope.now (Some integer_kind) p.value) c.args.priorities.now c.loop-priority.priority-index c.loop-priority.refusal _ c.loop-priority-test.false c.loop-priority.invariant
