use Rattle.std.proofs.Common.{◌≡◌, map, drop, Some}
use Rattle.std.specs.Prelude.{flat_map}
use Rattle.ada_tree.specs.PlainDecl.{PPriority, plain_priority}
use Rattle.ada_static_rules.specs.Scope.{integer_kind}
use Rattle.ada_static_rules.specs.Sites.{static_of}
use Rattle.ada_static_rules.specs.Sooner.{sooner}
use Rattle.ada_static_rules.specs.RefusedFirst.{refused_first}
use Rattle.ada_types.proofs.tasks.walk_priorities.Given as goal

-- what is refused so far, and of the priorities that are left
abbrev pub invariant-loop-priority : goal.invariant-loop-priority
invariant-loop-priority l =
    sooner l.refusal (refused_first (flat_map (λ (p : PPriority). static_of l.scope (Some integer_kind) p.value) (map plain_priority (drop l.priority-index l.priorities))))
    ≡ refused_first (flat_map (λ (p : PPriority). static_of l.scope (Some integer_kind) p.value) (map plain_priority l.priorities))
