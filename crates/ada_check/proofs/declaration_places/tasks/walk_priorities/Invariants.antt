use Rattle.std.proofs.Common.{◌≡◌, map, drop}
use Rattle.std.specs.Prelude.{flat_map}
use Rattle.ada_tree.specs.PlainDecl.{plain_priority}
use Rattle.ada_tree.specs.PlainDecl.{PPriority}
use Rattle.syn_event.specs.CheckSites.{expr_sites}
use Rattle.ada_check_rules.specs.rules.Sooner.{sooner}
use Rattle.ada_check_rules.specs.rules.RefusedFirst.{refused_first}
use Rattle.ada_check.proofs.declaration_places.tasks.walk_priorities.Given as goal

-- what is refused so far, and of what is left
abbrev pub invariant-loop-priority : goal.invariant-loop-priority
invariant-loop-priority l = sooner l.refusal (refused_first l.by (flat_map (λ (p : PPriority). expr_sites l.around 2 p.value) (map plain_priority (drop l.priority-index l.priorities)))) ≡ refused_first l.by (flat_map (λ (p : PPriority). expr_sites l.around 2 p.value) (map plain_priority l.priorities))
