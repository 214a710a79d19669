use Rattle.std.proofs.Common.{◌≡◌, ◌||◌, ◌++◌, not, map, take}
use Rattle.std.specs.List.{filter}
use Rattle.ada_tree.specs.PlainDecl.{plain_decl}
use Rattle.replay_model.specs.ReplayTree.{is_task, is_body}
use Rattle.normal_parts.proofs.Turning.{Left}
use Rattle.normal_parts.proofs.sorting.sort_decls.Given as goal

abbrev pub invariant-loop-decl : goal.invariant-loop-decl
invariant-loop-decl l = record {
  objects : map plain_decl l.objects.items ≡ map plain_decl l.initial.objects.items ++ filter (λ d. not (is_task d || is_body d)) (map plain_decl (take l.decl-index l.initial.decl-items));
  tasks : map plain_decl l.tasks.items ≡ map plain_decl l.initial.tasks.items ++ filter is_task (map plain_decl (take l.decl-index l.initial.decl-items));
  bodies : map plain_decl l.bodies.items ≡ map plain_decl l.initial.bodies.items ++ filter is_body (map plain_decl (take l.decl-index l.initial.decl-items));
  left : Left l.decl-index l.decl-items l.initial.decl-items;
}
