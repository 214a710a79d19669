use Rattle.std.proofs.Common.{◌≡◌, map}
use Rattle.ada_tree.specs.PlainDecl.{decls_of, plain_decl}
use Rattle.ada_static_rules.specs.Declaring.{after_objects}
use Rattle.ada_static_rules.specs.Sites.{own_sites}
use Rattle.ada_static_rules.specs.Sooner.{sooner}
use Rattle.ada_static_rules.specs.RefusedFirst.{refused_first}
use Rattle.ada_types.proofs.Following.{from}
use Rattle.ada_types.proofs.task_bodies.walk_all_own.Given as goal

-- what is left of the objects makes the whole, of the scope and of what is refused
abbrev pub invariant-loop-decl : goal.invariant-loop-decl
invariant-loop-decl l = record {
  scope : after_objects l.scope (from l.decl-index l.objects) ≡ after_objects l.fn.scope (decls_of (map plain_decl l.objects));
  told : sooner l.refusal (refused_first (own_sites l.scope (from l.decl-index l.objects))) ≡ refused_first (own_sites l.fn.scope (decls_of (map plain_decl l.objects)));
}
