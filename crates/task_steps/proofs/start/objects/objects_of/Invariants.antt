use Rattle.std.proofs.Common.{◌≡◌, [], drop, map}
use Rattle.ada_tree.specs.PlainDecl.{decls_of, plain_decl}
use Rattle.task_model.specs.Starting.{objects_of}
use Rattle.task_steps.proofs.start.objects.objects_of.Given as goal

-- the declarations to come add to the objects so far what all declarations add to none
abbrev pub invariant-loop-decl : goal.invariant-loop-decl
invariant-loop-decl l = objects_of l.names l.in_main (decls_of (map plain_decl (drop l.decl-index l.decls))) l.objects ≡ objects_of l.names l.in_main (decls_of (map plain_decl l.decls)) []
