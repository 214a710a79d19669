use Rattle.std.proofs.Common.{◌≡◌, ◌++◌, map, take}
use Rattle.ada_tree.specs.PlainDecl.{plain_decl}
use Rattle.normal_form.specs.unit_declarations.inner.Tasks.{called, seen_task}
use Rattle.normal_form.proofs.unit_declarations.tasks.push_called.Given as goal

abbrev pub invariant-loop-decl : goal.invariant-loop-decl
invariant-loop-decl l = map plain_decl l.out.items ≡ map plain_decl l.fn.out.items ++ map (called l.name) (map seen_task (take l.decl-index l.decls))
