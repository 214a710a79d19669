use Rattle.std.proofs.Common.{◌≡◌, ◌++◌, map, drop, []}
use Rattle.ada_tree.specs.PlainDecl.{plain_decl, decls_of}
use Rattle.syn_event.specs.NamedTasks.{task_names_in}
use Rattle.ada_task_numbers.specs.task_objects.PlainNames.{plain_named_tasks, plain_types, AreNamed}
use Rattle.ada_task_numbers.proofs.task_objects.task_names.task_names_of.Given as goal

-- the names so far and those of the declarations that are left are all
abbrev pub invariant-loop-decl : goal.invariant-loop-decl
invariant-loop-decl l = record {
  named : AreNamed l.types;
  told : map plain_named_tasks l.parts.items ++ task_names_in (plain_types l.types) (decls_of (map plain_decl (drop l.decl-index l.decl-items))) ≡ task_names_in [] (decls_of (map plain_decl l.decl-items));
}
