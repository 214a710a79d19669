use Rattle.std.proofs.Common.{◌≡◌, ◌++◌, ℕ, flat_map, map, take}
use Rattle.ada_tree.specs.PlainDecl.{plain_decl}
use Rattle.normal_form.specs.unit_declarations.Groups.{group_at}
use Rattle.normal_form.specs.unit_declarations.inner.Tasks.{seen_task, task_called}
use Rattle.normal_form.proofs.unit_declarations.tasks.keep_decls.Given as goal

-- those of the declarations so far are kept
abbrev pub invariant-loop-decl : goal.invariant-loop-decl
invariant-loop-decl l = (q : ℕ) → map seen_task (group_at l.groups q) ≡ map seen_task (group_at l.fn.groups q) ++ flat_map (task_called q) (map plain_decl (take l.decl-index l.decls))
