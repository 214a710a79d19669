use Rattle.std.proofs.Common.{◌≡◌, ◌++◌, flat_map, map, take}
use Rattle.ada_tree.specs.PlainDecl.{plain_decl}
use Rattle.normal_model.specs.NormalTree.{task_declared}
use Rattle.normal_form.proofs.unit_declarations.tasks.push_each.Given as goal

-- the declarations of the tasks so far stand there
abbrev pub invariant-loop-place : goal.invariant-loop-place
invariant-loop-place l = map plain_decl l.out.items ≡ map plain_decl l.fn.out.items ++ flat_map (task_declared l.lookups) (take l.place l.tasks)
