use Rattle.std.proofs.Common.{◌≡◌, ◌∷◌, map, take}
use Rattle.ada_tree.specs.PlainDecl.{plain_decl}
use Rattle.syn_event.specs.AddedNames.{task_info}
use Rattle.syn_event.specs.DeclaredTasks.{tasks_in}
use Rattle.normal_form.specs.inner.Infos.{infos_of}
use Rattle.normal_form.proofs.numbers.tasks_of.Given as goal

-- main and the tasks of the declarations so far stand there
abbrev pub invariant-loop-decl : goal.invariant-loop-decl
invariant-loop-decl l = l.tasks.items ≡ task_info l.names l.fn.main ∷ infos_of l.names (tasks_in (map plain_decl (take l.decl-index l.decls)))
