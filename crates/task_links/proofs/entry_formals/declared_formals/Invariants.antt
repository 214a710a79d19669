use Rattle.std.proofs.Common.{take, map}
use Rattle.ada_tree.specs.PlainDecl.{plain_decl}
use Rattle.syn_event.specs.DeclaredTasks.{tasks_in}
use Rattle.task_links.specs.inner.Made.{KeepsUnits}
use Rattle.task_links.proofs.entry_formals.declared_formals.Given as goal

-- the tasks of so many declarations are kept
abbrev pub invariant-loop-decl : goal.invariant-loop-decl
invariant-loop-decl l = KeepsUnits l.names (tasks_in (map plain_decl (take l.decl-index l.decls))) l.units l.formals
