use Rattle.std.proofs.Common.{◌≡◌, drop, map}
use Rattle.ada_tree.specs.PlainDecl.{decls_of, plain_decl}
use Rattle.task_model.specs.Starting.{unit_among}
use Rattle.task_steps.proofs.start.units.unit_among.Given as goal

-- none of the declarations gone by is the task body of the name
abbrev pub invariant-loop-decl : goal.invariant-loop-decl
invariant-loop-decl l = unit_among (decls_of (map plain_decl l.decls)) l.name ≡ unit_among (decls_of (map plain_decl (drop l.decl-index l.decls))) l.name
