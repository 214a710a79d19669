use Rattle.std.proofs.Common.{◌≡◌, fold, map, take}
use Rattle.ada_tree.specs.PlainDecl.{plain_decl}
use Rattle.collect_model.specs.FirstAbort.{with_decl}
use Rattle.collect_xform.proofs.aborts.behind_decls.Given as goal

abbrev pub invariant-loop-decl : goal.invariant-loop-decl
invariant-loop-decl l = l.found ≡ fold with_decl l.initial.found (map plain_decl (take l.decl-index l.decls))
