use Rattle.std.proofs.Common.{◌≡◌, ◌++◌, map}
use Rattle.ada_tree.specs.PlainDecl.{plain_decl}
use Rattle.collect_model.specs.aborts.AbortTree.{places_declared}
use Rattle.collect_abort.specs.Looked.{told_of}
use Rattle.collect_abort.proofs.units.variables.put_places.Given as goal

abbrev pub invariant-loop-before : goal.invariant-loop-before
invariant-loop-before l = map plain_decl l.out.items ≡ map plain_decl l.initial.out.items ++ places_declared (told_of l.x) l.s l.before
