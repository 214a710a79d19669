use Rattle.std.proofs.Common.{◌≡◌, map, take}
use Rattle.std.specs.Prelude.{max}
use Rattle.ada_tree.specs.PlainDecl.{plain_decl}
use Rattle.normal_model.specs.NormalTree.{greatest}
use Rattle.collect_model.specs.aborts.Places.{places_of}
use Rattle.collect_abort.proofs.counting.most_among.Given as goal

abbrev pub invariant-loop-decl : goal.invariant-loop-decl
invariant-loop-decl l = l.most ≡ max l.initial.most (greatest (map places_of (map plain_decl (take l.decl-index l.decls))))
