use Rattle.std.proofs.Common.{◌≡◌, map, take}
use Rattle.ada_tree.specs.PlainDecl.{plain_decl}
use Rattle.collect_model.specs.aborts.AbortTree.{abort_decl}
use Rattle.normal_parts.proofs.Turning.{Left}
use Rattle.collect_abort.specs.Looked.{told_of}
use Rattle.collect_abort.proofs.units.bodies.abort_all.Given as goal

abbrev pub invariant-loop-decl : goal.invariant-loop-decl
invariant-loop-decl l = record {
  done : map plain_decl (take l.decl-index l.decl-items) ≡ map (abort_decl (told_of l.x) l.names) (map plain_decl (take l.decl-index l.initial.decl-items));
  left : Left l.decl-index l.decl-items l.initial.decl-items;
}
