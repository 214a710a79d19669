use Rattle.std.proofs.Common.{◌≡◌, map, take}
use Rattle.ada_tree.specs.PlainDecl.{plain_decl}
use Rattle.replay_asking.specs.Looked.{voice_of}
use Rattle.replay_declarations.specs.ids.Arranged.{decl_image}
use Rattle.replay_declarations.proofs.units.Sorted.{Left}
use Rattle.replay_declarations.proofs.units.units.replay_all.Given as goal

abbrev pub invariant-loop-decl : goal.invariant-loop-decl
invariant-loop-decl l = record {
  done : map plain_decl (take l.decl-index l.decl-items) ≡ map (decl_image (voice_of l.x) l.names) (map plain_decl (take l.decl-index l.initial.decl-items));
  left : Left l.decl-index l.decl-items l.initial.decl-items;
}
