use Rattle.std.proofs.Common.{arith, rules}
use Rattle.replay_asking.specs.Looked.{voice_of}
use Rattle.replay_declarations.specs.ids.Arranged.{decl_image}
use Rattle.replay_declarations.proofs.units.Sorted.{mapped-turn, left-turn}
use Rattle.replay_declarations.proofs.units.units.replay_all.Goals as goal

pub loop-decl-preserved : goal.loop-decl-preserved
loop-decl-preserved c = record {
  done = mapped-turn (decl_image (voice_of c.args.x.now) c.args.names.now) c.deref_mut-decl-items.result.now c.loop-decl.decl-items c.loop-decl.decl-index c.decl-item.result c.replay_decl.new.decl (search rules) c.loop-decl.invariant.left.size (c.loop-decl.invariant.left.same c.loop-decl.decl-index c.decl-item.result (omega arith)) c.loop-decl.invariant.done c.in_ok-replay_decl.ensures;
  left = left-turn c.deref_mut-decl-items.result.now c.loop-decl.decl-items c.loop-decl.decl-index c.replay_decl.new.decl c.loop-decl.invariant.left;
}
