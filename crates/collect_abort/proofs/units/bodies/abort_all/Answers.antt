use Rattle.std.proofs.Common.{arith, rules}
use Rattle.ada_tree.specs.PlainDecl.{plain_decl}
use Rattle.collect_model.specs.aborts.AbortTree.{abort_decl}
use Rattle.normal_parts.proofs.Turning.{mapped-turn, left-turn}
use Rattle.collect_abort.specs.Looked.{told_of}
use Rattle.collect_abort.proofs.units.bodies.abort_all.Goals as goal

pub loop-decl-preserved : goal.loop-decl-preserved
loop-decl-preserved c = record {
  done = mapped-turn plain_decl (abort_decl (told_of c.args.x.now) c.args.names.now) c.deref_mut-decl-items.result.now c.loop-decl.decl-items c.loop-decl.decl-index c.decl-item.result c.abort_decl.new.decl (search rules) c.loop-decl.invariant.left.size (c.loop-decl.invariant.left.same c.loop-decl.decl-index c.decl-item.result (omega arith)) c.loop-decl.invariant.done c.in_ok-abort_decl.ensures;
  left = left-turn c.deref_mut-decl-items.result.now c.loop-decl.decl-items c.loop-decl.decl-index c.abort_decl.new.decl c.loop-decl.invariant.left;
}
