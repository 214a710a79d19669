use Rattle.std.proofs.Common.{map, arith}
use Rattle.ada_tree.specs.PlainStmt.{plain_alt}
use Rattle.replay_statements.proofs.waiting.Turning.{pause_alts-turn}
use Rattle.replay_statements.proofs.waiting.pausing.put_pauses.Goals as goal

pub loop-pause-preserved : goal.loop-pause-preserved
loop-pause-preserved c = record {
  alts = pause_alts-turn c.args.s c.args.k c.args.pauses.now c.loop-pause.pause-index c.pause-item.result (map plain_alt c.args.out.now.items) c.loop-pause.out.items c.push_alt.new.list.items c.pause_alt.result c.loop-pause.n c.loop-pause-test.true c.pause-item.is c.loop-pause.invariant.alts c.loop-pause.invariant.number c.in_ok-push_alt.ensures c.pause_alt.ensures;
  number = omega (arith, c.in_ok-n.ensures, c.loop-pause.invariant.number);
}
