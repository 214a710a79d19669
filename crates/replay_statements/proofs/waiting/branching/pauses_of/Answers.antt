use Rattle.replay_statements.proofs.waiting.Turning.{pauses-turn}
use Rattle.replay_statements.proofs.waiting.branching.pauses_of.Goals as goal

pub loop-alt-preserved : goal.loop-alt-preserved
loop-alt-preserved c =
    pauses-turn c.args.alts.now c.loop-alt.alt-index c.alt-item.result c.loop-alt.pauses.items c.put_pause.new.out.items c.loop-alt-test.true c.alt-item.is c.loop-alt.invariant c.in_ok-put_pause.ensures
