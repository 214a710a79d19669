use Rattle.ada_tree.specs.PlainExpr.{plain_expr}
use Rattle.std.proofs.Common.{option_map}
use Rattle.replay_model.specs.Waiting.{and_guard, and_later}
use Rattle.replay_asking.specs.Looked.{voice_of}
use Rattle.replay_asking.specs.Spoken.{is_for}
use Rattle.replay_statements.proofs.waiting.Turning.{fold-turn}
use Rattle.replay_statements.proofs.waiting.guarding.is_due.Goals as goal

pub loop-pause-preserved : goal.loop-pause-preserved
loop-pause-preserved c =
    fold-turn (and_later c.args.s c.args.thousandths) (and_guard c.args.s (is_for (voice_of c.args.x.now) c.args.s 4 c.args.k) (option_map plain_expr c.args.guard.now)) c.args.pauses.now c.loop-pause.pause-index c.pause-item.result c.loop-pause.test c.and_later-test.result c.loop-pause-test.true c.pause-item.is c.loop-pause.invariant c.and_later-test.ensures
