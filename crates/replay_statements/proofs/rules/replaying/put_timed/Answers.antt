use Rattle.ada_tree.specs.PlainStmt.{plain_call, seen}
use Rattle.replay_asking.specs.Called.{timed_image}
use Rattle.replay_asking.specs.Looked.{voice_of}
use Rattle.replay_statements.specs.rules.Replayed.{delay_image}
use Rattle.replay_statements.proofs.rules.Put.{row-put}
use Rattle.replay_statements.proofs.rules.replaying.put_timed.Goals as goal

pub returns : goal.returns
unfolding delay_image
returns c =
    row-put (timed_image (voice_of c.args.x.now) c.args.s (plain_call c.args.call.now) (seen c.args.behind.items) c.args.thousandths (seen c.args.after.items)) (seen c.args.out.now.items) (seen c.put_list.new.out.items) c.put_list.result c.timed_image.result c.put_list.ensures c.timed_image.ensures
