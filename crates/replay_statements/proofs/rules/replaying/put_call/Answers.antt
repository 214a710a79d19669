use Rattle.ada_tree.specs.PlainStmt.{plain_call, seen}
use Rattle.replay_asking.specs.Called.{plain_image}
use Rattle.replay_asking.specs.Looked.{voice_of}
use Rattle.replay_statements.specs.rules.Replayed.{call_image}
use Rattle.replay_statements.proofs.rules.Put.{row-put}
use Rattle.replay_statements.proofs.rules.replaying.put_call.Goals as goal

pub returns : goal.returns
unfolding call_image
returns c =
    row-put (plain_image (voice_of c.args.x.now) c.args.s (plain_call c.args.call.now)) (seen c.args.out.now.items) (seen c.put_list.new.out.items) c.put_list.result c.plain_image.result c.put_list.ensures c.plain_image.ensures
