use Rattle.ada_tree.specs.PlainStmt.{plain_call, seen}
use Rattle.replay_asking.specs.Called.{conditional_image}
use Rattle.replay_asking.specs.Looked.{voice_of}
use Rattle.replay_statements.specs.rules.Replayed.{choice_image}
use Rattle.replay_statements.proofs.rules.Put.{row-put}
use Rattle.replay_statements.proofs.rules.replaying.put_conditional.Goals as goal

pub returns : goal.returns
unfolding choice_image
returns c =
    row-put (conditional_image (voice_of c.args.x.now) c.args.s (plain_call c.args.call.now) (seen c.args.behind.items) (seen c.args.otherwise.items)) (seen c.args.out.now.items) (seen c.put_list.new.out.items) c.put_list.result c.conditional_image.result c.put_list.ensures c.conditional_image.ensures
