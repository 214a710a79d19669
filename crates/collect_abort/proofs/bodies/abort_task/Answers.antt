use Rattle.ada_tree.specs.PlainStmt.{plain_body}
use Rattle.collect_abort.specs.Looked.{told_of}
use Rattle.collect_abort.proofs.Images.{task-put}
use Rattle.collect_abort.proofs.bodies.abort_task.Goals as goal

pub returns : goal.returns
returns c =
    task-put (told_of c.args.reporter) c.args.s (plain_body c.args.body.now) (plain_body c.rewrite_body.new.body) (plain_body c.tell_at_end.new.place) c.tell_at_end.result c.in_ok-rewrite_body.ensures.tree c.tell_at_end.ensures
