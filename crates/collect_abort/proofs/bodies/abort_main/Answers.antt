use Rattle.ada_tree.specs.PlainStmt.{plain_body}
use Rattle.collect_abort.specs.Looked.{told_of}
use Rattle.collect_abort.proofs.Images.{main-put}
use Rattle.collect_abort.proofs.bodies.abort_main.Goals as goal

pub returns : goal.returns
returns c = main-put (told_of c.args.reporter) (plain_body c.args.body.now) (plain_body c.rewrite_body.new.body) c.rewrite_body.result c.rewrite_body.ensures.tree
