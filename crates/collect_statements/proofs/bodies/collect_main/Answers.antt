use Rattle.ada_tree.specs.PlainStmt.{plain_body}
use Rattle.collect_statements.specs.Looked.{teller_of}
use Rattle.collect_statements.proofs.Images.{main-put}
use Rattle.collect_statements.proofs.bodies.collect_main.Goals as goal

pub returns : goal.returns
returns c = main-put (teller_of c.args.reporter) (plain_body c.args.body.now) (plain_body c.rewrite_body.new.body) c.rewrite_body.result c.rewrite_body.ensures.tree
