use Rattle.ada_tree.specs.PlainStmt.{plain_accept, seen}
use Rattle.collect_model.specs.aborts.Serving.{accept_image}
use Rattle.collect_statements.proofs.Images.{row-put}
use Rattle.collect_abort.specs.Looked.{told_of}
use Rattle.collect_abort.specs.Rules.{accept_told}
use Rattle.collect_abort.proofs.rewriting.put_accept.Goals as goal

pub returns : goal.returns
unfolding accept_told
returns c =
    row-put (accept_image (told_of c.args.x.now) c.args.s c.args.place (plain_accept c.args.accept.now)) (seen c.args.out.now.items) (seen c.put_list.new.out.items) c.put_list.result c.accept_image.result c.put_list.ensures c.accept_image.ensures
