use Rattle.ada_tree.specs.PlainStmt.{plain_call, seen}
use Rattle.collect_model.specs.aborts.Calling.{plain_image}
use Rattle.collect_statements.specs.Looked.{teller_of}
use Rattle.collect_statements.proofs.Images.{row-put}
use Rattle.collect_abort.specs.Rules.{call_told}
use Rattle.collect_abort.proofs.rewriting.put_call.Goals as goal

pub returns : goal.returns
unfolding call_told
returns c =
    row-put (plain_image (teller_of c.args.x.now.reporter) c.args.s (plain_call c.args.call.now)) (seen c.args.out.now.items) (seen c.put_list.new.out.items) c.put_list.result c.plain_image.result c.put_list.ensures c.plain_image.ensures
