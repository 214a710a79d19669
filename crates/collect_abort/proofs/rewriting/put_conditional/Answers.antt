use Rattle.ada_tree.specs.PlainStmt.{plain_call, seen}
use Rattle.collect_model.specs.aborts.Calling.{conditional_image}
use Rattle.collect_statements.specs.Looked.{teller_of}
use Rattle.collect_statements.proofs.Images.{row-put}
use Rattle.collect_abort.specs.Rules.{choice_told}
use Rattle.collect_abort.proofs.rewriting.put_conditional.Goals as goal

pub returns : goal.returns
unfolding choice_told
returns c =
    row-put (conditional_image (teller_of c.args.x.now.reporter) c.args.s (plain_call c.args.call.now) (seen c.args.behind.items) (seen c.args.otherwise.items)) (seen c.args.out.now.items) (seen c.put_list.new.out.items) c.put_list.result c.conditional_image.result c.put_list.ensures c.conditional_image.ensures
