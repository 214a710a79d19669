use Rattle.ada_tree.specs.PlainStmt.{plain_callee, seen}
use Rattle.collect_model.specs.aborts.AbortStmts.{abort_image}
use Rattle.collect_statements.proofs.Images.{row-put}
use Rattle.collect_abort.specs.Looked.{told_of}
use Rattle.collect_abort.specs.Rules.{abort_told}
use Rattle.collect_abort.proofs.rewriting.put_abort.Goals as goal

pub returns : goal.returns
unfolding abort_told
returns c =
    row-put (abort_image (told_of c.args.x.now).teller c.args.s (plain_callee c.args.callee.now)) (seen c.args.out.now.items) (seen c.put_list.new.out.items) c.put_list.result c.abort_image.result c.put_list.ensures c.abort_image.ensures
