use Rattle.std.proofs.Common.{map}
use Rattle.ada_tree.specs.PlainStmt.{alts_of, plain_alt, seen, seen_maybe}
use Rattle.collect_model.specs.aborts.Waiting.{wait_image}
use Rattle.collect_statements.proofs.Images.{row-put}
use Rattle.collect_abort.specs.Looked.{told_of}
use Rattle.collect_abort.specs.Rules.{wait_told}
use Rattle.collect_abort.proofs.rewriting.put_wait.Goals as goal

pub returns : goal.returns
unfolding wait_told
returns c =
    row-put (wait_image (told_of c.args.x.now) c.args.s c.args.place (alts_of (map plain_alt c.args.alts.now.items)) (seen_maybe c.args.otherwise)) (seen c.args.out.now.items) (seen c.put_list.new.out.items) c.put_list.result c.wait_image.result c.put_list.ensures c.wait_image.ensures
