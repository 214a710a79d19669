use Rattle.std.proofs.Common.{map}
use Rattle.ada_tree.specs.PlainStmt.{plain_alt}
use Rattle.collect_statements.specs.Looked.{teller_of}
use Rattle.collect_statements.proofs.Turning.{kept-told}
use Rattle.collect_statements.proofs.waiting.alternatives_told.Goals as goal

pub returns : goal.returns
returns c =
    kept-told (teller_of c.args.x.now) (map plain_alt c.args.alts.now.items) c.new-made.result.items c.put_alternatives-done.new.out.items c.put_alternatives-done.result c.keep_alts.result
    c.new-made.ensures.items c.put_alternatives-done.ensures c.keep_alts.ensures
