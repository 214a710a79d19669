use Rattle.ada_tree.specs.PlainStmt.{plain_body}
use Rattle.collect_abort.proofs.Counted.{most-is}
use Rattle.collect_abort.proofs.counting.most_places.Goals as goal

pub returns : goal.returns
returns c = most-is c.most_among.result c.in_ok-own.own (plain_body c.args.q.now.body) c.args.q.now.decls.items c.deref.result.now c.in_ok-own.ensures c.deref.ensures.value c.most_among.ensures
