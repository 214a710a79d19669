use Rattle.ada_tree.specs.PlainStmt.{plain_call}
use Rattle.normal_calls.proofs.Counting.{flag-counted}
use Rattle.normal_calls.proofs.numbers.flag_number.Goals as goal

pub returns : goal.returns
returns g c = flag-counted c.number_at.result c.in_ok-first.first c.count_called.result (g.M.Meanings.setting c.args.m.now) c.args.span (plain_call c.args.call.now) c.args.number c.number_at.ensures c.in_ok-first.ensures c.count_called.ensures
