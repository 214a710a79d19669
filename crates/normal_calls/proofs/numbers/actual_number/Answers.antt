use Rattle.ada_tree.specs.PlainStmt.{plain_call, plain_callee}
use Rattle.normal_model.specs.Calls.{lists_called}
use Rattle.normal_model.specs.Members.{callee_kept}
use Rattle.normal_calls.proofs.Places.{number-both}
use Rattle.normal_calls.proofs.numbers.actual_number.Goals as goal

pub returns : goal.returns
returns g c =
    number-both c.behind.result c.is_some.result c.index_called.result _ (lists_called (g.M.Meanings.setting c.args.m.now) (plain_call c.args.call.now)).index (callee_kept (g.M.Meanings.setting c.args.m.now) c.args.span (plain_callee c.args.call.now.task)) c.in_ok-index.index c.args.number
    c.behind.ensures c.is_some.ensures c.index_called.ensures c.in_ok-index.ensures
