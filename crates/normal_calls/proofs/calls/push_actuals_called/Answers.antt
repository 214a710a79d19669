use Rattle.std.proofs.Common.{◌≡◌, OnOk, map, subst}
use Rattle.ada_tree.specs.PlainExpr.{plain_expr}
use Rattle.ada_tree.specs.PlainStmt.{PStmts, plain_call, seen}
use Rattle.task_model.specs.Frames.{in_front}
use Rattle.normal_model.specs.Calls.{actual_number, lists_called, slots_called}
use Rattle.normal_calls.proofs.Around.{before-called}
use Rattle.normal_calls.proofs.calls.push_actuals_called.Goals as goal

pub returns : goal.returns
returns g c =
    subst (λ (x : PStmts). OnOk c.push_actuals.result (seen c.push_actuals.new.out.items ≡ in_front (seen c.args.out.now.items) x))
    (before-called (g.M.Meanings.setting c.args.m.now) c.args.span (slots_called (g.M.Meanings.setting c.args.m.now) (plain_call c.args.call.now)) c.modes_called.result.now (map plain_expr c.actuals_called.result.now) (lists_called (g.M.Meanings.setting c.args.m.now) (plain_call c.args.call.now)).actuals c.in_ok-first.first (actual_number (g.M.Meanings.setting c.args.m.now) c.args.span (plain_call c.args.call.now) c.args.number)
    c.modes_called.ensures c.actuals_called.ensures c.in_ok-first.ensures)
    c.push_actuals.ensures
