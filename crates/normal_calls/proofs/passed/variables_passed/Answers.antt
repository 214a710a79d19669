use Rattle.ada_tree.specs.PlainStmt.{plain_call}
use Rattle.normal_model.specs.Calls.{slots_called}
use Rattle.normal_calls.proofs.Counting.{variables-kept}
use Rattle.normal_calls.proofs.passed.variables_passed.Goals as goal

pub returns : goal.returns
returns g c =
    variables-kept (g.M.Meanings.setting c.args.m.now) c.args.span (slots_called (g.M.Meanings.setting c.args.m.now) (plain_call c.args.call.now)) c.args.actuals.now c.args.number c.count_with_formal-count.result c.new-made.result.items c.push_variables-done.new.out.items c.push_variables-done.result c.keep_exprs.result
    c.count_with_formal-count.ensures c.new-made.ensures.items c.push_variables-done.ensures c.keep_exprs.ensures
