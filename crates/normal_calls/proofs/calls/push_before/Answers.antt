use Rattle.ada_tree.specs.PlainStmt.{plain_call, plain_callee, seen}
use Rattle.normal_model.specs.Calls.{entry_called, lists_called}
use Rattle.normal_model.specs.Making.{kept_if}
use Rattle.normal_model.specs.Members.{callee_kept}
use Rattle.normal_model.specs.Ranges.{family_range, subtype_of_range}
use Rattle.normal_calls.proofs.Kept.{before-placed}
use Rattle.normal_calls.proofs.calls.push_before.Goals as goal

pub returns : goal.returns
returns g c =
    before-placed (g.M.Meanings.setting c.args.m.now) c.args.span (callee_kept (g.M.Meanings.setting c.args.m.now) c.args.span (plain_callee c.args.call.now.task)) (kept_if (subtype_of_range (g.M.Meanings.setting c.args.m.now).types c.args.span (family_range (g.M.Meanings.setting c.args.m.now) (entry_called (g.M.Meanings.setting c.args.m.now) (plain_call c.args.call.now)))) (lists_called (g.M.Meanings.setting c.args.m.now) (plain_call c.args.call.now)).index) c.args.number
    c.push_actuals_called.result (seen c.args.out.now.items) (seen c.push_callee_index.new.out.items) (seen c.push_family_index.new.out.items) (seen c.push_actuals_called.new.out.items) _
    c.in_ok-push_callee_index.ensures c.in_ok-push_family_index.ensures c.push_actuals_called.ensures
