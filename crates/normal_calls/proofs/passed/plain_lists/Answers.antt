use Rattle.std.proofs.Common.{Vec, Global, map, option_map}
use Rattle.ada_tree.specs.declared.expressions.Expr.{Expr}
use Rattle.ada_tree.specs.PlainExpr.{plain_expr}
use Rattle.ada_tree.specs.PlainStmt.{plain_args, plain_call}
use Rattle.ada_stmt_copy.proofs.expressions.Carried.{two}
use Rattle.normal_model.specs.Calls.{actuals_passed, slots_called}
use Rattle.normal_calls.proofs.Counting.{plain-listed}
use Rattle.normal_calls.proofs.passed.plain_lists.Goals as goal

pub returns : goal.returns
returns g c =
    two (λ (v : Vec Expr Global). map plain_expr v.items) (option_map (λ (v : Vec Expr Global). map plain_expr v.items)) plain_args (λ x y. record { first = x; second = y })
    (actuals_passed (g.M.Meanings.setting c.args.m.now) c.args.span (slots_called (g.M.Meanings.setting c.args.m.now) (plain_call c.args.call.now)) (map plain_expr c.deref.result.now) c.in_ok-first.first) (option_map (λ (v : Vec Expr Global). map plain_expr v.items) c.args.args.now.second) _
    c.args_of.result c.variables_passed.result c.second_left.result
    c.args_of.ensures c.variables_passed.ensures c.second_left.ensures
    (plain-listed (g.M.Meanings.setting c.args.m.now) c.args.span (plain_call c.args.call.now) c.args.number c.args.args.now c.deref.result.now c.in_ok-first.first c.deref.ensures.value c.in_ok-first.ensures)
