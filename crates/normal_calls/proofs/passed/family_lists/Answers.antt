use Rattle.std.proofs.Common.{[], ◌∷◌, Vec, Global, map, option_map}
use Rattle.ada_tree.specs.declared.expressions.Expr.{Expr}
use Rattle.ada_tree.specs.PlainExpr.{plain_expr}
use Rattle.ada_tree.specs.PlainStmt.{plain_args, plain_call}
use Rattle.ada_stmt_copy.proofs.expressions.Carried.{two}
use Rattle.normal_model.specs.Making.{variable}
use Rattle.normal_model.specs.Calls.{actuals_passed, slots_called}
use Rattle.normal_calls.proofs.Counting.{family-listed, one-listed}
use Rattle.normal_calls.proofs.passed.family_lists.Goals as goal

pub returns : goal.returns
returns g c =
    two (λ (v : Vec Expr Global). map plain_expr v.items) (option_map (λ (v : Vec Expr Global). map plain_expr v.items)) plain_args (λ x y. record { first = x; second = y })
    (variable (g.M.Meanings.setting c.args.m.now) c.args.span c.in_ok-index.index ∷ []) (option_map (λ (v : Vec Expr Global). actuals_passed (g.M.Meanings.setting c.args.m.now) c.args.span (slots_called (g.M.Meanings.setting c.args.m.now) (plain_call c.args.call.now)) (map plain_expr v.items) c.in_ok-first.first) c.args.args.now.second) _
    c.args_of.result c.one_expr.result c.second_passed.result
    c.args_of.ensures (one-listed c.one_expr.result c.variable_expr.result (variable (g.M.Meanings.setting c.args.m.now) c.args.span c.in_ok-index.index) c.one_expr.ensures c.variable_expr.ensures) c.second_passed.ensures
    (family-listed (g.M.Meanings.setting c.args.m.now) c.args.span (plain_call c.args.call.now) c.args.number c.args.args.now c.in_ok-index.index c.in_ok-first.first c.in_ok-index.ensures c.in_ok-first.ensures)
