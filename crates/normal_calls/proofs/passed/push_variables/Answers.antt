use Rattle.std.proofs.Common.{map}
use Rattle.ada_tree.specs.PlainExpr.{plain_expr}
use Rattle.normal_calls.proofs.Counting.{variables-turn}
use Rattle.normal_calls.proofs.passed.push_variables.Goals as goal

pub loop-place-preserved : goal.loop-place-preserved
loop-place-preserved g c =
    variables-turn (g.M.Meanings.setting c.args.m.now) c.args.span c.args.number c.loop-place.place c.in_ok-own.own c.loop-place.out.items c.push_expr.new.list.items (map plain_expr c.args.out.now.items) c.variable_expr.result
    c.in_ok-own.ensures c.variable_expr.ensures c.in_ok-push_expr.ensures c.loop-place.invariant
