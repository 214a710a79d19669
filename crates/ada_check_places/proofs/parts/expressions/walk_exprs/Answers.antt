use Rattle.ada_tree.specs.PlainExpr.{plain_expr}
use Rattle.syn_event.specs.CheckSites.{expr_sites}
use Rattle.ada_check_rules.proofs.rules.Listing.{list_more, list_end}
use Rattle.ada_check_places.proofs.parts.expressions.walk_exprs.Goals as goal

pub loop-e-preserved : goal.loop-e-preserved
loop-e-preserved c =
    list_more c.args.by.now plain_expr (expr_sites c.args.around.now c.args.k) c.args.list.now c.loop-e.e-index c.e-item.result _ _ _ _ c.loop-e-test.true c.e-item.is c.loop-e.invariant c.in_ok-found.ensures c.first-refusal.ensures

pub returns : goal.returns
returns c = list_end c.args.by.now plain_expr (expr_sites c.args.around.now c.args.k) c.args.list.now c.loop-e.e-index _ _ c.loop-e-test.false c.loop-e.invariant
