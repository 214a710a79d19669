use Rattle.ada_tree.specs.PlainExpr.{plain_expr}
use Rattle.ada_static_rules.specs.Sites.{free_value_sites}
use Rattle.ada_static_rules.proofs.Listing.{list_more, list_end}
use Rattle.ada_decl_rules.proofs.objects.initials.walk_all_free.Goals as goal

pub loop-e-preserved : goal.loop-e-preserved
loop-e-preserved c =
    list_more plain_expr (free_value_sites c.args.scope.now) c.args.list.now c.loop-e.e-index c.e-item.result c.loop-e.refusal c.walk_free.result c.first-refusal.result _
    c.loop-e-test.true c.e-item.is c.loop-e.invariant c.walk_free.ensures c.first-refusal.ensures

pub returns : goal.returns
returns c = list_end plain_expr (free_value_sites c.args.scope.now) c.args.list.now c.loop-e.e-index c.loop-e.refusal _ c.loop-e-test.false c.loop-e.invariant
