use Rattle.std.proofs.Common.{ap, subst, ◌∙◌, true, option_map}
use Rattle.ada_tree.specs.PlainExpr.{plain_bounds, plain_subind}
use Rattle.ada_static_rules.specs.Demand.{MarkUse}
use Rattle.ada_static_rules.specs.Sites.{object_marks, subind_sites}
use Rattle.ada_expr_rules.specs.Ranges.{IsSubind}
use Rattle.ada_decl_rules.proofs.objects.shapes.walk_plain.Goals as goal

pub returns : goal.returns
returns c =
    let x = plain_subind c.args.subind.now in
    subst (λ (u : MarkUse). IsSubind (subind_sites true u c.args.scope.now x) c.args.scope.now x c.walk_subind.result)
    (c.object_use-allowed.ensures ∙ ap (λ b. object_marks b (option_map plain_bounds c.args.subind.now.bounds)) c.may_be_task-task.ensures)
    c.walk_subind.ensures
