use Rattle.std.proofs.Common.{ap, ◌∙◌, true}
use Rattle.ada_tree.specs.PlainExpr.{plain_subind, plain_drange}
use Rattle.ada_static_rules.specs.Sites.{component_marks, drange_sites, subind_sites}
use Rattle.ada_static_rules.specs.RefusedFirst.{refused_first}
use Rattle.ada_static_rules.proofs.Meeting.{joined}
use Rattle.ada_decl_rules.proofs.objects.shapes.walk_array.Goals as goal

pub returns : goal.returns
returns c = record {
  index_is = c.walk_range-range.ensures.range_is;
  made_is = c.walk_subind-component.ensures.made_is;
  range_is = c.walk_subind-component.ensures.range_is;
  refusal_is =
      c.first.ensures
      ∙ joined (drange_sites true c.args.scope.now (plain_drange c.args.index.now)) _ _ _ c.walk_range-range.ensures.refusal_is
      (c.walk_subind-component.ensures.refusal_is
      ∙ ap (λ u. refused_first (subind_sites true u c.args.scope.now (plain_subind c.args.part.now))) (c.component_use.ensures ∙ ap component_marks c.may_be_task-task.ensures));
}
