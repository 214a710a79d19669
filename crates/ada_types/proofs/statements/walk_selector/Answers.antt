use Rattle.std.proofs.Common.{◌∙◌}
use Rattle.std.specs.Prelude.{map}
use Rattle.ada_tree.specs.PlainExpr.{plain_expr}
use Rattle.ada_tree.specs.PlainStmt.{plain_case_arm, case_arms_of}
use Rattle.ada_static_rules.specs.Demand.{chooses}
use Rattle.ada_static_rules.specs.Sites.{expr_sites, arm_choices}
use Rattle.ada_static_rules.proofs.Meeting.{before}
use Rattle.ada_types.proofs.statements.walk_selector.Goals as goal

pub returns : goal.returns
returns c = record {
  kind_is = c.walk-walked.ensures.kind_is;
  values_are = c.selected_values.ensures;
  refusal_is =
      c.first.ensures
      ∙ before c.args.scope.now (chooses (plain_expr c.args.selector.now) (arm_choices (case_arms_of (map plain_case_arm c.args.arms.now))) c.args.others c.args.span) (expr_sites c.args.scope.now (plain_expr c.args.selector.now)) _ _ c.in_ok-whole.ensures c.walk-walked.ensures.refusal_is;
}
