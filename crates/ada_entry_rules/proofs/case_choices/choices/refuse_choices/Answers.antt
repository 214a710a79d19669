use Rattle.std.proofs.Common.{◌∙◌, ap, map}
use Rattle.std.specs.Prelude.{[], ◌∷◌, ◌&&◌, not, if◌then◌else◌}
use Rattle.ada_tree.specs.PlainExpr.{plain_expr}
use Rattle.ada_tree.specs.PlainStmt.{plain_case_arm, case_arms_of}
use Rattle.ada_static_rules.specs.RuleChoiceBad.{left_out}
use Rattle.ada_static_rules.specs.Sites.{arm_choices}
use Rattle.ada_static_rules.specs.Sooner.{found}
use Rattle.ada_entry_rules.proofs.case_choices.Choosing.{case_met, case_unmet}
use Rattle.ada_entry_rules.proofs.case_choices.choices.refuse_choices.Goals as goal

pub returns-in-None : goal.returns-in-None
returns-in-None c =
    case_unmet c.args.scope.now (plain_expr c.args.selector.now) (arm_choices (case_arms_of (map plain_case_arm c.args.arms.now))) c.args.others c.args.span c.walk-walked.result.kind c.walk-walked.ensures.kind_is c.in-None.is

pub returns-in_ok-chosen-in-Some : goal.returns-in_ok-chosen-in-Some
returns-in_ok-chosen-in-Some c =
    c.first.ensures
    ∙ case_met c.args.scope.now (plain_expr c.args.selector.now) c.in-Some.kind (arm_choices (case_arms_of (map plain_case_arm c.args.arms.now))) c.args.others c.args.span c.walk-walked.result.kind _ _ c.walk-walked.ensures.kind_is c.in-Some.is c.in_ok-chosen-in-Some.ensures.refusal_is
    (c.refuse_left_out-left.ensures c.args.scope.now (arm_choices (case_arms_of (map plain_case_arm c.args.arms.now))) c.in_ok-chosen-in-Some.ensures
    ∙ ap (λ v. found 9 (if not c.args.others && left_out c.args.scope.now c.in-Some.kind v (arm_choices (case_arms_of (map plain_case_arm c.args.arms.now))) then c.args.span ∷ [] else [])) c.selected_values-values.ensures)
