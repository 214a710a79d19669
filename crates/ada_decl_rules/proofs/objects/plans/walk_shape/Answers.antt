use Rattle.std.proofs.Common.{sym, subst, option_map}
use Rattle.ada_tree.specs.PlainDecl.{plain_init, plain_shape}
use Rattle.ada_static_rules.specs.Sites.{shape_sites}
use Rattle.ada_decl_rules.specs.objects.inner.Plans.{IsShape}
use Rattle.ada_decl_rules.proofs.objects.plans.walk_shape.Goals as goal

pub returns-in_ok-plan_array-in-ConstrainedArray : goal.returns-in_ok-plan_array-in-ConstrainedArray
returns-in_ok-plan_array-in-ConstrainedArray c =
    subst (λ s. IsShape (shape_sites c.args.scope.now c.args.constant (plain_shape s) (option_map plain_init c.args.init.now)) c.args.scope.now c.args.constant (plain_shape s) record { planned = c.in_ok-plan_array-in-ConstrainedArray.field-0; refusal = c.walk_array-walked.result.refusal }) (sym c.in-ConstrainedArray.is)
    record { planned_is = c.in_ok-plan_array-in-ConstrainedArray.ensures c.args.constant; refusal_is = c.walk_array-walked.ensures.refusal_is }
