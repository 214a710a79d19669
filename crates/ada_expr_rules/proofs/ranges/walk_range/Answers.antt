use Rattle.std.proofs.Common.{ap, refl}
use Rattle.ada_tree.specs.PlainExpr.{plain_bounds, plain_drange}
use Rattle.ada_expr_rules.proofs.Bounding.{given_drange}
use Rattle.ada_expr_rules.proofs.ranges.walk_range.Goals as goal

pub returns-in-Given : goal.returns-in-Given
returns-in-Given c =
    given_drange c.args.fixed c.args.scope.now (plain_drange c.args.range.now) (plain_bounds c.in-Given.bounds)
    c.walk_bounds-walked.result.first c.walk_bounds-walked.result.last c.walk_bounds-walked.result.refusal c.refuse_kind-other.result _
    (ap plain_drange c.in-Given.is)
    c.walk_bounds-walked.ensures.first_is
    c.walk_bounds-walked.ensures.last_is
    refl
    c.range_between.ensures
    c.walk_bounds-walked.ensures.refusal_is
    c.refuse_kind-other.ensures
    c.first.ensures
