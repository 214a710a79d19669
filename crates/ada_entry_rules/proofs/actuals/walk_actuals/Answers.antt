use Rattle.std.proofs.Common.{ap, ◌∙◌, option_map}
use Rattle.ada_tree.specs.PlainExpr.{plain_expr}
use Rattle.ada_static_rules.specs.RefusedFirst.{refused_first}
use Rattle.ada_scopes.specs.Entries.{plain_part}
use Rattle.ada_entry_rules.specs.inner.Actuals.{beside}
use Rattle.ada_entry_rules.proofs.BesideFormals.{actuals_more, actuals_end}
use Rattle.ada_entry_rules.proofs.actuals.walk_actuals.Goals as goal

pub loop-place-preserved : goal.loop-place-preserved
loop-place-preserved c =
    actuals_more plain_part plain_expr c.args.scope.now c.args.formals.now c.args.actuals.now c.loop-place.place c.index-actuals-place.result c.loop-place.refusal c.walk_beside.result c.first-refusal.result _
    c.loop-place-test.true c.index-actuals-place.is c.loop-place.invariant
    (c.walk_beside.ensures ∙ ap (λ o. refused_first (beside c.args.scope.now (option_map plain_part o) (plain_expr c.index-actuals-place.result))) c.formal_at.ensures)
    c.first-refusal.ensures

pub returns : goal.returns
returns c =
    actuals_end plain_part plain_expr c.args.scope.now c.args.formals.now c.args.actuals.now c.loop-place.place c.loop-place.refusal _ c.loop-place-test.false c.loop-place.invariant
