use Rattle.std.proofs.Common.{ap, ◌∙◌, option_map}
use Rattle.ada_tree.specs.PlainExpr.{plain_expr}
use Rattle.ada_scopes.specs.Entries.{plain_part}
use Rattle.ada_entry_rules.proofs.Passing.{beside_met}
use Rattle.ada_entry_rules.proofs.actuals.walk_beside.Goals as goal

pub returns-in-Some : goal.returns-in-Some
returns-in-Some c =
    c.first.ensures
    ∙ beside_met c.args.scope.now (option_map plain_part c.args.formal) (plain_part c.in-Some.formal) (plain_expr c.args.e.now) _ _ (ap (option_map plain_part) c.in-Some.is) c.refuse_actual-own.ensures c.refuse_kind-other.ensures
