use Rattle.std.proofs.Common.{sym, ap, ◌∙◌}
use Rattle.ada_tree.specs.PlainExpr.{plain_expr, EName}
use Rattle.ada_static_rules.specs.Demand.{is_actual}
use Rattle.ada_static_rules.specs.RefusedFirst.{refused_first_at}
use Rattle.ada_entry_rules.proofs.Passing.{named_actual, other_actual}
use Rattle.ada_entry_rules.proofs.actuals.refuse_written.Goals as goal

pub returns-in-Some : goal.returns-in-Some
returns-in-Some c =
    named_actual c.args.scope.now c.args.mode (plain_expr c.args.e.now) c.in-Some.id _
    (sym c.name_of.ensures ∙ c.in-Some.is)
    (c.refuse_name.ensures ∙ ap (λ s. refused_first_at c.args.scope.now (is_actual c.args.mode (EName c.in-Some.id s))) c.place.ensures)

pub returns-in-None : goal.returns-in-None
returns-in-None c =
    c.first.ensures
    ∙ other_actual c.args.scope.now c.args.mode (plain_expr c.args.e.now) _ _ (sym c.name_of.ensures ∙ c.in-None.is) c.refuse_no_name.ensures c.requires
