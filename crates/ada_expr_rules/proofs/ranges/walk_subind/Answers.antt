use Rattle.std.proofs.Common.{ap, ◌∙◌, None, option_map}
use Rattle.ada_tree.specs.PlainExpr.{plain_bounds}
use Rattle.ada_static_rules.specs.Scope.{scalar_kind}
use Rattle.ada_static_rules.specs.Declaring.{subind_made, marked_range}
use Rattle.ada_expr_rules.specs.Plain.{plain_use}
use Rattle.ada_expr_rules.proofs.Bounding.{bounded_subind, marked_subind}
use Rattle.ada_expr_rules.proofs.ranges.walk_subind.Goals as goal

pub returns-in-Some : goal.returns-in-Some
returns-in-Some c =
    bounded_subind c.args.fixed (plain_use c.args.allowed) c.args.scope.now c.args.subind.now.mark (option_map plain_bounds c.args.subind.now.bounds) (plain_bounds c.in-Some.bounds)
    c.range_between-range.result c.walk_constraint-walked.result.first c.walk_constraint-walked.result.last c.walk_mark-wrong.result c.walk_constraint-walked.result.refusal _
    (ap (option_map plain_bounds) c.in-Some.is)
    (c.kind_of_mark-kind.ensures ∙ ap scalar_kind c.mark_named-marking.ensures)
    c.walk_constraint-walked.ensures.first_is
    c.walk_constraint-walked.ensures.last_is
    c.range_between-range.ensures
    c.making_of_range.ensures
    c.walk_mark-wrong.ensures
    c.walk_constraint-walked.ensures.refusal_is
    c.first.ensures

pub returns-in-None : goal.returns-in-None
returns-in-None c =
    marked_subind c.args.fixed (plain_use c.args.allowed) c.args.scope.now c.args.subind.now.mark (option_map plain_bounds c.args.subind.now.bounds) _
    (ap (option_map plain_bounds) c.in-None.is)
    (c.kind_of_mark-kind.ensures ∙ ap scalar_kind c.mark_named-marking.ensures)
    (c.making_of.ensures.made c.args.scope.now ∙ ap (λ m. subind_made c.args.scope.now m None) c.mark_named-marking.ensures)
    (c.making_of.ensures.range c.args.scope.now ∙ ap (λ m. marked_range c.args.scope.now m None) c.mark_named-marking.ensures)
    c.walk_mark-wrong.ensures
