use Rattle.std.proofs.Common.{ap, Some, ◌∙◌}
use Rattle.ada_tree.specs.PlainExpr.{plain_expr}
use Rattle.ada_static_rules.specs.RuleMismatch.{no_task, misfit_member}
use Rattle.ada_static_rules.specs.RuleRangeBad.{member_range, out_of}
use Rattle.ada_static_rules.specs.RuleArgCount.{index_of_callee}
use Rattle.ada_static_rules.specs.Sooner.{sooner, found}
use Rattle.ada_static_rules.proofs.SoonerLaws.{sooner_none}
use Rattle.ada_entry_rules.proofs.Calling.{addressed}
use Rattle.ada_entry_rules.proofs.callees.refuse_member.Goals as goal

pub returns : goal.returns
returns c =
    let e = plain_expr c.args.index.now in
    c.first-4.ensures
    ∙ ap (sooner c.refuse_unseen-unknown.result)
    (c.first-3.ensures
    ∙ ap (λ o. sooner o c.first-2.result) c.first.ensures
    ∙ ap (sooner (sooner c.refuse_no_task-no_task.result c.refuse_misfit-misfit.result)) c.first-2.ensures)
    ∙ addressed c.args.scope.now c.args.name (Some e) _ _ _ _ _
    c.refuse_unseen-unknown.ensures
    (c.refuse_no_task-no_task.ensures ∙ ap (λ o. found 3 (no_task o c.args.name)) c.meaning-thing.ensures)
    (c.refuse_misfit-misfit.ensures ∙ ap (λ o. found 3 (misfit_member c.args.scope.now o (Some e))) c.meaning-thing.ensures)
    (c.refuse_outside-outside.ensures ∙ sooner_none _ ∙ ap (λ o. found 5 (out_of c.args.scope.now e o)) (c.member_range.ensures ∙ ap member_range c.meaning-thing.ensures))
    (c.refuse_index-count.ensures e ∙ ap (λ o. found 8 (index_of_callee o (Some e) c.args.name.span)) c.meaning-thing.ensures)
