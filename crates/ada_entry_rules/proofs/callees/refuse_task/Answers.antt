use Rattle.std.proofs.Common.{ap, None, ◌∙◌}
use Rattle.ada_static_rules.specs.RuleMismatch.{no_task}
use Rattle.ada_static_rules.specs.RuleArgCount.{index_of_callee}
use Rattle.ada_static_rules.specs.Sooner.{sooner, found}
use Rattle.ada_entry_rules.proofs.Calling.{addressed_alone}
use Rattle.ada_entry_rules.proofs.callees.refuse_task.Goals as goal

pub returns : goal.returns
returns c =
    c.first-2.ensures
    ∙ ap (sooner c.refuse_unseen-unknown.result) c.first.ensures
    ∙ addressed_alone c.args.scope.now c.args.name _ _ _
    c.refuse_unseen-unknown.ensures
    (c.refuse_no_task-no_task.ensures ∙ ap (λ o. found 3 (no_task o c.args.name)) c.meaning-thing.ensures)
    (c.refuse_array-count.ensures ∙ ap (λ o. found 8 (index_of_callee o None c.args.name.span)) c.meaning-thing.ensures)
