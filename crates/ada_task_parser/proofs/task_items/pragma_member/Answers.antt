use Rattle.std.proofs.Common.{◌∙◌, ap, rules}
use Rattle.ada_expr_parser.specs.readers.Readers.{pure, go_on}
use Rattle.ada_task_parser.specs.Tasks.{MPriority}
use Rattle.ada_expr_parser.specs.Gives.{Fails}
use Rattle.ada_expr_parser.proofs.Steps.{fails_go_on}
use Rattle.ada_task_parser.specs.inner.ReadingTasks.{priority}
use Rattle.ada_phrase_parser.specs.Views.{told}
use Rattle.ada_task_parser.proofs.TaskSteps.{priority_is}
use Rattle.ada_task_parser.proofs.task_items.pragma_member.Goals as goal

pub returns-in_err-value-clause-tree : goal.returns-in_err-value-clause-tree
returns-in_err-value-clause-tree c =
    let fails : Fails c.in_err-value.field-0.0 (priority (told c.args.source.now) c.args.depth (λ e close. MPriority e) c.args.items.now) =
    rw (priority_is (told c.args.source.now) c.args.depth (λ e close. MPriority e) c.args.priority.0 c.args.items.now c.requires.id) (fails_go_on _ _ (λ x. pure (MPriority x.0)) c.in_err-value.ensures.tree) in
    search (rules, fails)

pub returns-clause-tree : goal.returns-clause-tree
returns-clause-tree c =
    priority_is (told c.args.source.now) c.args.depth (λ e close. MPriority e) c.args.priority.0 c.args.items.now c.requires.id
    ∙ ap (λ r. go_on r (λ x. pure (MPriority x.0))) c.in_ok-value.ensures.tree
