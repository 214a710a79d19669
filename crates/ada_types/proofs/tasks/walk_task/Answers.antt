use Rattle.std.proofs.Common.{◌∙◌, ap, [], map, Some, refl}
use Rattle.std.specs.Prelude.{flat_map}
use Rattle.ada_tree.specs.PlainDecl.{PPriority, plain_entry, plain_priority, plain_task}
use Rattle.ada_static_rules.specs.Scope.{integer_kind}
use Rattle.ada_static_rules.specs.Declaring.{entry_part}
use Rattle.ada_static_rules.specs.Sites.{static_of, entries_sites}
use Rattle.ada_static_rules.specs.RefusedFirst.{refused_first}
use Rattle.ada_types.proofs.TaskDecls.{task_met, task_left}
use Rattle.ada_types.proofs.tasks.walk_task.Goals as goal

pub returns : goal.returns
returns c =
    let scope = c.args.scope in
    let task = plain_task c.args.task.now in
    record {
      scope_is = task_left scope _ task _ _ c.in_ok-declare_task.ensures c.in_ok-thing.ensures (c.in_ok-walked.ensures.parts_are ∙ ap (λ xs. map (entry_part scope) (map plain_entry xs)) c.deref.ensures.value);
      refusal_is =
          c.first.ensures
          ∙ task_met scope task _ _ (c.in_ok-walked.ensures.refusal_is ∙ ap (λ xs. refused_first (entries_sites scope [] (map plain_entry xs))) c.deref.ensures.value)
          (c.walk_priorities-priorities.ensures ∙ ap (λ xs. refused_first (flat_map (λ (p : PPriority). static_of scope (Some integer_kind) p.value) (map plain_priority xs))) c.deref-2.ensures.value);
      of_tasks_is = refl;
    }
