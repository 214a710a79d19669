use Rattle.std.proofs.Common.{map, ap, ◌∙◌}
use Rattle.ada_tree.specs.PlainProgram.{plain_program}
use Rattle.ada_task_numbers.specs.task_objects.PlainNames.{plain_named_tasks}
use Rattle.ada_check.proofs.Programs.{counted_met}
use Rattle.ada_check.proofs.checking.refuse_counts.Goals as goal

pub returns : goal.returns
returns c = λ around same.
    counted_met c.args.by.now around (map plain_named_tasks c.as_slice-parts.result.now) (plain_program c.args.p.now) _ _ _ _ _ (ap (map plain_named_tasks) c.as_slice-parts.ensures.value ∙ c.in_ok-found.ensures)
    (c.refuse_tasks-tasks.ensures around same) (c.refuse_entries-entries.ensures around same) (c.in_ok-copies.ensures around same) c.first.ensures c.first-2.ensures
