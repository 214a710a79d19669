use Rattle.std.proofs.Common.{◌≡◌, ◌-◌, map, drop, length}
use Rattle.ada_task_numbers.specs.task_objects.PlainNames.{plain_named_tasks}
use Rattle.ada_task_numbers.specs.task_counts.inner.Shares.{array_lengths}
use Rattle.ada_task_numbers.proofs.task_counts.shares.Rates.new.Given as goal

-- the lengths of the names from behind
abbrev pub invariant-loop-done : goal.invariant-loop-done
invariant-loop-done l = l.rows ≡ array_lengths l.types (map plain_named_tasks (drop (length l.parts - l.done) l.parts))
