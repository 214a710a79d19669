use Rattle.std.proofs.Common.{◌≡◌, map}
use Rattle.ada_tree.specs.PlainDecl.{plain_entry, plain_priority}
use Rattle.ada_task_parser.specs.Tasks.{entries_in, priorities_in}
use Rattle.ada_task_parser.specs.inner.MemberViews.{plain_member}
use Rattle.ada_task_parser.proofs.tasks.task_of.Given as goal

-- the members so far are told apart
abbrev pub invariant-members : goal.invariant-members
invariant-members l = record {
  entries : map plain_entry l.entries.items ≡ entries_in (map plain_member l.yielded);
  priorities : map plain_priority l.priorities.items ≡ priorities_in 0 (map plain_member l.yielded);
}
