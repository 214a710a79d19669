use Rattle.std.proofs.Common.{length, map}
use Rattle.ada_task_parser.specs.inner.ReadingTasks.{begins_member, member}
use Rattle.ada_phrase_parser.specs.Views.{told}
use Rattle.ada_task_parser.specs.inner.MemberViews.{plain_member}
use Rattle.ada_phrase_parser.proofs.Lists.{GoesOn}
use Rattle.ada_task_parser.proofs.task_items.members_onto.Given as goal

abbrev pub invariant-members : goal.invariant-members
invariant-members l = GoesOn (begins_member) (member (told l.source) l.depth) (map plain_member l.list.items) (map plain_member l.initial.list.items) l.rest l.initial.rest

abbrev pub decreases-members : goal.decreases-members
decreases-members l = length l.rest
