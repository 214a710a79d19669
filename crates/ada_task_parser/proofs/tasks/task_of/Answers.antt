use Rattle.std.proofs.Common.{[]}
use Rattle.ada_task_parser.proofs.MemberSteps.{entries_grow, priorities_grow}
use Rattle.ada_task_parser.proofs.tasks.task_of.Goals as goal

pub members-preserved : goal.members-preserved
members-preserved c = record {
  entries = entries_grow c.members.yielded c.in-Some.member c.members.entries.items c.add_member.new.entries.items [] [] c.members.invariant.entries c.in_ok-add_member.ensures.entries;
  priorities = priorities_grow c.members.yielded c.in-Some.member c.members.entries.items c.add_member.new.entries.items c.members.priorities.items c.add_member.new.priorities.items c.members.invariant.entries c.members.invariant.priorities c.in_ok-add_member.ensures.priorities;
}
