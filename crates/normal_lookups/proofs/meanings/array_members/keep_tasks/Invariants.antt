use Rattle.std.proofs.Common.{take}
use Rattle.normal_lookups.specs.meanings.Kept.{AreMembers}
use Rattle.normal_lookups.proofs.meanings.array_members.keep_tasks.Given as goal

-- those of the tasks so far are kept
abbrev pub invariant-loop-place : goal.invariant-loop-place
invariant-loop-place l = AreMembers l.lookups (take l.place l.tasks) l.members
