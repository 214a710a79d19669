use Rattle.std.proofs.Common.{map}
use Rattle.std.specs.List.{find}
use Rattle.ada_tree.specs.PlainStmt.{plain_alt, alts_of}
use Rattle.task_model.specs.Waits.{alternatives_open, accepts_member}
use Rattle.task_waits.specs.Standing.{task_here, parts_opened}
use Rattle.task_waits.specs.inner.Choosing.{opens_or_none}
use Rattle.task_waits.proofs.Opens.{opens_from, IsFirst}
use Rattle.task_waits.proofs.alternatives.first_taken.Given as goal

-- none of the alternatives gone by is taken
abbrev pub invariant-loop-alt : goal.invariant-loop-alt
invariant-loop-alt l =
    IsFirst l.member.entry l.member.index (opens_from (task_here l.here) l.alts l.alt-index)
    (parts_opened (find (accepts_member l.member.entry l.member.index) (opens_or_none (alternatives_open (task_here l.here) (alts_of (map plain_alt l.alts)) 0))))
