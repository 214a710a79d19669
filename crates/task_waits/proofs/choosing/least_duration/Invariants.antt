use Rattle.std.proofs.Common.{◌≡◌, None, map}
use Rattle.ada_tree.specs.PlainStmt.{plain_alt, alts_of}
use Rattle.task_model.specs.Waits.{alternatives_open}
use Rattle.task_waits.specs.Standing.{task_here}
use Rattle.task_waits.proofs.Opens.{least_of, opens_from}
use Rattle.task_waits.proofs.choosing.least_duration.Given as goal

-- the least duration so far, with what is left
abbrev pub invariant-loop-alt : goal.invariant-loop-alt
invariant-loop-alt l =
    least_of None (alternatives_open (task_here l.here) (alts_of (map plain_alt l.alts)) 0)
    ≡ least_of l.least (opens_from (task_here l.here) l.alts l.alt-index)
