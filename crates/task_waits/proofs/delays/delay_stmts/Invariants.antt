use Rattle.std.proofs.Common.{◌≡◌, ◌≤◌, map}
use Rattle.ada_tree.specs.PlainStmt.{plain_alt, alts_of}
use Rattle.task_model.specs.Waits.{delay_stmts}
use Rattle.task_waits.proofs.Opens.{delay_from}
use Rattle.task_waits.proofs.delays.delay_stmts.Given as goal

-- the delay is not among those gone by
abbrev pub invariant-loop-alt : goal.invariant-loop-alt
invariant-loop-alt l = record {
  few : l.delays ≤ l.alt-index;
  left : delay_from l.alts l.alt-index l.delays l.k ≡ delay_stmts (alts_of (map plain_alt l.alts)) 0 l.k;
}
