use Rattle.std.proofs.Common.{◌≡◌, map, drop}
use Rattle.ada_tree.specs.PlainStmt.{plain_callee}
use Rattle.syn_event.specs.CheckSites.{aborted_sites}
use Rattle.ada_check_rules.specs.rules.Sooner.{sooner}
use Rattle.ada_check_rules.specs.rules.RefusedFirst.{refused_first}
use Rattle.ada_check_places.proofs.parts.statement_parts.walk_aborted.Given as goal

-- what is refused so far, and of the names that are left
abbrev pub invariant-loop-place : goal.invariant-loop-place
invariant-loop-place l = sooner l.refusal (refused_first l.by (aborted_sites l.around l.k (map plain_callee (drop l.place l.names)))) ≡ refused_first l.by (aborted_sites l.around l.k (map plain_callee l.names))
