use Rattle.std.proofs.Common.{◌≡◌, map, drop}
use Rattle.std.specs.Prelude.{flat_map}
use Rattle.ada_tree.specs.PlainStmt.{plain_part}
use Rattle.syn_event.specs.CheckSites.{part_sites}
use Rattle.ada_check_rules.specs.rules.Sooner.{sooner}
use Rattle.ada_check_rules.specs.rules.RefusedFirst.{refused_first}
use Rattle.ada_check_places.proofs.parts.statement_parts.walk_text.Given as goal

-- what is refused so far, and of the parts that are left
abbrev pub invariant-loop-part : goal.invariant-loop-part
invariant-loop-part l = sooner l.refusal (refused_first l.by (flat_map (part_sites l.around l.k) (map plain_part (drop l.part-index l.parts)))) ≡ refused_first l.by (flat_map (part_sites l.around l.k) (map plain_part l.parts))
