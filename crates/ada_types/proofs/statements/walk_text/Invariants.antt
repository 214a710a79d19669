use Rattle.std.proofs.Common.{◌≡◌, take, map}
use Rattle.std.specs.Prelude.{flat_map}
use Rattle.ada_tree.specs.PlainStmt.{plain_part}
use Rattle.ada_static_rules.specs.Sites.{part_sites}
use Rattle.ada_static_rules.specs.RefusedFirst.{refused_first}
use Rattle.ada_types.proofs.statements.walk_text.Given as goal

abbrev pub invariant-loop-part : goal.invariant-loop-part
invariant-loop-part l = l.refusal ≡ refused_first (flat_map (part_sites l.scope l.alone) (map plain_part (take l.part-index l.parts)))
