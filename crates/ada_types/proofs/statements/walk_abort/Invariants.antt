use Rattle.std.proofs.Common.{◌≡◌, take, map}
use Rattle.std.specs.Prelude.{flat_map}
use Rattle.ada_tree.specs.PlainStmt.{plain_callee}
use Rattle.ada_static_rules.specs.Sites.{callee_sites}
use Rattle.ada_static_rules.specs.RefusedFirst.{refused_first}
use Rattle.ada_types.proofs.statements.walk_abort.Given as goal

abbrev pub invariant-loop-name : goal.invariant-loop-name
invariant-loop-name l = l.refusal ≡ refused_first (flat_map (callee_sites l.scope) (map plain_callee (take l.name-index l.names)))
