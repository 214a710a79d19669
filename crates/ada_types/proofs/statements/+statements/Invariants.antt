use Rattle.std.proofs.Common.{◌≡◌, map, take, option_map}
use Rattle.std.specs.Prelude.{flat_map}
use Rattle.ada_tree.specs.PlainStmt.{plain_stmt, plain_alt, plain_arm, plain_case_arm, plain_handler}
use Rattle.ada_static_rules.specs.Sites.{stmt_sites}
use Rattle.ada_static_rules.specs.RefusedFirst.{refused_first}
use Rattle.ada_scopes.specs.Entries.{plain_range}
use Rattle.ada_types.specs.inner.SitesOfMembers.{each_alt, each_arm, each_case_arm, each_handler}
use Rattle.ada_types.proofs.statements.+statements.Given as goal

-- the scope is as it was, and so much of the list is gone through
abbrev pub invariant-walk_stmts-loop-stmt :
    goal.invariant-walk_stmts-loop-stmt
invariant-walk_stmts-loop-stmt l = record { same : l.scope ≡ l.fn.scope; told : l.refusal ≡ refused_first (flat_map (stmt_sites l.fn.scope) (map plain_stmt (take l.stmt-index l.list))) }

abbrev pub invariant-walk_alts-loop-alt :
    goal.invariant-walk_alts-loop-alt
invariant-walk_alts-loop-alt l = record { same : l.scope ≡ l.fn.scope; told : l.refusal ≡ refused_first (flat_map (each_alt l.fn.scope) (map plain_alt (take l.alt-index l.alts))) }

abbrev pub invariant-walk_arms-loop-arm :
    goal.invariant-walk_arms-loop-arm
invariant-walk_arms-loop-arm l = record { same : l.scope ≡ l.fn.scope; told : l.refusal ≡ refused_first (flat_map (each_arm l.fn.scope) (map plain_arm (take l.arm-index l.arms))) }

abbrev pub invariant-walk_case_arms-loop-arm :
    goal.invariant-walk_case_arms-loop-arm
invariant-walk_case_arms-loop-arm l = record { same : l.scope ≡ l.fn.scope; told : l.refusal ≡ refused_first (flat_map (each_case_arm l.fn.scope l.kind (option_map plain_range l.values)) (map plain_case_arm (take l.arm-index l.arms))) }

abbrev pub invariant-walk_handlers-loop-handler :
    goal.invariant-walk_handlers-loop-handler
invariant-walk_handlers-loop-handler l = record { same : l.scope ≡ l.fn.scope; told : l.refusal ≡ refused_first (flat_map (each_handler l.fn.scope) (map plain_handler (take l.handler-index l.handlers))) }
