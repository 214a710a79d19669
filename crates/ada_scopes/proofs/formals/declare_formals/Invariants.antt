use Rattle.std.proofs.Common.{◌≡◌, take, map}
use Rattle.ada_tree.specs.PlainStmt.{plain_formal}
use Rattle.ada_static_rules.specs.Declaring.{with_formals}
use Rattle.ada_scopes.proofs.formals.declare_formals.Given as goal

-- so many formals are declared
abbrev pub invariant-loop-formal : goal.invariant-loop-formal
invariant-loop-formal l = l.scope ≡ with_formals l.fn.scope (map plain_formal (take l.formal-index l.formals))
