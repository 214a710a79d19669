use Rattle.std.proofs.Common.{◌≡◌, take}
use Rattle.ada_static_rules.specs.Declaring.{with_names}
use Rattle.ada_scopes.specs.inner.Inner.{formal_at}
use Rattle.ada_scopes.proofs.formals.declare_group.Given as goal

-- so many names are declared
abbrev pub invariant-loop-name : goal.invariant-loop-name
invariant-loop-name l = l.scope ≡ with_names (formal_at l.mode l.mark) l.fn.scope (take l.name-index l.names)
