use Rattle.std.proofs.Common.{◌≡◌, take}
use Rattle.ada_static_rules.specs.Declaring.{with_names}
use Rattle.ada_scopes.specs.Denotations.{plain_thing}
use Rattle.ada_decl_rules.proofs.objects.objects.declare_all.Given as goal

-- so many names are declared
abbrev pub invariant-loop-name : goal.invariant-loop-name
invariant-loop-name l = l.scope ≡ with_names (plain_thing l.thing) l.fn.scope (take l.name-index l.names)
