use Rattle.std.proofs.Common.{◌≡◌, take, Some}
use Rattle.ada_static_rules.specs.Declaring.{with_types, add_constants}
use Rattle.ada_decl_rules.proofs.objects.objects.add_all.Given as goal

-- so many constants are in the table
abbrev pub invariant-loop-name : goal.invariant-loop-name
invariant-loop-name l = l.scope ≡ with_types (add_constants (take l.name-index l.names) (Some l.mark) (Some l.fn.value) l.fn.scope.types) l.fn.scope
