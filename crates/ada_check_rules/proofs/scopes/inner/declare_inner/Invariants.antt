use Rattle.std.proofs.Common.{◌≡◌, take}
use Rattle.syn_event.specs.declared.meanings.Meant.TheVariants.{Inner}
use Rattle.syn_event.specs.CheckSites.{with_meant}
use Rattle.ada_check_rules.proofs.scopes.inner.declare_inner.Given as goal

-- so many names are declared
abbrev pub invariant-loop-name : goal.invariant-loop-name
invariant-loop-name l = l.around ≡ with_meant Inner l.fn.around (take l.name-index l.names)
