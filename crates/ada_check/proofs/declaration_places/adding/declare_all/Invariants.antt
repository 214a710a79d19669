use Rattle.std.proofs.Common.{◌≡◌, take}
use Rattle.syn_event.specs.CheckSites.{with_meant}
use Rattle.ada_check.proofs.declaration_places.adding.declare_all.Given as goal

-- so many names are declared
abbrev pub invariant-loop-name : goal.invariant-loop-name
invariant-loop-name l = l.around ≡ with_meant l.meant l.fn.around (take l.name-index l.names)
