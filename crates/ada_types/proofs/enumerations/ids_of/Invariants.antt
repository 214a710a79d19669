use Rattle.std.proofs.Common.{◌≡◌, map, take}
use Rattle.ada_types.proofs.enumerations.ids_of.Given as goal

-- the names of so many literals
abbrev pub invariant-loop-literal : goal.invariant-loop-literal
invariant-loop-literal l = l.ids.items ≡ map (λ w. w.name) (take l.literal-index l.literals)
