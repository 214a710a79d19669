-- When rule Duplicate refuses nothing at places of a program (8.3, 9.1, 11.2; this project's rule).
use Rattle.std.specs.Prelude.{◌≡◌, List, [], ◌∷◌}
use Rattle.ada_static_rules.specs.Demand.{Site}
use Rattle.ada_static_rules.specs.RuleDuplicate.{duplicate}

-- Nothing is declared or named a later time at these places, in their order, behind those before them.
abbrev pub AllOnce : List Site → List Site → Type 0
AllOnce before [] = Unit {0}
AllOnce before (s ∷ rest) = (duplicate before s.scope s.demand ≡ []) × AllOnce (s ∷ before) rest
