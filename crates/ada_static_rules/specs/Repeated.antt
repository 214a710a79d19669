-- What rule Duplicate refuses first at several places.
use Rattle.std.specs.Prelude.{List, [], ◌∷◌, Option, None}
use Rattle.ada_static_rules.specs.Refusals.{Refusal}
use Rattle.ada_static_rules.specs.Demand.{Site}
use Rattle.ada_static_rules.specs.RuleDuplicate.{duplicate}
use Rattle.ada_static_rules.specs.Sooner.{sooner, found}

-- `before` are the places before these
unfoldable pub repeated_from : List Site → List Site → Option Refusal
repeated_from before [] = None
repeated_from before (s ∷ rest) = sooner (found 2 (duplicate before s.scope s.demand)) (repeated_from (s ∷ before) rest)
