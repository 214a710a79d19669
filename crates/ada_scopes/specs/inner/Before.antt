-- What contracts see of the predefined names.
use Rattle.std.specs.Prelude.{List, map, reverse}
use Rattle.ada_tree.specs.declared.naming.NameId.{NameId}
use Rattle.ada_static_rules.specs.Scope.{Thing, NameMeaning, TypeMark, Literal, AnException, AnotherUnit, truth_kind}
use Rattle.ada_static_rules.specs.Declaring.{seen_as}
use Rattle.ada_scopes.specs.declared.predefined.Predefined.{Predefined}
use Rattle.ada_scopes.specs.declared.predefined.Predefined.TheVariants.{Mark, TruthValue, Exception, Library}

abbrev pub thing_of : Predefined → Thing
thing_of (Mark place) = TypeMark place
thing_of TruthValue = Literal truth_kind
thing_of Exception = AnException
thing_of Library = AnotherUnit

-- the names with what they mean, the last one first
abbrev pub seen_last_first : List (NameId × Predefined) → List NameMeaning
seen_last_first names = reverse (map (λ p. seen_as (thing_of p.1) p.0.0) names)
