-- What is refused first at several places.
use Rattle.std.specs.Prelude.{◌≡◌, List, [], ◌∷◌, ◌++◌, Option, None, refl, Bool}
use Rattle.std.proofs.Common.{sym, ap, ◌∙◌}
use Rattle.ada_static_rules.specs.Refusals.{Refusal}
use Rattle.ada_static_rules.specs.Scope.{Scope}
use Rattle.ada_static_rules.specs.Demand.{Demand, Site, declares}
use Rattle.ada_static_rules.specs.Sites.{site, names_sites}
use Rattle.ada_static_rules.specs.Sooner.{sooner}
use Rattle.ada_static_rules.specs.RefusedFirst.{refused_first_at, refused_first}
use Rattle.ada_static_rules.proofs.SoonerLaws.{sooner_assoc, sooner_none}
use Rattle.ada_tree.specs.declared.naming.Word.{Word}

pub met_none : refused_first [] ≡ None
unfolding refused_first
met_none = refl

pub met_cons : (scope : Scope) (d : Demand) (rest : List Site) → refused_first (site scope d ∷ rest) ≡ sooner (refused_first_at scope d) (refused_first rest)
unfolding refused_first
met_cons scope d rest = refl

pub met_one : (scope : Scope) (d : Demand) → refused_first (site scope d ∷ []) ≡ refused_first_at scope d
unfolding refused_first
met_one scope d = sooner_none (refused_first_at scope d)

pub met_append : (xs ys : List Site) → refused_first (xs ++ ys) ≡ sooner (refused_first xs) (refused_first ys)
unfolding refused_first
met_append [] ys = refl
met_append (x ∷ xs) ys = ap (sooner (refused_first_at x.scope x.demand)) (met_append xs ys) ∙ sym (sooner_assoc (refused_first_at x.scope x.demand) (refused_first xs) (refused_first ys))

-- two lists of places, one behind the other
pub joined : (xs ys : List Site) (a b : Option Refusal) → a ≡ refused_first xs → b ≡ refused_first ys → sooner a b ≡ refused_first (xs ++ ys)
joined xs ys a b p q = ap (λ o. sooner o b) p ∙ ap (sooner (refused_first xs)) q ∙ sym (met_append xs ys)

-- a place before others
pub before : (scope : Scope) (d : Demand) (ys : List Site) (a b : Option Refusal) → a ≡ refused_first_at scope d → b ≡ refused_first ys → sooner a b ≡ refused_first (site scope d ∷ ys)
before scope d ys a b p q = ap (λ o. sooner o b) p ∙ ap (sooner (refused_first_at scope d)) q ∙ sym (met_cons scope d ys)

-- a place behind others
pub behind : (xs : List Site) (scope : Scope) (d : Demand) (a b : Option Refusal) → a ≡ refused_first xs → b ≡ refused_first_at scope d → sooner a b ≡ refused_first (xs ++ site scope d ∷ [])
behind xs scope d a b p q = joined xs (site scope d ∷ []) a b p (q ∙ sym (met_one scope d))

-- names that are declared are refused by none of the rules but Duplicate
pub names_met : (fixed : Bool) (scope : Scope) (ws : List Word) → None ≡ refused_first (names_sites fixed scope ws)
names_met fixed scope [] = sym met_none
names_met fixed scope (w ∷ ws) =
    names_met fixed (record scope { here = w.name.0 ∷ scope.here }) ws
    ∙ sym (met_cons scope (declares fixed w) (names_sites fixed (record scope { here = w.name.0 ∷ scope.here }) ws))
