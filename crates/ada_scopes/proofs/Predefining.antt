-- The predefined names, one after the other.
use Rattle.std.specs.Prelude.{◌≡◌, ◌<◌, ◌+◌, ◌-◌, ℕ, true, false, List, ◌∷◌, [], length, map, take, reverse}
use Rattle.std.proofs.Common.{ap, sym, ◌∙◌, get_or, arith}
use Rattle.std.proofs.lemmas.List.{map_more, reverse-append}
use Rattle.ada_tree.specs.declared.naming.NameId.{NameId}
use Rattle.ada_tree.specs.TypeTable.{TypeTable}
use Rattle.ada_static_rules.specs.Scope.{Scope, NameMeaning, EntryPart}
use Rattle.ada_static_rules.specs.Declaring.{seen_as, predefined_types, predefined_names, before_all}
use Rattle.ada_scopes.specs.declared.predefined.Predefined.{Predefined}
use Rattle.ada_scopes.specs.declared.denotations.Thing.{Thing}
use Rattle.ada_scopes.specs.Denotations.{plain_thing, plain_names}
use Rattle.ada_scopes.specs.inner.Before.{thing_of, seen_last_first}

last_first_more : (xs : List (NameId × Predefined)) (i : ℕ) (d : NameId × Predefined) → i < length xs → seen_last_first (take (i + 1) xs) ≡ seen_as (thing_of (get_or xs i d).1) (get_or xs i d).0.0 ∷ seen_last_first (take i xs)
last_first_more xs i d h =
    let f : NameId × Predefined → NameMeaning = λ p. seen_as (thing_of p.1) p.0.0 in
    ap reverse (map_more f xs i d h) ∙ reverse-append (map f (take i xs)) (f (get_or xs i d) ∷ [])

pub name_more : (names grown : List (ℕ × Thing)) (thing : Thing) (xs : List (NameId × Predefined)) (i : ℕ) (d : NameId × Predefined) → i < length xs
    → grown ≡ ((get_or xs i d).0.0, thing) ∷ names → plain_thing thing ≡ thing_of (get_or xs i d).1
    → plain_names names ≡ seen_last_first (take i xs) → plain_names grown ≡ seen_last_first (take (i + 1) xs)
name_more names grown thing xs i d h grows means before =
    ap plain_names grows
    ∙ ap (λ t. seen_as t (get_or xs i d).0.0 ∷ plain_names names) means
    ∙ ap (λ l. seen_as (thing_of (get_or xs i d).1) (get_or xs i d).0.0 ∷ l) before
    ∙ sym (last_first_more xs i d h)

none_here : (names : List (ℕ × Thing)) (base : ℕ) → base ≡ length names → map (λ s. s.0) (take (length names - base) names) ≡ []
none_here names base h = let none : length names - base ≡ 0 = omega (arith, h) in ap (λ n. map (λ s. s.0) (take n names)) none

abbrev made_scope : TypeTable → List NameMeaning → List ℕ → List EntryPart → List ℕ → Scope
made_scope types names here own bodies = record { types = types; names = names; here = here; in_main = true; own = own; bodies = bodies; has_instance = false }

-- what can be used before a program begins
pub begun : (table : TypeTable) (names : List (ℕ × Thing)) (base : ℕ) (own : List EntryPart) (bodies : List ℕ) → table ≡ predefined_types → plain_names names ≡ predefined_names → base ≡ length names → own ≡ [] → bodies ≡ []
    → record { types = table; names = plain_names names; here = map (λ s. s.0) (take (length names - base) names); in_main = true; own = own; bodies = reverse bodies; has_instance = false } ≡ before_all
begun table names base own bodies is_table is_names is_base is_own is_bodies =
    ap (λ t. made_scope t (plain_names names) (map (λ s. s.0) (take (length names - base) names)) own (reverse bodies)) is_table
    ∙ ap (λ n. made_scope predefined_types n (map (λ s. s.0) (take (length names - base) names)) own (reverse bodies)) is_names
    ∙ ap (λ h. made_scope predefined_types predefined_names h own (reverse bodies)) (none_here names base is_base)
    ∙ ap (λ o. made_scope predefined_types predefined_names [] o (reverse bodies)) is_own
    ∙ ap (λ b. made_scope predefined_types predefined_names [] [] (reverse b)) is_bodies
