-- What is named at the places of a program decides rule Duplicate.
use Rattle.std.specs.Prelude.{◌≡◌, ◌==◌, ◌<◌, ◌≤◌, ◌+◌, ℕ, Bool, true, false, ◌||◌, ◌&&◌, List, [], ◌∷◌, length, drop, Option, Some, None, refl}
use Rattle.std.proofs.Common.{sym, ap, ◌∙◌, get_or}
use Rattle.std.specs.List.{list_any}
use Rattle.std.proofs.lemmas.List.{drop_more}
use Rattle.std.proofs.Math.ListN.{drop_of_length-le}
use Rattle.ada_tree.specs.declared.naming.Span.{Span}
use Rattle.ada_static_rules.specs.Refusals.{Refusal}
use Rattle.ada_static_rules.specs.Scope.{Scope}
use Rattle.ada_static_rules.specs.Demand.{Demand, declares, declares_entry, labels, gives_body, makes_instance, handles, Site}
use Rattle.ada_static_rules.specs.Sites.{site}
use Rattle.ada_static_rules.specs.RuleDuplicate.{is_predefined, is_among, fixes, introduces, at_word, duplicate}
use Rattle.ada_static_rules.specs.Sooner.{sooner, found}
use Rattle.ada_static_rules.specs.Repeated.{repeated_from}
use Rattle.ada_decl_rules.specs.duplicates.NamingsInOrder.{naming_in, and_then, namings_of, fixed_by, introduced_by, repeated_by, first_repeated}
use Rattle.ada_decl_rules.specs.declared.duplicates.namings_in_order.Naming.{Naming}
use Rattle.ada_static_rules.proofs.SoonerLaws.{sooner_assoc, sooner_none}

-- ---- places and namings

abbrev fixed_at : Option Naming → List ℕ → List ℕ
fixed_at (Some n) fixed = fixed_by n fixed
fixed_at None fixed = fixed

abbrev introduced_at : Option Naming → List ℕ → List ℕ
introduced_at (Some n) introduced = introduced_by n introduced
introduced_at None introduced = introduced

abbrev repeated_at : List ℕ → List ℕ → Option Naming → List Span
repeated_at fixed introduced (Some n) = repeated_by fixed introduced n
repeated_at fixed introduced None = []

abbrev fixed_of : List Site → List ℕ
fixed_of [] = []
fixed_of (s ∷ rest) = fixed_at (naming_in s.scope s.demand) (fixed_of rest)

abbrev introduced_of : List Site → List ℕ
introduced_of [] = []
introduced_of (s ∷ rest) = introduced_at (naming_in s.scope s.demand) (introduced_of rest)

fixed_step : (name : ℕ) (scope : Scope) (d : Demand) (b : Bool) (names : List ℕ) → b ≡ is_among names name → (fixes name (site scope d) || b) ≡ is_among (fixed_at (naming_in scope d) names) name
fixed_step name scope (declares true w) b names h = ap (λ x. (w.name.0 == name) || x) h
fixed_step name scope (declares false w) b names h = h
fixed_step name scope (labels w) b names h = h
fixed_step name scope (declares_entry ns w) b names h = h
fixed_step name scope (gives_body w) b names h = h
fixed_step name scope (makes_instance w) b names h = h
fixed_step name scope (handles ns w) b names h = h
fixed_step name scope _ b names h = h

any_fixed : (name : ℕ) (before : List Site) → list_any (fixes name) before ≡ is_among (fixed_of before) name
any_fixed name [] = refl
any_fixed name (s ∷ rest) = fixed_step name s.scope s.demand (list_any (fixes name) rest) (fixed_of rest) (any_fixed name rest)

introduced_step : (name : ℕ) (scope : Scope) (d : Demand) (b : Bool) (names : List ℕ) → b ≡ is_among names name → (introduces name (site scope d) || b) ≡ is_among (introduced_at (naming_in scope d) names) name
introduced_step name scope (declares fixed w) b names h = ap (λ x. (w.name.0 == name) || x) h
introduced_step name scope (labels w) b names h = ap (λ x. (w.name.0 == name) || x) h
introduced_step name scope (declares_entry ns w) b names h = h
introduced_step name scope (gives_body w) b names h = h
introduced_step name scope (makes_instance w) b names h = h
introduced_step name scope (handles ns w) b names h = h
introduced_step name scope _ b names h = h

any_introduced : (name : ℕ) (before : List Site) → list_any (introduces name) before ≡ is_among (introduced_of before) name
any_introduced name [] = refl
any_introduced name (s ∷ rest) = introduced_step name s.scope s.demand (list_any (introduces name) rest) (introduced_of rest) (any_introduced name rest)

by_place : (before : List Site) (scope : Scope) (d : Demand) → duplicate before scope d ≡ repeated_at (fixed_of before) (introduced_of before) (naming_in scope d)
by_place before scope (declares fixed w) =
    ap (λ x. at_word (is_predefined w.name.0 || is_among scope.here w.name.0 || x || (fixed && list_any (introduces w.name.0) before)) w) (any_fixed w.name.0 before)
    ∙ ap (λ x. at_word (is_predefined w.name.0 || is_among scope.here w.name.0 || is_among (fixed_of before) w.name.0 || (fixed && x)) w) (any_introduced w.name.0 before)
by_place before scope (labels w) = ap (λ x. at_word (is_predefined w.name.0 || x) w) (any_fixed w.name.0 before)
by_place before scope (declares_entry ns w) = refl
by_place before scope (gives_body w) = refl
by_place before scope (makes_instance w) = refl
by_place before scope (handles ns w) = refl
by_place before scope _ = refl

with_naming : (o : Option Naming) (fixed introduced : List ℕ) (rest : List Naming) → sooner (found 2 (repeated_at fixed introduced o)) (first_repeated (fixed_at o fixed) (introduced_at o introduced) rest) ≡ first_repeated fixed introduced (and_then o rest)
with_naming None fixed introduced rest = refl
with_naming (Some n) fixed introduced rest = refl

from_namings : (before ss : List Site) → repeated_from before ss ≡ first_repeated (fixed_of before) (introduced_of before) (namings_of ss)
unfolding repeated_from namings_of
from_namings before [] = refl
from_namings before (s ∷ rest) =
    ap (λ l. sooner (found 2 l) (repeated_from (s ∷ before) rest)) (by_place before s.scope s.demand)
    ∙ ap (sooner (found 2 (repeated_at (fixed_of before) (introduced_of before) (naming_in s.scope s.demand)))) (from_namings (s ∷ before) rest)
    ∙ with_naming (naming_in s.scope s.demand) (fixed_of before) (introduced_of before) (namings_of rest)

-- what is named decides what the rule refuses first
pub repeats_are : (ss : List Site) → repeated_from [] ss ≡ first_repeated [] [] (namings_of ss)
repeats_are ss = from_namings [] ss

-- ---- one naming after the other

pub repeat_more : (refusal grown total : Option Refusal) (fixed introduced fixed' introduced' : List ℕ) (xs : List Naming) (i : ℕ) (d : Naming) → i < length xs
    → grown ≡ sooner refusal (found 2 (repeated_by fixed introduced (get_or xs i d)))
    → fixed' ≡ fixed_by (get_or xs i d) fixed → introduced' ≡ introduced_by (get_or xs i d) introduced
    → sooner refusal (first_repeated fixed introduced (drop i xs)) ≡ total
    → sooner grown (first_repeated fixed' introduced' (drop (i + 1) xs)) ≡ total
repeat_more refusal grown total fixed introduced fixed' introduced' xs i d h g f e before =
    ap (λ o. sooner o (first_repeated fixed' introduced' (drop (i + 1) xs))) g
    ∙ ap (λ l. sooner (sooner refusal (found 2 (repeated_by fixed introduced (get_or xs i d)))) (first_repeated l introduced' (drop (i + 1) xs))) f
    ∙ ap (λ l. sooner (sooner refusal (found 2 (repeated_by fixed introduced (get_or xs i d)))) (first_repeated (fixed_by (get_or xs i d) fixed) l (drop (i + 1) xs))) e
    ∙ sooner_assoc refusal (found 2 (repeated_by fixed introduced (get_or xs i d))) (first_repeated (fixed_by (get_or xs i d) fixed) (introduced_by (get_or xs i d) introduced) (drop (i + 1) xs))
    ∙ ap (λ l. sooner refusal (first_repeated fixed introduced l)) (sym (drop_more xs i d h))
    ∙ before

pub repeat_all : (refusal total : Option Refusal) (fixed introduced : List ℕ) (xs : List Naming) (i : ℕ) → length xs ≤ i → sooner refusal (first_repeated fixed introduced (drop i xs)) ≡ total → refusal ≡ total
repeat_all refusal total fixed introduced xs i h before =
    sym (sooner_none refusal) ∙ ap (λ l. sooner refusal (first_repeated fixed introduced l)) (sym (drop_of_length-le xs h)) ∙ before
