-- What a program declares or names, in the order of the text: all that rule Duplicate looks at.
use Rattle.std.specs.Prelude.{◌≡◌, ℕ, Bool, true, ◌||◌, ◌&&◌, List, [], ◌∷◌, ◌++◌, Option, Some, None}
use Rattle.ada_tree.specs.declared.naming.Span.{Span}
use Rattle.ada_tree.specs.declared.naming.Word.{Word}
use Rattle.ada_static_rules.specs.Refusals.{Refusal}
use Rattle.ada_static_rules.specs.Scope.{Scope}
use Rattle.ada_static_rules.specs.Demand.{Demand, declares, declares_entry, labels, gives_body, makes_instance, handles, Site}
use Rattle.ada_static_rules.specs.RuleDuplicate.{is_predefined, is_among, at_word}
use Rattle.ada_static_rules.specs.Sooner.{sooner, found}
use Rattle.ada_decl_rules.specs.declared.duplicates.namings_in_order.Naming.{Naming}
use Rattle.ada_decl_rules.specs.declared.duplicates.namings_in_order.Naming.TheVariants.{Declares, Labels, Once}

-- what is named at a place
abbrev pub naming_in : Scope → Demand → Option Naming
naming_in scope (declares fixed w) = Some (Declares fixed (is_among scope.here w.name.0) w)
naming_in scope (labels w) = Some (Labels w)
naming_in scope (declares_entry names w) = Some (Once (is_among names w.name.0) w)
naming_in scope (gives_body w) = Some (Once (is_among scope.bodies w.name.0) w)
naming_in scope (makes_instance w) = Some (Once scope.has_instance w)
naming_in scope (handles names w) = Some (Once (is_among names w.name.0) w)
naming_in scope _ = None

abbrev pub and_then : Option Naming → List Naming → List Naming
and_then (Some n) rest = n ∷ rest
and_then None rest = rest

-- what is named at several places
unfoldable pub namings_of : List Site → List Naming
namings_of [] = []
namings_of (s ∷ rest) = and_then (naming_in s.scope s.demand) (namings_of rest)

-- To a list was added what is named at the places, whatever can be used at them.
unfoldable pub Named : List Naming → List Naming → (Scope → List Site) → Type 0
Named old new sites = (scope : Scope) → new ≡ old ++ namings_of (sites scope)

-- the names of one declaration, behind those of the same scope
abbrev pub declared : Bool → List ℕ → List Word → List Naming
declared fixed here [] = []
declared fixed here (w ∷ ws) = Declares fixed (is_among here w.name.0) w ∷ declared fixed (w.name.0 ∷ here) ws

-- names of which each may stand once, behind others
abbrev pub named_once : List ℕ → List Word → List Naming
named_once names [] = []
named_once names (w ∷ ws) = Once (is_among names w.name.0) w ∷ named_once (w.name.0 ∷ names) ws

-- ---- the rule

-- behind a naming: the names that are declared for all of main, and all that are declared or given to loops
abbrev pub fixed_by : Naming → List ℕ → List ℕ
fixed_by (Declares true again w) fixed = w.name.0 ∷ fixed
fixed_by _ fixed = fixed

abbrev pub introduced_by : Naming → List ℕ → List ℕ
introduced_by (Declares for_all again w) introduced = w.name.0 ∷ introduced
introduced_by (Labels w) introduced = w.name.0 ∷ introduced
introduced_by (Once again w) introduced = introduced

-- a naming that is refused behind those names
abbrev pub repeated_by : List ℕ → List ℕ → Naming → List Span
repeated_by fixed introduced (Declares for_all again w) =
    at_word (is_predefined w.name.0 || again || is_among fixed w.name.0 || (for_all && is_among introduced w.name.0)) w
repeated_by fixed introduced (Labels w) = at_word (is_predefined w.name.0 || is_among fixed w.name.0) w
repeated_by fixed introduced (Once again w) = at_word again w

-- the first of several namings that is refused
abbrev pub first_repeated : List ℕ → List ℕ → List Naming → Option Refusal
first_repeated fixed introduced [] = None
first_repeated fixed introduced (n ∷ rest) = sooner (found 2 (repeated_by fixed introduced n)) (first_repeated (fixed_by n fixed) (introduced_by n introduced) rest)
