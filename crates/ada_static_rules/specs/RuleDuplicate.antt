-- Rule Duplicate: a name is declared again where it may not be, a task gets a second body, a second instance of INTEGER_IO is made, or an exception is named a second time in the handlers of one body or block (8.3, 9.1, 11.2; this project's rule). A variable of main may be hidden by a name of an inner scope, and so may the names of inner scopes. Every other name of main, and every predefined name, is declared nowhere else.
use Rattle.std.specs.Prelude.{ℕ, Bool, false, ◌||◌, ◌&&◌, ◌==◌, nat_lt, if◌then◌else◌, List, [], ◌∷◌}
use Rattle.std.specs.List.{list_any}
use Rattle.ada_tree.specs.declared.naming.Span.{Span}
use Rattle.ada_tree.specs.declared.naming.Word.{Word}
use Rattle.ada_static_rules.specs.Scope.{Scope}
use Rattle.ada_static_rules.specs.Demand.{Demand, declares, declares_entry, labels, gives_body, makes_instance, handles, Site}

-- the names of the language's own types, exceptions, packages and procedures are the first 18
abbrev pub is_predefined : ℕ → Bool
is_predefined name = nat_lt name 18

-- the name is one of these
abbrev pub is_among : List ℕ → ℕ → Bool
is_among names name = list_any (λ n. n == name) names

-- the place declares the name for all of main: as a name of main that is no variable
abbrev pub fixes : ℕ → Site → Bool
fixes name site = is_fixing site.demand
  where
    is_fixing : Demand → Bool
    is_fixing (declares fixed w) = fixed && (w.name.0 == name)
    is_fixing _ = false

-- the place declares the name, or gives it to a loop
abbrev pub introduces : ℕ → Site → Bool
introduces name site = is_introducing site.demand
  where
    is_introducing : Demand → Bool
    is_introducing (declares fixed w) = w.name.0 == name
    is_introducing (labels w) = w.name.0 == name
    is_introducing _ = false

-- the place of the word, where the test holds, else none
abbrev pub at_word : Bool → Word → List Span
at_word test w = if test then w.span ∷ [] else []

-- The names that are declared a later time, each where it stands. `before` are the places before this one.
abbrev pub duplicate : List Site → Scope → Demand → List Span
duplicate before scope (declares fixed w) =
    at_word (is_predefined w.name.0 || is_among scope.here w.name.0 || list_any (fixes w.name.0) before || (fixed && list_any (introduces w.name.0) before)) w
duplicate before scope (labels w) = at_word (is_predefined w.name.0 || list_any (fixes w.name.0) before) w
duplicate before scope (declares_entry names w) = at_word (is_among names w.name.0) w
duplicate before scope (gives_body w) = at_word (is_among scope.bodies w.name.0) w
duplicate before scope (makes_instance w) = at_word scope.has_instance w
duplicate before scope (handles names w) = at_word (is_among names w.name.0) w
duplicate before scope _ = []
