-- Rule AcceptPlace: an accept stands in main, is for an entry that the task in whose body it stands has not, or stands inside an accept of the same entry or family (9.5).
use Rattle.std.specs.Prelude.{Bool, false, not, ◌||◌, ◌==◌, if◌then◌else◌, List, [], ◌∷◌, Option, Some, None}
use Rattle.std.specs.List.{list_any}
use Rattle.ada_tree.specs.declared.naming.NameId.{NameId}
use Rattle.ada_tree.specs.declared.naming.Span.{Span}
use Rattle.syn_event.specs.CheckScope.{EnclosingUnit, CheckScope, CheckDemand, accepts}

-- the name is one of those
abbrev pub is_among : List NameId → NameId → Bool
is_among names name = list_any (λ n. n.0 == name.0) names

-- the task in whose body the place is has an entry of that name
abbrev pub is_own_entry : Option EnclosingUnit → NameId → Bool
is_own_entry (Some unit) name = is_among unit.entries name
is_own_entry None name = false

-- The accepts that may not stand where they do.
abbrev pub accept_place : CheckScope → CheckDemand → List Span
accept_place around (accepts h) =
    if not (is_own_entry around.own h.entry.name) || is_among around.accepting h.entry.name then h.span ∷ [] else []
accept_place around _ = []
