-- What is behind the declarations of types and named numbers.
use Rattle.std.specs.Prelude.{◌≡◌, ℕ, ℤ, true, List, [], ◌∷◌, ◌++◌, Option, Some, None}
use Rattle.std.proofs.Common.{ap, ◌∙◌}
use Rattle.ada_tree.specs.declared.naming.Word.{Word}
use Rattle.ada_tree.specs.PlainExpr.{PExpr, PDrange, PSubind}
use Rattle.ada_tree.specs.TypeTable.{TypeTable}
use Rattle.ada_static_rules.specs.Refusals.{Refusal}
use Rattle.ada_static_rules.specs.Scope.{Scope, Thing, ConstantObject, Range, integer_kind, range_of_mark, and_then}
use Rattle.ada_static_rules.specs.Demand.{Site}
use Rattle.ada_static_rules.specs.Declaring.{Made, with_name, with_types, add_constants, type_of_mark, after_type, made_array, made_named_array, made_subind, made_subtype, renamed, drange_range}
use Rattle.ada_static_rules.specs.Sites.{names_sites}
use Rattle.ada_static_rules.specs.RefusedFirst.{refused_first}
use Rattle.ada_expr_rules.specs.Known.{value_in}
use Rattle.ada_expr_rules.specs.Walked.{IsWalked}
use Rattle.ada_scopes.specs.Makings.{IsMade}
use Rattle.ada_types.specs.inner.Decls.{after_number}
use Rattle.ada_expr_rules.specs.declared.known.Known.{Known}
use Rattle.ada_expr_rules.specs.declared.walking.Walked.{Walked}
use Rattle.ada_static_rules.proofs.Meeting.{joined}
use Rattle.ada_static_rules.proofs.Meeting.{names_met}
use Rattle.ada_expr_rules.proofs.Knowing.{value_known, known_walked}

-- what is made behind what was made
pub two_made : (scope s1 s2 : Scope) (m : Made) (f : TypeTable → Option ℕ → Made) (p q : Option ℕ) → IsMade scope m s1 p → IsMade s1 (f s1.types p) s2 q → IsMade scope (f m.types m.mark) s2 q
two_made scope s1 s2 m f p q h g = record {
  scope_is = g.scope_is ∙ ap (λ s. with_types (f s.types p).types s) h.scope_is ∙ ap (λ o. with_types (f m.types o).types scope) h.mark_is;
  mark_is = g.mark_is ∙ ap (λ s. (f s.types p).mark) h.scope_is ∙ ap (λ o. (f m.types o).mark) h.mark_is;
}

-- a type that is declared of what is made
pub type_named : (scope s new : Scope) (m : Made) (mark : Option ℕ) (thing : Thing) (name : Word) → IsMade scope m s mark → thing ≡ type_of_mark mark → new ≡ with_name thing s name → new ≡ after_type scope name m
type_named scope s new m mark thing name h is_thing is =
    is
    ∙ ap (λ t. with_name t s name) is_thing
    ∙ ap (λ o. with_name (type_of_mark o) s name) h.mark_is
    ∙ ap (λ x. with_name (type_of_mark m.mark) x name) h.scope_is

-- behind the declaration of an array type
pub array_left : (scope s1 s2 new : Scope) (m : Made) (name : Word) (index : PDrange) (x : PSubind) (o : Option Range) (p q : Option ℕ) (thing : Thing)
    → m ≡ made_subind scope x → o ≡ drange_range scope index
    → IsMade scope m s1 p → IsMade s1 (made_array (Some name.name) s1.types o p) s2 q → thing ≡ type_of_mark q → new ≡ with_name thing s2 name
    → new ≡ after_type scope name (made_named_array scope name index x)
array_left scope s1 s2 new m name index x o p q thing is_m is_o h g is_thing is =
    type_named scope s2 new (made_array (Some name.name) m.types o m.mark) q thing name
    (two_made scope s1 s2 m (λ t r. made_array (Some name.name) t o r) p q h g) is_thing is
    ∙ ap (λ y. after_type scope name (made_array (Some name.name) y.types o y.mark)) is_m
    ∙ ap (λ r. after_type scope name (made_array (Some name.name) (made_subind scope x).types r (made_subind scope x).mark)) is_o

-- behind the declaration of a subtype
pub subtype_left : (scope s1 s2 new : Scope) (m : Made) (name : Word) (x : PSubind) (o : Option Range) (p q : Option ℕ) (thing : Thing)
    → m ≡ made_subind scope x → o ≡ and_then (range_of_mark s1.types) p
    → IsMade scope m s1 p → IsMade s1 (renamed name s1.types o) s2 q → thing ≡ type_of_mark q → new ≡ with_name thing s2 name
    → new ≡ after_type scope name (made_subtype scope name x)
subtype_left scope s1 s2 new m name x o p q thing is_m is_o h g is_thing is =
    let made : Option Range → Made = renamed name s1.types in
    type_named scope s2 new (renamed name m.types (and_then (range_of_mark m.types) m.mark)) q thing name
    (two_made scope s1 s2 m (λ t r. renamed name t (and_then (range_of_mark t) r)) p q h
    record { scope_is = g.scope_is ∙ ap (λ r. with_types (made r).types s1) is_o; mark_is = g.mark_is ∙ ap (λ r. (made r).mark) is_o })
    is_thing is
    ∙ ap (λ y. after_type scope name (renamed name y.types (and_then (range_of_mark y.types) y.mark))) is_m

-- behind the declaration of a named number
pub number_left : (scope s new : Scope) (name : Word) (e : PExpr) (sites : List Site) (w : Walked) (known : Known) (v : Option ℤ)
    → IsWalked sites scope e w → known ≡ record { kind = w.kind; value = w.value } → v ≡ value_in integer_kind known
    → s ≡ with_types (add_constants (name ∷ []) (Some 0) v scope.types) scope → new ≡ with_name (ConstantObject 0) s name
    → new ≡ after_number scope name e
number_left scope s new name e sites w known v walked is_known is_v is_s is =
    is
    ∙ ap (λ x. with_name (ConstantObject 0) x name) is_s
    ∙ ap (λ y. with_name (ConstantObject 0) (with_types (add_constants (name ∷ []) (Some 0) y scope.types) scope) name)
    (is_v ∙ value_known scope e integer_kind known (known_walked sites scope e w known is_known walked))

-- what is refused of a declaration is refused behind its names
pub behind_names : (scope : Scope) (ws : List Word) (sites : List Site) (a : Option Refusal) → a ≡ refused_first sites → a ≡ refused_first (names_sites true scope ws ++ sites)
behind_names scope ws sites a h = joined (names_sites true scope ws) sites None a (names_met true scope ws) h
