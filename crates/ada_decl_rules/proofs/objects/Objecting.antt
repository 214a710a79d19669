-- What declarations of objects add to the table.
use Rattle.std.specs.Prelude.{◌≡◌, ℕ, ℤ, ◌+◌, ◌<◌, Bool, true, ◌&&◌, ◌||◌, if◌then◌else◌, List, [], ◌∷◌, ◌++◌, length, map, take, get_or, Option, Some, None, option_map, refl}
use Rattle.std.proofs.Common.{sym, ap, ◌∙◌, append_assoc}
use Rattle.std.proofs.lemmas.List.{map_more}
use Rattle.ada_tree.specs.declared.naming.Word.{Word}
use Rattle.ada_tree.specs.declared.static_types.Constant.{Constant}
use Rattle.ada_tree.specs.TypeTable.{TypeTable}
use Rattle.ada_tree.specs.PlainDecl.{PShape, PInit}
use Rattle.ada_static_rules.specs.Refusals.{Refusal}
use Rattle.ada_static_rules.specs.Scope.{Scope, Marking}
use Rattle.ada_static_rules.specs.Declaring.{Declared, with_types, with_names, made_array, object_meaning, constant_mark, kind_at_mark, initial_value, constant_value, add_constants, declared_object, after_object}
use Rattle.ada_static_rules.specs.Sites.{names_sites, shape_sites, if_there, init_sites, object_marking, object_sites, is_task_object}
use Rattle.ada_static_rules.specs.Sooner.{sooner}
use Rattle.ada_static_rules.specs.RefusedFirst.{refused_first}
use Rattle.ada_scopes.specs.Entries.{plain_range}
use Rattle.ada_scopes.specs.Denotations.{plain_thing}
use Rattle.ada_decl_rules.specs.objects.inner.Initials.{holder_sites}
use Rattle.ada_expr_rules.specs.Ranges.{made_as}
use Rattle.ada_scopes.specs.Makings.{IsMade, add_constant}
use Rattle.ada_decl_rules.specs.objects.inner.Plans.{declared_as, IsPlanned}
use Rattle.ada_decl_rules.specs.objects.inner.Objects.{behind_plan, known_in, value_of_mark, with_values, IsDeclared}
use Rattle.ada_expr_rules.specs.declared.known.Known.{Known}
use Rattle.ada_scopes.specs.declared.denotations.Range.{Range}
use Rattle.ada_scopes.specs.declared.denotations.Thing.{Thing}
use Rattle.ada_decl_rules.specs.declared.objects.initials.Holder.{Holder}
use Rattle.ada_expr_rules.specs.declared.ranges.Making.{Making}
use Rattle.ada_decl_rules.specs.declared.objects.plans.Plan.TheVariants.{ConstrainedArray}
use Rattle.ada_decl_rules.specs.declared.objects.plans.Planned.{Planned}
use Rattle.ada_static_rules.proofs.Meeting.{joined, met_append}
use Rattle.ada_static_rules.proofs.Meeting.{names_met}

-- an array of a type of its own
pub array_declared : (scope between after : Scope) (constant : Bool) (index : Option Range) (making : Making) (part mark : Option ℕ) (thing : Thing)
    → IsMade scope (made_as scope.types making) between part
    → IsMade between (made_array None between.types (option_map plain_range index) part) after mark
    → plain_thing thing ≡ object_meaning constant mark
    → IsDeclared scope (declared_as scope constant (ConstrainedArray index making)) after thing
array_declared scope between after constant index making part mark thing h g is_thing = record {
  scope_is =
      g.scope_is
      ∙ ap (λ s. with_types (made_array None s.types (option_map plain_range index) part).types s) h.scope_is
      ∙ ap (λ p. with_types (made_array None (made_as scope.types making).types (option_map plain_range index) p).types scope) h.mark_is;
  thing_is =
      is_thing
      ∙ ap (object_meaning constant) g.mark_is
      ∙ ap (λ s. object_meaning constant (made_array None s.types (option_map plain_range index) part).mark) h.scope_is
      ∙ ap (λ p. object_meaning constant (made_array None (made_as scope.types making).types (option_map plain_range index) p).mark) h.mark_is;
}

abbrev constant_for : ℕ → ℤ → Word → Constant
constant_for m z w = record { name = w.name; mark = m; value = z }

-- one constant more at the end
pub constant_added : (s scope new : Scope) (ws : List Word) (i : ℕ) (w : Word) (m : ℕ) (z : ℤ) → i < length ws → w ≡ get_or ws i w
    → new ≡ with_types (add_constant scope.types (constant_for m z w)) scope
    → scope ≡ with_types (add_constants (take i ws) (Some m) (Some z) s.types) s
    → new ≡ with_types (add_constants (take (i + 1) ws) (Some m) (Some z) s.types) s
constant_added s scope new ws i w m z inside at is before =
    is
    ∙ ap (λ x. with_types (add_constant x.types (constant_for m z w)) x) before
    ∙ ap (λ cs. with_types (record s.types { constants = cs }) s)
    (append_assoc s.types.constants (map (constant_for m z) (take i ws)) (constant_for m z w ∷ [])
    ∙ ap (λ v. s.types.constants ++ (map (constant_for m z) (take i ws) ++ constant_for m z v ∷ [])) at
    ∙ ap (λ l. s.types.constants ++ l) (sym (map_more (constant_for m z) ws i w inside)))

-- ---- constants

-- a declaration of main whose constants have a static value
pub values_are : (scope : Scope) (names : List Word) (mark : Option ℕ) (known : Option Known) (m : ℕ) (value z : ℤ) → scope.in_main ≡ true → mark ≡ Some m
    → known_in (kind_at_mark scope.types m) known ≡ Some value → z ≡ value
    → add_constants names (Some m) (Some z) scope.types ≡ with_values scope names mark known
values_are scope names mark known m value z in_main is_mark is_value same =
    ap (λ v. add_constants names (Some m) (Some v) scope.types) same
    ∙ ap (λ v. add_constants names (Some m) v scope.types) (sym is_value)
    ∙ ap (λ o. add_constants names o (value_of_mark scope.types o known) scope.types) (sym is_mark)
    ∙ ap (λ b. if b then add_constants names mark (value_of_mark scope.types mark known) scope.types else scope.types) (sym in_main)

mark_values : (scope : Scope) (types : TypeTable) (init : Option PInit) (known : Option Known) (mark : Option ℕ) → ((k : ℕ) → known_in k known ≡ initial_value scope k init)
    → value_of_mark types mark known ≡ constant_value scope types mark init
mark_values scope types init known None h = refl
mark_values scope types init known (Some m) h = h (kind_at_mark types m)

-- ---- declarations

-- what is left by what is made, its constants and its names
pub plan_left : (scope made values after : Scope) (names : List Word) (d : Declared) (thing : Thing) (known : Option Known)
    → IsDeclared scope d made thing
    → values ≡ with_types (with_values made names (constant_mark (plain_thing thing)) known) made
    → after ≡ with_names (plain_thing thing) values names
    → after ≡ behind_plan scope names d known
plan_left scope made values after names d thing known of is_values is_after =
    is_after
    ∙ ap (λ s. with_names (plain_thing thing) s names) is_values
    ∙ ap (λ t. with_names t (with_types (with_values made names (constant_mark t) known) made) names) of.thing_is
    ∙ ap (λ s. with_names d.thing (with_types (with_values s names (constant_mark d.thing) known) s) names) of.scope_is

-- what can be used behind a declaration of objects
pub objects_after : (scope after : Scope) (names : List Word) (constant : Bool) (shape : PShape) (init : Option PInit) (planned : Planned) (known : Option Known)
    → IsPlanned scope constant shape planned
    → ((k : ℕ) → known_in k known ≡ initial_value scope k init)
    → after ≡ behind_plan scope names (declared_as scope constant planned.plan) known
    → after ≡ after_object scope names constant shape init
objects_after scope after names constant shape init planned known is_planned is_known is_after =
    let d : Declared = declared_object scope constant shape in
    is_after
    ∙ ap (λ e. behind_plan scope names e known) is_planned.declared_is
    ∙ ap (λ v. with_names d.thing (with_types (if scope.in_main then add_constants names (constant_mark d.thing) v d.types else d.types) scope) names) (mark_values scope d.types init known (constant_mark d.thing) is_known)

init_met : (scope : Scope) (holder : Holder) (types : TypeTable) (marking : Marking) (init : Option PInit) → ((value : PInit) → holder_sites scope holder value ≡ init_sites scope types marking value)
    → refused_first (if_there (holder_sites scope holder) init) ≡ refused_first (if_there (init_sites scope types marking) init)
init_met scope holder types marking None h = refl
init_met scope holder types marking (Some value) h = ap refused_first (h value)

-- what is refused first at the places of a declaration of objects
pub objects_met : (scope : Scope) (names : List Word) (constant : Bool) (shape : PShape) (init : Option PInit) (planned : Planned) (a b c : Option Refusal)
    → IsPlanned scope constant shape planned
    → a ≡ refused_first (shape_sites scope constant shape init)
    → b ≡ refused_first (if_there (holder_sites scope planned.holder) init)
    → c ≡ sooner a b
    → c ≡ refused_first (object_sites scope names constant shape init (declared_object scope constant shape))
objects_met scope names constant shape init planned a b c is_planned is_a is_b is_c =
    let d : Declared = declared_object scope constant shape in
    let fixed : Bool = scope.in_main && (constant || is_task_object d.thing) in
    is_c
    ∙ joined (names_sites fixed scope names ++ shape_sites scope constant shape init) (if_there (init_sites scope d.types (object_marking d)) init) a b
    (is_a
    ∙ ap (λ o. sooner o (refused_first (shape_sites scope constant shape init))) (names_met fixed scope names)
    ∙ sym (met_append (names_sites fixed scope names) (shape_sites scope constant shape init)))
    (is_b ∙ init_met scope planned.holder d.types (object_marking d) init is_planned.holder_is)
