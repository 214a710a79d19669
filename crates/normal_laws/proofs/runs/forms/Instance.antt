-- The example of normal forms is as the law asks.
use Rattle.std.proofs.Common.{◌≡◌, ℕ, zero, suc, ◌<◌, ◌^◌, pos, negsuc, true, if◌then◌else◌, [], ◌∷◌, length, None, refl, sym, ap, subst, ◌∙◌, arith, slice_get, slice_index_or, All}
use Rattle.std.specs.Prelude.{IsSomeAnd}
use Rattle.std.specs.Fmt.{digits}
use Rattle.std.specs.List.{AllByRecursion}
use Rattle.std.proofs.lemmas.List.{get_or_past}
use Rattle.std.proofs.lemmas.List.Elements.{All-nil, All-cons}
use Rattle.ada_tree.specs.Every.{Rules, EveryWord, EveryExpr, EveryFormal, EveryEntry, EveryPriority}
use Rattle.ada_tree.specs.WellPlaced.{tokens, HasTokens}
use Rattle.ada_tree.specs.Lexical.{IsIdentifier}
use Rattle.ada_static_rules.specs.Refusals.{types_in}
use Rattle.ada_value.specs.declared.values.Value.TheVariants.{Number}
use Rattle.ada_value.specs.Values.{kind_of_value, integer_limits}
use Rattle.ada_value.specs.Variables.{Object, value_there}
use Rattle.syn_event.specs.Numbering.{task_at}
use Rattle.task_model.specs.Starting.{no_unit, unit_of_info, unit_of, objects_of}
use Rattle.normal_model.specs.RewrittenUnit.{RewrittenUnit}
use Rattle.normal_model.specs.NormalStmts.{unit_variables}
use Rattle.task_laws.specs.legal.rewritten_values.Values.{is_known, old_names}
use Rattle.normal_laws.specs.structure.types.Own.{own_name}
use Rattle.normal_laws.specs.structure.types.Laws.{IsOrdered, AreOwn}
use Rattle.task_laws.specs.translation.Translations.{Programs, IsKnown}
use Rattle.task_laws.specs.translation.OldTexts.{OldBody}
use Rattle.normal_laws.specs.runs.floors.Suited.{asked_of}
use Rattle.normal_laws.specs.runs.runs.Premises.{Rewrite, programs_of, unit_at, unit_before, objects_before}
use Rattle.normal_laws.specs.runs.runs.Example.{word, formal, v, yes, example}
use Rattle.normal_laws.proofs.runs.runs.Instance.{well}
use Rattle.normal_laws.proofs.runs.runs.ExampleBodies.{marks, families, main-old, task-old}
use Rattle.normal_laws.specs.runs.forms.Normalisable.{numbers_of, setting_for, made_for, first_task, variables_of, normal_rewrite, NamesTell, IsScalar, IsPlain, IsNormalisable}
use Rattle.common_lemmas.proofs.Numbers.{next_not_zero}

abbrev rewrite : Rewrite
rewrite = normal_rewrite example []

abbrev b : Programs
b = programs_of rewrite

-- ---- the static rules

ordered : IsOrdered example
ordered = record { rules = refl; last = tt }

abbrev Named : ℕ → Type 0
Named k = IsSomeAnd (slice_get example.names k) IsIdentifier

abbrev rules : Rules
rules = tokens example.names

n0 : Named 0
n0 = (refl, omega arith, refl)

n3 : Named 3
n3 = (refl, omega arith, refl)

n5 : Named 5
n5 = (refl, omega arith, refl)

n25 : Named 25
n25 = (refl, omega arith, refl)

n26 : Named 26
n26 = (refl, omega arith, refl)

n27 : Named 27
n27 = (refl, omega arith, refl)

n28 : Named 28
n28 = (refl, omega arith, refl)

n29 : Named 29
n29 = (refl, omega arith, refl)

-- a declaration's only name, and the formal
pub one-name : (k : ℕ) → Named k → All (EveryWord rules) (word k ∷ [])
one-name k h = All-cons (EveryWord rules) (word k) [] h (All-nil (EveryWord rules))

formals-named : All (EveryFormal rules) (formal ∷ [])
formals-named = All-cons (EveryFormal rules) formal [] ((tt, one-name 28 n28), n0) (All-nil (EveryFormal rules))

has-tokens : HasTokens example
has-tokens = (
  n25,
  tt,
  (
    (tt, (tt, one-name 29 n29), (n0, tt), tt, tt),
    (
      (tt, (n26, All-cons (EveryEntry rules) _ [] (tt, n27, (n3, tt), formals-named) (All-nil (EveryEntry rules)), All-nil (EveryPriority rules), tt)),
      ((tt, n26, tt, tt, ((tt, (tt, tt, ((tt, (tt, n5), ((tt, (n27, (tt, n5), formals-named), (tt, (tt, (n28, tt), (tt, omega arith)), tt)), tt)), ((tt, tt, tt), tt)), tt), tt), tt, tt)), tt),
    ),
  ),
  ((tt, (tt, ((n26, tt), n27, ((tt, All-cons (EveryExpr rules 2) yes [] (tt, n5) (All-nil (EveryExpr rules 2))), (tt, All-cons (EveryExpr rules 2) v [] (tt, n29) (All-nil (EveryExpr rules 2)))))), tt), tt, tt),
)

tell : NamesTell (setting_for example)
unfolding digits
tell = (((λ e. refl), tt), tt)

abbrev own_names : Rules
own_names = old_names (own_name example)

own-one : (k : ℕ) → own_name example k ≡ true → All (EveryWord own_names) (word k ∷ [])
own-one k h = All-cons (EveryWord own_names) (word k) [] h (All-nil (EveryWord own_names))

formals-own : All (EveryFormal own_names) (formal ∷ [])
formals-own = All-cons (EveryFormal own_names) formal [] ((tt, own-one 28 refl), refl) (All-nil (EveryFormal own_names))

own : AreOwn example example.decls
own = (
  (tt, (tt, own-one 29 refl), (refl, tt), tt, tt),
  (
    (tt, (refl, All-cons (EveryEntry own_names) _ [] (tt, refl, (refl, tt), formals-own) (All-nil (EveryEntry own_names)), All-nil (EveryPriority own_names), tt)),
    ((tt, refl, tt, tt, ((tt, (tt, tt, ((tt, (tt, refl), ((tt, (refl, (tt, refl), formals-own), (tt, (tt, (refl, tt), (tt, tt)), tt)), tt)), ((tt, tt, tt), tt)), tt), tt), tt, tt)), tt),
  ),
)

-- ---- numbers and variables

nothing-runs : (t : ℕ) → unit_of example (numbers_of example) (suc (suc t)) ≡ no_unit
nothing-runs t = ap (λ q. if q then record { in_main = true; decls = example.decls; body = example.body } else unit_of_info example (task_at (numbers_of example) (suc (suc t)))) (next_not_zero (suc t))

abbrev at : ℕ → RewrittenUnit
at t = record { setting = setting_for example; task = first_task example (suc (suc t)) }

few : (t : ℕ) → length (variables_of example t) < 2 ^ 64
few zero = let e : length (variables_of example zero) ≡ 2 = refl in omega (arith, e)
few (suc zero) = let e : length (variables_of example 1) ≡ 1 = refl in omega (arith, e)
few (suc (suc t)) =
    let e : length (unit_variables (at t) no_unit.body) ≡ 0 = refl in
    subst (λ u. length (unit_variables (at t) u.body) < 2 ^ 64) (sym (nothing-runs t)) (omega (arith, e))

scalar : (t : ℕ) → AllByRecursion (IsScalar (types_in (made_for example))) (variables_of example t)
unfolding digits
scalar zero = ((_, refl), ((_, refl), tt))
scalar (suc zero) = ((_, refl), tt)
scalar (suc (suc t)) = subst (λ u. AllByRecursion (IsScalar (types_in (made_for example))) (unit_variables (at t) u.body)) (sym (nothing-runs t)) tt

-- the values of V
values-known : (o : Object) → o.values ≡ Number (negsuc 2147483647) ∷ [] → (k : ℕ) → IsKnown b (value_there o k)
values-known o e zero = ap (λ vs. is_known (types_in example) (kind_of_value (slice_index_or vs 0 (Number (pos 0))))) e
values-known o e (suc k) =
    ap (λ vs. is_known (types_in example) (kind_of_value (slice_index_or vs (suc k) (Number (pos 0))))) e
    ∙ ap (λ a. is_known (types_in example) (kind_of_value a)) (get_or_past (Number (negsuc 2147483647) ∷ []) (suc k) (Number (pos 0)) (omega arith))

plain : (t : ℕ) → AllByRecursion (IsPlain b) (objects_before rewrite t)
plain zero = ((refl, (values-known (record { name = record { 0 = 29 }; limits = integer_limits; index = None; values = Number (negsuc 2147483647) ∷ [] }) refl, refl)), tt)
plain (suc zero) = tt
plain (suc (suc t)) = subst (λ u. AllByRecursion (IsPlain b) (objects_of (types_in example) u.in_main u.decls [])) (sym (nothing-runs t)) tt

text : (t : ℕ) → t < 2 → OldBody (asked_of (unit_at rewrite t)) (unit_before rewrite t).body
text zero l = main-old (own_name example) (is_known (types_in example)) refl refl refl refl
text (suc zero) l = task-old (own_name example) (is_known (types_in example)) refl refl refl refl
text (suc (suc t)) l = absurd (omega (arith, l))

pub can_be_normal : IsNormalisable example []
unfolding digits
can_be_normal = record {
  ordered = ordered;
  tokens = has-tokens;
  own = own;
  tell = tell;
  few = few;
  marks = marks (own_name example) (is_known (types_in example)) refl refl refl refl;
  families = families (own_name example) (is_known (types_in example)) refl refl refl refl;
  truths = λ s z. refl;
  integers = λ s z. refl;
  scalar = scalar;
  well = well;
  plain = plain;
  text = text;
}
