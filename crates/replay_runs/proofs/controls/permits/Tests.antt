-- What the tests of a permit evaluate to.
use Rattle.std.proofs.Common.{◌≡◌, ℕ, ℤ, pos, Bool, true, false, not, ◌&&◌, ◌==◌, if◌then◌else◌, List, Option, Some, None, Ok, Err, refl, ap, ap₂, ◌∙◌, eqb-true}
use Rattle.std.specs.Ordering.{int_eq}
use Rattle.std.proofs.lemmas.Bool.{eqb-false}
use Rattle.std.proofs.lemmas.Bool.Decides.{Decides-int_eq}
use Rattle.ada_tree.specs.declared.naming.NameId.{NameId}
use Rattle.ada_tree.specs.declared.naming.Span.{Span}
use Rattle.ada_tree.specs.declared.expressions.BinaryOp.TheVariants.{And, Equal, NotEqual}
use Rattle.ada_tree.specs.declared.static_types.Kind.{Kind}
use Rattle.ada_tree.specs.declared.static_types.Kind.TheVariants as kind
use Rattle.ada_tree.specs.TypeTable.{TypeTable}
use Rattle.ada_tree.specs.PlainExpr.{PExpr, EInteger, EName, EBinary, PDrange}
use Rattle.ada_tree.specs.PlainProgram.{PProgram}
use Rattle.ada_static_rules.specs.StaticValue.{is_integer_value}
use Rattle.ada_value.specs.declared.values.Limits.{Limits}
use Rattle.ada_value.specs.declared.values.Raised.TheVariants as raised
use Rattle.ada_value.specs.declared.values.Value.{Value}
use Rattle.ada_value.specs.declared.values.Value.TheVariants.{Number, Truth}
use Rattle.ada_value.specs.Values.{integer_limits, and_then, position_of, fitted}
use Rattle.ada_value.specs.Variables.{Variables}
use Rattle.ada_value.specs.Evaluating.{name_value, combined, evaluated}
use Rattle.ada_value.proofs.StaticLaws.{natural_integer}
use Rattle.task_model.specs.Setting.{Setting}
use Rattle.normal_model.specs.Ranges.{kind_of_range, family_range}
use Rattle.normal_laws.specs.runs.floors.Preludes.{IsCell}
use Rattle.normal_laws.proofs.runs.waits.Choices.{truth-of}
use Rattle.replay_model.specs.Names.{kind_text, argument_text, index_text, added_id}
use Rattle.replay_model.specs.Asking.{both, as_number, number_in, member_number, permit_is_kind, permit_is_for, permit_is_at}
use Rattle.replay_runs.specs.starts.Laws.{form_in}
use Rattle.replay_runs.specs.controls.Asking.{unit_of_task, HoldsPermit}
use Rattle.replay_runs.specs.controls.permits.Laws.{FitsInteger, EvaluatesTo, IndexIs, no_index, index_is, TestsOfPermits, BothEvaluate}

-- natural numbers are the same where they are as integers
pub same-number : (a b : ℕ) → int_eq (pos a) (pos b) ≡ (a == b)
same-number a b = by_test (a == b) refl
  where
    by_other : (c : Bool) → int_eq (pos a) (pos b) ≡ c → (a == b) ≡ false → c ≡ false
    by_other false e f = refl
    by_other true e f =
        let same : pos a ≡ pos b = (Decides-int_eq (pos a) (pos b)).0 e in
        let n : a ≡ b = cc in
        absurd (eqb-false a b f n)

    by_test : (c : Bool) → (a == b) ≡ c → int_eq (pos a) (pos b) ≡ c
    by_test true e = (Decides-int_eq (pos a) (pos b)).1 (ap (λ n. pos n) (eqb-true a b e))
    by_test false e = by_other (int_eq (pos a) (pos b)) refl e

module _ (T : TypeTable) (V : Variables) where
  -- a variable of one value is worth it
  name-worth : (id : NameId) (limits : Limits) (v : Value) (s : Span) → IsCell V id limits v → evaluated T V (EName id s) ≡ Ok v
  name-worth id limits v s h = ap (λ o. Ok (name_value T o id)) h.found

  fitted-worth : (z : ℤ) → is_integer_value z ≡ true → fitted z ≡ Ok (Number z)
  fitted-worth z e = ap (λ b. if b then Ok (Number z) else Err raised.Numeric) e

  literal-worth : (n : ℕ) (s : Span) → FitsInteger n → evaluated T V (EInteger n s) ≡ Ok (Number (pos n))
  literal-worth n s l = fitted-worth (pos n) (natural_integer n l)

  -- two values are compared by their positions
  equal-says : (d e : PExpr) (v w : Value) (s : Span) → evaluated T V d ≡ Ok v → evaluated T V e ≡ Ok w → EvaluatesTo T V (EBinary Equal d e s) (int_eq (position_of v) (position_of w))
  equal-says d e v w s a b = ap (λ r. and_then r (λ x. and_then (evaluated T V e) (λ y. combined Equal x y))) a ∙ ap (λ r. and_then r (λ y. combined Equal v y)) b

  other-says : (d e : PExpr) (v w : Value) (s : Span) → evaluated T V d ≡ Ok v → evaluated T V e ≡ Ok w → EvaluatesTo T V (EBinary NotEqual d e s) (not (int_eq (position_of v) (position_of w)))
  other-says d e v w s a b = ap (λ r. and_then r (λ x. and_then (evaluated T V e) (λ y. combined NotEqual x y))) a ∙ ap (λ r. and_then r (λ y. combined NotEqual v y)) b

  pub both-say : (s : Span) (d e : PExpr) (b c : Bool) → EvaluatesTo T V d b → EvaluatesTo T V e c → EvaluatesTo T V (both s d e) (b && c)
  both-say s d e b c k l =
      ap (λ r. and_then r (λ x. and_then (evaluated T V e) (λ y. combined And x y))) k
      ∙ ap (λ r. and_then r (λ y. combined And (Truth b) y)) l
      ∙ ap₂ (λ (x y : Bool). Ok (Truth (x && y))) (truth-of b) (truth-of c)

  -- ---- the number of a member

  as-number : (s : Span) (types : TypeTable) (k : ℕ) (o : Option Kind) (e : PExpr) (v : Value) → evaluated T V e ≡ Ok v → is_integer_value (position_of v) ≡ true →
      (w : Value) × (evaluated T V (as_number types s k o e) ≡ Ok w) × (position_of w ≡ position_of v)
  as-number s types k (Some kind.Integer) e v a fits = (v, a, refl)
  as-number s types k (Some kind.Truth) e v a fits = (Number (position_of v), ap (λ r. and_then r (λ x. fitted (position_of x))) a ∙ fitted-worth (position_of v) fits, refl)
  as-number s types k (Some (kind.Enumeration names)) e v a fits = (Number (position_of v), ap (λ r. and_then r (λ x. fitted (position_of x))) a ∙ fitted-worth (position_of v) fits, refl)
  as-number s types k (Some (kind.Array index first last part)) e v a fits = (Number (position_of v), ap (λ r. and_then r (λ x. fitted (position_of x))) a ∙ fitted-worth (position_of v) fits, refl)
  as-number s types k None e v a fits = (Number (position_of v), ap (λ r. and_then r (λ x. fitted (position_of x))) a ∙ fitted-worth (position_of v) fits, refl)

  number-in : (s : Span) (types : TypeTable) (r : Option PDrange) (e : PExpr) (v : Value) → evaluated T V e ≡ Ok v → is_integer_value (position_of v) ≡ true →
      (w : Value) × (evaluated T V (number_in types s r e) ≡ Ok w) × (position_of w ≡ position_of v)
  number-in s types None e v a fits = (v, a, refl)
  number-in s types (Some r) e v a fits = as-number s types (kind_of_range types r) _ e v a fits

  member-worth : (g : Setting) (s : Span) (n : ℕ) (index : Option PExpr) (j : ℤ) → IndexIs T V index j → (w : Value) × (evaluated T V (member_number g s n index) ≡ Ok w) × (position_of w ≡ j)
  member-worth g s n None j no_index = (Number (pos 0), refl, refl)
  member-worth g s n (Some e) j (index_is _ v a fits) = number-in s g.types (family_range g n) e v a fits

pub both_say : BothEvaluate
both_say T V s d e b c k l = both-say T V s d e b c k l

module _ (p : PProgram) (t : ℕ) (T : TypeTable) (V : Variables) (k a : ℕ) (i : ℤ) (h : HoldsPermit p V k a i) where
  -- a variable of the permit, as an expression
  abbrev part : Span → List ℕ → PExpr
  part s text = EName (added_id (form_in p).program text) s

  part-worth : (s : Span) (text : List ℕ) (v : Value) → IsCell V (added_id (form_in p).program text) integer_limits v → evaluated T V (part s text) ≡ Ok v
  part-worth s text v its = name-worth T V (added_id (form_in p).program text) integer_limits v s its

  -- one of them is a number
  number-says : (s : Span) (text : List ℕ) (m n : ℕ) → IsCell V (added_id (form_in p).program text) integer_limits (Number (pos m)) → FitsInteger n → EvaluatesTo T V (EBinary Equal (part s text) (EInteger n s) s) (m == n)
  number-says s text m n its l =
      equal-says T V (part s text) (EInteger n s) (Number (pos m)) (Number (pos n)) s (part-worth s text (Number (pos m)) its) (literal-worth T V n s l) ∙ ap (λ b. Ok (Truth b)) (same-number m n)

  kind-says : (s : Span) (n : ℕ) → FitsInteger n → EvaluatesTo T V (permit_is_kind (unit_of_task p t) s n) (k == n)
  kind-says s n l = number-says s kind_text k n h.kind l

  other-kind : (s : Span) (n : ℕ) → FitsInteger n → EvaluatesTo T V (EBinary NotEqual (part s kind_text) (EInteger n s) s) (not (k == n))
  other-kind s n l =
      other-says T V (part s kind_text) (EInteger n s) (Number (pos k)) (Number (pos n)) s (part-worth s kind_text (Number (pos k)) h.kind) (literal-worth T V n s l)
      ∙ ap (λ b. Ok (Truth (not b))) (same-number k n)

  argument-says : (s : Span) (n m : ℕ) → FitsInteger n → FitsInteger m → EvaluatesTo T V (permit_is_for (unit_of_task p t) s n m) ((k == n) && (a == m))
  argument-says s n m l o =
      both-say T V s (permit_is_kind (unit_of_task p t) s n) (EBinary Equal (part s argument_text) (EInteger m s) s) (k == n) (a == m) (kind-says s n l) (number-says s argument_text a m h.argument o)

  member-says : (s : Span) (n e : ℕ) (index : Option PExpr) (j : ℤ) → FitsInteger n → FitsInteger e → IndexIs T V index j → EvaluatesTo T V (permit_is_at (unit_of_task p t) s n e index) ((k == n) && (a == e) && int_eq i j)
  member-says s n e index j l o its =
      let w = member-worth T V (form_in p) s e index j its in
      both-say T V s (permit_is_for (unit_of_task p t) s n e) (EBinary Equal (part s index_text) (member_number (form_in p) s e index) s) ((k == n) && (a == e)) (int_eq i j) (argument-says s n e l o)
      (equal-says T V (part s index_text) (member_number (form_in p) s e index) (Number i) w.0 s (part-worth s index_text (Number i) h.index) w.1 ∙ ap (λ z. Ok (Truth (int_eq i z))) w.2)

pub tests_of_permits : TestsOfPermits
tests_of_permits p t T V k a i h = record { kind = kind-says p t T V k a i h; other_kind = other-kind p t T V k a i h; kind_and_argument = argument-says p t T V k a i h; member = member-says p t T V k a i h }
