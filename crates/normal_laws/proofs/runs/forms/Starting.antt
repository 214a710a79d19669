-- A unit's variables beside its objects, as a task starts: each is there, with the lower bound of its subtype.
use Rattle.std.proofs.Common.{◌≡◌, ℕ, suc, ◌+◌, ◌<◌, ◌≤◌, Bool, true, false, cond, ◌==◌, List, [], ◌∷◌, length, Some, None, refl, sym, ap, subst, ◌∙◌, arith, slice_get, ⊎_elim}
use Rattle.std.specs.List.{AllByRecursion}
use Rattle.std.proofs.lemmas.Bool.{eqb-true, cases_lt}
use Rattle.ada_tree.specs.declared.naming.Span.{Span}
use Rattle.ada_tree.specs.TypeTable.{TypeTable}
use Rattle.ada_tree.specs.PlainExpr.{PSubind}
use Rattle.ada_tree.specs.PlainDecl.{PDecl, decls_of}
use Rattle.ada_value.specs.declared.values.Limits.{Limits}
use Rattle.ada_value.specs.declared.values.Value.{Value}
use Rattle.ada_value.specs.Values.{lower_bound}
use Rattle.ada_value.specs.Variables.{Variables, object_named}
use Rattle.task_model.specs.Setting.{Setting}
use Rattle.task_model.specs.Starting.{declared_objects, after_declaration, objects_of}
use Rattle.normal_model.specs.Names.{variable_name}
use Rattle.normal_model.specs.Ranges.{word_at}
use Rattle.normal_model.specs.Variables.{variable_declared}
use Rattle.task_laws.specs.translation.Translations.{Programs}
use Rattle.normal_laws.specs.runs.floors.Suited.{declared_limits, limits_of_form}
use Rattle.normal_laws.specs.runs.floors.NormalFloors.{Extends, extends_none, extends_old, extends_new}
use Rattle.normal_laws.specs.runs.floors.Preludes.{IsCell, cell, Added}
use Rattle.normal_laws.specs.runs.forms.Normalisable.{IsScalar, IsPlain}
use Rattle.normal_laws.proofs.runs.forms.Numbered.{AreNumbered, none_numbered, numbered_then}
use Rattle.common_lemmas.proofs.Numbers.{equal_self}

module _ (b : Programs) (added : Added b b.original) (U : TypeTable) (in_main : Bool) where
  abbrev g : Setting
  g = b.original

  -- plain objects stand on both sides
  pub plain-extends : (V : Variables) → AllByRecursion (IsPlain b) V → Extends b V V
  plain-extends [] h = extends_none
  plain-extends (o ∷ V) h = extends_old o V V h.0.0 h.0.1 (plain-extends V h.1)

  -- the object of a variable
  variable-object : (in_main : Bool) (s : Span) (k : ℕ) (limits : Limits) (V : Variables) →
      declared_objects U in_main (word_at s (variable_name g k) ∷ []) false None (Some record { limits = limits; index = None }) V ≡ cell (variable_name g k) limits (lower_bound U limits) ∷ V
  variable-object true s k limits V = refl
  variable-object false s k limits V = refl

  -- what is there once the variables below a number are declared
  pub record Stand (V0 V : Variables) (k : ℕ) : Type 0 where
    pub extends : Extends b V0 V
    pub there : (j : ℕ) → j < k → j < added.count → (v : Value) × IsCell V (variable_name g j) (added.bounds j) v

  one-more : (V0 V : Variables) (k : ℕ) (limits : Limits) → k < added.count → added.bounds k ≡ limits → Stand V0 V k → Stand V0 (cell (variable_name g k) limits (lower_bound U limits) ∷ V) (k + 1)
  one-more V0 V k limits l e h = record {
    extends = extends_new (cell (variable_name g k) limits (lower_bound U limits)) V0 V (added.new k l) h.extends;
    there = λ j m c. ⊎_elim
        (λ (a : j < k). let q = h.there j a c in
        (q.0, record { name = q.1.name; found = ap (λ t. cond t (Some (cell (variable_name g k) limits (lower_bound U limits))) (object_named V (variable_name g j))) (added.apart k j l c (ne k j a)) ∙ q.1.found }))
        (λ (a : k ≤ j). let q : k ≡ j = omega (arith, a, m) in
        subst (λ n. (v : Value) × IsCell (cell (variable_name g k) limits (lower_bound U limits) ∷ V) (variable_name g n) (added.bounds n) v) q
        (lower_bound U limits, record { name = variable_name g k; found = ap (λ t. cond t (Some (cell (variable_name g k) limits (lower_bound U limits))) (object_named V (variable_name g k))) (equal_self (variable_name g k).0) ∙ ap (λ y. Some (cell (variable_name g k) y (lower_bound U limits))) (sym e) }))
        (cases_lt j k);
  }
    where
      ne : (k j : ℕ) → j < k → (k == j) ≡ false
      ne k j a = go (k == j) refl
        where
          go : (t : Bool) → (k == j) ≡ t → t ≡ false
          go false e1 = refl
          go true e1 = absurd (let y : k ≡ j = eqb-true k j e1 in omega (arith, a, y))

  pub variables-stand : (V0 : Variables) (vars : List PDecl) → ((k : ℕ) (s : Span) (x : PSubind) → slice_get vars k ≡ Some (variable_declared g s x k) → (k < added.count) × (added.bounds k ≡ declared_limits U x)) →
      {xs : List PDecl} {k : ℕ} → AreNumbered g xs k → ((j : ℕ) → slice_get xs j ≡ slice_get vars (k + j)) → AllByRecursion (IsScalar U) xs → (V : Variables) → Stand V0 V k →
      Stand V0 (objects_of U in_main (decls_of xs) V) (k + length xs)
  variables-stand V0 vars bounds (none_numbered k) same scalar V h = let e : k ≡ k + 0 = omega arith in subst (Stand V0 V) e h
  variables-stand V0 vars bounds (numbered_then s x rest k more) same scalar V h =
      let e : k + 0 ≡ k = omega arith in
      let d : PDecl = variable_declared g s x k in
      let at : slice_get vars k ≡ Some d = ap (slice_get vars) (sym e) ∙ sym (same 0) in
      let limits : Limits = scalar.0.0 in
      let q = bounds k s x at in
      let f : added.bounds k ≡ limits = q.1 ∙ ap limits_of_form scalar.0.1 in
      let object : after_declaration U in_main d V ≡ cell (variable_name g k) limits (lower_bound U limits) ∷ V =
      ap (λ y. declared_objects U in_main (word_at s (variable_name g k) ∷ []) false None y V) scalar.0.1 ∙ variable-object in_main s k limits V in
      let l : (k + 1) + length rest ≡ k + length (d ∷ rest) = omega arith in
      subst (λ n. Stand V0 (objects_of U in_main (decls_of rest) (after_declaration U in_main d V)) n) l
      (subst (λ W. Stand V0 (objects_of U in_main (decls_of rest) W) ((k + 1) + length rest)) (sym object)
      (variables-stand V0 vars bounds more (λ j. let m : k + suc j ≡ (k + 1) + j = omega arith in same (suc j) ∙ ap (slice_get vars) m) scalar.1
      (cell (variable_name g k) limits (lower_bound U limits) ∷ V) (one-more V0 V k limits q.0 f h)))
