-- The variables of a normal form have names of their own.
use Rattle.std.proofs.Common.{◌≡◌, ℕ, zero, suc, ◌+◌, ◌-◌, ◌<◌, ◌≤◌, ◌^◌, Bool, true, false, ◌==◌, List, ◌∷◌, Some, refl, sym, ap, subst, ◌∙◌, arith, slice_get, ⊎_elim}
use Rattle.std.proofs.lemmas.Bool.{eqb-true, eqb-false, cases_lt}
use Rattle.std.proofs.lemmas.Fmt.{decimal_injective}
use Rattle.task_model.specs.Setting.{Setting}
use Rattle.normal_model.specs.Names.{variable_text, normal_names, with_variables, with_members, variable_name}
use Rattle.normal_model.proofs.VariablesLemmas.{Begins, begins-refl, begins-trans}
use Rattle.task_laws.proofs.legal.rewritten_values.Saying.{place-within}
use Rattle.normal_laws.proofs.structure.types.Names.{variable-there, interned-begins}

-- names of more variables begin with those of fewer
pub more-begin : (ts : List (List ℕ)) (n d : ℕ) → Begins (with_variables ts n) (with_variables ts (n + d))
more-begin ts n zero = let e : n + 0 ≡ n = omega arith in subst (λ k. Begins (with_variables ts n) (with_variables ts k)) (sym e) (begins-refl (with_variables ts n))
more-begin ts n (suc d) =
    let e : n + suc d ≡ suc (n + d) = omega arith in
    subst (λ k. Begins (with_variables ts n) (with_variables ts k)) (sym e) (begins-trans (more-begin ts n d) (interned-begins (with_variables ts (n + d)) (variable_text (n + d))))

behind-five : {a c d e f : ℕ} {xs ys : List ℕ} → a ∷ c ∷ d ∷ e ∷ f ∷ xs ≡ a ∷ c ∷ d ∷ e ∷ f ∷ ys → xs ≡ ys
behind-five h = cc

some-text : (a c : List ℕ) → Some a ≡ Some c → a ≡ c
some-text a c e = cc

-- texts of variables tell their numbers
text-number : (j k : ℕ) → j + 1 < 2 ^ 64 → k + 1 < 2 ^ 64 → variable_text j ≡ variable_text k → j ≡ k
text-number j k l m e = let f : j + 1 ≡ k + 1 = decimal_injective (j + 1) (k + 1) l m (behind-five e) in omega arith

-- of two numbers the lower one first
lower-apart : (g : Setting) (j d : ℕ) → (j + suc d) + 1 < 2 ^ 64 → (variable_name g j).0 ≡ (variable_name g (j + suc d)).0 → ⊥
lower-apart g j d l e =
    let n : ℕ = j + suc d in
    let grows : Begins (normal_names g (suc j)) (normal_names g (suc n)) =
    (let q : suc j + suc d ≡ suc n = omega arith in subst (λ k. Begins (normal_names g (suc j)) (normal_names g k)) q (more-begin (with_members g) (suc j) (suc d))) in
    let first : slice_get (normal_names g (suc n)) (variable_name g j).0 ≡ Some (variable_text j) =
    ap (λ ts. slice_get ts (variable_name g j).0) grows.joined
    ∙ place-within (normal_names g (suc j)) grows.more (variable_name g j).0 (variable-there g j).1 ∙ (variable-there g j).0 in
    let second : slice_get (normal_names g (suc n)) (variable_name g j).0 ≡ Some (variable_text n) = ap (slice_get (normal_names g (suc n))) e ∙ (variable-there g n).0 in
    let same : j ≡ n = text-number j n (omega arith) l (some-text (variable_text j) (variable_text n) (sym first ∙ second)) in
    omega arith

pub names-apart : (g : Setting) (j k : ℕ) → j + 1 < 2 ^ 64 → k + 1 < 2 ^ 64 → (j == k) ≡ false → ((variable_name g j).0 == (variable_name g k).0) ≡ false
names-apart g j k l m ne = go ((variable_name g j).0 == (variable_name g k).0) refl
  where
    differ : (variable_name g j).0 ≡ (variable_name g k).0 → ⊥
    differ e = ⊎_elim
        (λ (c : j < k). let q : j + suc ((k - j) - 1) ≡ k = omega arith in
        lower-apart g j ((k - j) - 1) (subst (λ n. n + 1 < 2 ^ 64) (sym q) m) (subst (λ n. (variable_name g j).0 ≡ (variable_name g n).0) (sym q) e))
        (λ (c : k ≤ j). ⊎_elim
        (λ (d : k < j). let q : k + suc ((j - k) - 1) ≡ j = omega arith in
        lower-apart g k ((j - k) - 1) (subst (λ n. n + 1 < 2 ^ 64) (sym q) l) (subst (λ n. (variable_name g k).0 ≡ (variable_name g n).0) (sym q) (sym e)))
        (λ (d : j ≤ k). eqb-false j k ne (let q : j ≡ k = omega arith in q))
        (cases_lt k j))
        (cases_lt j k)

    go : (t : Bool) → ((variable_name g j).0 == (variable_name g k).0) ≡ t → t ≡ false
    go false e = refl
    go true e = absurd (differ (eqb-true (variable_name g j).0 (variable_name g k).0 e))
