-- The variables of the places of a unit, as the unit starts with them.
use Rattle.std.proofs.Common.{◌≡◌, ◌≤◌, ◌==◌, nat_lt, ℕ, zero, suc, Bool, true, false, true≢false, cond, [], ◌∷◌, ◌++◌, Some, refl, sym, ap, subst, ◌∙◌, arith}
use Rattle.std.proofs.lemmas.Bool.{eqb-true, ltb-true}
use Rattle.std.proofs.lemmas.Bool.Decides.{nat_tests}
use Rattle.common_lemmas.proofs.Numbers.{equal_self, unequal_turned}
use Rattle.ada_tree.specs.declared.naming.NameId.{NameId}
use Rattle.ada_value.specs.declared.values.Value.{Value}
use Rattle.ada_value.specs.Values.{integer_limits, truth_limits}
use Rattle.ada_value.specs.Variables.{Variables, object_named}
use Rattle.task_laws.specs.translation.Translations.{Programs}
use Rattle.normal_laws.specs.runs.floors.NormalFloors.{Extends, extends_new}
use Rattle.normal_laws.specs.runs.floors.Preludes.{cell}
use Rattle.collect_model.specs.aborts.AbortTeller.{AbortTeller}
use Rattle.collect_runs.specs.aborts.translation.Floors.{IsPlace, ArePlacesAdded}

-- those of the first n places, the latest first, with these values of the caller and of whether it was refused
abbrev pub place_cells : AbortTeller → Value → Value → ℕ → Variables
place_cells x v w zero = []
place_cells x v w (suc n) = cell (x.refused (suc n)) truth_limits w ∷ cell (x.taken (suc n)) integer_limits v ∷ place_cells x v w n

module _ (b : Programs) (x : AbortTeller) (last : ℕ) (new : ArePlacesAdded b x last) (v w : Value) where
  place-of : (n : ℕ) → suc n ≤ last → IsPlace last (suc n)
  place-of n l = (omega arith, l)

  before : (n : ℕ) → suc n ≤ last → n ≤ last
  before n l = omega (arith, l)

  -- names of other variables
  pub extends-places : (n : ℕ) → n ≤ last → (V V' : Variables) → Extends b V V' → Extends b V (place_cells x v w n ++ V')
  extends-places zero l V V' e = e
  extends-places (suc n) l V V' e =
      extends_new (cell (x.refused (suc n)) truth_limits w) V (cell (x.taken (suc n)) integer_limits v ∷ (place_cells x v w n ++ V')) (new.refused
      (suc n) (place-of n l))
      (extends_new (cell (x.taken (suc n)) integer_limits v) V (place_cells x v w n ++ V') (new.taken (suc n) (place-of n l)) (extends-places n
      (before n l) V V' e))

  -- what has another name
  pub passed-places : (id : NameId) → ((n : ℕ) → IsPlace last n → (id.0 == (x.taken n).0) ≡ false) → ((n : ℕ) → IsPlace last n → (id.0 ==
      (x.refused n).0) ≡ false) →
      (n : ℕ) → n ≤ last → (R : Variables) → object_named (place_cells x v w n ++ R) id ≡ object_named R id
  passed-places id taken refused zero l R = refl
  passed-places id taken refused (suc n) l R =
      ap (λ (c : Bool). cond c (Some (cell (x.refused (suc n)) truth_limits w)) (object_named (cell (x.taken (suc n)) integer_limits v ∷
      (place_cells x v w n ++ R)) id))
      (unequal_turned id.0 (x.refused (suc n)).0 (refused (suc n) (place-of n l)))
      ∙ ap (λ (c : Bool). cond c (Some (cell (x.taken (suc n)) integer_limits v)) (object_named (place_cells x v w n ++ R) id))
      (unequal_turned id.0 (x.taken (suc n)).0 (taken (suc n) (place-of n l)))
      ∙ passed-places id taken refused n (before n l) R

  -- where the last place is another one
  earlier : (n k : ℕ) → IsPlace (suc n) k → (suc n == k) ≡ false → IsPlace n k
  earlier n k i other = (i.0, lower (nat_lt n k) refl)
    where
      lower : (c : Bool) → nat_lt n k ≡ c → k ≤ n
      lower false e = grind (arith, nat_tests, e)
      lower true e = absurd (true≢false (sym (same (let l = ltb-true n k e in omega (arith, l, i.1))) ∙ other))
        where
          same : suc n ≡ k → (suc n == k) ≡ true
          same q = subst (λ (m : ℕ). (suc n == m) ≡ true) q (equal_self (suc n))

  within : (n k : ℕ) → n ≤ last → IsPlace n k → IsPlace last k
  within n k l i = (i.0, omega (arith, l, i.1))

  -- the variables of each place are found
  pub taken-found : (n k : ℕ) → n ≤ last → IsPlace n k → (R : Variables) → object_named (place_cells x v w n ++ R) (x.taken k) ≡ Some (cell
      (x.taken k) integer_limits v)
  taken-found zero k l i R = let no : ⊥ = omega (arith, i.0, i.1) in absurd no
  taken-found (suc n) k l i R =
      ap (λ (c : Bool). cond c (Some (cell (x.refused (suc n)) truth_limits w)) (object_named (cell (x.taken (suc n)) integer_limits v ∷
      (place_cells x v w n ++ R)) (x.taken k)))
      (unequal_turned (x.taken k).0 (x.refused (suc n)).0 (new.taken_refused k (suc n) (within (suc n) k l i) (place-of n l)))
      ∙ by_test (suc n == k) refl (λ j. taken-found n k (before n l) j R)
    where
      by_test : (c : Bool) → (suc n == k) ≡ c → (IsPlace n k → object_named (place_cells x v w n ++ R) (x.taken k) ≡ Some (cell (x.taken k) integer_limits v)) →
          object_named (cell (x.taken (suc n)) integer_limits v ∷ (place_cells x v w n ++ R)) (x.taken k) ≡ Some (cell (x.taken k) integer_limits v)
      by_test true e later =
          let same : suc n ≡ k = eqb-true (suc n) k e in
          subst (λ (m : ℕ). object_named (cell (x.taken (suc n)) integer_limits v ∷ (place_cells x v w n ++ R)) (x.taken m) ≡ Some (cell
          (x.taken m) integer_limits v)) same
          (ap (λ (c : Bool). cond c (Some (cell (x.taken (suc n)) integer_limits v)) (object_named (place_cells x v w n ++ R) (x.taken (suc n))))
          (equal_self (x.taken (suc n)).0))
      by_test false e later =
          ap (λ (c : Bool). cond c (Some (cell (x.taken (suc n)) integer_limits v)) (object_named (place_cells x v w n ++ R) (x.taken k)))
          (new.taken_apart (suc n) k (place-of n l) (within (suc n) k l i) e)
          ∙ later (earlier n k i e)

  pub refused-found : (n k : ℕ) → n ≤ last → IsPlace n k → (R : Variables) → object_named (place_cells x v w n ++ R) (x.refused k) ≡ Some (cell
      (x.refused k) truth_limits w)
  refused-found zero k l i R = let no : ⊥ = omega (arith, i.0, i.1) in absurd no
  refused-found (suc n) k l i R = by_test (suc n == k) refl (λ j. refused-found n k (before n l) j R)
    where
      by_test : (c : Bool) → (suc n == k) ≡ c → (IsPlace n k → object_named (place_cells x v w n ++ R) (x.refused k) ≡ Some (cell
          (x.refused k) truth_limits w)) →
          object_named (cell (x.refused (suc n)) truth_limits w ∷ cell (x.taken (suc n)) integer_limits v ∷ (place_cells x v w n ++ R))
          (x.refused k) ≡ Some (cell (x.refused k) truth_limits w)
      by_test true e later =
          let same : suc n ≡ k = eqb-true (suc n) k e in
          subst (λ (m : ℕ). object_named (cell (x.refused (suc n)) truth_limits w ∷ cell (x.taken (suc n)) integer_limits v ∷
          (place_cells x v w n ++ R)) (x.refused m) ≡ Some (cell (x.refused m) truth_limits w)) same
          (ap (λ (c : Bool). cond c (Some (cell (x.refused (suc n)) truth_limits w)) (object_named (cell (x.taken (suc n)) integer_limits v ∷
          (place_cells x v w n ++ R)) (x.refused (suc n)))) (equal_self (x.refused (suc n)).0))
      by_test false e later =
          ap (λ (c : Bool). cond c (Some (cell (x.refused (suc n)) truth_limits w)) (object_named (cell (x.taken (suc n)) integer_limits v ∷
          (place_cells x v w n ++ R)) (x.refused k)))
          (new.refused_apart (suc n) k (place-of n l) (within (suc n) k l i) e)
          ∙ ap (λ (c : Bool). cond c (Some (cell (x.taken (suc n)) integer_limits v)) (object_named (place_cells x v w n ++ R) (x.refused k)))
          (new.taken_refused (suc n) k (place-of n l) (within (suc n) k l i))
          ∙ later (earlier n k i e)
