-- Lists of names that differ.
use Rattle.std.proofs.Common.{◌≡◌, ℕ, suc, Bool, true, false, ◌==◌, cond, List, [], ◌∷◌, ◌++◌, map, slice_get, Some, refl, sym, subst, arith}
use Rattle.std.specs.List.{AllByRecursion, filter}
use Rattle.common_lemmas.proofs.Lists.{all_joined}
use Rattle.std.proofs.lemmas.Bool.{or_parts, or_from, eqb-true}
use Rattle.std.proofs.lemmas.Grind.{flat_map-append}
use Rattle.ada_static_rules.specs.RuleDuplicate.{is_among}
use Rattle.ada_decl_rules.specs.declared.duplicates.namings_in_order.Naming.{Naming}
use Rattle.normal_laws.specs.structure.once.Apart.{IsFreeOf, AreApart, AreDistinct, loose_name, loose_names}

-- a name that differs from each of these is free of them
pub all-free : (xs : List ℕ) (y : ℕ) → AllByRecursion (λ x. (x == y) ≡ false) xs → IsFreeOf xs y
all-free [] y h = refl
all-free (x ∷ xs) y h = or_from (x == y) (is_among xs y) h.0 (all-free xs y h.1)

-- where different places have different names, the names differ
pub distinct-places : {A : Type 0} (f : A → ℕ) (xs : List A) → ((j k : ℕ) (x y : A) → slice_get xs j ≡ Some x → slice_get xs k ≡ Some y → f x ≡ f y → j ≡ k) → AreDistinct (map f xs)
distinct-places f [] h = tt
distinct-places {A = A} f (x ∷ xs) h = (
  later xs (λ k y e q. let z : 0 ≡ suc k = h 0 (suc k) x y refl e (sym q) in omega (arith, z)),
  distinct-places f xs (λ j k y z d e q. let s : suc j ≡ suc k = h (suc j) (suc k) y z d e q in omega (arith, s)),
)
  where
    later : (ys : List A) → ((k : ℕ) (y : A) → slice_get ys k ≡ Some y → f y ≡ f x → ⊥) → IsFreeOf (map f ys) (f x)
    later [] g = refl
    later (y ∷ ys) g = or_from (f y == f x) (is_among (map f ys) (f x)) (by_test (f y == f x) refl) (later ys (λ k z e q. g (suc k) z e q))
      where
        by_test : (b : Bool) → (f y == f x) ≡ b → b ≡ false
        by_test false e = refl
        by_test true e = absurd (g 0 y refl (eqb-true (f y) (f x) e))

-- a part of a list has no other names
free-kept : {A : Type 0} (f : A → ℕ) (q : A → Bool) (xs : List A) (y : ℕ) → IsFreeOf (map f xs) y → IsFreeOf (map f (filter q xs)) y
free-kept f q [] y h = refl
free-kept f q (x ∷ xs) y h = by_test (q x) (or_parts (f x == y) (is_among (map f xs) y) h) (free-kept f q xs y (or_parts (f x == y) (is_among (map f xs) y) h).1)
  where
    by_test : (b : Bool) → ((f x == y) ≡ false) × (is_among (map f xs) y ≡ false) → IsFreeOf (map f (filter q xs)) y → IsFreeOf (map f (cond b (x ∷ filter q xs) (filter q xs))) y
    by_test true e k = or_from (f x == y) (is_among (map f (filter q xs)) y) e.0 k
    by_test false e k = k

pub distinct-kept : {A : Type 0} (f : A → ℕ) (q : A → Bool) (xs : List A) → AreDistinct (map f xs) → AreDistinct (map f (filter q xs))
distinct-kept f q [] h = tt
distinct-kept f q (x ∷ xs) h = by_test (q x) (distinct-kept f q xs h.1)
  where
    by_test : (b : Bool) → AreDistinct (map f (filter q xs)) → AreDistinct (map f (cond b (x ∷ filter q xs) (filter q xs)))
    by_test true k = (free-kept f q xs (f x) h.0, k)
    by_test false k = k

-- names that are apart from those of two lists of namings
pub loose-joined : (F : List ℕ) (a b : List Naming) → AreApart F (loose_names a) → AreApart F (loose_names b) → AreApart F (loose_names (a ++ b))
loose-joined F a b h k = subst (λ (l : List ℕ). AreApart F l) (sym (flat_map-append loose_name a b)) (all_joined (IsFreeOf F) (loose_names a) (loose_names b) h k)
