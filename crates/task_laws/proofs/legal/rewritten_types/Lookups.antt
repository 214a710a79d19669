-- What is found in a list that got more behind it.
use Rattle.std.proofs.Common.{◌≡◌, ℕ, zero, suc, Bool, true, false, if◌then◌else◌, List, [], ◌∷◌, ◌++◌, length, find, slice_get, Some, None, ◌⊎◌, inl, inr, ⊎_elim, refl, sym, ap, subst, ℤ, Option, option_map}
use Rattle.std.proofs.lemmas.Option.{none-some}
use Rattle.std.specs.List.{AllByRecursion}
use Rattle.common_lemmas.proofs.Options.{some_same}
use Rattle.ada_tree.specs.declared.naming.NameId.{NameId}
use Rattle.ada_tree.specs.declared.static_types.Kind.{Kind}
use Rattle.ada_tree.specs.declared.static_types.Kind.TheVariants.{Integer, Truth, Enumeration, Array}
use Rattle.ada_static_rules.specs.StaticValue.{position_in, first_of_two, literal_position, is_of_kind}
use Rattle.task_laws.specs.legal.rewritten_types.Agreement.{Literal, literal_among, scalar_only}

-- what stood at a place stands there still
pub place-more : {A : Type 0} (xs ys : List A) (k : ℕ) (x : A) → slice_get xs k ≡ Some x → slice_get (xs ++ ys) k ≡ Some x
place-more [] ys k x e = absurd (none-some x e)
place-more (y ∷ xs) ys zero x e = e
place-more (y ∷ xs) ys (suc k) x e = place-more xs ys k x e

-- nothing more is found where nothing behind passes
pub find-more : {A : Type 0} (p : A → Bool) (xs ys : List A) → find p ys ≡ None → find p (xs ++ ys) ≡ find p xs
find-more p [] ys e = e
find-more p (x ∷ xs) ys e = ap (λ r. if p x then Some x else r) (find-more p xs ys e)

-- what is found has what all have
pub find-all : {A : Type 0} (P : A → Type 0) (p : A → Bool) (xs : List A) (y : A) → AllByRecursion P xs → find p xs ≡ Some y → P y
find-all P p [] y h e = absurd (none-some y e)
find-all P p (x ∷ xs) y h e = by_test (p x) (find-all P p xs y h.1) e
  where
    by_test : (b : Bool) → (find p xs ≡ Some y → P y) → (if b then Some x else find p xs) ≡ Some y → P y
    by_test true rest f = subst P (some_same f) h.0
    by_test false rest f = rest f

-- what stands at a place has what all have
pub place-all : {A : Type 0} (P : A → Type 0) (xs : List A) (k : ℕ) (y : A) → AllByRecursion P xs → slice_get xs k ≡ Some y → P y
place-all P [] k y h e = absurd (none-some y e)
place-all P (x ∷ xs) zero y h e = subst P (some_same e) h.0
place-all P (x ∷ xs) (suc k) y h e = place-all P xs k y h.1 e

-- what was found first is found first in a list that has the same at each place, and more behind
pub find-grown : {A : Type 0} (p : A → Bool) (xs ys : List A) → ((i : ℕ) (x : A) → slice_get xs i ≡ Some x → slice_get ys i ≡ Some x) → (y : A) → find p xs ≡ Some y → find p ys ≡ Some y
find-grown p [] ys g y e = absurd (none-some y e)
find-grown p (x ∷ xs) [] g y e = absurd (none-some x (g 0 x refl))
find-grown p (x ∷ xs) (z ∷ zs) g y e =
    subst (λ v. (if p v then Some v else find p zs) ≡ Some y) (sym (some_same (g 0 x refl))) (by_test (p x) e (find-grown p xs zs (λ i v f. g (suc i) v f) y))
  where
    by_test : (b : Bool) → (if b then Some x else find p xs) ≡ Some y → (find p xs ≡ Some y → find p zs ≡ Some y) → (if b then Some x else find p zs) ≡ Some y
    by_test true f rest = f
    by_test false f rest = rest f

-- something is found where the last passes
pub find-last : {A : Type 0} (p : A → Bool) (xs : List A) (y : A) → p y ≡ true → (z : A) × (find p (xs ++ y ∷ []) ≡ Some z)
find-last p [] y e = (y, ap (λ b. if b then Some y else None) e)
find-last {A = A} p (x ∷ xs) y e = by_test (p x) (find-last p xs y e)
  where
    by_test : (b : Bool) → (z : A) × (find p (xs ++ y ∷ []) ≡ Some z) → (z : A) × ((if b then Some x else find p (xs ++ y ∷ [])) ≡ Some z)
    by_test true rest = (x, refl)
    by_test false rest = rest

-- a place is an earlier one or the last
pub earlier-or-last : {A : Type 0} (xs : List A) (y : A) (k : ℕ) → (slice_get (xs ++ y ∷ []) k ≡ slice_get xs k) ⊎ (k ≡ length xs)
earlier-or-last [] y zero = inr refl
earlier-or-last [] y (suc k) = inl refl
earlier-or-last (x ∷ xs) y zero = inl refl
earlier-or-last (x ∷ xs) y (suc k) = ⊎_elim (λ e. inl e) (λ e. inr (ap suc e)) (earlier-or-last xs y k)

-- the last is found where it passes and none before it does
pub find-only : {A : Type 0} (p : A → Bool) (xs : List A) (y : A) → find p xs ≡ None → p y ≡ true → find p (xs ++ y ∷ []) ≡ Some y
find-only p [] y n e = ap (λ b. if b then Some y else None) e
find-only {A = A} p (x ∷ xs) y n e = by_test (p x) n (find-only p xs y)
  where
    by_test : (b : Bool) → (if b then Some x else find p xs) ≡ None → (find p xs ≡ None → p y ≡ true → find p (xs ++ y ∷ []) ≡ Some y) → (if b then Some x else find p (xs ++ y ∷ [])) ≡ Some y
    by_test true f rest = absurd (none-some x (sym f))
    by_test false f rest = rest f e

-- the position of a literal is that of the literal with its kind
pub position-among : (ks : List Kind) (k : ℕ) (id : NameId) → literal_position ks id ≡ option_map (λ (l : Literal). l.position) (literal_among ks k id)
position-among [] k id = refl
position-among (x ∷ ks) k id = by_position (position_in id x) (position-among ks (suc k) id)
  where
    by_position : (o : Option ℕ) → literal_position ks id ≡ option_map (λ (l : Literal). l.position) (literal_among ks (suc k) id) →
        first_of_two o (literal_position ks id)
        ≡ option_map (λ (l : Literal). l.position) (first_of_two (option_map (λ n. record { kind = k; position = n }) o) (literal_among ks (suc k) id))
    by_position (Some n) e = refl
    by_position None e = e

-- whether a value is one of a kind hangs on kinds of values alone
pub of-kind-only : (o : Option Kind) (z : ℤ) → is_of_kind o z ≡ is_of_kind (scalar_only o) z
of-kind-only (Some Integer) z = refl
of-kind-only (Some Truth) z = refl
of-kind-only (Some (Enumeration names)) z = refl
of-kind-only (Some (Array index first last part)) z = refl
of-kind-only None z = refl
