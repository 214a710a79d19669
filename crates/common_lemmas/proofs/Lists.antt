-- Lists: what stands at a place, what holds of all elements, what is found.
use Rattle.std.proofs.Common.{◌≡◌, ◌==◌, ◌<◌, ◌+◌, ℕ, zero, suc, Bool, true, false, cond, if◌then◌else◌, Option, Some, None, List, [], ◌∷◌, ◌++◌, length, map, flat_map, find, drop, get_or, slice_get, option_copied, Bor, refl, sym, ap, ◌∙◌, subst, arith, position, true≢false}
use Rattle.std.specs.List.{AllByRecursion, filter, position_from}
use Rattle.std.specs.Slice.{IsItemAt}
use Rattle.std.proofs.lemmas.Option.{none-some, slice_get_within, slice_get_past, slice_get_read, get_or_from_slice_get}
use Rattle.std.proofs.lemmas.Bool.{eqb-true}
use Rattle.std.proofs.lemmas.List.{drop_more, at_drop_more}
use Rattle.common_lemmas.proofs.Options.{some_same}
use Rattle.common_lemmas.specs.Following.{every}
use Rattle.std.proofs.lemmas.Iterator.Adapters.{position_from-zero}
use Rattle.std.specs.Prelude.{◌&&◌}
use Rattle.std.specs.Str.{bytes_eq}
use Rattle.std.proofs.lemmas.Slice.Eq.{bytes_eq-Decides}

-- ---- empty or not

pub not_empty : {A : Type 0} (x : A) (xs : List A) → x ∷ xs ≡ [] → ⊥
not_empty x xs e = cc

pub never_empty : {A X : Type 0} (xs : List X) (y : X) (ys : List X) → xs ++ (y ∷ ys) ≡ [] → A
never_empty [] y ys e = absurd (not_empty y ys e)
never_empty (x ∷ xs) y ys e = absurd (not_empty x (xs ++ (y ∷ ys)) e)

pub front_empty : {A : Type 0} (xs ys : List A) → xs ++ ys ≡ [] → xs ≡ []
front_empty [] ys e = refl
front_empty (x ∷ xs) ys e = absurd (not_empty x (xs ++ ys) e)

pub back_empty : {A : Type 0} (xs ys : List A) → xs ++ ys ≡ [] → ys ≡ []
back_empty [] ys e = e
back_empty (x ∷ xs) ys e = absurd (not_empty x (xs ++ ys) e)

pub map_empty : {A B : Type 0} (f : A → B) (xs : List A) → map f xs ≡ [] → xs ≡ []
map_empty f [] e = refl
map_empty f (x ∷ xs) e = absurd (not_empty (f x) (map f xs) e)

pub short_empty : {A : Type 0} (xs : List A) → length xs < 1 → xs ≡ []
short_empty [] h = refl
short_empty (x ∷ xs) h = absurd (omega arith)

pub empty_by : (xs : List ℕ) → (length xs == 0) ≡ true → xs ≡ []
empty_by [] h = refl
empty_by (x ∷ xs) h = absurd (omega (arith, eqb-true (length (x ∷ xs)) 0 h))

pub append_last : {A : Type 0} (before : List A) (x : A) (behind : List A) → (before ++ x ∷ []) ++ behind ≡ before ++ x ∷ behind
append_last [] x behind = refl
append_last (y ∷ before) x behind = ap (λ l. y ∷ l) (append_last before x behind)

pub mapped_length : {A B : Type 0} (f : A → B) (xs : List A) → length (map f xs) ≡ length xs
mapped_length f [] = refl
mapped_length f (x ∷ xs) = ap suc (mapped_length f xs)

pub first_same : {A : Type 0} {x y : A} {xs ys : List A} → x ∷ xs ≡ y ∷ ys → x ≡ y
first_same e = cc

pub rest_same : {A : Type 0} {x y : A} {xs ys : List A} → x ∷ xs ≡ y ∷ ys → xs ≡ ys
rest_same e = cc

-- ---- at a place

pub element_at : {A : Type 0} (xs : List A) (i : ℕ) → i < length xs → (x : A) × (slice_get xs i ≡ Some x)
element_at [] i low = absurd (omega (arith, low))
element_at (x ∷ xs) zero low = (x, refl)
element_at (x ∷ xs) (suc i) low = element_at xs i (let m : suc i < length (x ∷ xs) = low in omega (arith, m))

pub seam_there : {A : Type 0} (before : List A) (x : A) (behind : List A) → slice_get (before ++ x ∷ behind) (length before) ≡ Some x
seam_there [] x behind = refl
seam_there (y ∷ before) x behind = seam_there before x behind

pub last_at : {A : Type 0} (before : List A) (x : A) → slice_get (before ++ x ∷ []) (length before) ≡ Some x
last_at before x = seam_there before x []

pub rest_at : {X : Type 0} (xs : List X) (i : ℕ) (x d : X) → i < length xs → x ≡ get_or xs i d → drop i xs ≡ x ∷ drop (i + 1) xs
rest_at xs i x d low is = drop_more xs i d low ∙ ap (λ y. y ∷ drop (i + 1) xs) (sym is)

pub rest_there : {X : Type 0} (xs : List X) (i : ℕ) (x : X) → Some x ≡ slice_get xs i → drop i xs ≡ x ∷ drop (i + 1) xs
rest_there xs i x e = rest_at xs i x x (slice_get_within xs i x (sym e)) (sym (get_or_from_slice_get xs i x x (sym e)))

pub rest_none : {X : Type 0} (xs : List X) (i : ℕ) → None ≡ slice_get xs i → drop i xs ≡ []
rest_none [] zero e = refl
rest_none [] (suc i) e = refl
rest_none (x ∷ xs) zero e = absurd (cc)
rest_none (x ∷ xs) (suc i) e = rest_none xs i e

pub lent_at : {X : Type 0} (xs : List X) (i : ℕ) (r : Option (Bor X)) → IsItemAt xs i r → option_copied r ≡ slice_get xs i
lent_at xs i None is = sym (slice_get_past xs i is.3)
lent_at xs i (Some x) is = sym (slice_get_read xs (length xs) i x.now refl is.3.0 is.1)

-- ---- all elements

pub all_front : {A : Type 0} (P : A → Type 0) (xs ys : List A) → AllByRecursion P (xs ++ ys) → AllByRecursion P xs
all_front P [] ys h = tt
all_front P (x ∷ xs) ys h = (h.0, all_front P xs ys h.1)

pub all_back : {A : Type 0} (P : A → Type 0) (xs ys : List A) → AllByRecursion P (xs ++ ys) → AllByRecursion P ys
all_back P [] ys h = h
all_back P (x ∷ xs) ys h = all_back P xs ys h.1

pub all_joined : {A : Type 0} (P : A → Type 0) (xs ys : List A) → AllByRecursion P xs → AllByRecursion P ys → AllByRecursion P (xs ++ ys)
all_joined P [] ys h k = k
all_joined P (x ∷ xs) ys h k = (h.0, all_joined P xs ys h.1 k)

pub all_first : {A : Type 0} (P : A → Type 0) (xs ys zs : List A) → AllByRecursion P (xs ++ ys ++ zs) → AllByRecursion P xs
all_first P xs ys zs h = all_front P xs ys (all_front P (xs ++ ys) zs h)

pub all_second : {A : Type 0} (P : A → Type 0) (xs ys zs : List A) → AllByRecursion P (xs ++ ys ++ zs) → AllByRecursion P ys
all_second P xs ys zs h = all_back P xs ys (all_front P (xs ++ ys) zs h)

pub all_third : {A : Type 0} (P : A → Type 0) (xs ys zs : List A) → AllByRecursion P (xs ++ ys ++ zs) → AllByRecursion P zs
all_third P xs ys zs h = all_back P (xs ++ ys) zs h

pub all_three : {A : Type 0} (P : A → Type 0) (xs ys zs : List A) → AllByRecursion P xs → AllByRecursion P ys → AllByRecursion P zs → AllByRecursion P (xs ++ ys ++ zs)
all_three P xs ys zs h g f = all_joined P (xs ++ ys) zs (all_joined P xs ys h g) f

pub all_weaker : {A : Type 0} (P Q : A → Type 0) (xs : List A) → ((x : A) → P x → Q x) → AllByRecursion P xs → AllByRecursion Q xs
all_weaker P Q [] f h = tt
all_weaker P Q (x ∷ xs) f h = (f x h.0, all_weaker P Q xs f h.1)

pub all_unflat : {A B : Type 0} (P : B → Type 0) (f : A → List B) (xs : List A) → AllByRecursion P (flat_map f xs) → AllByRecursion (λ x. AllByRecursion P (f x)) xs
all_unflat P f [] h = tt
all_unflat P f (x ∷ xs) h = (all_front P (f x) (flat_map f xs) h, all_unflat P f xs (all_back P (f x) (flat_map f xs) h))

pub all_flat : {A B : Type 0} (P : B → Type 0) (f : A → List B) (xs : List A) → AllByRecursion (λ x. AllByRecursion P (f x)) xs → AllByRecursion P (flat_map f xs)
all_flat P f [] h = tt
all_flat P f (x ∷ xs) h = all_joined P (f x) (flat_map f xs) h.0 (all_flat P f xs h.1)

pub all_through : {A B : Type 0} (P : A → Type 0) (Q : B → Type 0) (f : A → List B) → ((x : A) → P x → AllByRecursion Q (f x)) → (xs : List A) → AllByRecursion P xs → AllByRecursion Q (flat_map f xs)
all_through P Q f each xs h = all_flat Q f xs (all_weaker P (λ x. AllByRecursion Q (f x)) xs each h)

pub all_unmapped : {A B : Type 0} (P : B → Type 0) (f : A → B) (xs : List A) → AllByRecursion P (map f xs) → AllByRecursion (λ x. P (f x)) xs
all_unmapped P f [] h = tt
all_unmapped P f (x ∷ xs) h = (h.0, all_unmapped P f xs h.1)

pub all_paired : {A : Type 0} (P Q : A → Type 0) (xs : List A) → AllByRecursion P xs → AllByRecursion Q xs → AllByRecursion (λ x. P x × Q x) xs
all_paired P Q [] h k = tt
all_paired P Q (x ∷ xs) h k = ((h.0, k.0), all_paired P Q xs h.1 k.1)

pub all_by_place : {A : Type 0} (P : A → Type 0) (xs : List A) → ((k : ℕ) (x : A) → slice_get xs k ≡ Some x → P x) → AllByRecursion P xs
all_by_place P [] h = tt
all_by_place P (x ∷ xs) h = (h 0 x refl, all_by_place P xs (λ k y at. h (suc k) y at))

pub holds_at : {A : Type 0} (P : A → Type 0) (xs : List A) (k : ℕ) (x : A) → slice_get xs k ≡ Some x → AllByRecursion P xs → P x
holds_at P [] k x e h = cc
holds_at P (y ∷ ys) zero x e h = let f : y ≡ x = cc in subst P f h.0
holds_at P (y ∷ ys) (suc k) x e h = holds_at P ys k x e h.1

pub all_kept : {A : Type 0} (P : A → Type 0) (p : A → Bool) (xs : List A) → AllByRecursion P xs → AllByRecursion P (filter p xs)
all_kept P p [] h = tt
all_kept P p (x ∷ xs) h = by_test (p x) (all_kept P p xs h.1)
  where
    by_test : (b : Bool) → AllByRecursion P (filter p xs) → AllByRecursion P (cond b (x ∷ filter p xs) (filter p xs))
    by_test true rest = (h.0, rest)
    by_test false rest = rest

-- ---- what is found

pub find_front : {A : Type 0} (p : A → Bool) (xs ys : List A) (x : A) → find p xs ≡ Some x → find p (xs ++ ys) ≡ Some x
find_front p [] ys x e = absurd (none-some x e)
find_front p (y ∷ xs) ys x e = by_test (p y) e (find_front p xs ys x)
  where
    by_test : (b : Bool) → (if b then Some y else find p xs) ≡ Some x → (find p xs ≡ Some x → find p (xs ++ ys) ≡ Some x) → (if b then Some y else find p (xs ++ ys)) ≡ Some x
    by_test true f rest = f
    by_test false f rest = rest f

pub found_passes : {A : Type 0} (p : A → Bool) (xs : List A) (y : A) → find p xs ≡ Some y → p y ≡ true
found_passes p [] y e = absurd (none-some y e)
found_passes p (x ∷ xs) y e = by_test (p x) refl e (found_passes p xs y)
  where
    by_test : (b : Bool) → p x ≡ b → (if b then Some x else find p xs) ≡ Some y → (find p xs ≡ Some y → p y ≡ true) → p y ≡ true
    by_test true f g rest = ap p (sym (some_same g)) ∙ f
    by_test false f g rest = rest g

pub found_none : {A : Type 0} (p : A → Bool) (xs : List A) → AllByRecursion (λ x. p x ≡ false) xs → find p xs ≡ None
found_none p [] h = refl
found_none p (x ∷ xs) h = ap (λ b. if b then Some x else find p xs) h.0 ∙ found_none p xs h.1

pub found_some : {A : Type 0} (p : A → Bool) (xs : List A) (k : ℕ) (x : A) → slice_get xs k ≡ Some x → p x ≡ true → (y : A) × (find p xs ≡ Some y)
found_some p [] k x e h = absurd (none-some x e)
found_some {A} p (y ∷ xs) zero x e h = (y, ap (λ b. if b then Some y else find p xs) (subst (λ z. p z ≡ true) (sym (some_same e)) h))
found_some {A} p (y ∷ xs) (suc k) x e h = by_test (p y) (found_some p xs k x e h)
  where
    by_test : (b : Bool) → (z : A) × (find p xs ≡ Some z) → (z : A) × ((if b then Some y else find p xs) ≡ Some z)
    by_test true r = (y, refl)
    by_test false r = r

-- what is found has a first place
found_at_from : {A : Type 0} (p : A → Bool) (i : ℕ) (xs : List A) (y : A) → find p xs ≡ Some y → (j : ℕ) × (position_from p i xs ≡ Some (i + j)) × (slice_get xs j ≡ Some y)
found_at_from p i [] y e = absurd (none-some y e)
found_at_from {A = A} p i (x ∷ xs) y e = by_test (p x) e (found_at_from p (i + 1) xs y)
  where
    by_test : (b : Bool) → (if b then Some x else find p xs) ≡ Some y → (find p xs ≡ Some y → (j : ℕ) × (position_from p (i + 1) xs ≡ Some ((i + 1) + j)) × (slice_get xs j ≡ Some y)) →
        (j : ℕ) × (cond b (Some i) (position_from p (i + 1) xs) ≡ Some (i + j)) × (slice_get (x ∷ xs) j ≡ Some y)
    by_test true f rest = let z : i ≡ i + 0 = omega arith in (0, ap Some z, f)
    by_test false f rest = let h = rest f in let z : (i + 1) + h.0 ≡ i + suc h.0 = omega arith in (suc h.0, h.1 ∙ ap Some z, h.2)

pub found_at : {A : Type 0} (p : A → Bool) (xs : List A) (y : A) → find p xs ≡ Some y → (j : ℕ) × (position p xs ≡ Some j) × (slice_get xs j ≡ Some y)
found_at p xs y e = let h = found_at_from p 0 xs y e in let z : 0 + h.0 ≡ h.0 = omega arith in (h.0, position_from-zero p xs ∙ h.1 ∙ ap Some z, h.2)

-- ---- texts

pub texts_differ : (a b : List ℕ) → bytes_eq a b ≡ false → a ≡ b → ⊥
texts_differ a b h e = true≢false (sym ((bytes_eq-Decides a b).1 e) ∙ h)

-- a byte is tested with those after it
pub every-more : (go : ℕ → List ℕ → Bool) (xs : List ℕ) (n : ℕ) → n < length xs → go (get_or xs n 0) (drop (n + 1) xs) ≡ true → every go (drop (n + 1) xs) ≡ every go (drop n xs)
every-more go xs n lt h =
    sym (at_drop_more (every go) xs n 0 lt ∙ ap (λ b. b && every go (drop (n + 1) xs)) h)

pub every-no : (go : ℕ → List ℕ → Bool) (xs : List ℕ) (n : ℕ) → n < length xs → go (get_or xs n 0) (drop (n + 1) xs) ≡ false → every go (drop n xs) ≡ false
every-no go xs n lt h = at_drop_more (every go) xs n 0 lt ∙ ap (λ b. b && every go (drop (n + 1) xs)) h
