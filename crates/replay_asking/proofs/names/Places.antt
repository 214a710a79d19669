-- Lemmas on looking for a text: where it stands among names, and what a list begins with.
use Rattle.std.proofs.Common.{◌≡◌, ℕ, zero, suc, ◌+◌, ◌<◌, ◌≤◌, Bool, true, false, cond, List, [], ◌∷◌, ◌++◌, length, take, get_or, map, fold, Some, None, slice_get, position, unwrap_or, nat_lt, Result, Ok, Err, OnOk, refl, sym, ap, ◌∙◌, arith}
use Rattle.std.specs.List.{list_any, position_or_len}
use Rattle.std.specs.Str.{bytes_eq}
use Rattle.std.proofs.lemmas.List.{length-take, take-append-le, take_all, take_more, map-append}
use Rattle.std.proofs.lemmas.List.Sums.{position_or_len_is, fold-append}
use Rattle.std.proofs.lemmas.Option.{slice_get_within, slice_get-get_or, get_or_from_slice_get}
use Rattle.std.proofs.lemmas.Slice.Eq.{bytes_eq-Decides}
use Rattle.std.proofs.lemmas.Bool.Decides.{nat_tests}
use Rattle.ada_tree.specs.declared.shortage.Memory.{Memory}
use Rattle.ada_tree.specs.NameList.{AreNames, interned}
use Rattle.ada_tree.proofs.Interning.{interned-there, interned-new}

-- ---- what a list begins with

-- what stands at a place of the first so many
pub slice_get-take : {X : Type 0} (xs : List X) (n i : ℕ) → i < n → slice_get (take n xs) i ≡ slice_get xs i
slice_get-take [] zero i h = refl
slice_get-take [] (suc n) i h = refl
slice_get-take (x ∷ xs) zero i h = absurd (omega arith)
slice_get-take (x ∷ xs) (suc n) zero h = refl
slice_get-take (x ∷ xs) (suc n) (suc i) h = slice_get-take xs n i (omega arith)

-- names still begin with some where one text more is interned
pub take-interned : (all ts : List (List ℕ)) (t : List ℕ) → take (length ts) all ≡ ts → take (length ts) (interned all t) ≡ ts
take-interned all ts t begins = by (list_any (bytes_eq t) all) refl
  where
    by : (b : Bool) → list_any (bytes_eq t) all ≡ b → take (length ts) (interned all t) ≡ ts
    by true e = ap (take (length ts)) (interned-there all t e) ∙ begins
    by false e =
        let enough : length ts ≤ length all = omega (arith, ap length begins, length-take (length ts) all) in
        ap (take (length ts)) (interned-new all t e) ∙ take-append-le (length ts) all (t ∷ []) enough ∙ begins

-- ---- where a text stands

-- a text that stands at a place of the names stands at no other place of those that they begin with
elsewhere :
    (all ts : List (List ℕ)) (t : List ℕ) (i k : ℕ) →
    AreNames all →
    take (length ts) all ≡ ts →
    slice_get all i ≡ Some t →
    k < length ts →
    (k ≡ i → ⊥) →
    bytes_eq t (get_or ts k []) ≡ false
elsewhere all ts t i k names begins at within other = by (bytes_eq t (get_or ts k [])) refl
  where
    by : (b : Bool) → bytes_eq t (get_or ts k []) ≡ b → bytes_eq t (get_or ts k []) ≡ false
    by false e = e
    by true e =
        let same : t ≡ get_or ts k [] = (bytes_eq-Decides t (get_or ts k [])).0 e in
        let there : slice_get ts k ≡ Some t = slice_get-get_or ts k [] within ∙ ap Some (sym same) in
        let here : slice_get all k ≡ Some t = sym (slice_get-take all (length ts) k within) ∙ ap (λ xs. slice_get xs k) begins ∙ there in
        absurd (other (names.distinct t k i here at))

-- the first place of a text, or the length where it is not there
pub first_place :
    (all ts : List (List ℕ)) (t : List ℕ) (i n : ℕ) →
    AreNames all →
    take (length ts) all ≡ ts →
    slice_get all i ≡ Some t →
    n ≤ i →
    n ≤ length ts →
    (n < length ts → n ≡ i) →
    position_or_len (bytes_eq t) ts ≡ n
first_place all ts t i n names begins at low high first =
    position_or_len_is (bytes_eq t) ts n [] high
    (λ k h. elsewhere all ts t i k names begins at (omega arith) (λ e. omega arith))
    (λ h. here h)
  where
    here : n < length ts → bytes_eq t (get_or ts n []) ≡ true
    here h =
        let there : slice_get ts n ≡ Some t = ap (λ xs. slice_get xs n) (sym begins) ∙ slice_get-take all (length ts) n h ∙ ap (slice_get all) (first h) ∙ at in
        (bytes_eq-Decides t (get_or ts n [])).1 (sym (get_or_from_slice_get ts n t [] there))

-- the id of a text that stands among the names, and that of one that does not
pub id_there :
    (all ts : List (List ℕ)) (t : List ℕ) (i : ℕ) →
    AreNames all → take (length ts) all ≡ ts → slice_get all i ≡ Some t → i < length ts → unwrap_or (position (bytes_eq t) ts) 0 ≡ i
id_there all ts t i names begins at within =
    let e : position_or_len (bytes_eq t) ts ≡ i = first_place all ts t i i names begins at (omega arith) (omega arith) (λ h. refl) in
    ap (λ n. unwrap_or (cond (nat_lt n (length ts)) (Some n) None) 0) e ∙ grind (arith, nat_tests)

pub id_nowhere :
    (all ts : List (List ℕ)) (t : List ℕ) (i : ℕ) →
    AreNames all → take (length ts) all ≡ ts → slice_get all i ≡ Some t → length ts ≤ i → unwrap_or (position (bytes_eq t) ts) 0 ≡ 0
id_nowhere all ts t i names begins at past =
    let e : position_or_len (bytes_eq t) ts ≡ length ts = first_place all ts t i (length ts) names begins at past (omega arith) (λ h. absurd (omega arith)) in
    ap (λ n. unwrap_or (cond (nat_lt n (length ts)) (Some n) None) 0) e ∙ grind (arith, nat_tests)

-- ---- texts that are interned, in order

-- one text more of a list
pub interned_more :
    {X : Type 0} (h : X → List ℕ) (zs : List (List ℕ)) (xs : List X) (i : ℕ) (d : X) (ts : List (List ℕ)) →
    i < length xs →
    ts ≡ fold interned zs (map h (take i xs)) →
    interned ts (h (get_or xs i d)) ≡ fold interned zs (map h (take (i + 1) xs))
interned_more h zs xs i d ts lt so_far =
    ap (λ us. interned us (h (get_or xs i d))) so_far ∙
    sym (ap (λ us. fold interned zs (map h us)) (take_more xs i d lt) ∙ ap (fold interned zs) (map-append h (take i xs) (get_or xs i d ∷ [])) ∙ fold-append interned zs (map h (take i xs)) (h (get_or xs i d) ∷ []))

-- one element more of a list that goes through a function
pub mapped_more :
    {X Y : Type 0} (h : X → Y) (xs : List X) (i : ℕ) (x : X) (ys : List Y) →
    slice_get xs i ≡ Some x →
    ys ≡ map h (take i xs) →
    ys ++ h x ∷ [] ≡ map h (take (i + 1) xs)
mapped_more h xs i x ys at so_far =
    let within = slice_get_within xs i x at in
    ap (λ us. us ++ h x ∷ []) so_far ∙
    sym (ap (map h) (take_more xs i x within) ∙ map-append h (take i xs) (get_or xs i x ∷ []) ∙ ap (λ y. map h (take i xs) ++ h y ∷ []) (get_or_from_slice_get xs i x x at))

-- the last element of a list that goes through a function, where that step went well
pub mapped_last :
    {X Y : Type 0} (h : X → Y) (xs : List X) (i : ℕ) (x : X) (ys new : List Y) (done : Result (Unit {0}) Memory) →
    length xs ≤ i + 1 →
    slice_get xs i ≡ Some x →
    ys ≡ map h (take i xs) →
    OnOk done (new ≡ ys ++ h x ∷ []) →
    OnOk done (new ≡ map h xs)
mapped_last h xs i x ys new (Err e) few at so_far put = tt
mapped_last h xs i x ys new (Ok u) few at so_far put = put ∙ mapped_more h xs i x ys at so_far ∙ ap (map h) (take_all (i + 1) xs few)
