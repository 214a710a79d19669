-- Lemmas on lists of texts: how a text is found in the set of the code, and what is true of the names after one is interned.
use Rattle.std.proofs.Common.{◌≡◌, ℕ, zero, suc, ◌+◌, ◌<◌, ◌≤◌, ◌^◌, Bool, true, false, ◌||◌, cond, List, [], ◌∷◌, ◌++◌, length, map, take, Some, option_map, slice_get, position, true≢false, refl, sym, ap, ◌∙◌, ◌⊎◌, inl, inr, arith, length-append, lit≤, not, ◌&&◌, fold, get_or}
use Rattle.std.specs.List.{list_any}
use Rattle.std.specs.Str.{bytes_eq}
use Rattle.std.proofs.lemmas.Slice.Eq.{bytes_eq-Decides}
use Rattle.std.proofs.lemmas.List.Quantifiers.{position-Some}
use Rattle.std.proofs.lemmas.List.{take-append-le, length-take, map-append, take_more, append-nil, append_assoc}
use Rattle.std.proofs.lemmas.List.Sums.{fold-append}
use Rattle.std.proofs.lemmas.Option.{slice_get-map, slice_get-get_or, slice_get_read, slice_get_within}
use Rattle.std.proofs.Math.Seq.{get_or-append_seam}
use Rattle.indexmap.specs.IndexSet.{insert_key}
use Rattle.ada_tree.specs.NameList.{predefined, AreNames, interned}

-- a test of the texts is a test of the keys
pub list_any-map : {K : Type 0} (p : List ℕ → Bool) (g : K → List ℕ) (ks : List K) → list_any p (map g ks) ≡ list_any (λ k. p (g k)) ks
list_any-map p g [] = refl
list_any-map p g (k ∷ ks) = ap (λ b. p (g k) || b) (list_any-map p g ks)

-- the key at the place that a search gives passes the test
found_at : {K : Type 0} (p : K → Bool) (ks : List K) (i : ℕ) → position p ks ≡ Some i → (k : K) × (slice_get ks i ≡ Some k) × (p k ≡ true)
found_at p [] i h = cc
found_at p (k ∷ ks) i h =
    let f = position-Some p (k ∷ ks) i k h in
    (_, slice_get-get_or (k ∷ ks) i k f.0, f.1)

-- the text at the place that a search for it gives
pub found_text : {K : Type 0} (g : K → List ℕ) (t : List ℕ) (ks : List K) (i : ℕ) → position (λ k. bytes_eq t (g k)) ks ≡ Some i → slice_get (map g ks) i ≡ Some t
found_text g t ks i h =
    let f = found_at (λ k. bytes_eq t (g k)) ks i h in
    slice_get-map g ks i ∙ ap (option_map g) f.1 ∙ ap Some (sym ((bytes_eq-Decides t (g f.0)).0 f.2))

-- a text that no test finds is nowhere
pub nowhere : (t : List ℕ) (ts : List (List ℕ)) (i : ℕ) → list_any (bytes_eq t) ts ≡ false → slice_get ts i ≡ Some t → ⊥
nowhere t [] i none at = cc
nowhere t (u ∷ ts) zero none at =
    let e : u ≡ t = cc in
    let same : bytes_eq t u ≡ true = (bytes_eq-Decides t u).1 (sym e) in
    true≢false (sym (ap (λ b. b || list_any (bytes_eq t) ts) same) ∙ none)
nowhere t (u ∷ ts) (suc i) none at = nowhere t ts i (tail (bytes_eq t u) none) at
  where
    tail : (b : Bool) {c : Bool} → (b || c) ≡ false → c ≡ false
    tail true e = absurd (true≢false e)
    tail false e = e

-- what stands in a list with one more at its end
pub in_longer : (ts : List (List ℕ)) (t u : List ℕ) (i : ℕ) → slice_get (ts ++ t ∷ []) i ≡ Some u → (slice_get ts i ≡ Some u) ⊎ ((i ≡ length ts) × (t ≡ u))
in_longer [] t u zero at = inr (refl, cc)
in_longer [] t u (suc i) at = cc
in_longer (x ∷ ts) t u zero at = inl at
in_longer (x ∷ ts) t u (suc i) at =
    elim (in_longer ts t u i at) [ inl h ↦ inl h | inr h ↦ inr (omega (arith, h.0), h.1) ]

-- the names stay names where one is added that was not there
pub AreNames-added : (ts : List (List ℕ)) (t : List ℕ) → AreNames ts → list_any (bytes_eq t) ts ≡ false → length ts < 2 ^ 32 → AreNames (ts ++ t ∷ [])
AreNames-added ts t names none room = record {
  begins =
      let enough : length predefined ≤ length ts = omega (arith, ap length names.begins, length-take (length predefined) ts) in
      take-append-le (length predefined) ts (t ∷ []) enough ∙ names.begins;
  distinct = λ u i j at_i at_j. place u i j (in_longer ts t u i at_i) (in_longer ts t u j at_j);
  fits = omega (arith, length-append ts (t ∷ []));
}
  where
    place :
        (u : List ℕ) (i j : ℕ) →
        (slice_get ts i ≡ Some u) ⊎ ((i ≡ length ts) × (t ≡ u)) →
        (slice_get ts j ≡ Some u) ⊎ ((j ≡ length ts) × (t ≡ u)) →
        i ≡ j
    place u i j (inl a) (inl b) = names.distinct u i j a b
    place u i j (inl a) (inr b) = absurd (nowhere t ts i none (a ∙ ap Some (sym b.1)))
    place u i j (inr a) (inl b) = absurd (nowhere t ts j none (b ∙ ap Some (sym a.1)))
    place u i j (inr a) (inr b) = a.0 ∙ sym b.0

-- a text that is there is interned by no change, and another one goes last
pub interned-there : (ts : List (List ℕ)) (t : List ℕ) → list_any (bytes_eq t) ts ≡ true → interned ts t ≡ ts
interned-there ts t there = rw there

pub interned-new : (ts : List (List ℕ)) (t : List ℕ) → list_any (bytes_eq t) ts ≡ false → interned ts t ≡ ts ++ t ∷ []
interned-new ts t none = rw none

-- the texts of a set after a key is inserted
pub map-insert_key :
    {K : Type 0} (g : K → List ℕ) (t : List ℕ) (ks new : List K) (k : K) →
    g k ≡ t →
    new ≡ insert_key (λ x y. bytes_eq (g x) (g y)) ks k →
    map g new ≡ interned (map g ks) t
map-insert_key g t ks new k same is = ap (map g) is ∙ by (list_any (λ y. bytes_eq (g k) (g y)) ks) refl
  where
    by : (b : Bool) → list_any (λ y. bytes_eq (g k) (g y)) ks ≡ b → map g (insert_key (λ x y. bytes_eq (g x) (g y)) ks k) ≡ interned (map g ks) t
    by true e = ap (λ b. map g (cond b ks (ks ++ k ∷ []))) e ∙ sym (interned-there (map g ks) t (list_any-map (bytes_eq t) g ks ∙ ap (λ u. list_any (λ y. bytes_eq u (g y)) ks) (sym same) ∙ e))
    by false e =
        ap (λ b. map g (cond b ks (ks ++ k ∷ []))) e ∙ map-append g ks (k ∷ []) ∙ ap (λ u. map g ks ++ u ∷ []) same ∙
        sym (interned-new (map g ks) t (list_any-map (bytes_eq t) g ks ∙ ap (λ u. list_any (λ y. bytes_eq u (g y)) ks) (sym same) ∙ e))

-- one more text, interned behind the first i of a list
pub fold_one_more :
    {X : Type 0} (h : X → List ℕ) (xs : List X) (i : ℕ) (d : X) (ts : List (List ℕ)) →
    i < length xs →
    ts ≡ fold interned [] (map h (take i xs)) →
    interned ts (h (get_or xs i d)) ≡ fold interned [] (map h (take (i + 1) xs))
fold_one_more h xs i d ts lt so_far =
    ap (λ us. interned us (h (get_or xs i d))) so_far ∙
    sym (ap (λ us. fold interned [] (map h us)) (take_more xs i d lt) ∙ ap (fold interned []) (map-append h (take i xs) (get_or xs i d ∷ [])) ∙ fold-append interned [] (map h (take i xs)) (h (get_or xs i d) ∷ []))

-- a text that a test finds has a place
somewhere : (t : List ℕ) (ts : List (List ℕ)) → list_any (bytes_eq t) ts ≡ true → (i : ℕ) × (slice_get ts i ≡ Some t)
somewhere t [] there = absurd (true≢false (sym there))
somewhere t (u ∷ ts) there = by (bytes_eq t u) refl (somewhere t ts)
  where
    by : (b : Bool) → bytes_eq t u ≡ b → (list_any (bytes_eq t) ts ≡ true → (i : ℕ) × (slice_get ts i ≡ Some t)) → (i : ℕ) × (slice_get (u ∷ ts) i ≡ Some t)
    by true e later = (0, ap Some (sym ((bytes_eq-Decides t u).0 e)))
    by false e later = let f = later (sym (ap (λ b. b || list_any (bytes_eq t) ts) e) ∙ there) in (suc f.0, f.1)

-- what stands in a list stands there too where more follows
slice_get-longer : {X : Type 0} (xs ys : List X) (x : X) (i : ℕ) → slice_get xs i ≡ Some x → slice_get (xs ++ ys) i ≡ Some x
slice_get-longer [] ys x i at = cc
slice_get-longer (y ∷ xs) ys x zero at = at
slice_get-longer (y ∷ xs) ys x (suc i) at = slice_get-longer xs ys x i at

-- what stands between a front and the rest has the place of the front's length
pub seam : (ts us : List (List ℕ)) (u : List ℕ) → slice_get (ts ++ u ∷ us) (length ts) ≡ Some u
seam ts us u = slice_get_read (ts ++ u ∷ us) _ (length ts) u refl (omega (arith, length-append ts (u ∷ us))) (sym (get_or-append_seam ts u us u))

-- interning all texts of a list in which none stands twice gives that list
pub fold_distinct :
    (ts us : List (List ℕ)) →
    ((t : List ℕ) (i j : ℕ) → slice_get (ts ++ us) i ≡ Some t → slice_get (ts ++ us) j ≡ Some t → i ≡ j) →
    fold interned ts us ≡ ts ++ us
fold_distinct ts [] distinct = sym (append-nil ts)
fold_distinct ts (u ∷ us) distinct =
    ap (λ vs. fold interned vs us) (interned-new ts u (none (list_any (bytes_eq u) ts) refl)) ∙
    fold_distinct (ts ++ u ∷ []) us (λ t i j. rw append_assoc (distinct t i j)) ∙
    append_assoc ts (u ∷ []) us
  where
    at_seam : slice_get (ts ++ u ∷ us) (length ts) ≡ Some u
    at_seam = seam ts us u

    none : (b : Bool) → list_any (bytes_eq u) ts ≡ b → list_any (bytes_eq u) ts ≡ false
    none false e = e
    none true e =
        let f = somewhere u ts e in
        let here : f.0 ≡ length ts = distinct u f.0 (length ts) (slice_get-longer ts (u ∷ us) u f.0 f.1) at_seam in
        let inside : f.0 < length ts = slice_get_within ts f.0 u f.1 in
        absurd (omega arith)

-- whether no text of a list stands twice
abbrev all_differ : List (List ℕ) → Bool
all_differ [] = true
all_differ (t ∷ ts) = not (list_any (bytes_eq t) ts) && all_differ ts

split : (u : List ℕ) (ts : List (List ℕ)) → all_differ (u ∷ ts) ≡ true → (list_any (bytes_eq u) ts ≡ false) × (all_differ ts ≡ true)
split u ts h = by (list_any (bytes_eq u) ts) (all_differ ts) h
  where
    by : (b c : Bool) → (not b && c) ≡ true → (b ≡ false) × (c ≡ true)
    by true c e = absurd (true≢false (sym e))
    by false c e = (refl, e)

differ : (ts : List (List ℕ)) → all_differ ts ≡ true → (t : List ℕ) (i j : ℕ) → slice_get ts i ≡ Some t → slice_get ts j ≡ Some t → i ≡ j
differ [] h t i j at_i at_j = cc
differ (u ∷ ts) h t zero zero at_i at_j = refl
differ (u ∷ ts) h t zero (suc j) at_i at_j = absurd (nowhere u ts j (split u ts h).0 (at_j ∙ sym at_i))
differ (u ∷ ts) h t (suc i) zero at_i at_j = absurd (nowhere u ts i (split u ts h).0 (at_i ∙ sym at_j))
differ (u ∷ ts) h t (suc i) (suc j) at_i at_j = ap suc (differ ts (split u ts h).1 t i j at_i at_j)

-- the predefined names are names
pub AreNames-predefined : AreNames predefined
AreNames-predefined = record { begins = refl; distinct = differ predefined refl; fits = lit≤ tt }
