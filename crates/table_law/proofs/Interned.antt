-- Texts that are interned, one after the other, and their ids.
use Rattle.std.proofs.Common.{◌≡◌, ℕ, suc, ◌+◌, ◌<◌, Bool, true, false, ◌||◌, not, cond, nat_lt, List, [], ◌∷◌, ◌++◌, length, take, map, get_or, slice_get, fold, Some, None, unwrap_or, true≢false, refl, sym, ap, ◌∙◌, subst, arith}
use Rattle.std.specs.List.{list_any, position_or_len, AllByRecursion}
use Rattle.std.specs.Str.{bytes_eq}
use Rattle.std.proofs.lemmas.List.{take_more, map-append}
use Rattle.std.proofs.lemmas.List.Folds.{list_any-append}
use Rattle.std.proofs.lemmas.List.Sums.{fold-append, position_or_len_is}
use Rattle.std.proofs.lemmas.Option.{slice_get_within, slice_get-get_or, get_or_from_slice_get}
use Rattle.std.proofs.lemmas.Slice.Eq.{bytes_eq-Decides}
use Rattle.common_lemmas.proofs.Numbers.{lt_true}
use Rattle.common_lemmas.proofs.Truth.{or_true}
use Rattle.ada_tree.specs.declared.naming.NameId.{NameId}
use Rattle.ada_tree.specs.NameList.{AreNames, interned}
use Rattle.ada_tree.proofs.Interning.{interned-there, interned-new}
use Rattle.normal_model.specs.Names.{id_of}

-- the text is among the names
abbrev pub Has : List (List ℕ) → List ℕ → Type 0
Has names t = list_any (bytes_eq t) names ≡ true

-- ---- texts that are there

pub has-self : (names : List (List ℕ)) (t : List ℕ) → Has (interned names t) t
has-self names t = by (list_any (bytes_eq t) names) refl
  where
    by : (b : Bool) → list_any (bytes_eq t) names ≡ b → Has (interned names t) t
    by true e = ap (list_any (bytes_eq t)) (interned-there names t e) ∙ e
    by false e =
        ap (list_any (bytes_eq t)) (interned-new names t e) ∙ list_any-append (bytes_eq t) names (t ∷ [])
        ∙ ap (λ b. list_any (bytes_eq t) names || (b || false)) ((bytes_eq-Decides t t).1 refl) ∙ or_true (list_any (bytes_eq t) names)

pub has-more : (names : List (List ℕ)) (t u : List ℕ) → Has names t → Has (interned names u) t
has-more names t u h = by (list_any (bytes_eq u) names) refl
  where
    by : (b : Bool) → list_any (bytes_eq u) names ≡ b → Has (interned names u) t
    by true e = ap (list_any (bytes_eq t)) (interned-there names u e) ∙ h
    by false e = ap (list_any (bytes_eq t)) (interned-new names u e) ∙ list_any-append (bytes_eq t) names (u ∷ []) ∙ ap (λ b. b || list_any (bytes_eq t) (u ∷ [])) h

pub has-fold : (us names : List (List ℕ)) (t : List ℕ) → Has names t → Has (fold interned names us) t
has-fold [] names t h = h
has-fold (u ∷ us) names t h = has-fold us (interned names u) t (has-more names t u h)

-- all texts that were interned are there
pub all-there : (us names : List (List ℕ)) → AllByRecursion (Has (fold interned names us)) us
all-there [] names = tt
all-there (u ∷ us) names = (has-fold us (interned names u) u (has-self names u), all-there us (interned names u))

-- those too that were interned in front of others
pub first-there : (us vs names : List (List ℕ)) → AllByRecursion (Has (fold interned names (us ++ vs))) us
first-there us vs names = subst (λ ns. AllByRecursion (Has ns) us) (sym (fold-append interned names us vs)) (kept us (all-there us names))
  where
    kept : (ts : List (List ℕ)) → AllByRecursion (Has (fold interned names us)) ts → AllByRecursion (Has (fold interned (fold interned names us) vs)) ts
    kept [] there = tt
    kept (t ∷ ts) there = (has-fold vs (fold interned names us) t there.0, kept ts there.1)

-- where texts that are there are interned again, the names stay as they are
pub none-new : (ts names : List (List ℕ)) → AllByRecursion (Has names) ts → fold interned names ts ≡ names
none-new [] names there = refl
none-new (t ∷ ts) names there = ap (λ ns. fold interned ns ts) (interned-there names t there.0) ∙ none-new ts names there.1

-- ---- ids

-- the first place of what passes, of a list whose first element passes or not
abbrev Stays : {X : Type 0} → (X → Bool) → List X → List X → Bool → Type 0
Stays p xs ys b =
    (cond (not b) (1 + position_or_len p (xs ++ ys)) 0 ≡ cond (not b) (1 + position_or_len p xs) 0)
    × (cond (not b) (1 + position_or_len p xs) 0 < suc (length xs)) × (cond (not b) (1 + position_or_len p xs) 0 < suc (length (xs ++ ys)))

-- it is the same where more follows
pub place-longer : {X : Type 0} (p : X → Bool) (xs ys : List X) → list_any p xs ≡ true → (position_or_len p (xs ++ ys) ≡ position_or_len p xs) × (position_or_len p xs < length xs) × (position_or_len p xs < length (xs ++ ys))
place-longer p [] ys h = absurd (true≢false (sym h))
place-longer p (x ∷ xs) ys h = by (p x) refl h (place-longer p xs ys)
  where
    by :
        (b : Bool) → p x ≡ b → (b || list_any p xs) ≡ true →
        (list_any p xs ≡ true → (position_or_len p (xs ++ ys) ≡ position_or_len p xs) × (position_or_len p xs < length xs) × (position_or_len p xs < length (xs ++ ys))) →
        Stays p xs ys (p x)
    by true e any later = subst (Stays p xs ys) (sym e) (refl, omega arith, omega arith)
    by false e any later = let l = later any in subst (Stays p xs ys) (sym e) (ap (λ n. 1 + n) l.0, omega (arith, l.1), omega (arith, l.2))

-- the id at a place, where that is one of the names
abbrev found : ℕ → Bool → NameId
found n b = record { 0 = unwrap_or (cond b (Some n) None) 0 }

-- a text that is there keeps its id where more follows
pub id-longer : (names more : List (List ℕ)) (t : List ℕ) → Has names t → id_of (names ++ more) t ≡ id_of names t
id-longer names more t h =
    let l = place-longer (bytes_eq t) names more h in
    let place : ℕ = position_or_len (bytes_eq t) names in
    let old : nat_lt place (length names) ≡ true = lt_true place (length names) l.1 in
    let new : nat_lt place (length (names ++ more)) ≡ true = lt_true place (length (names ++ more)) l.2 in
    let first : id_of (names ++ more) t ≡ found place true = ap (λ (n : ℕ). found n (nat_lt n (length (names ++ more)))) l.0 ∙ ap (found place) new in
    let same : found place true ≡ id_of names t = ap (found place) (sym old) in
    first ∙ same

-- and where another one is interned
pub id-stays : (names : List (List ℕ)) (t u : List ℕ) → Has names t → id_of (interned names u) t ≡ id_of names t
id-stays names t u h = by (list_any (bytes_eq u) names) refl
  where
    by : (b : Bool) → list_any (bytes_eq u) names ≡ b → id_of (interned names u) t ≡ id_of names t
    by true e = ap (λ ns. id_of ns t) (interned-there names u e)
    by false e = ap (λ ns. id_of ns t) (interned-new names u e) ∙ id-longer names (u ∷ []) t h

ids-stay : (ts names : List (List ℕ)) (u : List ℕ) → AllByRecursion (Has names) ts → map (id_of (interned names u)) ts ≡ map (id_of names) ts
ids-stay [] names u h = refl
ids-stay (t ∷ ts) names u h = λ i. id-stays names t u h.0 i ∷ ids-stay ts names u h.1 i

-- the id of a text is its place
pub id-is : (names : List (List ℕ)) (t : List ℕ) (i : ℕ) → AreNames names → slice_get names i ≡ Some t → id_of names t ≡ record { 0 = i }
id-is names t i are there =
    let within : i < length names = slice_get_within names i t there in
    let place : position_or_len (bytes_eq t) names ≡ i =
    position_or_len_is (bytes_eq t) names i [] (omega (arith, within)) (λ k l. earlier k l (bytes_eq t (get_or names k [])) refl) (λ l. (bytes_eq-Decides t (get_or names i [])).1 (sym (get_or_from_slice_get names i t [] there))) in
    let inside : nat_lt i (length names) ≡ true = lt_true i (length names) within in
    ap (λ (n : ℕ). found n (nat_lt n (length names))) place ∙ ap (found i) inside
  where
    earlier : (k : ℕ) → k < i → (b : Bool) → bytes_eq t (get_or names k []) ≡ b → bytes_eq t (get_or names k []) ≡ false
    earlier k l false e = e
    earlier k l true e =
        let within : i < length names = slice_get_within names i t there in
        let same : t ≡ get_or names k [] = (bytes_eq-Decides t (get_or names k [])).0 e in
        let here : slice_get names k ≡ Some t = slice_get-get_or names k [] (omega (arith, l, within)) ∙ ap Some (sym same) in
        let one : k ≡ i = are.distinct t k i here there in absurd (omega (arith, l, one))

-- ---- one text more of a list

-- the names
pub texts-more :
    {X : Type 0} (h : X → List ℕ) (names : List (List ℕ)) (xs : List X) (i : ℕ) (d : X) (now after : List (List ℕ)) →
    i < length xs →
    now ≡ fold interned names (map h (take i xs)) →
    after ≡ interned now (h (get_or xs i d)) →
    after ≡ fold interned names (map h (take (i + 1) xs))
texts-more h names xs i d now after lt so_far step =
    step ∙ ap (λ us. interned us (h (get_or xs i d))) so_far
    ∙ sym (ap (λ us. fold interned names (map h us)) (take_more xs i d lt) ∙ ap (fold interned names) (map-append h (take i xs) (get_or xs i d ∷ [])) ∙ fold-append interned names (map h (take i xs)) (h (get_or xs i d) ∷ []))

-- the ids
pub ids-more :
    {X : Type 0} (h : X → List ℕ) (names : List (List ℕ)) (xs : List X) (i : ℕ) (d : X) (now after : List (List ℕ)) (ids : List NameId) (id : NameId) →
    i < length xs →
    now ≡ fold interned names (map h (take i xs)) →
    after ≡ interned now (h (get_or xs i d)) →
    ids ≡ map (λ x. id_of now (h x)) (take i xs) →
    id ≡ id_of after (h (get_or xs i d)) →
    ids ++ id ∷ [] ≡ map (λ x. id_of after (h x)) (take (i + 1) xs)
ids-more h names xs i d now after ids id lt so_far step before its =
    let there : AllByRecursion (Has now) (map h (take i xs)) = subst (λ ns. AllByRecursion (Has ns) (map h (take i xs))) (sym so_far) (all-there (map h (take i xs)) names) in
    let same : map (id_of after) (map h (take i xs)) ≡ map (id_of now) (map h (take i xs)) = ap (λ ns. map (id_of ns) (map h (take i xs))) step ∙ ids-stay (map h (take i xs)) now (h (get_or xs i d)) there in
    (λ j. (before ∙ sym (two (id_of now) (take i xs)) ∙ sym same ∙ two (id_of after) (take i xs)) j ++ its j ∷ [])
    ∙ sym (ap (map (λ x. id_of after (h x))) (take_more xs i d lt) ∙ map-append (λ x. id_of after (h x)) (take i xs) (get_or xs i d ∷ []))
  where
    two : (f : List ℕ → NameId) (ys : List _) → map f (map h ys) ≡ map (λ y. f (h y)) ys
    two f [] = refl
    two f (y ∷ ys) = ap (λ zs. f (h y) ∷ zs) (two f ys)
