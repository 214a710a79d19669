-- The names of the program: those of the producers are new, one after the other; each id has its text; and each text may be declared. What is asked of the producers' texts is computed, since there are at most a hundred.
use Rattle.std.proofs.Common.{◌≡◌, ℕ, ◌+◌, ◌-◌, ◌<◌, ◌≤◌, Bool, true, false, not, List, [], ◌∷◌, ◌++◌, length, Some, map, option_map, unwrap_or, slice_get, get_or, suc, subst, if◌then◌else◌, refl, sym, ap, arith, ◌∙◌}
use Rattle.std.specs.Prelude.{codes, nat_lt}
use Rattle.std.specs.List.{range_with_len, list_all, list_any}
use Rattle.std.specs.Str.{bytes_eq}
use Rattle.std.specs.Fmt.{digits}
use Rattle.std.proofs.lemmas.List.FromFn.{map-range_with_len_more, get_or-range_with_len, length-range_with_len}
use Rattle.std.proofs.lemmas.Option.{slice_get-get_or, slice_get-map}
use Rattle.ada_tree.specs.NameList.{predefined, interned}
use Rattle.syn_event.specs.DeclaredTasks.{text_of}
use Rattle.syn_event.specs.RuleReservedName.{is_reserved}
use Rattle.load_gen.specs.LoadTree.{producer_text, load_names}
use Rattle.load_gen.proofs.Ranges.{at_number}

-- the text of the next producer's name is not there
abbrev pub is_new : ℕ → Bool
is_new k = not (list_any (bytes_eq (producer_text (k + 1))) (load_names k))

are_new : list_all is_new (range_with_len 0 100) ≡ true
unfolding digits
are_new = refl

-- so it goes behind the others
interned_false : (names : List (List ℕ)) (text : List ℕ) → not (list_any (bytes_eq text) names) ≡ true → interned names text ≡ names ++ text ∷ []
interned_false names text h = by_test (list_any (bytes_eq text) names) h
  where
    by_test : (b : Bool) → not b ≡ true → (if b then names else names ++ text ∷ []) ≡ names ++ text ∷ []
    by_test true e = cc
    by_test false e = refl

load_names-more : (k : ℕ) → load_names k ++ producer_text (k + 1) ∷ [] ≡ load_names (k + 1)
load_names-more k = ap (λ xs. predefined ++ (codes "LOAD" ∷ codes "B" ∷ codes "X" ∷ codes "S" ∷ codes "J" ∷ xs)) (sym (map-range_with_len_more producer_text 1 k (k + 1) (omega arith)))

pub next_names : (k : ℕ) (names : List (List ℕ)) (text : List ℕ) → k < 100 → names ≡ load_names k → text ≡ producer_text (k + 1) → interned names text ≡ load_names (k + 1)
next_names k names text lt e f =
    let new : is_new k ≡ true = at_number is_new 0 100 k are_new (omega arith) (omega arith) in
    let step : interned (load_names k) (producer_text (k + 1)) ≡ load_names (k + 1) = interned_false (load_names k) (producer_text (k + 1)) new ∙ load_names-more k in
    ap (λ xs. interned xs text) e ∙ ap (interned (load_names k)) f ∙ step

-- ---- the texts of the ids

behind_front : {X : Type 0} (xs ys : List X) (i : ℕ) → slice_get (xs ++ ys) (length xs + i) ≡ slice_get ys i
behind_front [] ys i = let e : 0 + i ≡ i = omega arith in rw e refl
behind_front (x ∷ xs) ys i =
    let e : suc (length xs + i) ≡ length (x ∷ xs) + i = omega arith in
    subst (λ m. slice_get (x ∷ (xs ++ ys)) m ≡ slice_get ys i) e (behind_front xs ys i)

-- the names in front of the producers'
abbrev front_names : List (List ℕ)
front_names = predefined ++ (codes "LOAD" ∷ codes "B" ∷ codes "X" ∷ codes "S" ∷ codes "J" ∷ [])

pub producer_there : (n j : ℕ) → 1 ≤ j → j ≤ n → slice_get (load_names n) (29 + j) ≡ Some (producer_text j)
producer_there n j lo hi =
    let place : length front_names + (j - 1) ≡ 29 + j = omega arith in
    let within : j - 1 < length (range_with_len 1 n) = omega (arith, length-range_with_len 1 n) in
    let number : get_or (range_with_len 1 n) (j - 1) 0 ≡ j = get_or-range_with_len 1 n (j - 1) 0 (omega arith) ∙ omega arith in
    subst (λ m. slice_get (load_names n) m ≡ Some (producer_text j)) place
    (behind_front front_names (map producer_text (range_with_len 1 n)) (j - 1)
    ∙ slice_get-map producer_text (range_with_len 1 n) (j - 1)
    ∙ ap (option_map producer_text) (slice_get-get_or (range_with_len 1 n) (j - 1) 0 within ∙ ap Some number))

-- ---- what may be declared

-- a name that an original may declare
pub record IsFine (names : List (List ℕ)) (id : ℕ) : Type 0 where
  pub free : is_reserved (text_of names record { 0 = id }) ≡ false
  pub short : nat_lt 120 (0 + length (text_of names record { 0 = id })) ≡ false

abbrev is_free : ℕ → Bool
is_free k = not (is_reserved (producer_text k))

are_free : list_all is_free (range_with_len 1 100) ≡ true
unfolding digits
are_free = refl

abbrev is_short : ℕ → Bool
is_short k = not (nat_lt 120 (0 + length (producer_text k)))

are_short : list_all is_short (range_with_len 1 100) ≡ true
unfolding digits
are_short = refl

not_true : (b : Bool) → not b ≡ true → b ≡ false
not_true true e = cc
not_true false e = refl

pub producer-fine : (n j : ℕ) → n ≤ 100 → 1 ≤ j → j ≤ n → IsFine (load_names n) (29 + j)
producer-fine n j le lo hi =
    let free : is_reserved (producer_text j) ≡ false = not_true (is_reserved (producer_text j)) (at_number is_free 1 100 j are_free lo (omega arith)) in
    let short : nat_lt 120 (0 + length (producer_text j)) ≡ false = not_true (nat_lt 120 (0 + length (producer_text j))) (at_number is_short 1 100 j are_short lo (omega arith)) in
    let text : text_of (load_names n) record { 0 = 29 + j } ≡ producer_text j = ap (λ o. unwrap_or o []) (producer_there n j lo hi) in
    record { free = rw text free; short = rw text short }
