-- No two entries of a replay text have one number.
use Rattle.std.proofs.Common.{◌≡◌, ℕ, zero, suc, ◌+◌, ◌-◌, ◌<◌, ◌≤◌, ◌==◌, nat_lt, Bool, true, false, if◌then◌else◌, List, [], ◌∷◌, length, ◌⊎◌, inl, inr, refl, sym, ap, ◌∙◌, subst, arith}
use Rattle.std.proofs.lemmas.Bool.Decides.{nat_tests}
use Rattle.std.proofs.lemmas.Bool.{cases_lt, eqb-true, eqb-false, ltb-true}
use Rattle.run_laws.specs.replaying.Copies.{Sort, AtOriginal, AtShadow, AtGo, AtDone, AtHold, AtJoin, AtNever, AtStop, AtRest}
use Rattle.replay_structure.specs.spots.Laws.{SpotsAreNumbered}
use Rattle.replay_structure.specs.spots.Places.{total, end_place, original_place, double_place, never_place, join_place, behind, last_sort, sort_at, bound, number_or, behind_all, sort_of}
use Rattle.common_lemmas.proofs.Numbers.{lt_false, lt_true, one_more, unequal_above, zero_more}
use Rattle.common_lemmas.proofs.Truth.{if_false, if_true}

-- ---- tests

yes-same : (m n : ℕ) → m ≡ n → (m == n) ≡ true
yes-same m n h = grind (arith, nat_tests)

pub not-less : (m n : ℕ) → nat_lt m n ≡ false → n ≤ m
not-less m n e = grind (arith, nat_tests)

-- ---- one task

module _ (k : ℕ) (ks : List ℕ) where
  at-own : (m : ℕ) → m < k → sort_at (k ∷ ks) m ≡ AtOriginal m
  at-own m h = if_true (nat_lt m k) _ _ (lt_true m k h)

  -- what is behind the task's own entries
  past-own : (m : ℕ) → k ≤ m → sort_at (k ∷ ks) m
      ≡ (if nat_lt m (k + k) then AtShadow (m - k) else if m == k + k then AtNever 0 else if m == k + k + 1 then AtJoin 0 else behind k (sort_at ks (m - (k + k + 2))))
  past-own m h = if_false (nat_lt m k) _ _ (lt_false m k h)

  at-double : (i : ℕ) → i < k → sort_at (k ∷ ks) (k + i) ≡ AtShadow i
  at-double i h = past-own (k + i) (omega arith) ∙ if_true (nat_lt (k + i) (k + k)) _ _ (lt_true (k + i) (k + k) (omega (arith, h))) ∙ ap AtShadow (let e : (k + i) - k ≡ i = omega arith in e)

  at-never : sort_at (k ∷ ks) (k + k) ≡ AtNever 0
  at-never =
      past-own (k + k) (omega arith) ∙ if_false (nat_lt (k + k) (k + k)) _ _ (lt_false (k + k) (k + k) (omega arith)) ∙ if_true ((k + k) == (k + k)) _ _ (yes-same (k + k) (k + k) refl)

  at-join : sort_at (k ∷ ks) (k + k + 1) ≡ AtJoin 0
  at-join =
      past-own (k + k + 1) (omega arith)
      ∙ if_false (nat_lt (k + k + 1) (k + k)) _ _ (lt_false (k + k + 1) (k + k) (omega arith))
      ∙ if_false ((k + k + 1) == (k + k)) _ _ (unequal_above (k + k + 1) (k + k) (omega arith))
      ∙ if_true ((k + k + 1) == (k + k + 1)) _ _ (yes-same (k + k + 1) (k + k + 1) refl)

  at-behind : (m : ℕ) → sort_at (k ∷ ks) ((k + k + 2) + m) ≡ behind k (sort_at ks m)
  at-behind m =
      let n = (k + k + 2) + m in
      past-own n (omega arith)
      ∙ if_false (nat_lt n (k + k)) _ _ (lt_false n (k + k) (omega arith))
      ∙ if_false (n == (k + k)) _ _ (unequal_above n (k + k) (omega arith))
      ∙ if_false (n == (k + k + 1)) _ _ (unequal_above n (k + k + 1) (omega arith))
      ∙ ap (λ j. behind k (sort_at ks j)) (let e : n - (k + k + 2) ≡ m = omega arith in e)

-- ---- all tasks

pub less-rest : (i k n : ℕ) → i < k + n → k ≤ i → i - k < n
less-rest i k n h l = omega (arith, h, l)

back : (i k : ℕ) → k ≤ i → k + (i - k) ≡ i
back i k l = omega (arith, l)

pub original-sort : (ks : List ℕ) (i : ℕ) → i < total ks → sort_at ks (original_place ks i) ≡ AtOriginal i
original-sort [] i h = absurd (omega (arith, h))
original-sort (k ∷ ks) i h = by_test (nat_lt i k) refl (original-sort ks (i - k))
  where
    by_test : (b : Bool) → nat_lt i k ≡ b → (i - k < total ks → sort_at ks (original_place ks (i - k)) ≡ AtOriginal (i - k)) → sort_at (k ∷ ks) (if b then i else (k + k + 2) + original_place ks (i - k)) ≡ AtOriginal i
    by_test true e later = at-own k ks i (ltb-true i k e)
    by_test false e later =
        at-behind k ks (original_place ks (i - k)) ∙ ap (behind k) (later (less-rest i k (total ks) h (not-less i k e))) ∙ ap AtOriginal (back i k (not-less i k e))

pub double-sort : (ks : List ℕ) (i : ℕ) → i < total ks → sort_at ks (double_place ks i) ≡ AtShadow i
double-sort [] i h = absurd (omega (arith, h))
double-sort (k ∷ ks) i h = by_test (nat_lt i k) refl (double-sort ks (i - k))
  where
    by_test : (b : Bool) → nat_lt i k ≡ b → (i - k < total ks → sort_at ks (double_place ks (i - k)) ≡ AtShadow (i - k)) → sort_at (k ∷ ks) (if b then k + i else (k + k + 2) + double_place ks (i - k)) ≡ AtShadow i
    by_test true e later = at-double k ks i (ltb-true i k e)
    by_test false e later =
        at-behind k ks (double_place ks (i - k)) ∙ ap (behind k) (later (less-rest i k (total ks) h (not-less i k e))) ∙ ap AtShadow (back i k (not-less i k e))

pub never-sort : (ks : List ℕ) (t : ℕ) → t < length ks → sort_at ks (never_place ks t) ≡ AtNever t
never-sort [] t h = absurd (omega (arith, h))
never-sort (k ∷ ks) zero h = at-never k ks
never-sort (k ∷ ks) (suc t) h = at-behind k ks (never_place ks t) ∙ ap (behind k) (never-sort ks t (omega (arith, h)))

pub join-sort : (ks : List ℕ) (t : ℕ) → t < length ks → sort_at ks (join_place ks t) ≡ AtJoin t
join-sort [] t h = absurd (omega (arith, h))
join-sort (k ∷ ks) zero h = at-join k ks
join-sort (k ∷ ks) (suc t) h = at-behind k ks (join_place ks t) ∙ ap (behind k) (join-sort ks t (omega (arith, h)))

-- ---- the last entries

-- an entry of the controller or of the idle task is the same behind any task
abbrev IsLast : Sort → Type 0
IsLast x = (k : ℕ) → behind k x ≡ x

last-behind : (a b j : ℕ) → (a + b) + j ≡ a + (b + j)
last-behind a b j = omega arith

last-at : (ks : List ℕ) (j : ℕ) (x : Sort) → last_sort j ≡ x → IsLast x → sort_at ks (end_place ks + j) ≡ x
last-at [] j x e l = ap last_sort (zero_more j) ∙ e
last-at (k ∷ ks) j x e l =
    ap (sort_at (k ∷ ks)) (last-behind (k + k + 2) (end_place ks) j)
    ∙ at-behind k ks (end_place ks + j)
    ∙ ap (behind k) (last-at ks j x e l)
    ∙ l k

-- ---- places are among those that there are

pub original-within : (ks : List ℕ) (i : ℕ) → i < total ks → original_place ks i < end_place ks
original-within [] i h = absurd (omega (arith, h))
original-within (k ∷ ks) i h = by_test (nat_lt i k) refl (original-within ks (i - k))
  where
    by_test : (b : Bool) → nat_lt i k ≡ b → (i - k < total ks → original_place ks (i - k) < end_place ks) → (if b then i else (k + k + 2) + original_place ks (i - k)) < (k + k + 2) + end_place ks
    by_test true e later = let l : i < k = ltb-true i k e in omega (arith, l)
    by_test false e later = let l = later (less-rest i k (total ks) h (not-less i k e)) in omega (arith, l)

pub double-within : (ks : List ℕ) (i : ℕ) → i < total ks → double_place ks i < end_place ks
double-within [] i h = absurd (omega (arith, h))
double-within (k ∷ ks) i h = by_test (nat_lt i k) refl (double-within ks (i - k))
  where
    by_test : (b : Bool) → nat_lt i k ≡ b → (i - k < total ks → double_place ks (i - k) < end_place ks) → (if b then k + i else (k + k + 2) + double_place ks (i - k)) < (k + k + 2) + end_place ks
    by_test true e later = let l : i < k = ltb-true i k e in omega (arith, l)
    by_test false e later = let l = later (less-rest i k (total ks) h (not-less i k e)) in omega (arith, l)

pub never-within : (ks : List ℕ) (t : ℕ) → t < length ks → never_place ks t < end_place ks
never-within [] t h = absurd (omega (arith, h))
never-within (k ∷ ks) zero h = omega arith
never-within (k ∷ ks) (suc t) h = let l = never-within ks t (omega (arith, h)) in omega (arith, l)

pub join-within : (ks : List ℕ) (t : ℕ) → t < length ks → join_place ks t < end_place ks
join-within [] t h = absurd (omega (arith, h))
join-within (k ∷ ks) zero h = omega arith
join-within (k ∷ ks) (suc t) h = let l = join-within ks t (omega (arith, h)) in omega (arith, l)

-- ---- numbers

module _ (ks : List ℕ) (far : ℕ → Sort) where
  far-number : (x : ℕ) → sort_of ks far (suc (bound ks + x)) ≡ behind_all (total ks) (far x)
  far-number x =
      if_false (nat_lt (bound ks + x) (bound ks)) _ _ (lt_false (bound ks + x) (bound ks) (omega arith))
      ∙ ap (λ y. behind_all (total ks) (far y)) (let e : (bound ks + x) - bound ks ≡ x = omega arith in e)

  pub near-number : (m : ℕ) → suc m ≤ bound ks → sort_of ks far (suc m) ≡ behind 1 (sort_at ks m)
  near-number m h = if_true (nat_lt m (bound ks)) _ _ (lt_true m (bound ks) (omega (arith, h)))

  -- what is counted from 1, where what no text has stays behind all
  counted : (n : ℕ) (near f : ℕ → ℕ) (At : ℕ → Sort) → ((e : ℕ) → far (f e) ≡ At e) → ((i : ℕ) → i < n → near i < end_place ks) → ((i : ℕ) → i < n → behind 1 (sort_at ks (near i)) ≡ At (suc i)) →
      behind_all (total ks) (At 0) ≡ At 0 → ((i : ℕ) → nat_lt i n ≡ false → behind_all (total ks) (At (suc i)) ≡ At (suc i)) → (e : ℕ) → sort_of ks far (number_or ks n near f e) ≡ At e
  counted n near f At fars within nears first stays zero = far-number (f zero) ∙ ap (behind_all (total ks)) (fars zero) ∙ first
  counted n near f At fars within nears first stays (suc i) = by_test (nat_lt i n) refl
    where
      by_test : (b : Bool) → nat_lt i n ≡ b → sort_of ks far (if b then suc (near i) else suc (bound ks + f (suc i))) ≡ At (suc i)
      by_test true e = let w = within i (ltb-true i n e) in near-number (near i) (omega (arith, w)) ∙ nears i (ltb-true i n e)
      by_test false e = far-number (f (suc i)) ∙ ap (behind_all (total ks)) (fars (suc i)) ∙ stays i e

  last-number : (j : ℕ) (x : Sort) → j < 5 → last_sort j ≡ x → IsLast x → sort_of ks far (end_place ks + suc j) ≡ x
  last-number j x h e l =
      ap (sort_of ks far) (let s : end_place ks + suc j ≡ suc (end_place ks + j) = omega arith in s)
      ∙ near-number (end_place ks + j) (omega (arith, h))
      ∙ ap (behind 1) (last-at ks j x e l)
      ∙ l 1

pub spots_are_numbered : SpotsAreNumbered
spots_are_numbered far numbered ks = record {
  original = counted ks far.sort (total ks) (original_place ks) far.original AtOriginal numbered.original (original-within ks) (λ i h. ap (behind 1) (original-sort ks i h) ∙ ap AtOriginal (one_more i)) refl (λ i e. if_false (nat_lt i (total ks)) _ _ e);
  shadow = counted ks far.sort (total ks) (double_place ks) far.shadow AtShadow numbered.shadow (double-within ks) (λ i h. ap (behind 1) (double-sort ks i h) ∙ ap AtShadow (one_more i)) refl (λ i e. if_false (nat_lt i (total ks)) _ _ e);
  go = last-number ks far.sort 0 AtGo (omega arith) refl (λ k. refl);
  done = last-number ks far.sort 1 AtDone (omega arith) refl (λ k. refl);
  hold = last-number ks far.sort 2 AtHold (omega arith) refl (λ k. refl);
  join = counted ks far.sort (length ks) (join_place ks) far.join AtJoin numbered.join (join-within ks) (λ i h. ap (behind 1) (join-sort ks i h)) refl (λ i e. refl);
  never = counted ks far.sort (length ks) (never_place ks) far.never AtNever numbered.never (never-within ks) (λ i h. ap (behind 1) (never-sort ks i h)) refl (λ i e. refl);
  stop = last-number ks far.sort 3 AtStop (omega arith) refl (λ k. refl);
  rest = last-number ks far.sort 4 AtRest (omega arith) refl (λ k. refl);
}

-- ---- what stands at a place

-- the place of what stands there
pub data IsAt (ks : List ℕ) (m : ℕ) : Sort → Type 0 where
  at_original : (i : ℕ) → i < total ks → original_place ks i ≡ m → IsAt ks m (AtOriginal i)
  at_double : (i : ℕ) → i < total ks → double_place ks i ≡ m → IsAt ks m (AtShadow i)
  at_never : (t : ℕ) → t < length ks → never_place ks t ≡ m → IsAt ks m (AtNever t)
  at_join : (t : ℕ) → t < length ks → join_place ks t ≡ m → IsAt ks m (AtJoin t)
  at_last : (j : ℕ) → j < 5 → end_place ks + j ≡ m → IsAt ks m (last_sort j)

module _ (k : ℕ) (ks : List ℕ) where
  under-test : (i : ℕ) (a b : ℕ) → k ≤ i → (if nat_lt i k then a else b) ≡ b
  under-test i a b l = if_false (nat_lt i k) a b (lt_false i k l)

  less-test : (i : ℕ) (a b : ℕ) → i < k → (if nat_lt i k then a else b) ≡ a
  less-test i a b l = if_true (nat_lt i k) a b (lt_true i k l)

  -- of the tasks behind the first
  one-on : (m : ℕ) (x : Sort) → IsAt ks m x → IsAt (k ∷ ks) ((k + k + 2) + m) (behind k x)
  one-on m (AtOriginal i) (at_original j l e) =
      at_original (k + i) (omega (arith, l)) (under-test (k + i) _ _ (omega arith) ∙ ap (λ n. (k + k + 2) + original_place ks n) (let f : (k + i) - k ≡ i = omega arith in f) ∙ ap (λ n. (k + k + 2) + n) e)
  one-on m (AtShadow i) (at_double j l e) =
      at_double (k + i) (omega (arith, l)) (under-test (k + i) _ _ (omega arith) ∙ ap (λ n. (k + k + 2) + double_place ks n) (let f : (k + i) - k ≡ i = omega arith in f) ∙ ap (λ n. (k + k + 2) + n) e)
  one-on m (AtNever t) (at_never u l e) = at_never (suc t) (omega (arith, l)) (ap (λ n. (k + k + 2) + n) e)
  one-on m (AtJoin t) (at_join u l e) = at_join (suc t) (omega (arith, l)) (ap (λ n. (k + k + 2) + n) e)
  one-on m x (at_last j l e) = subst (IsAt (k ∷ ks) ((k + k + 2) + m)) (last-same j) (at_last j l (last-behind (k + k + 2) (end_place ks) j ∙ ap (λ n. (k + k + 2) + n) e))
    where
      last-same : (j : ℕ) → last_sort j ≡ behind k (last_sort j)
      last-same zero = refl
      last-same (suc zero) = refl
      last-same (suc (suc zero)) = refl
      last-same (suc (suc (suc zero))) = refl
      last-same (suc (suc (suc (suc zero)))) = refl
      last-same (suc (suc (suc (suc (suc n))))) = refl

-- a place, by what is known of those of the tasks behind the first
at-step : (k : ℕ) (ks : List ℕ) (m : ℕ) → (k + k + 2 ≤ m → IsAt ks (m - (k + k + 2)) (sort_at ks (m - (k + k + 2)))) → IsAt (k ∷ ks) m (sort_at (k ∷ ks) m)
at-step k ks m rest = by_own (nat_lt m k) refl
  where
    later : k + k + 2 ≤ m → IsAt (k ∷ ks) m (behind k (sort_at ks (m - (k + k + 2))))
    later l =
        subst (λ n. IsAt (k ∷ ks) n (behind k (sort_at ks (m - (k + k + 2))))) (let e : (k + k + 2) + (m - (k + k + 2)) ≡ m = omega (arith, l) in e)
        (one-on k ks (m - (k + k + 2)) (sort_at ks (m - (k + k + 2))) (rest l))

    by_join : (b : Bool) → (m == k + k + 1) ≡ b → k + k < m → IsAt (k ∷ ks) m (if b then AtJoin 0 else behind k (sort_at ks (m - (k + k + 2))))
    by_join true e l = at_join 0 (omega arith) (sym (eqb-true m (k + k + 1) e))
    by_join false e l = later (past-join l (eqb-false m (k + k + 1) e))
      where
        past-join : k + k < m → (m ≡ k + k + 1 → ⊥) → k + k + 2 ≤ m
        past-join l n = by_case (cases_lt m (k + k + 2))
          where
            by_case : (m < k + k + 2) ⊎ (k + k + 2 ≤ m) → k + k + 2 ≤ m
            by_case (inl i) = absurd (n (omega (arith, l, i)))
            by_case (inr i) = i

    by_never : (b : Bool) → (m == k + k) ≡ b → k + k ≤ m → IsAt (k ∷ ks) m (if b then AtNever 0 else if m == k + k + 1 then AtJoin 0 else behind k (sort_at ks (m - (k + k + 2))))
    by_never true e l = at_never 0 (omega arith) (sym (eqb-true m (k + k) e))
    by_never false e l = by_join (m == k + k + 1) refl (past-never (eqb-false m (k + k) e))
      where
        past-never : (m ≡ k + k → ⊥) → k + k < m
        past-never n = by_case (cases_lt (k + k) m)
          where
            by_case : (k + k < m) ⊎ (m ≤ k + k) → k + k < m
            by_case (inl i) = i
            by_case (inr i) = absurd (n (omega (arith, l, i)))

    by_double : (b : Bool) → nat_lt m (k + k) ≡ b → k ≤ m →
        IsAt (k ∷ ks) m (if b then AtShadow (m - k) else if m == k + k then AtNever 0 else if m == k + k + 1 then AtJoin 0 else behind k (sort_at ks (m - (k + k + 2))))
    by_double true e l =
        let u : m < k + k = ltb-true m (k + k) e in
        at_double (m - k) (omega (arith, u, l)) (less-test k ks (m - k) _ _ (omega (arith, u, l)) ∙ (let f : k + (m - k) ≡ m = omega (arith, l) in f))
    by_double false e l = by_never (m == k + k) refl (not-less m (k + k) e)

    by_own : (b : Bool) → nat_lt m k ≡ b →
        IsAt (k ∷ ks) m (if b then AtOriginal m else if nat_lt m (k + k) then AtShadow (m - k) else if m == k + k then AtNever 0 else if m == k + k + 1 then AtJoin 0 else behind k (sort_at ks (m - (k + k + 2))))
    by_own true e = let u : m < k = ltb-true m k e in at_original m (omega (arith, u)) (less-test k ks m _ _ u)
    by_own false e = by_double (nat_lt m (k + k)) refl (not-less m k e)

pub is-at : (ks : List ℕ) (m : ℕ) → m < end_place ks + 5 → IsAt ks m (sort_at ks m)
is-at [] m h = at_last m h (zero_more m)
is-at (k ∷ ks) m h = at-step k ks m (λ l. is-at ks (m - (k + k + 2)) (omega (arith, h, l)))
