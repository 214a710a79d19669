-- Lists of which the first events are taken.
use Rattle.std.proofs.Common.{◌≡◌, ◌≢◌, ℕ, zero, suc, ◌+◌, ◌<◌, ◌≤◌, Bool, true, false, ◌&&◌, ◌||◌, ◌==◌, ◌⊎◌, inl, inr, if◌then◌else◌, List, [], ◌∷◌, ◌++◌, length, get_or, set, drop, take, reverse, replicate, Some, None, is_some, refl, sym, ap, ◌∙◌, subst, ⊎_elim, true≢false, arith}
use Rattle.std.specs.Prelude.{◌↔◌, IsTrue, nat_lt}
use Rattle.std.proofs.lemmas.Bool.{cases_lt, cases_order, eqb-true, eqb-false, or_cases, or_left, or_right}
use Rattle.std.proofs.lemmas.List.{drop_more, drop_all, get_or_past, get_or-set_same, get_or-set_other, take_more, take_all}
use Rattle.common_lemmas.proofs.Lists.{not_empty}
use Rattle.common_lemmas.proofs.Numbers.{equal_self, lt_true, lt_false, unequal_turned}
use Rattle.common_lemmas.proofs.Options.{some_same, not_missing}
use Rattle.event_machine.specs.declared.Event.{Event}
use Rattle.event_machine.specs.declared.Event.TheVariants.{R, E, S, D, C, T, F, X, B, Z}
use Rattle.event_machine.specs.Soundness.{times}
use Rattle.event_machine.specs.Worlds.{is_last}
use Rattle.event_machine.specs.progress.Known.{Known, known_at_start, known, known_from, party, admits, advanced, touches, is_innermost, is_served_by}
use Rattle.event_machine.proofs.progress.Moves.{known_last}
use Rattle.syn_order.specs.Orders.{first, rest, list_at, IsReady, IsPicked, taken, ArePicked, left_after, IsJoin, HasNoOrder}
use Rattle.syn_order.specs.inner.Lists.{at_place}
use Rattle.syn_order.specs.inner.Callers.{AreCallers, AreTouched, innermost_or}
use Rattle.syn_order.specs.inner.Places.{left, next_place, NoneReady, IsRun, IsFirstLeft}
use Rattle.syn_order.proofs.Touching.{one, times_last, times_reverse}
use Rattle.syn_order.proofs.Locality.{touches_one}
use Rattle.syn_order.proofs.Pulling.{ready_same, taken_same}
use Rattle.syn_order.proofs.Following.{known_tasks}
use Rattle.syn_order.proofs.Picking.{total, total_less, picked_same}

-- ---- one event less

rest_drop : (p : ℕ) (xs : List Event) → rest (drop p xs) ≡ drop (p + 1) xs
rest_drop p xs = ⊎_elim
    (λ (l : p < length xs). ap rest (drop_more xs p Z l))
    (λ (l : length xs ≤ p). ap rest (drop_all p xs l) ∙ sym (drop_all (p + 1) xs (omega (arith, l))))
    (cases_lt p (length xs))

next_drop : (p : ℕ) (xs : List Event) → drop (next_place p (length xs)) xs ≡ rest (drop p xs)
next_drop p xs = ⊎_elim
    (λ (l : p < length xs). ap (λ b. drop (if b then p + 1 else p) xs) (lt_true p (length xs) l) ∙ sym (rest_drop p xs))
    (λ (l : length xs ≤ p). ap (λ b. drop (if b then p + 1 else p) xs) (lt_false p (length xs) l) ∙ drop_all p xs l ∙ sym (ap rest (drop_all p xs l)))
    (cases_lt p (length xs))

-- what is left once the first event of the task t is taken
pub left_set : (lists : List (List Event)) (places : List ℕ) (t u d : ℕ) → t < length places →
    left lists (set places t (next_place (get_or places t d) (length (list_at lists t)))) u ≡ (if u == t then rest (left lists places u) else left lists places u)
left_set lists places t u d l = go (u == t) refl
  where
    go : (b : Bool) → (u == t) ≡ b → left lists (set places t (next_place (get_or places t d) (length (list_at lists t)))) u ≡ (if b then rest (left lists places u) else left lists places u)
    go true q = subst (λ v. left lists (set places v (next_place (get_or places v d) (length (list_at lists v)))) u ≡ rest (left lists places u)) (eqb-true u t q)
        (ap (λ p. drop p (list_at lists u)) (get_or-set_same places u (next_place (get_or places u d) (length (list_at lists u))) 0 (subst (λ v. v < length places) (sym (eqb-true u t q)) l))
        ∙ ap (λ p. drop (next_place p (length (list_at lists u))) (list_at lists u)) (same_at places u d (subst (λ v. v < length places) (sym (eqb-true u t q)) l))
        ∙ next_drop (get_or places u 0) (list_at lists u))
      where
        same_at : (ps : List ℕ) (v d : ℕ) → v < length ps → get_or ps v d ≡ get_or ps v 0
        same_at [] v d l = absurd (omega (arith, l))
        same_at (p ∷ ps) zero d l = refl
        same_at (p ∷ ps) (suc v) d l = same_at ps v d (omega (arith, l))
    go false q = ap (λ p. drop p (list_at lists u)) (get_or-set_other places t u (next_place (get_or places t d) (length (list_at lists t))) 0 (eqb-false u t q))

-- a number that no list has
pub left_past : (lists : List (List Event)) (places : List ℕ) (t u : ℕ) → length lists ≤ t → left lists places u ≡ (if u == t then rest (left lists places u) else left lists places u)
left_past lists places t u l = go (u == t) refl
  where
    nothing : (xs : List Event) → xs ≡ [] → (p : ℕ) → drop p xs ≡ rest (drop p xs)
    nothing xs q p = none ∙ sym (ap rest none)
      where
        none : drop p xs ≡ []
        none = drop_all p xs (let c = ap length q in omega (arith, c))

    go : (b : Bool) → (u == t) ≡ b → left lists places u ≡ (if b then rest (left lists places u) else left lists places u)
    go true q = nothing (list_at lists u) (get_or_past lists u [] (subst (λ v. length lists ≤ v) (sym (eqb-true u t q)) l)) (get_or places u 0)
    go false q = refl

-- one task more is taken from
pub left_further : (old now new : List Event) (tasks : List ℕ) (i d u : ℕ) → i < length tasks → now ≡ drop (times u (take i tasks)) old →
    new ≡ (if u == get_or tasks i d then rest now else now) → new ≡ drop (times u (take (i + 1) tasks)) old
left_further old now new tasks i d u l h g = go (u == get_or tasks i d) refl g
  where
    longer : times u (take (i + 1) tasks) ≡ times u (take i tasks) + one (get_or tasks i d == u)
    longer = ap (times u) (take_more tasks i d l) ∙ times_last u (take i tasks) (get_or tasks i d)

    go : (b : Bool) → (u == get_or tasks i d) ≡ b → new ≡ (if b then rest now else now) → new ≡ drop (times u (take (i + 1) tasks)) old
    go true q g = g ∙ ap rest h ∙ rest_drop (times u (take i tasks)) old
        ∙ ap (λ n. drop n old) (sym (longer ∙ ap (λ b. times u (take i tasks) + one b) (ap (λ v. get_or tasks i d == v) (eqb-true u (get_or tasks i d) q) ∙ equal_self (get_or tasks i d))))
    go false q g = g ∙ h ∙ ap (λ n. drop n old) (sym (longer ∙ ap (λ b. times u (take i tasks) + one b) (unequal_turned u (get_or tasks i d) q) ∙ plain (times u (take i tasks))))
      where
        plain : (n : ℕ) → n + 0 ≡ n
        plain n = omega arith

-- ---- tests

pub is_past : (P : Type 0) (n t : ℕ) → n ≤ t → IsTrue true ↔ (t < n → P)
is_past P n t l = (λ q m. absurd (omega (arith, l, m)), λ q. refl)

pub is_there : (P : Type 0) (b : Bool) (n t : ℕ) → t < n → (IsTrue b ↔ P) → IsTrue b ↔ (t < n → P)
is_there P b n t l h = (λ q m. h.0 q, λ q. h.1 (q l))

pub not_two : (P : ℕ → Type 0) (n a b : ℕ) (x : Bool) → x ≡ false → (IsTrue x ↔ (a < n → P a)) → IsTrue false ↔ ((u : ℕ) → u < n → ((u == a) || (u == b)) ≡ true → P u)
not_two P n a b x q h = (λ s. absurd (true≢false (sym s)), λ s. absurd (true≢false (sym (h.1 (λ l. s a l (or_left (a == a) (a == b) (equal_self a)))) ∙ q)))

pub both_of_two : (P : ℕ → Type 0) (n a b : ℕ) (x y : Bool) → x ≡ true → (IsTrue x ↔ (a < n → P a)) → (IsTrue y ↔ (b < n → P b)) →
    IsTrue y ↔ ((u : ℕ) → u < n → ((u == a) || (u == b)) ≡ true → P u)
both_of_two P n a b x y q h g = (
  λ s u l t. ⊎_elim (λ p. subst P (sym (eqb-true u a p)) (h.0 q (subst (λ v. v < n) (eqb-true u a p) l))) (λ p. subst P (sym (eqb-true u b p)) (g.0 s (subst (λ v. v < n) (eqb-true u b p) l)))
      (or_cases (u == a) (u == b) t),
  λ s. g.1 (λ l. s b l (or_right (b == a) (b == b) (equal_self b))),
)

-- a task at a place stands among the tasks
times_here : (tasks : List ℕ) (i d : ℕ) → i < length tasks → 0 < times (get_or tasks i d) tasks
times_here [] i d l = absurd (omega (arith, l))
times_here (t ∷ tasks) zero d l = let e : one (t == t) ≡ 1 = ap one (equal_self t) in let n : ℕ = times t tasks in omega (arith, e)
times_here (t ∷ tasks) (suc i) d l = let h = times_here tasks i d (omega (arith, l)) in let n : ℕ = one (t == get_or tasks i d) in omega (arith, h)

pub each_further : (P : ℕ → Type 0) (n : ℕ) (tasks : List ℕ) (i d : ℕ) (x : Bool) → i < length tasks → ((u : ℕ) → u < n → 0 < times u (take i tasks) → P u) → x ≡ true →
    (IsTrue x ↔ (get_or tasks i d < n → P (get_or tasks i d))) → (u : ℕ) → u < n → 0 < times u (take (i + 1) tasks) → P u
each_further P n tasks i d x l h q g u m s = go (get_or tasks i d == u) refl (subst (λ v. 0 < v) (ap (times u) (take_more tasks i d l) ∙ times_last u (take i tasks) (get_or tasks i d)) s)
  where
    go : (b : Bool) → (get_or tasks i d == u) ≡ b → 0 < times u (take i tasks) + one b → P u
    go true p s = subst P (eqb-true (get_or tasks i d) u p) (g.0 q (subst (λ v. v < n) (sym (eqb-true (get_or tasks i d) u p)) m))
    go false p s = h u m (omega (arith, s))

pub each_not : (P : ℕ → Type 0) (n : ℕ) (tasks : List ℕ) (i d : ℕ) (x : Bool) → i < length tasks → x ≡ false → (IsTrue x ↔ (get_or tasks i d < n → P (get_or tasks i d))) →
    IsTrue false ↔ ((u : ℕ) → u < n → 0 < times u tasks → P u)
each_not P n tasks i d x l q g = (λ s. absurd (true≢false (sym s)), λ s. absurd (true≢false (sym (g.1 (λ m. s (get_or tasks i d) m (times_here tasks i d l))) ∙ q)))

pub each_end : (P : ℕ → Type 0) (n : ℕ) (tasks : List ℕ) (i : ℕ) → length tasks ≤ i → ((u : ℕ) → u < n → 0 < times u (take i tasks) → P u) → IsTrue true ↔ ((u : ℕ) → u < n → 0 < times u tasks → P u)
each_end P n tasks i l h = (λ q u m s. h u m (subst (λ xs. 0 < times u xs) (sym (take_all i tasks l)) s), λ q. refl)

pub all_further : (P : ℕ → Type 0) (t : ℕ) (x : Bool) → ((u : ℕ) → u < t → P u) → x ≡ true → (IsTrue x ↔ P t) → (u : ℕ) → u < t + 1 → P u
all_further P t x h q g u l = go (cases_order u t)
  where
    go : ((u ≡ t) ⊎ ((u < t) ⊎ (t < u))) → P u
    go (inl p) = subst P (sym p) (g.0 q)
    go (inr (inl m)) = h u m
    go (inr (inr m)) = absurd (omega (arith, l, m))

pub all_not : (P : ℕ → Type 0) (n t : ℕ) (x : Bool) → t < n → x ≡ false → (IsTrue x ↔ P t) → IsTrue false ↔ ((u : ℕ) → u < n → P u)
all_not P n t x l q g = (λ s. absurd (true≢false (sym s)), λ s. absurd (true≢false (sym (g.1 (s t l)) ∙ q)))

pub all_end : (P : ℕ → Type 0) (n t : ℕ) → n ≤ t → ((u : ℕ) → u < t → P u) → IsTrue true ↔ ((u : ℕ) → u < n → P u)
all_end P n t l h = (λ q u m. h u (omega (arith, m, l)), λ q. refl)

-- ---- the tasks that an event touches

module _ (owner : ℕ → ℕ) (k : Known) (stacks : List (List ℕ)) (h : AreCallers k stacks) (P : ℕ → Type 0) (n : ℕ) where
  -- The tasks below n that the event touches have P.
  abbrev Each : Event → Type 0
  Each e = (u : ℕ) → u < n → touches owner k e u ≡ true → P u

  pub ending_iff : (x : Bool) (a : ℕ) → (IsTrue x ↔ ((u : ℕ) → u < n → ((u == a) || (u == innermost_or a (reverse (at_place stacks a)))) ≡ true → P u)) → IsTrue x ↔ Each (E a)
  ending_iff x a g = (λ q u l t. g.0 q u l (same u ∙ t), λ q. g.1 (λ u l t. q u l (sym (same u) ∙ t)))
    where
      go : (u : ℕ) (cs : List ℕ) (b : Bool) → (u == a) ≡ b → (b || (u == innermost_or a cs)) ≡ (b || is_innermost u cs)
      go u cs true p = refl
      go u [] false p = p
      go u (c ∷ cs) false p = refl

      same : (u : ℕ) → ((u == a) || (u == innermost_or a (reverse (at_place stacks a)))) ≡ ((u == a) || is_innermost u (party k a).callers)
      same u = ap (λ cs. (u == a) || (u == innermost_or a cs)) (sym (h.kept a)) ∙ go u (party k a).callers (u == a) refl

  served : (x u : ℕ) → times u (at_place stacks x) ≡ one (is_served_by x (party k u))
  served x u = sym (times_reverse u (at_place stacks x)) ∙ ap (times u) (sym (h.kept x)) ∙ h.serve.callers x u

  pub aborting_not : (x : Bool) (t y : ℕ) → x ≡ false → (IsTrue x ↔ ((u : ℕ) → u < n → ((u == t) || (u == y)) ≡ true → P u)) → IsTrue false ↔ Each (B t y)
  aborting_not x t y q g = (λ s. absurd (true≢false (sym s)), λ s. absurd (true≢false (sym (g.1 (λ u l p. s u l (wider u (u == t) (u == y) p))) ∙ q)))
    where
      wider : (u : ℕ) (a b : Bool) → (a || b) ≡ true → (a || (b || is_served_by y (party k u))) ≡ true
      wider u true b p = refl
      wider u false true p = refl
      wider u false false p = absurd (true≢false (sym p))

  pub aborting_iff : (x z : Bool) (t y : ℕ) → x ≡ true → (IsTrue x ↔ ((u : ℕ) → u < n → ((u == t) || (u == y)) ≡ true → P u)) →
      (IsTrue z ↔ ((u : ℕ) → u < n → 0 < times u (at_place stacks y) → P u)) → IsTrue z ↔ Each (B t y)
  aborting_iff x z t y q f g = (
    λ s u l p. parts u l s (u == t) (u == y) (is_served_by y (party k u)) refl refl refl p,
    λ s. g.1 (λ u l m. s u l (or_right (u == t) ((u == y) || is_served_by y (party k u)) (or_right (u == y) (is_served_by y (party k u)) (counted (is_served_by y (party k u)) (subst (λ c. 0 < c) (served y u) m))))),
  )
    where
      counted : (b : Bool) → 0 < one b → b ≡ true
      counted true m = refl
      counted false m = absurd (omega (arith, m))

      parts : (u : ℕ) → u < n → IsTrue z → (a b c : Bool) → (u == t) ≡ a → (u == y) ≡ b → is_served_by y (party k u) ≡ c → (a || (b || c)) ≡ true → P u
      parts u l s true b c p r v w = f.0 q u l (or_left (u == t) (u == y) p)
      parts u l s false true c p r v w = f.0 q u l (or_right (u == t) (u == y) r)
      parts u l s false false true p r v w = g.0 s u l (let e = served y u ∙ ap one v in omega (arith, e))
      parts u l s false false false p r v w = absurd (true≢false (sym w))

  pub ended_iff : (x : Bool) → (IsTrue x ↔ ((u : ℕ) → u < n → P u)) → IsTrue x ↔ Each Z
  ended_iff x g = (λ q u l t. g.0 q u l, λ q. g.1 (λ u l. q u l refl))

-- ---- ready events

pub ready_not : (owner : ℕ → ℕ) (n : ℕ) (k : Known) (lists : ℕ → List Event) (e : Event) → admits owner k e ≡ false → IsTrue false ↔ IsReady owner n k lists e
ready_not owner n k lists e h = (λ q. absurd (true≢false (sym q)), λ r. absurd (true≢false (sym r.admitted ∙ h)))

pub ready_iff : (owner : ℕ → ℕ) (n : ℕ) (k : Known) (lists : ℕ → List Event) (e : Event) (x : Bool) → admits owner k e ≡ true →
    (IsTrue x ↔ ((u : ℕ) → u < n → touches owner k e u ≡ true → first (lists u) ≡ Some e)) → IsTrue x ↔ IsReady owner n k lists e
ready_iff owner n k lists e x h g = (λ q. record { admitted = h; first_in_each = g.0 q }, λ r. g.1 r.first_in_each)

-- ---- the event that is picked

module _ (owner : ℕ → ℕ) (n : ℕ) (k : Known) (lists : ℕ → List Event) where
  -- the first event of one task more is not ready
  pub none_further : (t : ℕ) → t < n → NoneReady owner n k lists t → ((f : Event) → first (lists t) ≡ Some f → (0 < t → is_last f ≡ false) → IsReady owner n k lists f → ⊥) →
      NoneReady owner n k lists (t + 1)
  none_further t l h g u m f q r = go (cases_order u t)
    where
      -- the end of the program is first of the task 0 as well
      not_last : (e : Event) → IsReady owner n k lists e → 0 < t → is_last e ≡ false
      not_last (R c e i) r s = refl
      not_last (E a) r s = refl
      not_last (S a) r s = refl
      not_last (D a v) r s = refl
      not_last (C c e i) r s = refl
      not_last (T c e i) r s = refl
      not_last (F c e i) r s = refl
      not_last (X a) r s = refl
      not_last (B v x) r s = refl
      not_last Z r s = absurd (h 0 s Z (r.first_in_each 0 (omega (arith, s, l)) refl) r)

      go : ((u ≡ t) ⊎ ((u < t) ⊎ (t < u))) → ⊥
      go (inl p) = g f (ap (λ v. first (lists v)) (sym p) ∙ q) (not_last f r) r
      go (inr (inl p)) = h u p f q r
      go (inr (inr p)) = omega (arith, p, m)

  pub picked_at : (t : ℕ) (e : Event) → t < n → NoneReady owner n k lists t → first (lists t) ≡ Some e → IsReady owner n k lists e → IsPicked owner n k lists e
  picked_at t e l h q r = record { task = t; below = l; is_first = q; ready = r; least = h }

  pub none_before : NoneReady owner n k lists 0
  none_before u m f q r = omega (arith, m)

-- ---- runs

pub picked_last : (owner : ℕ → ℕ) (n : ℕ) (xs : List Event) (k : Known) (lists : ℕ → List Event) (e : Event) → ArePicked owner n k lists xs →
    IsPicked owner n (known_from owner k xs) (left_after owner k lists xs) e → ArePicked owner n k lists (xs ++ e ∷ [])
picked_last owner n [] k lists e p q = (q, tt)
picked_last owner n (x ∷ xs) k lists e p q = (p.0, picked_last owner n xs (advanced owner k x) (taken owner k lists x) e p.1 q)

left_last : (owner : ℕ → ℕ) (xs : List Event) (k : Known) (lists : ℕ → List Event) (e : Event) →
    left_after owner k lists (xs ++ e ∷ []) ≡ taken owner (known_from owner k xs) (left_after owner k lists xs) e
left_last owner [] k lists e = refl
left_last owner (x ∷ xs) k lists e = left_last owner xs (advanced owner k x) (taken owner k lists x) e

-- What holds while events are picked.
pub record Picks (owner : ℕ → ℕ) (n : ℕ) (lists : ℕ → List Event) (left : ℕ → List Event) (k : Known) (events : List Event) : Type 0 where
  pub picked : ArePicked owner n (known_at_start n) lists events
  pub left_is : (t : ℕ) → t < n → left t ≡ left_after owner (known_at_start n) lists events t
  pub is_known : k ≡ known owner n events

drop_one : (b : Bool) (xs : List Event) → drop (one b) xs ≡ (if b then rest xs else xs)
drop_one true [] = refl
drop_one true (x ∷ xs) = refl
drop_one false xs = refl

-- what is left is what is left once the event is taken
pub left_taken : (owner : ℕ → ℕ) (n : ℕ) (k : Known) (old new : ℕ → List Event) (e : Event) (touched : List ℕ) → length k.parties ≡ n → AreTouched owner k e touched →
    ((u : ℕ) → new u ≡ drop (times u touched) (old u)) → (u : ℕ) → u < n → new u ≡ taken owner k old e u
left_taken owner n k old new e touched s t h u l =
    h u ∙ ap (λ m. drop m (old u)) (t u ∙ ap (λ b. one (touches owner k e u && b)) (lt_true u (length k.parties) (subst (λ v. u < v) (sym s) l)) ∙ ap one (plain (touches owner k e u)))
    ∙ drop_one (touches owner k e u) (old u)
  where
    plain : (b : Bool) → (b && true) ≡ b
    plain true = refl
    plain false = refl

module _ (owner : ℕ → ℕ) (n : ℕ) (lists : ℕ → List Event) where
  pub picks_further : (old new : ℕ → List Event) (k m : Known) (events : List Event) (e : Event) → Picks owner n lists old k events → IsPicked owner n k old e → m ≡ advanced owner k e →
      ((u : ℕ) → u < n → new u ≡ taken owner k old e u) → Picks owner n lists new m (events ++ e ∷ [])
  picks_further old new k m events e h p q g = record {
    picked = picked_last owner n events (known_at_start n) lists e h.picked
        (picked_same owner n (known owner n events) old after e h.left_is (subst (λ v. IsPicked owner n v old e) h.is_known p));
    left_is = λ t l. g t l ∙ taken_same owner k old after e t (h.left_is t l) ∙ ap (λ v. taken owner v after e t) h.is_known
        ∙ sym (ap (λ (f : ℕ → List Event). f t) (left_last owner events (known_at_start n) lists e));
    is_known = q ∙ ap (λ v. advanced owner v e) h.is_known ∙ sym (known_last owner (known_at_start n) events e);
  }
    where
      after : ℕ → List Event
      after = left_after owner (known_at_start n) lists events

  pub run_of : (left : ℕ → List Event) (k : Known) (events : List Event) → Picks owner n lists left k events → NoneReady owner n k left n → IsRun owner n lists left events
  run_of left k events h g = record { picked = h.picked; left_is = h.left_is; over = subst (λ v. NoneReady owner n v left n) h.is_known g }

  pub run_joins : (left : ℕ → List Event) (events : List Event) → IsRun owner n lists left events → ((u : ℕ) → u < n → left u ≡ []) → IsJoin owner n (known_at_start n) lists events
  run_joins left events h g = record { picked = h.picked; used_up = λ t l. sym (h.left_is t l) ∙ g t l }

  pub run_stuck : (left : ℕ → List Event) (events : List Event) (task : ℕ) → IsRun owner n lists left events → IsFirstLeft n left task → HasNoOrder owner n (known_at_start n) lists task
  run_stuck left events task h g = record {
    events = events;
    picked = h.picked;
    none_ready = λ e r.
        let t = touches_one owner n (known owner n events) e (known_tasks owner n events (known owner n events) refl) (let b = g.below in omega (arith, b)) r.admitted in
        h.over t.0 t.1 e (ap first (h.left_is t.0 t.1) ∙ r.first_in_each t.0 t.1 t.2)
        (ready_same owner n (known owner n events) (left_after owner (known_at_start n) lists events) left e (λ u l. sym (h.left_is u l)) r);
    below = g.below;
    not_used_up = λ q. g.not_used_up (h.left_is task g.below ∙ q);
    used_up_before = λ t l. sym (h.left_is t (let b = g.below in omega (arith, b, l))) ∙ g.used_up_before t l;
  }

-- ---- ending

total_same : (owner : ℕ → ℕ) (n : ℕ) (ls ms : ℕ → List Event) (m : ℕ) → ((u : ℕ) → u < m → ls u ≡ ms u) → total owner n ls m ≡ total owner n ms m
total_same owner n ls ms zero h = refl
total_same owner n ls ms (suc m) h =
    let p = ap length (h m (omega arith)) in
    let q = total_same owner n ls ms m (λ u l. h u (omega (arith, l))) in
    omega (arith, p, q)

-- fewer events are left
pub fewer_left : (owner : ℕ → ℕ) (n : ℕ) (k : Known) (old new : ℕ → List Event) (e : Event) → length k.parties ≡ n → IsPicked owner n k old e →
    ((u : ℕ) → u < n → new u ≡ taken owner k old e u) → total owner n new n < total owner n old n
fewer_left owner n k old new e s p g =
    let b = p.below in
    let t = touches_one owner n k e s (omega (arith, b)) p.ready.admitted in
    let q = total_less owner n k old e n t.0 t.1 t.2 (p.ready.first_in_each t.0 t.1 t.2) in
    let r = total_same owner n new (taken owner k old e) n g in
    omega (arith, q, r)

-- ---- the first task that has something left

pub none_left : (xs : List Event) → is_some (first xs) ≡ false → xs ≡ []
none_left [] h = refl
none_left (x ∷ xs) h = absurd (true≢false h)

pub some_left : (xs : List Event) → is_some (first xs) ≡ true → xs ≢ []
some_left [] h = absurd (true≢false (sym h))
some_left (x ∷ xs) h = not_empty x xs

pub used_up_further : (left : ℕ → List Event) (t : ℕ) → ((u : ℕ) → u < t → left u ≡ []) → is_some (first (left t)) ≡ false → (u : ℕ) → u < t + 1 → left u ≡ []
used_up_further left t h g u l = go (cases_order u t)
  where
    go : ((u ≡ t) ⊎ ((u < t) ⊎ (t < u))) → left u ≡ []
    go (inl p) = ap left p ∙ none_left (left t) g
    go (inr (inl m)) = h u m
    go (inr (inr m)) = absurd (omega (arith, l, m))

pub first_left_is : (n : ℕ) (left : ℕ → List Event) (t : ℕ) → t < n → ((u : ℕ) → u < t → left u ≡ []) → is_some (first (left t)) ≡ true → IsFirstLeft n left t
first_left_is n left t l h g = record { below = l; not_used_up = some_left (left t) g; used_up_before = h }

-- ---- no event of the task is ready

module _ (owner : ℕ → ℕ) (n : ℕ) (k : Known) (lists : ℕ → List Event) (t : ℕ) where
  abbrev None_at : Type 0
  None_at = (f : Event) → first (lists t) ≡ Some f → (0 < t → is_last f ≡ false) → IsReady owner n k lists f → ⊥

  pub late_end : (e : Event) → first (lists t) ≡ Some e → (nat_lt 0 t && is_last e) ≡ true → None_at
  late_end e q h f p g r = go (cases_lt 0 t)
    where
      same : f ≡ e
      same = some_same (sym p ∙ q)

      go : ((0 < t) ⊎ (t ≤ 0)) → ⊥
      go (inl l) = true≢false (sym (sym (ap (λ b. b && is_last e) (lt_true 0 t l)) ∙ h) ∙ (ap is_last (sym same) ∙ g l))
      go (inr l) = true≢false (sym h ∙ ap (λ b. b && is_last e) (lt_false 0 t l))

  pub not_ready_at : (e : Event) (x : Bool) → first (lists t) ≡ Some e → x ≡ false → (IsTrue x ↔ IsReady owner n k lists e) → None_at
  not_ready_at e x q h g f p s r = true≢false (sym (g.1 (subst (IsReady owner n k lists) (some_same (sym p ∙ q)) r)) ∙ h)

  pub nothing_at : first (lists t) ≡ None → None_at
  nothing_at q f p s r = not_missing f (sym q ∙ p)

-- ---- at the start

pub left_at_start : (lists : List (List Event)) (places : List ℕ) (m t : ℕ) → places ≡ replicate m 0 → left lists places t ≡ list_at lists t
left_at_start lists places m t h = ap (λ ps. drop (get_or ps t 0) (list_at lists t)) h ∙ ap (λ p. drop p (list_at lists t)) (zero_at m t)
  where
    zero_at : (m t : ℕ) → ◌≡◌ {A = ℕ} (get_or (replicate m 0) t 0) 0
    zero_at zero t = refl
    zero_at (suc m) zero = refl
    zero_at (suc m) (suc t) = zero_at m t

pub picks_none : (owner : ℕ → ℕ) (n m : ℕ) (lists : List (List Event)) (places : List ℕ) (k : Known) (events : List Event) → places ≡ replicate m 0 → k ≡ known_at_start n → events ≡ [] →
    Picks owner n (list_at lists) (left lists places) k events
picks_none owner n m lists places k events h q r = subst (Picks owner n (list_at lists) (left lists places) k) (sym r) (record {
  picked = tt;
  left_is = λ t l. left_at_start lists places m t h;
  is_known = q;
})

pub one_iff : (P : ℕ → Type 0) (n a : ℕ) (x : Bool) → (IsTrue x ↔ (a < n → P a)) → IsTrue x ↔ ((u : ℕ) → u < n → (u == a) ≡ true → P u)
one_iff P n a x h = (λ q u l t. subst P (sym (eqb-true u a t)) (h.0 q (subst (λ v. v < n) (eqb-true u a t) l)), λ q. h.1 (λ l. q a l (equal_self a)))
