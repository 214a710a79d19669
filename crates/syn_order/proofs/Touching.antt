-- Which tasks have been put among those that an event touches.
use Rattle.std.proofs.Common.{◌≡◌, ℕ, ◌+◌, ◌<◌, ◌≤◌, Bool, true, false, ◌&&◌, ◌||◌, ◌==◌, ◌⊎◌, inl, inr, if◌then◌else◌, List, [], ◌∷◌, ◌++◌, length, take, reverse, get_or, refl, sym, ap, ◌∙◌, subst, ⊎_elim, true≢false, arith}
use Rattle.std.specs.Prelude.{nat_lt}
use Rattle.std.proofs.lemmas.Bool.{eqb-true, eqb-false, cases_lt}
use Rattle.std.proofs.lemmas.List.{take_more, reverse-append}
use Rattle.common_lemmas.proofs.Numbers.{equal_self, unequal_turned, lt_true, lt_false}
use Rattle.event_machine.specs.declared.Event.{Event}
use Rattle.event_machine.specs.declared.Event.TheVariants.{E, B}
use Rattle.event_machine.specs.Soundness.{times}
use Rattle.event_machine.specs.progress.Known.{Known, party, is_innermost, is_served_by, touches}
use Rattle.syn_order.specs.inner.Lists.{at_place}
use Rattle.syn_order.specs.inner.Callers.{AreCallers, AreTouched, innermost_or}

abbrev pub one : Bool → ℕ
one b = if b then 1 else 0

pub times_last : (u : ℕ) (xs : List ℕ) (c : ℕ) → times u (xs ++ c ∷ []) ≡ times u xs + one (c == u)
times_last u [] c = let b : ℕ = one (c == u) in omega arith
times_last u (x ∷ xs) c = let h = times_last u xs c in let a : ℕ = one (x == u) in let b : ℕ = one (c == u) in omega (arith, h)

pub times_joined : (u : ℕ) (xs ys : List ℕ) → times u (xs ++ ys) ≡ times u xs + times u ys
times_joined u [] ys = omega arith
times_joined u (x ∷ xs) ys = let h = times_joined u xs ys in let a : ℕ = one (x == u) in omega (arith, h)

pub times_reverse : (u : ℕ) (xs : List ℕ) → times u (reverse xs) ≡ times u xs
times_reverse u [] = refl
times_reverse u (x ∷ xs) =
    let h = times_reverse u xs in
    let g : times u (reverse (x ∷ xs)) ≡ times u (reverse xs) + one (x == u) = ap (times u) (reverse-append (x ∷ []) xs) ∙ times_last u (reverse xs) x in
    let a : ℕ = one (x == u) in
    omega (arith, h, g)

-- ---- one task, and two

pub put_one_in : (u : ℕ) (old new : List ℕ) (t count : ℕ) → t < count → new ≡ old ++ t ∷ [] → times u new ≡ times u old + one ((u == t) && nat_lt u count)
put_one_in u old new t count l h = ap (times u) h ∙ times_last u old t ∙ ap (λ n. times u old + n) (go (u == t) refl)
  where
    go : (b : Bool) → (u == t) ≡ b → one (t == u) ≡ one (b && nat_lt u count)
    go true q = ap one (ap (λ v. t == v) (eqb-true u t q) ∙ equal_self t) ∙ sym (ap one (ap (λ v. nat_lt v count) (eqb-true u t q) ∙ lt_true t count l))
    go false q = ap one (unequal_turned u t q)

pub put_one_out : (u : ℕ) (old new : List ℕ) (t count : ℕ) → count ≤ t → new ≡ old → times u new ≡ times u old + one ((u == t) && nat_lt u count)
put_one_out u old new t count l h = ap (times u) h ∙ more (times u old) ∙ ap (λ b. times u old + one b) (sym (go (u == t) refl))
  where
    more : (n : ℕ) → n ≡ n + 0
    more n = omega arith

    go : (b : Bool) → (u == t) ≡ b → (b && nat_lt u count) ≡ false
    go true q = ap (λ v. nat_lt v count) (eqb-true u t q) ∙ lt_false t count l
    go false q = refl

pub put_two_same : (u old new a b : ℕ) (w : Bool) → a ≡ b → new ≡ old + one ((u == a) && w) → new ≡ old + one (((u == a) || (u == b)) && w)
put_two_same u old new a b w q h = h ∙ ap (λ c. old + one (c && w)) (twice (u == a) ∙ ap (λ v. (u == a) || (u == v)) q)
  where
    twice : (c : Bool) → c ≡ (c || c)
    twice true = refl
    twice false = refl

pub put_two_other : (u old mid new a b : ℕ) (w : Bool) → (a == b) ≡ false → mid ≡ old + one ((u == a) && w) → new ≡ mid + one ((u == b) && w) → new ≡ old + one (((u == a) || (u == b)) && w)
put_two_other u old mid new a b w q h g = go (u == a) (u == b) w refl refl h g
  where
    go : (c d w : Bool) → (u == a) ≡ c → (u == b) ≡ d → mid ≡ old + one (c && w) → new ≡ mid + one (d && w) → new ≡ old + one ((c || d) && w)
    go true true w p r h g = absurd (true≢false (sym (subst (λ v. (v == b) ≡ true) (eqb-true u a p) r) ∙ q))
    go true false w p r h g = let m : ℕ = one w in omega (arith, h, g)
    go false true w p r h g = let m : ℕ = one w in omega (arith, h, g)
    go false false w p r h g = omega (arith, h, g)

-- ---- callers

abbrev other_times : ℕ → ℕ → ℕ → Bool → List ℕ → ℕ
other_times u a b w xs = if ((u == a) || (u == b)) then 0 else (if w then times u xs else 0)

pub no_others : (u a b n : ℕ) (w : Bool) → n ≡ n + other_times u a b w []
no_others u a b n w = go ((u == a) || (u == b)) w
  where
    go : (c w : Bool) → n ≡ n + (if c then 0 else (if w then 0 else 0))
    go true w = omega arith
    go false true = omega arith
    go false false = omega arith

-- a task that is one of the two does not go in
pub other_out : (u n c a b : ℕ) (w : Bool) → (c ≡ a) ⊎ (c ≡ b) → n ≡ n + (if ((u == a) || (u == b)) then 0 else one ((u == c) && w))
other_out u n c a b w o = go (u == a) (u == b) (u == c) w refl refl refl
  where
    same_test : (d : ℕ) → c ≡ d → (u == c) ≡ (u == d)
    same_test d q = ap (λ v. u == v) q

    go : (x y z w : Bool) → (u == a) ≡ x → (u == b) ≡ y → (u == c) ≡ z → n ≡ n + (if (x || y) then 0 else one (z && w))
    go true y z w p q r = omega arith
    go false true z w p q r = omega arith
    go false false true w p q r = ⊎_elim (λ s. absurd (true≢false (sym r ∙ same_test a s ∙ p))) (λ s. absurd (true≢false (sym r ∙ same_test b s ∙ q))) o
    go false false false w p q r = omega arith

pub other_in : (u old new c a b : ℕ) (w : Bool) → (c ≡ a → ⊥) → (c ≡ b → ⊥) → new ≡ old + one ((u == c) && w) → new ≡ old + (if ((u == a) || (u == b)) then 0 else one ((u == c) && w))
other_in u old new c a b w p q h = go (u == a) (u == b) (u == c) w refl refl refl h
  where
    go : (x y z w : Bool) → (u == a) ≡ x → (u == b) ≡ y → (u == c) ≡ z → new ≡ old + one (z && w) → new ≡ old + (if (x || y) then 0 else one (z && w))
    go true y true w r s t h = absurd (p (sym (eqb-true u c t) ∙ eqb-true u a r))
    go true y false w r s t h = h
    go false true true w r s t h = absurd (q (sym (eqb-true u c t) ∙ eqb-true u b s))
    go false true false w r s t h = h
    go false false z w r s t h = h

-- one caller more
pub other_more : (u : ℕ) (callers : List ℕ) (i d old now new a b count : ℕ) → i < length callers → now ≡ old + other_times u a b (nat_lt u count) (take i callers) →
    new ≡ now + (if ((u == a) || (u == b)) then 0 else one ((u == get_or callers i d) && nat_lt u count)) → new ≡ old + other_times u a b (nat_lt u count) (take (i + 1) callers)
other_more u callers i d old now new a b count l h g = go ((u == a) || (u == b)) (nat_lt u count) h g
  where
    turned : (x y : ℕ) → one (x == y) ≡ one (y == x)
    turned x y = at (x == y) refl
      where
        at : (z : Bool) → (x == y) ≡ z → one z ≡ one (y == x)
        at true q = sym (ap one (ap (λ v. y == v) (eqb-true x y q) ∙ equal_self y))
        at false q = sym (ap one (unequal_turned x y q))

    longer : times u (take (i + 1) callers) ≡ times u (take i callers) + one (u == get_or callers i d)
    longer = ap (times u) (take_more callers i d l) ∙ times_last u (take i callers) (get_or callers i d) ∙ ap (λ m. times u (take i callers) + m) (turned (get_or callers i d) u)

    go : (x w : Bool) → now ≡ old + (if x then 0 else (if w then times u (take i callers) else 0)) → new ≡ now + (if x then 0 else one ((u == get_or callers i d) && w)) →
        new ≡ old + (if x then 0 else (if w then times u (take (i + 1) callers) else 0))
    go true w h g = omega (arith, h, g)
    go false true h g = fits (u == get_or callers i d) longer g
      where
        fits : (z : Bool) → times u (take (i + 1) callers) ≡ times u (take i callers) + one z → new ≡ now + one (z && true) → new ≡ old + times u (take (i + 1) callers)
        fits true k g = omega (arith, h, k, g)
        fits false k g = omega (arith, h, k, g)
    go false false h g = none (u == get_or callers i d) g
      where
        none : (z : Bool) → new ≡ now + one (z && false) → new ≡ old + 0
        none true g = omega (arith, h, g)
        none false g = omega (arith, h, g)

-- ---- all tasks

pub all_more : (u old now new t count : ℕ) → t < count → now ≡ old + one (nat_lt u t) → new ≡ now + one ((u == t) && nat_lt u count) → new ≡ old + one (nat_lt u (t + 1))
all_more u old now new t count l h g = go (cases_lt u t) (u == t) refl g
  where
    go : ((u < t) ⊎ (t ≤ u)) → (b : Bool) → (u == t) ≡ b → new ≡ now + one (b && nat_lt u count) → new ≡ old + one (nat_lt u (t + 1))
    go (inl m) true q g = let e = eqb-true u t q in absurd (omega (arith, m, e))
    go (inl m) false q g = let r : one (nat_lt u t) ≡ 1 = ap one (lt_true u t m) in let s : one (nat_lt u (t + 1)) ≡ 1 = ap one (lt_true u (t + 1) (omega (arith, m))) in omega (arith, h, g, r, s)
    go (inr m) true q g =
        let e = eqb-true u t q in
        let r : one (nat_lt u t) ≡ 0 = ap one (lt_false u t m) in
        let s : one (nat_lt u (t + 1)) ≡ 1 = ap one (lt_true u (t + 1) (omega (arith, e))) in
        let v : one (nat_lt u count) ≡ 1 = ap one (lt_true u count (omega (arith, e, l))) in
        omega (arith, h, g, r, s, v)
    go (inr m) false q g =
        let e = eqb-false u t q in
        let r : one (nat_lt u t) ≡ 0 = ap one (lt_false u t m) in
        let s : one (nat_lt u (t + 1)) ≡ 0 = ap one (lt_false u (t + 1) (past m e)) in
        omega (arith, h, g, r, s)
      where
        past : t ≤ u → (u ≡ t → ⊥) → t + 1 ≤ u
        past m e = omega (arith, m, e)

-- ---- the tasks that an event touches

module _ (owner : ℕ → ℕ) (k : Known) (stacks : List (List ℕ)) (h : AreCallers k stacks) (count : ℕ) (q : length k.parties ≡ count) (tasks : List ℕ) where
  -- where each stands among them as often as it passes the test
  pub touched_by : (e : Event) → ((u : ℕ) → times u tasks ≡ 0 + one (touches owner k e u && nat_lt u count)) → AreTouched owner k e tasks
  touched_by e g u = g u ∙ plain (one (touches owner k e u && nat_lt u count)) ∙ ap (λ n. one (touches owner k e u && nat_lt u n)) (sym q)
    where
      plain : (n : ℕ) → 0 + n ≡ n
      plain n = omega arith

  pub touched_ending : (a : ℕ) → ((u : ℕ) → times u tasks ≡ 0 + one (((u == a) || (u == innermost_or a (reverse (at_place stacks a)))) && nat_lt u count)) → AreTouched owner k (E a) tasks
  touched_ending a g = touched_by (E a) (λ u. g u ∙ ap (λ b. 0 + one (b && nat_lt u count)) (ap (λ cs. (u == a) || (u == innermost_or a cs)) (sym (h.kept a)) ∙ go u (party k a).callers (u == a) refl))
    where
      go : (u : ℕ) (cs : List ℕ) (b : Bool) → (u == a) ≡ b → (b || (u == innermost_or a cs)) ≡ (b || is_innermost u cs)
      go u cs true p = refl
      go u [] false p = p
      go u (c ∷ cs) false p = refl

  pub touched_aborting : (mid : ℕ → ℕ) (s y : ℕ) → ((u : ℕ) → mid u ≡ 0 + one (((u == s) || (u == y)) && nat_lt u count)) →
      ((u : ℕ) → times u tasks ≡ mid u + (if ((u == s) || (u == y)) then 0 else (if nat_lt u count then times u (at_place stacks y) else 0))) → AreTouched owner k (B s y) tasks
  touched_aborting mid s y f g = touched_by (B s y) (λ u. g u ∙ ap (λ n. n + (if ((u == s) || (u == y)) then 0 else (if nat_lt u count then times u (at_place stacks y) else 0))) (f u)
      ∙ ap (λ n. 0 + one (((u == s) || (u == y)) && nat_lt u count) + (if ((u == s) || (u == y)) then 0 else (if nat_lt u count then n else 0))) (served u)
      ∙ go (u == s) (u == y) (nat_lt u count) (is_served_by y (party k u)))
    where
      served : (u : ℕ) → times u (at_place stacks y) ≡ one (is_served_by y (party k u))
      served u = sym (times_reverse u (at_place stacks y)) ∙ ap (times u) (sym (h.kept y)) ∙ h.serve.callers y u

      go : (a b w v : Bool) → 0 + one ((a || b) && w) + (if (a || b) then 0 else (if w then one v else 0)) ≡ 0 + one ((a || (b || v)) && w)
      go true b true v = refl
      go true b false v = refl
      go false true true v = refl
      go false true false v = refl
      go false false true true = refl
      go false false true false = refl
      go false false false true = refl
      go false false false false = refl
