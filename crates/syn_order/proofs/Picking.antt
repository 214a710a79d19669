-- Lists join in one way at most, into a sequence that has these lists, and into some where the lists come from a sequence.
use Rattle.std.proofs.Common.{◌≡◌, ◌≢◌, ℕ, ℤ, zero, suc, ◌+◌, ◌<◌, ◌≤◌, Bool, true, false, ◌⊎◌, inl, inr, if◌then◌else◌, List, [], ◌∷◌, length, Option, Some, None, refl, sym, ap, ◌∙◌, subst, ⊎_elim, true≢false, arith}
use Rattle.std.specs.Bool.{Decides}
use Rattle.std.specs.Ordering.{int_eq}
use Rattle.std.proofs.lemmas.Bool.{cases_eq, cases_order, cases_Bool}
use Rattle.std.proofs.lemmas.Bool.Decides.{Decides-int_eq}
use Rattle.common_lemmas.proofs.Lists.{not_empty}
use Rattle.common_lemmas.proofs.Options.{some_same, not_missing}
use Rattle.event_machine.specs.declared.Event.{Event}
use Rattle.event_machine.specs.declared.Event.TheVariants.{R, E, S, D, C, T, F, X, B, Z}
use Rattle.event_machine.specs.progress.Known.{Known, admits, advanced, touches, known_from}
use Rattle.control_script.proofs.Writing.{as_many}
use Rattle.syn_order.specs.Orders.{AreAdmitted, split, first, rest, IsReady, IsPicked, taken, ArePicked, left_after, IsJoin, HasNoOrder}
use Rattle.syn_order.proofs.Locality.{touches_one}
use Rattle.syn_order.proofs.Pulling.{first_ready, ready_same, taken_same, pulled}

-- ---- whether two events are the same

ints_or : (i j : ℤ) → (i ≡ j) ⊎ (i ≡ j → ⊥)
ints_or i j = go (int_eq i j) (Decides-int_eq i j)
  where
    go : (b : Bool) → Decides b (i ≡ j) → (i ≡ j) ⊎ (i ≡ j → ⊥)
    go true h = inl (h.0 refl)
    go false h = inr (λ s. true≢false (sym (h.1 s)))

calls_or : (w : ℕ → ℕ → ℤ → Event) → ((c e : ℕ) (i : ℤ) (d f : ℕ) (j : ℤ) → w c e i ≡ w d f j → (c ≡ d) × (e ≡ f) × (i ≡ j)) → (c e : ℕ) (i : ℤ) (d f : ℕ) (j : ℤ) →
    (w c e i ≡ w d f j) ⊎ (w c e i ≡ w d f j → ⊥)
calls_or w parts c e i d f j = go (cases_eq c d) (cases_eq e f) (ints_or i j)
  where
    go : ((c ≡ d) ⊎ (c ≡ d → ⊥)) → ((e ≡ f) ⊎ (e ≡ f → ⊥)) → ((i ≡ j) ⊎ (i ≡ j → ⊥)) → (w c e i ≡ w d f j) ⊎ (w c e i ≡ w d f j → ⊥)
    go (inr h) q r = inr (λ s. h (parts c e i d f j s).0)
    go (inl p) (inr h) r = inr (λ s. h (parts c e i d f j s).1)
    go (inl p) (inl q) (inr h) = inr (λ s. h (parts c e i d f j s).2)
    go (inl p) (inl q) (inl r) = inl (λ t. w (p t) (q t) (r t))

tasks_or : (w : ℕ → Event) → ((a b : ℕ) → w a ≡ w b → a ≡ b) → (a b : ℕ) → (w a ≡ w b) ⊎ (w a ≡ w b → ⊥)
tasks_or w same a b = ⊎_elim (λ p. inl (ap w p)) (λ h. inr (λ s. h (same a b s))) (cases_eq a b)

pairs_or : (w : ℕ → ℕ → Event) → ((a m b n : ℕ) → w a m ≡ w b n → (a ≡ b) × (m ≡ n)) → (a m b n : ℕ) → (w a m ≡ w b n) ⊎ (w a m ≡ w b n → ⊥)
pairs_or w parts a m b n = go (cases_eq a b) (cases_eq m n)
  where
    go : ((a ≡ b) ⊎ (a ≡ b → ⊥)) → ((m ≡ n) ⊎ (m ≡ n → ⊥)) → (w a m ≡ w b n) ⊎ (w a m ≡ w b n → ⊥)
    go (inr h) q = inr (λ s. h (parts a m b n s).0)
    go (inl p) (inr h) = inr (λ s. h (parts a m b n s).1)
    go (inl p) (inl q) = inl (λ t. w (p t) (q t))

pub events_or : (e f : Event) → (e ≡ f) ⊎ (e ≡ f → ⊥)
events_or (R c e i) (R d f j) = calls_or R (λ c e i d f j s. (cc, cc, cc)) c e i d f j
events_or (E a) (E b) = tasks_or E (λ a b s. cc) a b
events_or (S a) (S b) = tasks_or S (λ a b s. cc) a b
events_or (D a m) (D b n) = pairs_or D (λ a m b n s. (cc, cc)) a m b n
events_or (C c e i) (C d f j) = calls_or C (λ c e i d f j s. (cc, cc, cc)) c e i d f j
events_or (T c e i) (T d f j) = calls_or T (λ c e i d f j s. (cc, cc, cc)) c e i d f j
events_or (F c e i) (F d f j) = calls_or F (λ c e i d f j s. (cc, cc, cc)) c e i d f j
events_or (X a) (X b) = tasks_or X (λ a b s. cc) a b
events_or (B t x) (B u y) = pairs_or B (λ a m b n s. (cc, cc)) t x u y
events_or Z Z = inl refl
events_or e f = inr (λ s. cc)

firsts_or : (o : Option Event) (e : Event) → (o ≡ Some e) ⊎ (o ≡ Some e → ⊥)
firsts_or None e = inr (λ s. not_missing e s)
firsts_or (Some f) e = ⊎_elim (λ p. inl (ap Some p)) (λ h. inr (λ s. h (some_same s))) (events_or f e)

module _ (owner : ℕ → ℕ) (n : ℕ) where
  -- ---- whether an event is ready, and which is picked

  -- the first of the list of each task below n that it touches, or not
  first_in_each_or : (k : Known) (lists : ℕ → List Event) (e : Event) (m : ℕ) →
      ((t : ℕ) → t < m → touches owner k e t ≡ true → first (lists t) ≡ Some e) ⊎ (((t : ℕ) → t < m → touches owner k e t ≡ true → first (lists t) ≡ Some e) → ⊥)
  first_in_each_or k lists e zero = inl (λ t l. absurd (omega (arith, l)))
  first_in_each_or k lists e (suc m) = go (cases_Bool (touches owner k e m)) (firsts_or (first (lists m)) e) (first_in_each_or k lists e m)
    where
      UpTo : ℕ → Type 0
      UpTo b = (t : ℕ) → t < b → touches owner k e t ≡ true → first (lists t) ≡ Some e

      more : UpTo m → (touches owner k e m ≡ true → first (lists m) ≡ Some e) → UpTo (suc m)
      more h q t l = last (cases_order t m)
        where
          last : ((t ≡ m) ⊎ ((t < m) ⊎ (m < t))) → touches owner k e t ≡ true → first (lists t) ≡ Some e
          last (inl p) = subst (λ v. touches owner k e v ≡ true → first (lists v) ≡ Some e) (sym p) q
          last (inr (inl b)) = h t b
          last (inr (inr b)) = absurd (omega (arith, l, b))

      go : ((touches owner k e m ≡ true) ⊎ (touches owner k e m ≡ false)) → ((first (lists m) ≡ Some e) ⊎ (first (lists m) ≡ Some e → ⊥)) → (UpTo m ⊎ (UpTo m → ⊥)) →
          UpTo (suc m) ⊎ (UpTo (suc m) → ⊥)
      go b f (inr h) = inr (λ r. h (λ t l. r t (omega (arith, l))))
      go b (inl f) (inl h) = inl (more h (λ _. f))
      go (inl b) (inr f) (inl h) = inr (λ r. f (r m (omega arith) b))
      go (inr b) (inr f) (inl h) = inl (more h (λ g. absurd (true≢false (sym g ∙ b))))

  ready_or : (k : Known) (lists : ℕ → List Event) (e : Event) → IsReady owner n k lists e ⊎ (IsReady owner n k lists e → ⊥)
  ready_or k lists e = go (cases_Bool (admits owner k e)) (first_in_each_or k lists e n)
    where
      Firsts : Type 0
      Firsts = (t : ℕ) → t < n → touches owner k e t ≡ true → first (lists t) ≡ Some e

      go : ((admits owner k e ≡ true) ⊎ (admits owner k e ≡ false)) → (Firsts ⊎ (Firsts → ⊥)) → IsReady owner n k lists e ⊎ (IsReady owner n k lists e → ⊥)
      go (inr q) f = inr (λ r. true≢false (sym r.admitted ∙ q))
      go (inl q) (inl f) = inl (record { admitted = q; first_in_each = f })
      go (inl q) (inr f) = inr (λ r. f r.first_in_each)

  -- no task below m has a first event that is ready
  abbrev NoneReady : Known → (ℕ → List Event) → ℕ → Type 0
  NoneReady k lists m = (t : ℕ) → t < m → (f : Event) → first (lists t) ≡ Some f → IsReady owner n k lists f → ⊥

  abbrev Pick : Known → (ℕ → List Event) → Type 0
  Pick k lists = (e : Event) × IsPicked owner n k lists e

  pick_below : (k : Known) (lists : ℕ → List Event) (m : ℕ) → m ≤ n → Pick k lists ⊎ NoneReady k lists m
  pick_below k lists zero l = inr (λ t b. absurd (omega (arith, b)))
  pick_below k lists (suc m) l = go (pick_below k lists m (omega (arith, l)))
    where
      none_more : NoneReady k lists m → ((f : Event) → first (lists m) ≡ Some f → IsReady owner n k lists f → ⊥) → NoneReady k lists (suc m)
      none_more h q t b = last (cases_order t m)
        where
          last : ((t ≡ m) ⊎ ((t < m) ⊎ (m < t))) → (f : Event) → first (lists t) ≡ Some f → IsReady owner n k lists f → ⊥
          last (inl p) = subst (λ v. (f : Event) → first (lists v) ≡ Some f → IsReady owner n k lists f → ⊥) (sym p) q
          last (inr (inl c)) = h t c
          last (inr (inr c)) = absurd (omega (arith, b, c))

      at_first : NoneReady k lists m → (o : Option Event) → first (lists m) ≡ o → Pick k lists ⊎ NoneReady k lists (suc m)
      at_first h None q = inr (none_more h (λ f p. absurd (not_missing f (sym q ∙ p))))
      at_first h (Some e) q = ⊎_elim
          (λ r. inl (e, record { task = m; below = l'; is_first = q; ready = r; least = h }))
          (λ r. inr (none_more h (λ f p s. r (subst (λ g. IsReady owner n k lists g) (some_same (sym p ∙ q)) s))))
          (ready_or k lists e)
        where
          l' : m < n
          l' = omega (arith, l)

      go : (Pick k lists ⊎ NoneReady k lists m) → Pick k lists ⊎ NoneReady k lists (suc m)
      go (inl p) = inl p
      go (inr h) = at_first h (first (lists m)) refl

  -- an event is picked, or the first event of no list is ready
  pub pick_or : (k : Known) (lists : ℕ → List Event) → Pick k lists ⊎ NoneReady k lists n
  pick_or k lists = pick_below k lists n (omega arith)

  -- where an event is ready one is picked
  pub some_picked : (k : Known) (lists : ℕ → List Event) (e : Event) → length k.parties ≡ n → 0 < n → IsReady owner n k lists e → Pick k lists
  some_picked k lists e sized some r = ⊎_elim (λ p. p)
      (λ h. let t = touches_one owner n k e sized some r.admitted in absurd (h t.0 t.1 e (r.first_in_each t.0 t.1 t.2) r)) (pick_or k lists)

  -- one event at most is picked
  pub picked_once : (k : Known) (lists : ℕ → List Event) (e f : Event) → IsPicked owner n k lists e → IsPicked owner n k lists f → e ≡ f
  picked_once k lists e f p q = go (cases_order p.task q.task)
    where
      go : ((p.task ≡ q.task) ⊎ ((p.task < q.task) ⊎ (q.task < p.task))) → e ≡ f
      go (inl h) = some_same (sym p.is_first ∙ ap (λ t. first (lists t)) h ∙ q.is_first)
      go (inr (inl l)) = absurd (q.least p.task l e p.is_first p.ready)
      go (inr (inr l)) = absurd (p.least q.task l f q.is_first q.ready)

  -- the same for the same lists
  pub picked_same : (k : Known) (ls ms : ℕ → List Event) (e : Event) → ((t : ℕ) → t < n → ls t ≡ ms t) → IsPicked owner n k ls e → IsPicked owner n k ms e
  picked_same k ls ms e h p = record {
    task = p.task;
    below = p.below;
    is_first = ap first (sym (h p.task p.below)) ∙ p.is_first;
    ready = ready_same owner n k ls ms e h p.ready;
    least = λ t l f q r. p.least t l f (ap first (h t (let b = p.below in omega (arith, l, b))) ∙ q) (ready_same owner n k ms ls f (λ u m. sym (h u m)) r);
  }

  -- ---- lists that come from a sequence join

  abbrev Joined : Known → (ℕ → List Event) → Type 0
  Joined k lists = (order : List Event) × IsJoin owner n k lists order

  one_more : (k : Known) (lists : ℕ → List Event) (e : Event) → IsPicked owner n k lists e → Joined (advanced owner k e) (taken owner k lists e) → Joined k lists
  one_more k lists e p (order, j) = (e ∷ order, record { picked = (p, j.picked); used_up = j.used_up })

  pub joined : 0 < n → (m : ℕ) (k : Known) (lists : ℕ → List Event) (xs : List Event) → length xs ≡ m → length k.parties ≡ n → AreAdmitted owner k xs →
      ((t : ℕ) → t < n → split owner k xs t ≡ lists t) → Joined k lists
  joined some zero k lists [] s sized a h = ([], record { picked = tt; used_up = λ t l. sym (h t l) })
  joined some zero k lists (x ∷ xs) s sized a h = absurd (let l : suc (length xs) ≡ zero = s in omega (arith, l))
  joined some (suc m) k lists [] s sized a h = absurd (let l : zero ≡ suc m = s in omega (arith, l))
  joined some (suc m) k lists (x ∷ xs) s sized a h =
      let p = some_picked k lists x sized some (ready_same owner n k (split owner k (x ∷ xs)) lists x h (first_ready owner n k x xs a.0)) in
      let r = pulled owner n some (x ∷ xs) k p.0 sized a (ready_same owner n k lists (split owner k (x ∷ xs)) p.0 (λ t l. sym (h t l)) p.1.ready) in
      one_more k lists p.0 p.1
      (joined some m (advanced owner k p.0) (taken owner k lists p.0) r.others (same_number (length r.others) (length xs) m r.shorter s) (as_many owner k p.0 ∙ sized) r.admitted
      (λ t l. r.lists t l ∙ taken_same owner k (split owner k (x ∷ xs)) lists p.0 t (h t l)))
    where
      same_number : (a b c : ℕ) → suc a ≡ suc b → suc b ≡ suc c → a ≡ c
      same_number a b c p q = omega (arith, p, q)

  -- ---- a joined sequence has the lists

  pub record SplitsBack (k : Known) (lists : ℕ → List Event) (xs : List Event) : Type 0 where
    pub admitted : AreAdmitted owner k xs
    pub lists_are : (t : ℕ) → t < n → split owner k xs t ≡ lists t

  pub joined_back : (xs : List Event) (k : Known) (lists : ℕ → List Event) → ArePicked owner n k lists xs → ((t : ℕ) → t < n → left_after owner k lists xs t ≡ []) → SplitsBack k lists xs
  joined_back [] k lists p u = record { admitted = tt; lists_are = λ t l. sym (u t l) }
  joined_back (e ∷ xs) k lists p u =
      let r = joined_back xs (advanced owner k e) (taken owner k lists e) p.1 u in
      record {
        admitted = (p.0.ready.admitted, r.admitted);
        lists_are = λ t l. ap (λ zs. if touches owner k e t then e ∷ zs else zs) (r.lists_are t l) ∙ whole (touches owner k e t) (lists t) (p.0.ready.first_in_each t l);
      }
    where
      put_back : (zs : List Event) → first zs ≡ Some e → e ∷ rest zs ≡ zs
      put_back [] q = absurd (not_missing e q)
      put_back (z ∷ zs) q = ap (λ v. v ∷ zs) (sym (some_same q))

      whole : (b : Bool) (zs : List Event) → (b ≡ true → first zs ≡ Some e) → (if b then e ∷ (if b then rest zs else zs) else (if b then rest zs else zs)) ≡ zs
      whole true zs h = put_back zs (h refl)
      whole false zs h = refl

  -- ---- one order

  -- Behind these events none is picked.
  abbrev IsOver : Known → (ℕ → List Event) → List Event → Type 0
  IsOver k lists xs = (e : Event) → IsPicked owner n (known_from owner k xs) (left_after owner k lists xs) e → ⊥

  pub used_up_over : (k : Known) (lists : ℕ → List Event) (xs : List Event) → ((t : ℕ) → t < n → left_after owner k lists xs t ≡ []) → IsOver k lists xs
  used_up_over k lists xs h e p = not_missing e (sym (ap first (h p.task p.below)) ∙ p.is_first)

  pub over_once : (xs ys : List Event) (k : Known) (lists : ℕ → List Event) → ArePicked owner n k lists xs → IsOver k lists xs → ArePicked owner n k lists ys → IsOver k lists ys → xs ≡ ys
  over_once [] [] k lists p o q r = refl
  over_once [] (y ∷ ys) k lists p o q r = absurd (o y q.0)
  over_once (x ∷ xs) [] k lists p o q r = absurd (r x p.0)
  over_once (x ∷ xs) (y ∷ ys) k lists p o q r = λ i. same i ∷ over_once xs ys (advanced owner k x) (taken owner k lists x) p.1 o q'.0 q'.1 i
    where
      same : x ≡ y
      same = picked_once k lists x y p.0 q.0

      q' : ArePicked owner n (advanced owner k x) (taken owner k lists x) ys × IsOver (advanced owner k x) (taken owner k lists x) ys
      q' = subst (λ z. ArePicked owner n (advanced owner k z) (taken owner k lists z) ys × IsOver (advanced owner k z) (taken owner k lists z) ys) (sym same) (q.1, r)

  -- ---- an order, or none

  -- the number of events in the lists of the tasks below m
  abbrev pub total : (ℕ → List Event) → ℕ → ℕ
  total lists zero = 0
  total lists (suc m) = length (lists m) + total lists m

  taken_length : (b : Bool) (zs : List Event) → length (if b then rest zs else zs) ≤ length zs
  taken_length true [] = omega arith
  taken_length true (z ∷ zs) = let l = length zs in omega arith
  taken_length false zs = omega arith

  pub total_less : (k : Known) (lists : ℕ → List Event) (e : Event) (m t : ℕ) → t < m → touches owner k e t ≡ true → first (lists t) ≡ Some e →
      total (taken owner k lists e) m < total lists m
  total_less k lists e zero t l h f = absurd (omega (arith, l))
  total_less k lists e (suc m) t l h f = go (cases_order t m) (λ b. total_less k lists e m t b h f)
    where
      no_more : (b : ℕ) → total (taken owner k lists e) b ≤ total lists b
      no_more zero = omega arith
      no_more (suc b) = let p = no_more b in let q = taken_length (touches owner k e b) (lists b) in omega (arith, p, q)

      one_less : (zs : List Event) → first zs ≡ Some e → length (rest zs) < length zs
      one_less [] q = absurd (not_missing e q)
      one_less (z ∷ zs) q = omega arith

      go : ((t ≡ m) ⊎ ((t < m) ⊎ (m < t))) → (t < m → total (taken owner k lists e) m < total lists m) → total (taken owner k lists e) (suc m) < total lists (suc m)
      go (inl p) more =
          let q = no_more m in
          let r = subst (λ v. length (if touches owner k e v then rest (lists v) else lists v) < length (lists v)) p
          (subst (λ b. length (if b then rest (lists t) else lists t) < length (lists t)) (sym h) (one_less (lists t) f)) in
          omega (arith, q, r)
      go (inr (inl b)) more = let p = more b in let q = taken_length (touches owner k e m) (lists m) in omega (arith, p, q)
      go (inr (inr b)) more = absurd (omega (arith, l, b))

  -- the first task below m whose list is not used up, or none
  first_left : (lists : ℕ → List Event) (m : ℕ) → ((t : ℕ) × (t < m) × (lists t ≢ []) × ((u : ℕ) → u < t → lists u ≡ [])) ⊎ ((t : ℕ) → t < m → lists t ≡ [])
  first_left lists zero = inr (λ t l. absurd (omega (arith, l)))
  first_left lists (suc m) = go (first_left lists m)
    where
      at_last : ((t : ℕ) → t < m → lists t ≡ []) → (zs : List Event) → lists m ≡ zs →
          ((t : ℕ) × (t < suc m) × (lists t ≢ []) × ((u : ℕ) → u < t → lists u ≡ [])) ⊎ ((t : ℕ) → t < suc m → lists t ≡ [])
      at_last h [] q = inr (λ t l. last t l (cases_order t m))
        where
          last : (t : ℕ) → t < suc m → ((t ≡ m) ⊎ ((t < m) ⊎ (m < t))) → lists t ≡ []
          last t l (inl p) = ap lists p ∙ q
          last t l (inr (inl b)) = h t b
          last t l (inr (inr b)) = absurd (omega (arith, l, b))
      at_last h (z ∷ zs) q = inl (m, omega arith, (λ p. not_empty z zs (sym q ∙ p)), h)

      go : (((t : ℕ) × (t < m) × (lists t ≢ []) × ((u : ℕ) → u < t → lists u ≡ [])) ⊎ ((t : ℕ) → t < m → lists t ≡ [])) →
          ((t : ℕ) × (t < suc m) × (lists t ≢ []) × ((u : ℕ) → u < t → lists u ≡ [])) ⊎ ((t : ℕ) → t < suc m → lists t ≡ [])
      go (inl (t, l, p, h)) = inl (t, omega (arith, l), p, h)
      go (inr h) = at_last h (lists m) refl

  abbrev Stuck : Known → (ℕ → List Event) → Type 0
  Stuck k lists = (task : ℕ) × HasNoOrder owner n k lists task

  one_more_stuck : (k : Known) (lists : ℕ → List Event) (e : Event) → IsPicked owner n k lists e → Stuck (advanced owner k e) (taken owner k lists e) → Stuck k lists
  one_more_stuck k lists e p (task, s) = (
    task,
    record {
      events = e ∷ s.events;
      picked = (p, s.picked);
      none_ready = s.none_ready;
      below = s.below;
      not_used_up = s.not_used_up;
      used_up_before = s.used_up_before;
    },
  )

  -- where no first event is ready no event is
  none_at_all : (k : Known) (lists : ℕ → List Event) → length k.parties ≡ n → 0 < n → NoneReady k lists n → (e : Event) → IsReady owner n k lists e → ⊥
  none_at_all k lists sized some h e r = let t = touches_one owner n k e sized some r.admitted in h t.0 t.1 e (r.first_in_each t.0 t.1 t.2) r

  pub join_or : (m : ℕ) (k : Known) (lists : ℕ → List Event) → length k.parties ≡ n → total lists n < m → Joined k lists ⊎ Stuck k lists
  join_or zero k lists sized s = absurd (omega (arith, s))
  join_or (suc m) k lists sized s = go (pick_or k lists)
      (λ e p. join_or m (advanced owner k e) (taken owner k lists e) (as_many owner k e ∙ sized) (less e p))
    where
      less : (e : Event) → IsPicked owner n k lists e → total (taken owner k lists e) n < m
      less e p =
          let b = p.below in
          let some : 0 < n = omega (arith, b) in
          let t = touches_one owner n k e sized some p.ready.admitted in
          let q = total_less k lists e n t.0 t.1 t.2 (p.ready.first_in_each t.0 t.1 t.2) in
          omega (arith, q, s)

      go : (Pick k lists ⊎ NoneReady k lists n) →
          ((e : Event) → IsPicked owner n k lists e → Joined (advanced owner k e) (taken owner k lists e) ⊎ Stuck (advanced owner k e) (taken owner k lists e)) → Joined k lists ⊎ Stuck k lists
      go (inl (e, p)) more = ⊎_elim (λ j. inl (one_more k lists e p j)) (λ j. inr (one_more_stuck k lists e p j)) (more e p)
      go (inr h) more = ⊎_elim
          (λ f. let l = f.1 in inr (
            f.0,
            record {
              events = [];
              picked = tt;
              none_ready = none_at_all k lists sized (omega (arith, l)) h;
              below = f.1;
              not_used_up = f.2;
              used_up_before = f.3;
            },
          ))
          (λ f. inl ([], record { picked = tt; used_up = f })) (first_left lists n)

  pub stuck_over : (k : Known) (lists : ℕ → List Event) (task : ℕ) (s : HasNoOrder owner n k lists task) → IsOver k lists s.events
  stuck_over k lists task s e p = s.none_ready e p.ready
