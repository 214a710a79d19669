-- Two tasks of the copy act, and no other is touched, while the original does nothing.
use Rattle.std.proofs.Common.{◌≡◌, ℕ, suc, ◌+◌, ◌<◌, Bool, true, false, ◌||◌, ◌==◌, if◌then◌else◌, List, ◌∷◌, refl, sym, ap, ◌∙◌, subst, ⊎_elim, true≢false, arith}
use Rattle.std.specs.Prelude.{ℤ}
use Rattle.std.proofs.lemmas.Bool.{or_parts, or_cases, or_from, cases_Bool}
use Rattle.event_machine.specs.declared.Event.{Event}
use Rattle.event_machine.specs.States.{Ops, Seat, live, is_closed, is_served_by}
use Rattle.event_machine.specs.Soundness.{IsSound, times}
use Rattle.event_machine.specs.Worlds.{World}
use Rattle.run_laws.specs.imitation.Imitations.{Original}
use Rattle.run_laws.proofs.replaying.Facts.{put, put_self, put_other}
use Rattle.run_laws.proofs.collecting.Singles.{at_one}
use Rattle.run_laws.specs.aborts.Notes.{Book, are_met}
use Rattle.run_laws.specs.aborts.Copies.{Begun, Returned, Over, Copy, Calling, Owing}
use Rattle.run_laws.specs.aborts.Settings.{Setting, recorder}
use Rattle.run_laws.specs.aborts.inner.Beside.{book_of, heard, Hears, SeatAt, RecorderAt, AreBegun, AreOver, Inv}
use Rattle.run_laws.proofs.aborts.Frames.{touch_inv}
use Rattle.run_laws.proofs.aborts.Singles.{records_on}
use Rattle.common_lemmas.proofs.Numbers.{equal_self, unequal_above, unequal_turned}

-- The first caller of a task that is not closed is served by it, and is no other of its callers.
pub record IsFirst {L : Type 0} (tasks : ℕ → Seat L) (a c : ℕ) (rest : List ℕ) : Type 0 where
  pub served : is_served_by a (tasks c).standing ≡ true
  pub once : times c rest ≡ 0

pub first_is : {L : Type 0} {ops : Ops L} {P : L → Type 0} (tasks : ℕ → Seat L) → IsSound ops P tasks → (a c : ℕ) (rest : List ℕ) → is_closed (tasks a).standing ≡ false →
    ops.callers (tasks a).local ≡ c ∷ rest → IsFirst tasks a c rest
first_is {L} {ops} {P} tasks sound a c rest open' has = go (is_served_by a (tasks c).standing) refl
    (ap (λ b. (if b then 1 else 0) + times c rest) (sym (equal_self c)) ∙ sym (ap (times c) has) ∙ sound.callers a c open')
  where
    go : (b : Bool) → is_served_by a (tasks c).standing ≡ b → 1 + times c rest ≡ (if b then 1 else 0) → IsFirst tasks a c rest
    go true q h = record { served = q; once = omega (arith, h) }
    go false q h = absurd (omega (arith, h))

-- whom a task does not have among its callers it does not serve
pub none_served : {L : Type 0} {ops : Ops L} {P : L → Type 0} (tasks : ℕ → Seat L) → IsSound ops P tasks → (a c : ℕ) → is_closed (tasks a).standing ≡ false →
    times c (ops.callers (tasks a).local) ≡ 0 → is_served_by a (tasks c).standing ≡ false
none_served {L} {ops} {P} tasks sound a c open' none = go (is_served_by a (tasks c).standing) refl (sym none ∙ sound.callers a c open')
  where
    go : (b : Bool) → is_served_by a (tasks c).standing ≡ b → ◌≡◌ {A = ℕ} 0 (if b then 1 else 0) → is_served_by a (tasks c).standing ≡ false
    go true q h = absurd (omega (arith, h))
    go false q h = q

module _ {o : Original} (x : Setting o) (past : List Event) (r : Copy o.L) (d : World o.L) (w : World (Copy o.L)) (inv : Inv x past r d w) (runs : w.ended ≡ false) where
  module _ (c a : ℕ) (other : (c == a) ≡ false) (within : c < suc o.p.size) (within' : a < suc o.p.size) (y z : Seat (Copy o.L)) where
    abbrev pub pair_tasks : ℕ → Seat (Copy o.L)
    pair_tasks = put (put w.tasks a z) c y

    pub pair_last : pair_tasks c ≡ y
    pair_last = put_self (put w.tasks a z) c y

    pub pair_first : pair_tasks a ≡ z
    pair_first = put_other (put w.tasks a z) c a y (unequal_turned c a other) ∙ put_self w.tasks a z

    pub pair_other : (u : ℕ) → (u == c) ≡ false → (u == a) ≡ false → pair_tasks u ≡ w.tasks u
    pair_other u p q = put_other (put w.tasks a z) c u y p ∙ put_other w.tasks a u z q

    -- what holds of the two, and of each other task, holds of each
    pub pair_each : (P : ℕ → Seat (Copy o.L) → Type 0) → P c y → P a z → ((u : ℕ) → (u == c) ≡ false → (u == a) ≡ false → P u (w.tasks u)) → (u : ℕ) → P u (pair_tasks u)
    pair_each P at_c at_a others u = ⊎_elim
        (λ q. at_one (λ v. P v (pair_tasks v)) u c q (subst (P c) (sym pair_last) at_c))
        (λ p. ⊎_elim
        (λ q. at_one (λ v. P v (pair_tasks v)) u a q (subst (P a) (sym pair_first) at_a))
        (λ q. subst (P u) (sym (pair_other u p q)) (others u p q))
        (cases_Bool (u == a)))
        (cases_Bool (u == c))

    -- whom the two have accepted, and who has accepted them
    pub pair_begun : ((t e : ℕ) (i : ℤ) (l v : o.L) → (pair_tasks t).local ≡ Owing t (Begun c e i v) l → is_served_by t y.standing ≡ true → y.local ≡ Calling c v) →
        ((t e : ℕ) (i : ℤ) (l v : o.L) → (pair_tasks t).local ≡ Owing t (Begun a e i v) l → is_served_by t z.standing ≡ true → z.local ≡ Calling a v) →
        ((u e : ℕ) (i : ℤ) (l v : o.L) → (u == c) ≡ false → (u == a) ≡ false → y.local ≡ Owing c (Begun u e i v) l → is_served_by c (w.tasks u).standing ≡ true → (w.tasks u).local ≡ Calling u v) →
        ((u e : ℕ) (i : ℤ) (l v : o.L) → (u == c) ≡ false → (u == a) ≡ false → z.local ≡ Owing a (Begun u e i v) l → is_served_by a (w.tasks u).standing ≡ true → (w.tasks u).local ≡ Calling u v) →
        AreBegun x pair_tasks
    pair_begun served_c served_a by_c by_a t u e i l v p s = pair_each
        (λ u' seat. (e : ℕ) (i : ℤ) (l v : o.L) → (pair_tasks t).local ≡ Owing t (Begun u' e i v) l → is_served_by t seat.standing ≡ true → seat.local ≡ Calling u' v)
        (served_c t) (served_a t)
        (λ u' f g e i l v. pair_each (λ t' seat. seat.local ≡ Owing t' (Begun u' e i v) l → is_served_by t' (w.tasks u').standing ≡ true → (w.tasks u').local ≡ Calling u' v)
        (by_c u' e i l v f g) (by_a u' e i l v f g) (λ t' f' g'. inv.begun t' u' e i l v) t)
        u e i l v p s

    -- who is behind its call, and its acceptor
    pub pair_over : ((t : ℕ) (m v : o.L) → y.local ≡ Owing c (Returned m) v → is_closed y.standing ≡ false → is_served_by t (d.tasks c).standing ≡ true →
        ((pair_tasks t).local ≡ Owing t (Over c) m) × (d.tasks t ≡ live m)) →
        ((t : ℕ) (m v : o.L) → z.local ≡ Owing a (Returned m) v → is_closed z.standing ≡ false → is_served_by t (d.tasks a).standing ≡ true →
        ((pair_tasks t).local ≡ Owing t (Over a) m) × (d.tasks t ≡ live m)) →
        ((u : ℕ) (m v : o.L) → (w.tasks u).local ≡ Owing u (Returned m) v → is_closed (w.tasks u).standing ≡ false → is_served_by c (d.tasks u).standing ≡ true →
        (w.tasks c).local ≡ Owing c (Over u) m → d.tasks c ≡ live m → y.local ≡ Owing c (Over u) m) →
        ((u : ℕ) (m v : o.L) → (w.tasks u).local ≡ Owing u (Returned m) v → is_closed (w.tasks u).standing ≡ false → is_served_by a (d.tasks u).standing ≡ true →
        (w.tasks a).local ≡ Owing a (Over u) m → d.tasks a ≡ live m → z.local ≡ Owing a (Over u) m) →
        AreOver x pair_tasks d.tasks
    pair_over back_c back_a keep_c keep_a t u m v p open' s = pair_each
        (λ u' seat. (m v : o.L) → seat.local ≡ Owing u' (Returned m) v → is_closed seat.standing ≡ false → is_served_by t (d.tasks u').standing ≡ true →
        ((pair_tasks t).local ≡ Owing t (Over u') m) × (d.tasks t ≡ live m))
        (back_c t) (back_a t)
        (λ u' f g m v p open' s.
        let h : ((w.tasks t).local ≡ Owing t (Over u') m) × (d.tasks t ≡ live m) = inv.over t u' m v p open' s in (
          pair_each (λ t' seat. is_served_by t' (d.tasks u').standing ≡ true → (w.tasks t').local ≡ Owing t' (Over u') m → d.tasks t' ≡ live m → seat.local ≡ Owing t' (Over u') m)
              (λ s'. keep_c u' m v p open' s') (λ s'. keep_a u' m v p open' s') (λ t' f' g' s' k k'. k) t s h.0 h.1,
          h.1,
        ))
        u m v p open' s

    pub pair_acts : (r' : Copy o.L) → book_of r' ≡ book_of r →
        ((t : ℕ) (k : Copy o.L) → (t == c) ≡ false → (t == a) ≡ false → Hears x r t k → Hears x r' t k × (heard x r k ≡ heard x r' k)) →
        (c < o.p.size → SeatAt x (book_of r') pair_tasks d.tasks r' c) → (a < o.p.size → SeatAt x (book_of r') pair_tasks d.tasks r' a) →
        AreBegun x pair_tasks → AreOver x pair_tasks d.tasks →
        pair_tasks (recorder x) ≡ live r' → RecorderAt x past pair_tasks r' → Inv x past r' d (record { tasks = pair_tasks; ended = w.ended })
    pair_acts r' same hears seat_c seat_a begun over at records = touch_inv x past past r r' d d w (record { tasks = pair_tasks; ended = w.ended }) inv (record {
      touched = λ u. (u == c) || (u == a);
      same = λ u q. let k = or_parts (u == c) (u == a) q in
          record { there = pair_other u k.0 k.1; here = refl; met = ap (λ (b : Book). b.met u) same; acceptor = ap (λ (b : Book). b.acceptor u) same };
      closed = λ u h. h;
      hears = λ t k q. let g = or_parts (t == c) (t == a) q in hears t k g.0 g.1;
      seats = λ t l q. ⊎_elim
          (λ e. at_one (λ u. u < o.p.size → SeatAt x (book_of r') pair_tasks d.tasks r' u) t c e seat_c l)
          (λ e. at_one (λ u. u < o.p.size → SeatAt x (book_of r') pair_tasks d.tasks r' u) t a e seat_a l)
          (or_cases (t == c) (t == a) q);
      gone = λ t l. ap (λ (b : Book). b.gone t) same ∙ inv.gone t l;
      serves = λ u t l q. ap (λ (b : Book). are_met b u t) same ∙ inv.serves u t l;
      begun = begun;
      over = over;
      reached = inv.reached;
      runs = inv.runs;
      ends = λ h. absurd (true≢false (sym h ∙ runs));
      at = at;
      records = records;
      beyond = λ t l. or_from (t == c) (t == a) (unequal_above t c (omega (arith, l, within))) (unequal_above t a (omega (arith, l, within')));
    })

    -- where the recorder serves neither of the two, what is so of it stays so
    pub records_pair : is_served_by (recorder x) (w.tasks c).standing ≡ false → is_served_by (recorder x) (w.tasks a).standing ≡ false → RecorderAt x past pair_tasks r
    records_pair of_c of_a = records_on x past r w.tasks pair_tasks (λ u h. ap (λ (s : Seat (Copy o.L)). s.standing) (pair_other u (apart u c of_c h) (apart u a of_a h))) inv.records
      where
        apart : (u v : ℕ) → is_served_by (recorder x) (w.tasks v).standing ≡ false → is_served_by (recorder x) (w.tasks u).standing ≡ true → (u == v) ≡ false
        apart u v none h = ⊎_elim (λ q. absurd (true≢false (sym h ∙ at_one (λ t. is_served_by (recorder x) (w.tasks t).standing ≡ false) u v q none))) (λ q. q) (cases_Bool (u == v))
