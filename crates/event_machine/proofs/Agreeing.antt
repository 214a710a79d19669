-- What an event reads and writes: its conditions and its effects go by the free tasks that it needs and by the served ones, and tasks that it does
-- not change stay.
use Rattle.std.proofs.Common.{◌≡◌, ℕ, zero, suc, pred, ◌<◌, ◌≤◌, Bool, true, false, not, ◌&&◌, ◌||◌, ◌==◌, refl, sym, ap, ap₂, ◌∙◌, subst, inl, inr, ◌⊎◌, ⊎_elim, true≢false, arith}
use Rattle.std.proofs.lemmas.Bool.{eqb-true, and_parts, or_cases, or_left, or_right, le-leb, leb-true, cases_lt}
use Rattle.event_machine.specs.declared.Standing.TheVariants.{Live}
use Rattle.event_machine.specs.declared.Event.{Event}
use Rattle.event_machine.specs.declared.Event.TheVariants.{R, E, S, D, C, T, F, X, B, Z}
use Rattle.event_machine.specs.Offers.{Offer, calls_in, is_any_form, is_conditional, is_timed, waits_with, opens, is_else, is_delay, is_finish, is_end, is_terminate}
use Rattle.event_machine.specs.States.{Seat, is_live, is_closed, is_completed, is_served}
use Rattle.event_machine.specs.Programs.{Program}
use Rattle.event_machine.specs.Worlds.{happens, offers, aborts, needs, others_end}
use Rattle.event_machine.proofs.Basics.{split}
use Rattle.event_machine.proofs.Standings.{is-Live}
use Rattle.common_lemmas.proofs.Numbers.{equal_self}

module _ {L : Type 0} (p : Program L) where
  -- The tasks stand alike, and those that the event needs, where they are free, are the same.
  pub record ReadsSame (e : Event) (tasks others : ℕ → Seat L) : Type 0 where
    pub standing : (t : ℕ) → (others t).standing ≡ (tasks t).standing
    pub needed : (t : ℕ) → needs p e t ≡ true → (tasks t).standing ≡ Live → others t ≡ tasks t

  -- Those that are served are the same, too.
  pub record AgreesFor (e : Event) (tasks others : ℕ → Seat L) : Type 0 where
    pub reads : ReadsSame e tasks others
    pub open reads use *
    pub served : (t : ℕ) → is_served (tasks t).standing ≡ true → others t ≡ tasks t

  -- ---- conditions

  offers_same : (test : Offer → Bool) (seat other : Seat L) → other.standing ≡ seat.standing → (seat.standing ≡ Live → other ≡ seat) →
      offers p.ops test other ≡ offers p.ops test seat
  offers_same test seat other stand' same' = go (is_live seat.standing) refl
    where
      go : (b : Bool) → is_live seat.standing ≡ b → offers p.ops test other ≡ offers p.ops test seat
      go true q = ap (offers p.ops test) (same' (is-Live seat.standing q))
      go false q = ap (λ b. b && test (p.ops.offer other.local)) (ap is_live stand' ∙ q) ∙ sym (ap (λ b. b && test (p.ops.offer seat.local)) q)

  others_same : (tasks others : ℕ → Seat L) → ((t : ℕ) → (others t).standing ≡ (tasks t).standing) → (n : ℕ) →
      ((t : ℕ) → t ≤ n → (tasks t).standing ≡ Live → others t ≡ tasks t) → others_end p.ops others n ≡ others_end p.ops tasks n
  others_same tasks others stand' zero same' = refl
  others_same tasks others stand' (suc n) same' =
      ap₂ (λ a b. a && b) (others_same tasks others stand' n (λ t l. same' t (omega arith)))
      (ap₂ (λ a b. a || b) (ap is_completed (stand' (suc n)))
      (offers_same (waits_with is_terminate) (tasks (suc n)) (others (suc n)) (stand' (suc n)) (same' (suc n) (omega arith))))

  pub happens_same : (e : Event) (tasks others : ℕ → Seat L) → ReadsSame e tasks others → happens p others e ≡ happens p tasks e
  happens_same (R c e i) tasks others h = ap₂ (λ a b. a && b)
      (offers_same (calls_in is_any_form e i) (tasks c) (others c) (h.standing c) (h.needed c (or_left _ _ (equal_self c))))
      (offers_same (waits_with (opens e i)) (tasks (p.owner e)) (others (p.owner e)) (h.standing (p.owner e)) (h.needed (p.owner e) (or_right _ _ (equal_self (p.owner e)))))
  happens_same (E a) tasks others h = offers_same is_finish (tasks a) (others a) (h.standing a) (h.needed a (equal_self a))
  happens_same (S a) tasks others h = offers_same (waits_with is_else) (tasks a) (others a) (h.standing a) (h.needed a (equal_self a))
  happens_same (D a k) tasks others h = offers_same (waits_with (is_delay k)) (tasks a) (others a) (h.standing a) (h.needed a (equal_self a))
  happens_same (C c e i) tasks others h = ap₂ (λ a b. a && b)
      (offers_same (calls_in is_conditional e i) (tasks c) (others c) (h.standing c) (h.needed c (equal_self c)))
      (ap (λ z. not (is_closed z)) (h.standing (p.owner e)))
  happens_same (T c e i) tasks others h = ap₂ (λ a b. a && b)
      (offers_same (calls_in is_timed e i) (tasks c) (others c) (h.standing c) (h.needed c (equal_self c)))
      (ap (λ z. not (is_closed z)) (h.standing (p.owner e)))
  happens_same (F c e i) tasks others h = ap₂ (λ a b. a && b)
      (offers_same (calls_in is_any_form e i) (tasks c) (others c) (h.standing c) (h.needed c (equal_self c)))
      (ap is_closed (h.standing (p.owner e)))
  happens_same (X a) tasks others h =
      ap (λ b. not (a == 0) && b) (offers_same is_end (tasks a) (others a) (h.standing a) (h.needed a (equal_self a)))
  happens_same (B t x) tasks others h = offers_same (aborts x) (tasks t) (others t) (h.standing t) (h.needed t (equal_self t))
  happens_same Z tasks others h = ap₂ (λ a b. a && b)
      (offers_same is_end (tasks 0) (others 0) (h.standing 0) (h.needed 0 (le-leb 0 (pred p.size) (omega arith))))
      (others_same tasks others h.standing (pred p.size) (λ t l. h.needed t (le-leb t (pred p.size) l)))

  at_one : (tasks : ℕ → Seat L) (test : Offer → Bool) → test Offer.Nothing ≡ false → (a t : ℕ) → (t == a) ≡ true → test (p.ops.offer (tasks a).local) ≡ true →
      (test : Offer → Bool) × (test Offer.Nothing ≡ false) × (test (p.ops.offer (tasks t).local) ≡ true)
  at_one tasks test n a t k h = (test, n, subst (λ v. test (p.ops.offer (tasks v).local) ≡ true) (sym (eqb-true t a k)) h)

  -- a free task up to the last offers to terminate, where the others can end
  ends_at : (tasks : ℕ → Seat L) (n u : ℕ) → others_end p.ops tasks n ≡ true → suc u ≤ n → (tasks (suc u)).standing ≡ Live →
      waits_with is_terminate (p.ops.offer (tasks (suc u)).local) ≡ true
  ends_at tasks zero u h l f = absurd (omega arith)
  ends_at tasks (suc n) u h l f = ⊎_elim
      (λ q. let e : n ≡ u = omega arith in
      subst (λ v. waits_with is_terminate (p.ops.offer (tasks (suc v)).local) ≡ true) e
      (⊎_elim
      (λ c. absurd (true≢false (sym c ∙ ap (λ v. is_completed (tasks (suc v)).standing) e ∙ ap is_completed f)))
      (λ o. (split o).1)
      (or_cases (is_completed (tasks (suc n)).standing) (offers p.ops (waits_with is_terminate) (tasks (suc n))) (split h).1)))
      (λ l'. ends_at tasks n u (split h).0 l' f)
      (last_or_less u n l)
    where
      last_or_less : (u n : ℕ) → suc u ≤ suc n → (u ≡ n) ⊎ (suc u ≤ n)
      last_or_less u n l = ⊎_elim (λ (q : u < n). inr q) (λ (q : n ≤ u). inl (omega arith)) (cases_lt u n)

  -- what the conditions find at a task that they need, where it is free, has no local step
  pub happens_free : (e : Event) (tasks : ℕ → Seat L) → happens p tasks e ≡ true → (t : ℕ) → needs p e t ≡ true → (tasks t).standing ≡ Live →
      (test : Offer → Bool) × (test Offer.Nothing ≡ false) × (test (p.ops.offer (tasks t).local) ≡ true)
  happens_free (R c e i) tasks h t k free = ⊎_elim
      (λ q. (
        calls_in is_any_form e i,
        refl,
        subst (λ v. calls_in is_any_form e i (p.ops.offer (tasks v).local) ≡ true) (sym (eqb-true t c q))
            (and_parts (is_live (tasks c).standing) _ (split h).0).1,
      ))
      (λ q. (
        waits_with (opens e i),
        refl,
        subst (λ v. waits_with (opens e i) (p.ops.offer (tasks v).local) ≡ true) (sym (eqb-true t (p.owner e) q))
            (and_parts (is_live (tasks (p.owner e)).standing) _ (and_parts (offers p.ops (calls_in is_any_form e i) (tasks c)) _ h).1).1,
      ))
      (or_cases (t == c) (t == p.owner e) k)
  happens_free (E a) tasks h t k free = at_one tasks is_finish refl a t k (split h).1
  happens_free (S a) tasks h t k free = at_one tasks (waits_with is_else) refl a t k (split h).1
  happens_free (D a j) tasks h t k free = at_one tasks (waits_with (is_delay j)) refl a t k (split h).1
  happens_free (C c e i) tasks h t k free = at_one tasks (calls_in is_conditional e i) refl c t k (and_parts (is_live (tasks c).standing) _ (split h).0).1
  happens_free (T c e i) tasks h t k free = at_one tasks (calls_in is_timed e i) refl c t k (and_parts (is_live (tasks c).standing) _ (split h).0).1
  happens_free (F c e i) tasks h t k free = at_one tasks (calls_in is_any_form e i) refl c t k (and_parts (is_live (tasks c).standing) _ (split h).0).1
  happens_free (X a) tasks h t k free =
      at_one tasks is_end refl a t k (and_parts (is_live (tasks a).standing) _ (and_parts (not (a == 0)) _ h).1).1
  happens_free (B u x) tasks h t k free = at_one tasks (aborts x) refl u t k (split h).1
  happens_free Z tasks h t k free = go t (leb-true t (pred p.size) k) free
    where
      go : (u : ℕ) → u ≤ pred p.size → (tasks u).standing ≡ Live →
          (test : Offer → Bool) × (test Offer.Nothing ≡ false) × (test (p.ops.offer (tasks u).local) ≡ true)
      go zero l f = (is_end, refl, (and_parts (is_live (tasks 0).standing) _ (split h).0).1)
      go (suc u) l f = (
        waits_with is_terminate,
        refl,
        ends_at tasks (pred p.size) u (and_parts (offers p.ops is_end (tasks 0)) _ h).1 l f,
      )
