-- Which tasks an event kills, and that a completed or killed task is never changed again.
use Rattle.std.proofs.Common.{◌≡◌, ℕ, Bool, true, false, not, ◌&&◌, ◌||◌, ◌==◌, if◌then◌else◌, List, [], ◌∷◌, refl, sym, ap, ◌∙◌, subst, inl, inr, ◌⊎◌, ⊎_elim, true≢false}
use Rattle.std.specs.Prelude.{ℤ}
use Rattle.std.proofs.lemmas.Bool.{eqb-true, eqb-false, ne_eqb, and_parts, or_from, and_right, false_from_ne_true}
use Rattle.event_machine.specs.declared.Standing.{Standing}
use Rattle.event_machine.specs.declared.Standing.TheVariants.{Live, Waiting, Queued, Served, Completed, Killed}
use Rattle.event_machine.specs.declared.Event.{Event}
use Rattle.event_machine.specs.declared.Event.TheVariants.{R, E, S, D, C, T, F, X, B, Z}
use Rattle.event_machine.specs.Offers.{calls_in, is_any_form}
use Rattle.event_machine.specs.States.{Seat, live, completed, is_live, is_closed, is_completed, is_served, is_served_by, is_abnormal}
use Rattle.event_machine.specs.Applying.{is_first}
use Rattle.event_machine.specs.Effects.{freed, met_at, parted, released_first, released, fallen, aborted, went_on, abort_seats}
use Rattle.event_machine.specs.Programs.{Program, numbered}
use Rattle.event_machine.specs.Worlds.{happens, acted, offers, needs, changes, is_last}
use Rattle.event_machine.proofs.Basics.{split, both}
use Rattle.event_machine.proofs.Standings.{is-Live}
use Rattle.event_machine.proofs.Effected.{IsServing, killed_at, went_other, released_other}
use Rattle.common_lemmas.proofs.Numbers.{equal_self}
use Rattle.common_lemmas.proofs.Truth.{not_true}

-- the event is the abort of t by another task
abbrev pub is_victim : Event → ℕ → Bool
is_victim (R c e i) t = false
is_victim (E a) t = false
is_victim (S a) t = false
is_victim (D a k) t = false
is_victim (C c e i) t = false
is_victim (T c e i) t = false
is_victim (F c e i) t = false
is_victim (X a) t = false
is_victim (B u x) t = (t == x) && not (x == u)
is_victim Z t = false

module _ {L : Type 0} (p : Program L) where
  -- ---- needed tasks and victims are changed

  pub needs_changes : (e : Event) (tasks : ℕ → Seat L) (t : ℕ) → is_last e ≡ false → needs p e t ≡ true → changes p.ops p.owner tasks e t ≡ true
  needs_changes (R c e i) tasks t l h = h
  needs_changes (E a) tasks t l h = ap (λ b. b || is_first t (p.ops.callers (tasks a).local)) h
  needs_changes (S a) tasks t l h = h
  needs_changes (D a k) tasks t l h = h
  needs_changes (C c e i) tasks t l h = h
  needs_changes (T c e i) tasks t l h = h
  needs_changes (F c e i) tasks t l h = h
  needs_changes (X a) tasks t l h = h
  needs_changes (B u x) tasks t l h = ap (λ b. b || (not (is_closed (tasks x).standing) && ((t == x) || is_served_by x (tasks t).standing))) h
  needs_changes Z tasks t l h = absurd (true≢false l)

  pub victim_changes : (e : Event) (tasks : ℕ → Seat L) (t : ℕ) → is_victim e t ≡ true → is_closed (tasks t).standing ≡ false → changes p.ops p.owner tasks e t ≡ true
  victim_changes (R c e i) tasks t h k = absurd (true≢false (sym h))
  victim_changes (E a) tasks t h k = absurd (true≢false (sym h))
  victim_changes (S a) tasks t h k = absurd (true≢false (sym h))
  victim_changes (D a j) tasks t h k = absurd (true≢false (sym h))
  victim_changes (C c e i) tasks t h k = absurd (true≢false (sym h))
  victim_changes (T c e i) tasks t h k = absurd (true≢false (sym h))
  victim_changes (F c e i) tasks t h k = absurd (true≢false (sym h))
  victim_changes (X a) tasks t h k = absurd (true≢false (sym h))
  victim_changes (B u x) tasks t h k = go (t == u)
    where
      same : t ≡ x
      same = eqb-true t x (split h).0

      go : (b : Bool) → (b || (not (is_closed (tasks x).standing) && ((t == x) || is_served_by x (tasks t).standing))) ≡ true
      go true = refl
      go false = both (ap not (subst (λ v. is_closed (tasks v).standing ≡ false) same k)) (ap (λ b. b || is_served_by x (tasks t).standing) (split h).0)
  victim_changes Z tasks t h k = absurd (true≢false (sym h))

  -- the victim of an abort is not the task that aborts
  pub victim_needless : (e : Event) (t : ℕ) → is_victim e t ≡ true → needs p e t ≡ false
  victim_needless (R c e i) t h = absurd (true≢false (sym h))
  victim_needless (E a) t h = absurd (true≢false (sym h))
  victim_needless (S a) t h = absurd (true≢false (sym h))
  victim_needless (D a j) t h = absurd (true≢false (sym h))
  victim_needless (C c e i) t h = absurd (true≢false (sym h))
  victim_needless (T c e i) t h = absurd (true≢false (sym h))
  victim_needless (F c e i) t h = absurd (true≢false (sym h))
  victim_needless (X a) t h = absurd (true≢false (sym h))
  victim_needless (B u x) t h = ap (λ v. v == u) (eqb-true t x (split h).0) ∙ not_true (x == u) (split h).1
  victim_needless Z t h = absurd (true≢false (sym h))

  -- ---- completed tasks

  live_completed : (s : Standing) → s ≡ Live → is_completed s ≡ true → ⊥
  live_completed s e h = true≢false (sym h ∙ ap is_completed e)

  served_completed : (s : Standing) → is_served s ≡ true → is_completed s ≡ true → ⊥
  served_completed Live h k = true≢false (sym h)
  served_completed Waiting h k = true≢false (sym h)
  served_completed Queued h k = true≢false (sym h)
  served_completed (Served by abnormal) h k = true≢false (sym k)
  served_completed Completed h k = true≢false (sym h)
  served_completed Killed h k = true≢false (sym h)

  completed_closed : (s : Standing) → is_completed s ≡ true → is_closed s ≡ true
  completed_closed Live h = absurd (true≢false (sym h))
  completed_closed Waiting h = absurd (true≢false (sym h))
  completed_closed Queued h = absurd (true≢false (sym h))
  completed_closed (Served by abnormal) h = absurd (true≢false (sym h))
  completed_closed Completed h = refl
  completed_closed Killed h = refl

  completed_unserved : (x : ℕ) (s : Standing) → is_completed s ≡ true → is_served_by x s ≡ false
  completed_unserved x Live h = refl
  completed_unserved x Waiting h = refl
  completed_unserved x Queued h = refl
  completed_unserved x (Served by abnormal) h = absurd (true≢false (sym h))
  completed_unserved x Completed h = refl
  completed_unserved x Killed h = refl

  other_task : (tasks : ℕ → Seat L) (t a : ℕ) → (tasks a).standing ≡ Live → is_completed (tasks t).standing ≡ true → (t == a) ≡ false
  other_task tasks t a free h = ne_eqb t a (λ q. live_completed (tasks a).standing free (subst (λ v. is_completed (tasks v).standing ≡ true) q h))

  -- No event changes a task that has completed.
  pub completed_stays : (e : Event) (tasks : ℕ → Seat L) → happens p tasks e ≡ true → IsServing p tasks → (t : ℕ) → is_completed (tasks t).standing ≡ true →
      changes p.ops p.owner tasks e t ≡ false
  completed_stays (R c e i) tasks k serving t h = or_from (t == c) (t == p.owner e)
      (other_task tasks t c (is-Live (tasks c).standing (and_parts (is_live (tasks c).standing) _ (split k).0).0) h)
      (other_task tasks t (p.owner e) (is-Live (tasks (p.owner e)).standing
      (and_parts (is_live (tasks (p.owner e)).standing) _ (and_parts (offers p.ops (calls_in is_any_form e i) (tasks c)) _ k).1).0) h)
  completed_stays (E a) tasks k serving t h =
      let free : (tasks a).standing ≡ Live = is-Live (tasks a).standing (split k).0 in
      or_from (t == a) (is_first t (p.ops.callers (tasks a).local)) (other_task tasks t a free h)
      (false_from_ne_true _ (λ q. served_completed (tasks t).standing (serving a t free q) h))
  completed_stays (S a) tasks k serving t h = other_task tasks t a (is-Live (tasks a).standing (split k).0) h
  completed_stays (D a j) tasks k serving t h = other_task tasks t a (is-Live (tasks a).standing (split k).0) h
  completed_stays (C c e i) tasks k serving t h = other_task tasks t c (is-Live (tasks c).standing (and_parts (is_live (tasks c).standing) _ (split k).0).0) h
  completed_stays (T c e i) tasks k serving t h = other_task tasks t c (is-Live (tasks c).standing (and_parts (is_live (tasks c).standing) _ (split k).0).0) h
  completed_stays (F c e i) tasks k serving t h = other_task tasks t c (is-Live (tasks c).standing (and_parts (is_live (tasks c).standing) _ (split k).0).0) h
  completed_stays (X a) tasks k serving t h =
      other_task tasks t a (is-Live (tasks a).standing (and_parts (is_live (tasks a).standing) _ (and_parts (not (a == 0)) _ k).1).0) h
  completed_stays (B u x) tasks k serving t h = or_from (t == u) _ (other_task tasks t u (is-Live (tasks u).standing (split k).0) h) (go (t == x) refl)
    where
      go : (b : Bool) → (t == x) ≡ b → (not (is_closed (tasks x).standing) && (b || is_served_by x (tasks t).standing)) ≡ false
      go true q = ap (λ b. not b && true) (completed_closed (tasks x).standing (subst (λ v. is_completed (tasks v).standing ≡ true) (eqb-true t x q) h))
      go false q = and_right (not (is_closed (tasks x).standing)) (is_served_by x (tasks t).standing) (completed_unserved x (tasks t).standing h)
  completed_stays Z tasks k serving t h = refl

  -- ---- killed tasks

  -- The event kills the task where it stands.
  pub record IsKill (e : Event) (tasks : ℕ → Seat L) (t : ℕ) : Type 0 where
    pub victim : is_victim e t ≡ true
    pub open' : is_closed (tasks t).standing ≡ false
    pub unserved : is_served (tasks t).standing ≡ false
    pub falls : acted (numbered p) tasks e t ≡ record { local = (tasks t).local; standing = Killed }

  -- a seat that is not killed, or the one before
  live_killed : Live ≡ Killed → ⊥
  live_killed e = let q : ◌≡◌ {A = Standing} Live Killed = e in cc

  freed_killed : (f : L → L) (tasks : ℕ → Seat L) (a t : ℕ) → (freed (numbered p).store f tasks a t).standing ≡ Killed → (tasks t).standing ≡ Killed
  freed_killed f tasks a t = go (t == a)
    where
      go : (b : Bool) → (if b then live (f (tasks a).local) else tasks t).standing ≡ Killed → (tasks t).standing ≡ Killed
      go true e = absurd (live_killed e)
      go false e = e

  gone_killed : (after : L) (seat : Seat L) → (if is_abnormal seat.standing then completed seat.local else live after).standing ≡ Killed → ⊥
  gone_killed after seat = go (is_abnormal seat.standing)
    where
      go : (b : Bool) → (if b then completed seat.local else live after).standing ≡ Killed → ⊥
      go true e = let q : ◌≡◌ {A = Standing} Completed Killed = e in cc
      go false e = live_killed e

  parted_killed : (a : ℕ) (acceptor : L) (seat : Seat L) → (parted p.ops a acceptor seat).standing ≡ Killed → seat.standing ≡ Killed
  parted_killed a acceptor seat = go (is_served_by a seat.standing)
    where
      go : (b : Bool) →
          (if b then (if is_abnormal seat.standing then completed seat.local else live (p.ops.resumed acceptor seat.local)) else seat).standing ≡ Killed →
          seat.standing ≡ Killed
      go true e = absurd (gone_killed (p.ops.resumed acceptor seat.local) seat e)
      go false e = e

  released_killed : (x : ℕ) (seat : Seat L) → (released p.ops x seat).standing ≡ Killed → seat.standing ≡ Killed
  released_killed x seat = go (is_served_by x seat.standing)
    where
      go : (b : Bool) →
          (if b then (if is_abnormal seat.standing then completed seat.local else live (p.ops.raised seat.local)) else seat).standing ≡ Killed →
          seat.standing ≡ Killed
      go true e = absurd (gone_killed (p.ops.raised seat.local) seat e)
      go false e = e

  first_killed : (a : ℕ) (acceptor : L) (callers : List ℕ) (tasks : ℕ → Seat L) (t : ℕ) →
      (released_first (numbered p) a acceptor callers tasks t).standing ≡ Killed → (tasks t).standing ≡ Killed
  first_killed a acceptor [] tasks t e = e
  first_killed a acceptor (c ∷ callers) tasks t e = go (t == c) refl e
    where
      go : (b : Bool) → (t == c) ≡ b → (if b then parted p.ops a acceptor (tasks c) else tasks t).standing ≡ Killed → (tasks t).standing ≡ Killed
      go true q k = subst (λ v. (tasks v).standing ≡ Killed) (sym (eqb-true t c q)) (parted_killed a acceptor (tasks c) k)
      go false q k = k

  went_killed : (tasks : ℕ → Seat L) (u x t : ℕ) → (went_on (numbered p) tasks u x t).standing ≡ Killed → (tasks t).standing ≡ Killed
  went_killed tasks u x t = go (x == u)
    where
      go : (b : Bool) → (if◌then◌else◌ {A = ℕ → Seat L} b tasks (freed (numbered p).store p.ops.passed tasks u) t).standing ≡ Killed → (tasks t).standing ≡ Killed
      go true e = e
      go false e = freed_killed p.ops.passed tasks u t e

  -- what falls so is killed, served, or was closed
  fallen_killed : (closing s : Standing) → fallen closing s ≡ Killed → (s ≡ Killed) ⊎ ((is_closed s ≡ false) × (is_served s ≡ false) × (closing ≡ Killed))
  fallen_killed closing Live e = inr (refl, refl, e)
  fallen_killed closing Waiting e = inr (refl, refl, e)
  fallen_killed closing Queued e = inr (refl, refl, e)
  fallen_killed closing (Served by abnormal) e = let q : ◌≡◌ {A = Standing} (Served by true) Killed = e in absurd (cc)
  fallen_killed closing Completed e = let q : ◌≡◌ {A = Standing} Completed Killed = e in absurd (cc)
  fallen_killed closing Killed e = inl refl

  closing_killed : (b : Bool) → (if b then Completed else Killed) ≡ Killed → b ≡ false
  closing_killed true e = let q : ◌≡◌ {A = Standing} Completed Killed = e in absurd (cc)
  closing_killed false e = refl

  met_killed : (tasks : ℕ → Seat L) (c e : ℕ) (i : ℤ) (t : ℕ) → (met_at (numbered p) tasks c e i t).standing ≡ Killed → (tasks t).standing ≡ Killed
  met_killed tasks c e i t = go (t == c)
    where
      after_owner : ℕ → Seat L
      after_owner = freed (numbered p).store (p.ops.accepted e i c (tasks c).local) tasks (p.owner e)

      go : (b : Bool) → (if b then record { local = (after_owner c).local; standing = Served (p.owner e) false } else after_owner t).standing ≡ Killed → (tasks t).standing ≡ Killed
      go true k = let q : ◌≡◌ {A = Standing} (Served (p.owner e) false) Killed = k in absurd (cc)
      go false k = freed_killed (p.ops.accepted e i c (tasks c).local) tasks (p.owner e) t k

  abort_killed : (tasks : ℕ → Seat L) (u x t : ℕ) → is_served_by x (tasks x).standing ≡ false → (abort_seats (numbered p) tasks u x t).standing ≡ Killed →
      ((tasks t).standing ≡ Killed) ⊎ IsKill (B u x) tasks t
  abort_killed tasks u x t alone = go (is_closed (tasks x).standing) refl
    where
      went : ℕ → Seat L
      went = went_on (numbered p) tasks u x

      closing : Standing
      closing = if x == u then Completed else Killed

      at_x : is_closed (tasks x).standing ≡ false → fallen closing (released p.ops x (went x)).standing ≡ Killed →
          ((tasks x).standing ≡ Killed) ⊎ IsKill (B u x) tasks x
      at_x open' k = ⊎_elim
          (λ r. inl (went_killed tasks u x x (released_killed x (went x) r)))
          (λ r.
          let other : (x == u) ≡ false = closing_killed (x == u) r.2 in
          let stays : released p.ops x (went x) ≡ tasks x = ap (released p.ops x) (went_other p tasks u x x other) ∙ released_other p x (tasks x) alone in
          let unserved : is_served (tasks x).standing ≡ false = ap (λ (y : Seat L). is_served y.standing) (sym stays) ∙ r.1 in
          inr (record {
            victim = both (equal_self x) (ap not other);
            open' = open';
            unserved = unserved;
            falls = killed_at p tasks u x other open' unserved;
          }))
          (fallen_killed closing (released p.ops x (went x)).standing k)

      at : (b : Bool) → (t == x) ≡ b → is_closed (tasks x).standing ≡ false →
          (if b then record { local = (released p.ops x (went x)).local; standing = fallen closing (released p.ops x (went x)).standing } else released p.ops x (went t)).standing ≡ Killed →
          ((tasks t).standing ≡ Killed) ⊎ IsKill (B u x) tasks t
      at true q open' k = subst (λ v. ((tasks v).standing ≡ Killed) ⊎ IsKill (B u x) tasks v) (sym (eqb-true t x q)) (at_x open' k)
      at false q open' k = inl (went_killed tasks u x t (released_killed x (went t) k))

      go : (b : Bool) → is_closed (tasks x).standing ≡ b → (if◌then◌else◌ {A = ℕ → Seat L} b went (aborted (numbered p) went x closing) t).standing ≡ Killed →
          ((tasks t).standing ≡ Killed) ⊎ IsKill (B u x) tasks t
      go true q k = inl (went_killed tasks u x t k)
      go false q k = at (t == x) refl q k

  -- A task that is killed behind an event was so before, or is killed by it.
  pub newly_killed : (e : Event) (tasks : ℕ → Seat L) → ((a : ℕ) → is_served_by a (tasks a).standing ≡ false) → (t : ℕ) →
      (acted (numbered p) tasks e t).standing ≡ Killed → ((tasks t).standing ≡ Killed) ⊎ IsKill e tasks t
  newly_killed (R c e i) tasks alone t k = inl (met_killed tasks c e i t k)
  newly_killed (E a) tasks alone t k = inl (freed_killed p.ops.finished tasks a t
      (first_killed a (tasks a).local (p.ops.callers (tasks a).local) (freed (numbered p).store p.ops.finished tasks a) t k))
  newly_killed (S a) tasks alone t k = inl (freed_killed p.ops.took_else tasks a t k)
  newly_killed (D a j) tasks alone t k = inl (freed_killed (p.ops.took_delay j) tasks a t k)
  newly_killed (C c e i) tasks alone t k = inl (freed_killed p.ops.took_else tasks c t k)
  newly_killed (T c e i) tasks alone t k = inl (freed_killed (p.ops.took_delay 1) tasks c t k)
  newly_killed (F c e i) tasks alone t k = inl (freed_killed p.ops.raised tasks c t k)
  newly_killed (X a) tasks alone t k = inl (go (t == a) k)
    where
      go : (b : Bool) → (if b then record { local = (tasks a).local; standing = Completed } else tasks t).standing ≡ Killed → (tasks t).standing ≡ Killed
      go true e = let q : ◌≡◌ {A = Standing} Completed Killed = e in absurd (cc)
      go false e = e
  newly_killed (B u x) tasks alone t k = abort_killed tasks u x t (alone x) k
  newly_killed Z tasks alone t k = inl k

  -- The victim of an abort, where it is free, is killed where it is.
  pub victim_falls : (e : Event) (tasks : ℕ → Seat L) (t : ℕ) → is_victim e t ≡ true → (tasks t).standing ≡ Live →
      acted (numbered p) tasks e t ≡ record { local = (tasks t).local; standing = Killed }
  victim_falls (R c e i) tasks t h free = absurd (true≢false (sym h))
  victim_falls (E a) tasks t h free = absurd (true≢false (sym h))
  victim_falls (S a) tasks t h free = absurd (true≢false (sym h))
  victim_falls (D a j) tasks t h free = absurd (true≢false (sym h))
  victim_falls (C c e i) tasks t h free = absurd (true≢false (sym h))
  victim_falls (T c e i) tasks t h free = absurd (true≢false (sym h))
  victim_falls (F c e i) tasks t h free = absurd (true≢false (sym h))
  victim_falls (X a) tasks t h free = absurd (true≢false (sym h))
  victim_falls (B u x) tasks t h free = subst (λ v. acted (numbered p) tasks (B u x) v ≡ record { local = (tasks v).local; standing = Killed })
      (sym (eqb-true t x (split h).0))
      (let here : (tasks x).standing ≡ Live = subst (λ v. (tasks v).standing ≡ Live) (eqb-true t x (split h).0) free in
      killed_at p tasks u x (not_true (x == u) (split h).1) (ap is_closed here) (ap is_served here))
  victim_falls Z tasks t h free = absurd (true≢false (sym h))

-- the abort that has a victim
pub victim_abort : (e : Event) (t : ℕ) → is_victim e t ≡ true → (u : ℕ) × (e ≡ B u t) × (u ≡ t → ⊥)
victim_abort (R c e i) t h = absurd (true≢false (sym h))
victim_abort (E a) t h = absurd (true≢false (sym h))
victim_abort (S a) t h = absurd (true≢false (sym h))
victim_abort (D a j) t h = absurd (true≢false (sym h))
victim_abort (C c e i) t h = absurd (true≢false (sym h))
victim_abort (T c e i) t h = absurd (true≢false (sym h))
victim_abort (F c e i) t h = absurd (true≢false (sym h))
victim_abort (X a) t h = absurd (true≢false (sym h))
victim_abort (B u x) t h =
    let q : t ≡ x = eqb-true t x (split h).0 in
    (u, ap (B u) (sym q), λ r. eqb-false x u (not_true (x == u) (split h).1) (sym q ∙ sym r))
victim_abort Z t h = absurd (true≢false (sym h))
