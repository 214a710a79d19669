-- What an event writes: tasks that it does not change stay, and what it makes of the others goes by the tasks that it needs and the served ones.
use Rattle.std.proofs.Common.{◌≡◌, ℕ, Bool, true, false, not, ◌&&◌, ◌||◌, ◌==◌, if◌then◌else◌, List, [], ◌∷◌, refl, sym, ap, ◌∙◌, subst, inl, inr, ◌⊎◌, ⊎_elim, true≢false}
use Rattle.std.specs.Prelude.{ℤ}
use Rattle.std.proofs.lemmas.Bool.{eqb-true, and_parts, or_parts, or_cases, or_left, or_right, cases_Bool}
use Rattle.event_machine.specs.declared.Standing.{Standing}
use Rattle.event_machine.specs.declared.Standing.TheVariants.{Live, Waiting, Queued, Served, Completed, Killed}
use Rattle.event_machine.specs.declared.Event.{Event}
use Rattle.event_machine.specs.declared.Event.TheVariants.{R, E, S, D, C, T, F, X, B, Z}
use Rattle.event_machine.specs.Offers.{calls_in, is_any_form}
use Rattle.event_machine.specs.States.{Seat, live, completed, is_live, is_closed, is_served, is_served_by, is_abnormal}
use Rattle.event_machine.specs.Applying.{is_first}
use Rattle.event_machine.specs.Effects.{freed, met_at, parted, released_first, parted_both, released, fallen, aborted, went_on, abort_seats}
use Rattle.event_machine.specs.Programs.{Program, numbered}
use Rattle.event_machine.specs.Worlds.{happens, acted, offers, needs, changes}
use Rattle.event_machine.proofs.Basics.{split}
use Rattle.event_machine.proofs.Standings.{is-Live, served_served}
use Rattle.event_machine.proofs.Updates.{put_at, put_other}
use Rattle.event_machine.proofs.Agreeing.{AgreesFor}
use Rattle.common_lemmas.proofs.Numbers.{equal_self, unequal_turned}
use Rattle.common_lemmas.proofs.Truth.{not_true}

module _ {L : Type 0} (p : Program L) where
  -- ---- what it changes

  pub changes_same : (e : Event) (tasks others : ℕ → Seat L) → AgreesFor p e tasks others → happens p tasks e ≡ true → (t : ℕ) →
      changes p.ops p.owner others e t ≡ changes p.ops p.owner tasks e t
  changes_same (R c e i) tasks others h k t = refl
  changes_same (E a) tasks others h k t =
      ap (λ (seat : Seat L). (t == a) || is_first t (p.ops.callers seat.local)) (h.needed a (equal_self a) (is-Live (tasks a).standing (split k).0))
  changes_same (S a) tasks others h k t = refl
  changes_same (D a j) tasks others h k t = refl
  changes_same (C c e i) tasks others h k t = refl
  changes_same (T c e i) tasks others h k t = refl
  changes_same (F c e i) tasks others h k t = refl
  changes_same (X a) tasks others h k t = refl
  changes_same (B u x) tasks others h k t =
      λ i. (t == u) || (not (is_closed (h.standing x i)) && ((t == x) || is_served_by x (h.standing t i)))
  changes_same Z tasks others h k t = refl

  -- ---- the others stay

  freed_other : (f : L → L) (tasks : ℕ → Seat L) (t u : ℕ) → (u == t) ≡ false → freed (numbered p).store f tasks t u ≡ tasks u
  freed_other f tasks t u q = put_other p tasks t (live (f (tasks t).local)) u q

  first_other : (tasks : ℕ → Seat L) (a : ℕ) (acceptor : L) (callers : List ℕ) (u : ℕ) → is_first u callers ≡ false →
      released_first (numbered p) a acceptor callers tasks u ≡ tasks u
  first_other tasks a acceptor [] u q = refl
  first_other tasks a acceptor (c ∷ callers) u q = put_other p tasks c (parted p.ops a acceptor (tasks c)) u (unequal_turned c u q)

  pub went_other : (tasks : ℕ → Seat L) (t x u : ℕ) → (u == t) ≡ false → went_on (numbered p) tasks t x u ≡ tasks u
  went_other tasks t x u q = go (x == t)
    where
      go : (b : Bool) → if◌then◌else◌ {A = ℕ → Seat L} b tasks (freed (numbered p).store p.ops.passed tasks t) u ≡ tasks u
      go true = refl
      go false = freed_other p.ops.passed tasks t u q

  pub released_other : (x : ℕ) (seat : Seat L) → is_served_by x seat.standing ≡ false → released p.ops x seat ≡ seat
  released_other x seat q = ap (λ b. if b then (if is_abnormal seat.standing then completed seat.local else live (p.ops.raised seat.local)) else seat) q

  abort_other : (tasks : ℕ → Seat L) (t x u : ℕ) → (u == t) ≡ false → (not (is_closed (tasks x).standing) && ((u == x) || is_served_by x (tasks u).standing)) ≡ false →
      abort_seats (numbered p) tasks t x u ≡ tasks u
  abort_other tasks t x u q k = go (is_closed (tasks x).standing) k
    where
      went : ℕ → Seat L
      went = went_on (numbered p) tasks t x

      stays : went u ≡ tasks u
      stays = went_other tasks t x u q

      go : (b : Bool) → (not b && ((u == x) || is_served_by x (tasks u).standing)) ≡ false →
          if◌then◌else◌ {A = ℕ → Seat L} b went (aborted (numbered p) went x (if x == t then Completed else Killed)) u ≡ tasks u
      go true r = stays
      go false r =
          let parts = or_parts (u == x) (is_served_by x (tasks u).standing) r in
          put_other p (λ v. released p.ops x (went v)) x _ u parts.0 ∙ ap (released p.ops x) stays ∙ released_other x (tasks u) parts.1

  -- A task that the event does not change is as before.
  pub unchanged : (e : Event) (tasks : ℕ → Seat L) (t : ℕ) → changes p.ops p.owner tasks e t ≡ false → acted (numbered p) tasks e t ≡ tasks t
  unchanged (R c e i) tasks t k =
      let q = or_parts (t == c) (t == p.owner e) k in
      put_other p (freed (numbered p).store (p.ops.accepted e i c (tasks c).local) tasks (p.owner e)) c _ t q.0 ∙
      freed_other (p.ops.accepted e i c (tasks c).local) tasks (p.owner e) t q.1
  unchanged (E a) tasks t k =
      let q = or_parts (t == a) (is_first t (p.ops.callers (tasks a).local)) k in
      first_other (freed (numbered p).store p.ops.finished tasks a) a (tasks a).local (p.ops.callers (tasks a).local) t q.1 ∙ freed_other p.ops.finished tasks a t q.0
  unchanged (S a) tasks t k = freed_other p.ops.took_else tasks a t k
  unchanged (D a j) tasks t k = freed_other (p.ops.took_delay j) tasks a t k
  unchanged (C c e i) tasks t k = freed_other p.ops.took_else tasks c t k
  unchanged (T c e i) tasks t k = freed_other (p.ops.took_delay 1) tasks c t k
  unchanged (F c e i) tasks t k = freed_other p.ops.raised tasks c t k
  unchanged (X a) tasks t k = put_other p tasks a (record { local = (tasks a).local; standing = Completed }) t k
  unchanged (B u x) tasks t k =
      let q = or_parts (t == u) (not (is_closed (tasks x).standing) && ((t == x) || is_served_by x (tasks t).standing)) k in
      abort_other tasks u x t q.0 q.1
  unchanged Z tasks t k = refl

  -- ---- the changed ones

  -- the first caller of an open task is served
  abbrev pub IsServing : (ℕ → Seat L) → Type 0
  IsServing tasks = (a c : ℕ) → (tasks a).standing ≡ Live → is_first c (p.ops.callers (tasks a).local) ≡ true → is_served (tasks c).standing ≡ true

  -- The event kills the task where it is, free and not needed.
  pub record Falls (e : Event) (tasks : ℕ → Seat L) (t : ℕ) : Type 0 where
    pub needless : needs p e t ≡ false
    pub free : is_closed (tasks t).standing ≡ false
    pub falls : acted (numbered p) tasks e t ≡ record { local = (tasks t).local; standing = Killed }

  freed_same : (f : L → L) (tasks others : ℕ → Seat L) (t u : ℕ) → others t ≡ tasks t → (u == t) ≡ true →
      freed (numbered p).store f others t u ≡ freed (numbered p).store f tasks t u
  freed_same f tasks others t u h q =
      put_at p others t (live (f (others t).local)) u q ∙ ap (λ (x : Seat L). live (f x.local)) h ∙ sym (put_at p tasks t (live (f (tasks t).local)) u q)

  met_same : (tasks others : ℕ → Seat L) (c e : ℕ) (i : ℤ) (u : ℕ) → others c ≡ tasks c → others (p.owner e) ≡ tasks (p.owner e) → others u ≡ tasks u →
      met_at (numbered p) others c e i u ≡ met_at (numbered p) tasks c e i u
  met_same tasks others c e i u hc ho hu = λ j.
      if u == c
      then record {
        local = (if c == p.owner e then live (p.ops.accepted e i c (hc j).local (ho j).local) else hc j).local;
        standing = Served (p.owner e) false;
      }
      else (if u == p.owner e then live (p.ops.accepted e i c (hc j).local (ho j).local) else hu j)

  both_same : (tasks others : ℕ → Seat L) (a u : ℕ) → others a ≡ tasks a → IsServing tasks → (tasks a).standing ≡ Live →
      ((c : ℕ) → is_served (tasks c).standing ≡ true → others c ≡ tasks c) → ((u == a) || is_first u (p.ops.callers (tasks a).local)) ≡ true →
      parted_both (numbered p) others a u ≡ parted_both (numbered p) tasks a u
  both_same tasks others a u ha serving free served k = go (p.ops.callers (tasks a).local) refl
    where
      hu : others u ≡ tasks u
      hu = ⊎_elim (λ q. subst (λ v. others v ≡ tasks v) (sym (eqb-true u a q)) ha) (λ q. served u (serving a u free q)) (or_cases (u == a) (is_first u (p.ops.callers (tasks a).local)) k)

      go : (cs : List ℕ) → p.ops.callers (tasks a).local ≡ cs → parted_both (numbered p) others a u ≡ parted_both (numbered p) tasks a u
      go [] q =
          ap (λ xs. released_first (numbered p) a (others a).local xs (freed (numbered p).store p.ops.finished others a) u) (ap (λ x. p.ops.callers x.local) ha ∙ q) ∙
          (λ j. if u == a then live (p.ops.finished (ha j).local) else hu j) ∙
          sym (ap (λ xs. released_first (numbered p) a (tasks a).local xs (freed (numbered p).store p.ops.finished tasks a) u) q)
      go (c ∷ cs) q =
          let hc : others c ≡ tasks c = served c (serving a c free (ap (is_first c) q ∙ equal_self c)) in
          ap (λ xs. released_first (numbered p) a (others a).local xs (freed (numbered p).store p.ops.finished others a) u) (ap (λ x. p.ops.callers x.local) ha ∙ q) ∙
          (λ j. if u == c
          then parted p.ops a (ha j).local (if c == a then live (p.ops.finished (ha j).local) else hc j)
          else (if u == a then live (p.ops.finished (ha j).local) else hu j)) ∙
          sym (ap (λ xs. released_first (numbered p) a (tasks a).local xs (freed (numbered p).store p.ops.finished tasks a) u) q)

  went_same : (tasks others : ℕ → Seat L) (t x u : ℕ) → others t ≡ tasks t → others u ≡ tasks u → went_on (numbered p) others t x u ≡ went_on (numbered p) tasks t x u
  went_same tasks others t x u ht hu = go (x == t)
    where
      go : (b : Bool) →
          if◌then◌else◌ {A = ℕ → Seat L} b others (freed (numbered p).store p.ops.passed others t) u ≡
          if◌then◌else◌ {A = ℕ → Seat L} b tasks (freed (numbered p).store p.ops.passed tasks t) u
      go true = hu
      go false = λ j. if u == t then live (p.ops.passed (ht j).local) else hu j

  -- a task that is not closed and not served falls as the abort says
  fall_free : (closing s : Standing) → is_closed s ≡ false → is_served s ≡ false → fallen closing s ≡ closing
  fall_free closing Live h k = refl
  fall_free closing Waiting h k = refl
  fall_free closing Queued h k = refl
  fall_free closing (Served by abnormal) h k = absurd (true≢false k)
  fall_free closing Completed h k = absurd (true≢false h)
  fall_free closing Killed h k = absurd (true≢false h)

  pub unserved_by : (x : ℕ) (s : Standing) → is_served s ≡ false → is_served_by x s ≡ false
  unserved_by x Live h = refl
  unserved_by x Waiting h = refl
  unserved_by x Queued h = refl
  unserved_by x (Served by abnormal) h = absurd (true≢false h)
  unserved_by x Completed h = refl
  unserved_by x Killed h = refl

  -- another task that is free is killed by an abort
  pub killed_at : (tasks : ℕ → Seat L) (t x : ℕ) → (x == t) ≡ false → is_closed (tasks x).standing ≡ false → is_served (tasks x).standing ≡ false →
      abort_seats (numbered p) tasks t x x ≡ record { local = (tasks x).local; standing = Killed }
  killed_at tasks t x other open' unserved =
      ap (λ b. if◌then◌else◌ {A = ℕ → Seat L} b went (aborted (numbered p) went x (if x == t then Completed else Killed)) x) open' ∙
      put_at p (λ v. released p.ops x (went v)) x _ x (equal_self x) ∙
      ap (λ (y : Seat L). record { local = y.local; standing = fallen (if x == t then Completed else Killed) y.standing }) stays ∙
      (λ i. record { local = (tasks x).local; standing = (ap (λ b. fallen (if b then Completed else Killed) (tasks x).standing) other ∙ fall_free Killed (tasks x).standing open' unserved) i })
    where
      went : ℕ → Seat L
      went = went_on (numbered p) tasks t x

      stays : released p.ops x (went x) ≡ tasks x
      stays = ap (released p.ops x) (went_other tasks t x x other) ∙ released_other x (tasks x) (unserved_by x (tasks x).standing unserved)

  abort_same : (tasks others : ℕ → Seat L) (t x u : ℕ) → others t ≡ tasks t → (others x).standing ≡ (tasks x).standing → others u ≡ tasks u →
      abort_seats (numbered p) others t x u ≡ abort_seats (numbered p) tasks t x u
  abort_same tasks others t x u ht stand' hu =
      ap (λ z. if◌then◌else◌ {A = ℕ → Seat L} (is_closed z) (went others) (aborted (numbered p) (went others) x closing) u) stand' ∙ go (is_closed (tasks x).standing)
    where
      closing : Standing
      closing = if x == t then Completed else Killed

      went : (ℕ → Seat L) → ℕ → Seat L
      went w = went_on (numbered p) w t x

      same_went : went others u ≡ went tasks u
      same_went = went_same tasks others t x u ht hu

      falls_at : Seat L → Seat L
      falls_at seat = record { local = (released p.ops x seat).local; standing = fallen closing (released p.ops x seat).standing }

      at_x : (b : Bool) → (u == x) ≡ b →
          (if b then falls_at (went others x) else released p.ops x (went others u)) ≡ (if b then falls_at (went tasks x) else released p.ops x (went tasks u))
      at_x true q = ap falls_at (subst (λ v. went others v ≡ went tasks v) (eqb-true u x q) same_went)
      at_x false q = ap (released p.ops x) same_went

      go : (b : Bool) →
          if◌then◌else◌ {A = ℕ → Seat L} b (went others) (aborted (numbered p) (went others) x closing) u ≡
          if◌then◌else◌ {A = ℕ → Seat L} b (went tasks) (aborted (numbered p) (went tasks) x closing) u
      go true = same_went
      go false = at_x (u == x) refl

  -- What the event makes of a task that it changes is the same in both, or the task falls in both.
  pub acted_same : (e : Event) (tasks others : ℕ → Seat L) → AgreesFor p e tasks others → happens p tasks e ≡ true → IsServing tasks → (t : ℕ) →
      changes p.ops p.owner tasks e t ≡ true →
      (acted (numbered p) others e t ≡ acted (numbered p) tasks e t) ⊎ (Falls e tasks t × Falls e others t)
  acted_same (R c e i) tasks others h k serving t change =
      let hc : others c ≡ tasks c = h.needed c (or_left _ _ (equal_self c)) (is-Live (tasks c).standing (and_parts (is_live (tasks c).standing) _ (split k).0).0) in
      let ho : others (p.owner e) ≡ tasks (p.owner e) = h.needed (p.owner e) (or_right _ _ (equal_self (p.owner e))) (is-Live (tasks (p.owner e)).standing
      (and_parts (is_live (tasks (p.owner e)).standing) _ (and_parts (offers p.ops (calls_in is_any_form e i) (tasks c)) _ k).1).0) in
      let ht : others t ≡ tasks t = ⊎_elim
      (λ q. subst (λ v. others v ≡ tasks v) (sym (eqb-true t c q)) hc) (λ q. subst (λ v. others v ≡ tasks v) (sym (eqb-true t (p.owner e) q)) ho)
      (or_cases (t == c) (t == p.owner e) change) in
      inl (met_same tasks others c e i t hc ho ht)
  acted_same (E a) tasks others h k serving t change =
      let free : (tasks a).standing ≡ Live = is-Live (tasks a).standing (split k).0 in
      inl (both_same tasks others a t (h.needed a (equal_self a) free) serving free h.served change)
  acted_same (S a) tasks others h k serving t change =
      inl (freed_same p.ops.took_else tasks others a t (h.needed a (equal_self a) (is-Live (tasks a).standing (split k).0)) change)
  acted_same (D a j) tasks others h k serving t change =
      inl (freed_same (p.ops.took_delay j) tasks others a t (h.needed a (equal_self a) (is-Live (tasks a).standing (split k).0)) change)
  acted_same (C c e i) tasks others h k serving t change =
      inl (freed_same p.ops.took_else tasks others c t (h.needed c (equal_self c) (is-Live (tasks c).standing (and_parts (is_live (tasks c).standing) _ (split k).0).0)) change)
  acted_same (T c e i) tasks others h k serving t change =
      inl (freed_same (p.ops.took_delay 1) tasks others c t (h.needed c (equal_self c) (is-Live (tasks c).standing (and_parts (is_live (tasks c).standing) _ (split k).0).0)) change)
  acted_same (F c e i) tasks others h k serving t change =
      inl (freed_same p.ops.raised tasks others c t (h.needed c (equal_self c) (is-Live (tasks c).standing (and_parts (is_live (tasks c).standing) _ (split k).0).0)) change)
  acted_same (X a) tasks others h k serving t change =
      let ha : others a ≡ tasks a = h.needed a (equal_self a) (is-Live (tasks a).standing (and_parts (is_live (tasks a).standing) _ (and_parts (not (a == 0)) _ k).1).0) in
      inl (put_at p others a (record { local = (others a).local; standing = Completed }) t change ∙
      ap (λ (x : Seat L). record { local = x.local; standing = Completed }) ha ∙
      sym (put_at p tasks a (record { local = (tasks a).local; standing = Completed }) t change))
  acted_same (B u x) tasks others h k serving t change =
      ⊎_elim (λ q. inl (same (subst (λ v. others v ≡ tasks v) (sym (eqb-true t u q)) hu)))
      (λ q. let parts = split q in
      ⊎_elim (λ r. at_x r (not_true _ parts.0)) (λ r. inl (same (h.served t (served_served x (tasks t).standing r))))
      (or_cases (t == x) (is_served_by x (tasks t).standing) parts.1))
      (or_cases (t == u) _ change)
    where
      hu : others u ≡ tasks u
      hu = h.needed u (equal_self u) (is-Live (tasks u).standing (split k).0)

      same : others t ≡ tasks t → acted (numbered p) others (B u x) t ≡ acted (numbered p) tasks (B u x) t
      same ht = abort_same tasks others u x t hu (h.standing x) ht

      falls : (w : ℕ → Seat L) → (x == u) ≡ false → is_closed (w x).standing ≡ false → is_served (w x).standing ≡ false → Falls (B u x) w x
      falls w q open' unserved = record { needless = q; free = open'; falls = killed_at w u x q open' unserved }

      at_x : (t == x) ≡ true → is_closed (tasks x).standing ≡ false →
          (acted (numbered p) others (B u x) t ≡ acted (numbered p) tasks (B u x) t) ⊎ (Falls (B u x) tasks t × Falls (B u x) others t)
      at_x r open' = ⊎_elim
          (λ q. inl (same (subst (λ v. others v ≡ tasks v) (sym (eqb-true x u q) ∙ sym (eqb-true t x r)) hu)))
          (λ q. ⊎_elim
          (λ served. inl (same (subst (λ v. others v ≡ tasks v) (sym (eqb-true t x r)) (h.served x served))))
          (λ unserved. inr (subst (λ v. Falls (B u x) tasks v × Falls (B u x) others v) (sym (eqb-true t x r))
          (falls tasks q open' unserved, falls others q (ap is_closed (h.standing x) ∙ open') (ap is_served (h.standing x) ∙ unserved))))
          (cases_Bool (is_served (tasks x).standing)))
          (cases_Bool (x == u))
  acted_same Z tasks others h k serving t change = absurd (true≢false (sym change))
