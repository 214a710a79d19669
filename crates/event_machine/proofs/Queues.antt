-- A task that waits or is queued stands where it arrived, and so has no local step; and each queued task stands in the line once.
use Rattle.std.proofs.Common.{◌≡◌, ℕ, ◌+◌, Bool, true, false, not, ◌==◌, if◌then◌else◌, cond, List, [], ◌∷◌, ◌++◌, Option, Some, None, refl, sym, ap, ap₂, ◌∙◌, subst, inl, inr, ◌⊎◌, ⊎_elim, true≢false, arith}
use Rattle.std.proofs.lemmas.Bool.{eqb-true, eqb-false, ne_eqb, and_parts}
use Rattle.event_machine.specs.declared.Standing.{Standing}
use Rattle.event_machine.specs.declared.Standing.TheVariants.{Live, Waiting, Queued, Served, Completed, Killed}
use Rattle.event_machine.specs.declared.Action.{Action}
use Rattle.event_machine.specs.declared.Action.TheVariants.{Local, Arrive, Start, Finish, Else, Delay, CallElse, Expire, Fail, Complete, Abort, End}
use Rattle.event_machine.specs.declared.Event.{Event}
use Rattle.event_machine.specs.declared.Event.TheVariants.{R, E, S, D, C, T, F, X, B, Z}
use Rattle.event_machine.specs.Offers.{Offer, Nothing, Calls, Waits, Finishes, Ends, Aborts, aborted_by}
use Rattle.event_machine.specs.States.{Seat, State, live, completed, seen, is_live, is_waiting, is_queued, is_closed, is_served_by, is_abnormal}
use Rattle.event_machine.specs.Applying.{can, action_applies, arrives, starts}
use Rattle.event_machine.specs.Effects.{after, freed, stand, without, arrived_standing, arrived_line, met, parted, released_first, released, fallen, aborted, went_on, abort_seats, after_abort}
use Rattle.event_machine.specs.Runs.{IsRun, end_of}
use Rattle.event_machine.specs.Programs.{Program, numbered}
use Rattle.event_machine.specs.Worlds.{still, acted}
use Rattle.event_machine.specs.Soundness.{times}
use Rattle.event_machine.specs.Queues.{suits, IsSuited, IsLined}
use Rattle.event_machine.proofs.Basics.{split}
use Rattle.event_machine.proofs.Standings.{is-Live, is-Waiting}
use Rattle.event_machine.proofs.Erasing.{event_or_silent, is_silent}
use Rattle.common_lemmas.proofs.Numbers.{equal_self}

-- ---- offers that suit

-- what an abort leaves suits every offer
fallen_suits : (closing s : Standing) (offer : Offer) → suits closing offer ≡ true → suits (fallen closing s) offer ≡ true
fallen_suits closing Live offer e = e
fallen_suits closing Waiting offer e = e
fallen_suits closing Queued offer e = e
fallen_suits closing (Served by abnormal) offer e = refl
fallen_suits closing Completed offer e = refl
fallen_suits closing Killed offer e = refl

closing_suits : (b : Bool) (offer : Offer) → suits (if b then Completed else Killed) offer ≡ true
closing_suits true offer = refl
closing_suits false offer = refl

-- where an offer is none, who offers it neither waits nor is queued
pub suits_nothing : (s : Standing) → suits s Nothing ≡ true → still s ≡ s
suits_nothing Live h = refl
suits_nothing Waiting h = absurd (true≢false (sym h))
suits_nothing Queued h = absurd (true≢false (sym h))
suits_nothing (Served by abnormal) h = refl
suits_nothing Completed h = refl
suits_nothing Killed h = refl

module _ {L : Type 0} (p : Program L) where
  abbrev SuitedAt : Seat L → Type 0
  SuitedAt seat = suits seat.standing (p.ops.offer seat.local) ≡ true

  put_suited : (seats : ℕ → Seat L) (a : ℕ) (seat : Seat L) → IsSuited p.ops seats → SuitedAt seat → IsSuited p.ops ((numbered p).store.put seats a seat)
  put_suited seats a seat h k t = go (t == a)
    where
      go : (b : Bool) → SuitedAt (if b then seat else seats t)
      go true = k
      go false = h t

  freed_suited : (f : L → L) (seats : ℕ → Seat L) (a : ℕ) → IsSuited p.ops seats → IsSuited p.ops (freed (numbered p).store f seats a)
  freed_suited f seats a h = put_suited seats a (live (f (seats a).local)) h refl

  gone_suited : (after : L) (seat : Seat L) (b : Bool) → SuitedAt (if b then completed seat.local else live after)
  gone_suited after seat true = refl
  gone_suited after seat false = refl

  parted_suited : (a : ℕ) (acceptor : L) (seat : Seat L) → SuitedAt seat → SuitedAt (parted p.ops a acceptor seat)
  parted_suited a acceptor seat h = go (is_served_by a seat.standing)
    where
      go : (b : Bool) → SuitedAt (if b then (if is_abnormal seat.standing then completed seat.local else live (p.ops.resumed acceptor seat.local)) else seat)
      go true = gone_suited (p.ops.resumed acceptor seat.local) seat (is_abnormal seat.standing)
      go false = h

  released_suited : (x : ℕ) (seat : Seat L) → SuitedAt seat → SuitedAt (released p.ops x seat)
  released_suited x seat h = go (is_served_by x seat.standing)
    where
      go : (b : Bool) → SuitedAt (if b then (if is_abnormal seat.standing then completed seat.local else live (p.ops.raised seat.local)) else seat)
      go true = gone_suited (p.ops.raised seat.local) seat (is_abnormal seat.standing)
      go false = h

  first_suited : (a : ℕ) (acceptor : L) (callers : List ℕ) (seats : ℕ → Seat L) → IsSuited p.ops seats → IsSuited p.ops (released_first (numbered p) a acceptor callers seats)
  first_suited a acceptor [] seats h = h
  first_suited a acceptor (c ∷ callers) seats h = put_suited seats c (parted p.ops a acceptor (seats c)) h (parted_suited a acceptor (seats c) (h c))

  went_suited : (seats : ℕ → Seat L) (u x : ℕ) → IsSuited p.ops seats → IsSuited p.ops (went_on (numbered p) seats u x)
  went_suited seats u x h = go (x == u)
    where
      go : (b : Bool) → IsSuited p.ops (if◌then◌else◌ {A = ℕ → Seat L} b seats (freed (numbered p).store p.ops.passed seats u))
      go true = h
      go false = freed_suited p.ops.passed seats u h

  aborted_suited : (seats : ℕ → Seat L) (x : ℕ) (closing : Standing) → ((offer : Offer) → suits closing offer ≡ true) → IsSuited p.ops seats →
      IsSuited p.ops (aborted (numbered p) seats x closing)
  aborted_suited seats x closing e h =
      put_suited (λ u. released p.ops x (seats u)) x (record { local = (released p.ops x (seats x)).local; standing = fallen closing (released p.ops x (seats x)).standing })
      (λ u. released_suited x (seats u) (h u))
      (fallen_suits closing (released p.ops x (seats x)).standing (p.ops.offer (released p.ops x (seats x)).local) (e (p.ops.offer (released p.ops x (seats x)).local)))

  abort_suited : (seats : ℕ → Seat L) (u x : ℕ) → IsSuited p.ops seats → IsSuited p.ops (abort_seats (numbered p) seats u x)
  abort_suited seats u x h = go (is_closed (seats x).standing)
    where
      go : (b : Bool) → IsSuited p.ops
          (if◌then◌else◌ {A = ℕ → Seat L} b (went_on (numbered p) seats u x) (aborted (numbered p) (went_on (numbered p) seats u x) x (if x == u then Completed else Killed)))
      go true = went_suited seats u x h
      go false = aborted_suited (went_on (numbered p) seats u x) x (if x == u then Completed else Killed) (closing_suits (x == u)) (went_suited seats u x h)

  acted_suited : (e : Event) (seats : ℕ → Seat L) → IsSuited p.ops seats → IsSuited p.ops (acted (numbered p) seats e)
  acted_suited (R c e i) seats h =
      let opened : ℕ → Seat L = freed (numbered p).store (p.ops.accepted e i c (seats c).local) seats (p.owner e) in
      put_suited opened c (record { local = (opened c).local; standing = Served (p.owner e) false })
      (freed_suited (p.ops.accepted e i c (seats c).local) seats (p.owner e) h) refl
  acted_suited (E a) seats h = first_suited a (seats a).local (p.ops.callers (seats a).local) (freed (numbered p).store p.ops.finished seats a) (freed_suited p.ops.finished seats a h)
  acted_suited (S a) seats h = freed_suited p.ops.took_else seats a h
  acted_suited (D a k) seats h = freed_suited (p.ops.took_delay k) seats a h
  acted_suited (C c e i) seats h = freed_suited p.ops.took_else seats c h
  acted_suited (T c e i) seats h = freed_suited (p.ops.took_delay 1) seats c h
  acted_suited (F c e i) seats h = freed_suited p.ops.raised seats c h
  acted_suited (X a) seats h = put_suited seats a (record { local = (seats a).local; standing = Completed }) h refl
  acted_suited (B u x) seats h = abort_suited seats u x h
  acted_suited Z seats h = h

  -- who arrives offers a wait or a call that queues up
  arrived_suits : (s : State (ℕ → Seat L)) (offer : Offer) → arrives p.owner (seen (numbered p) s) offer ≡ true → suits (arrived_standing offer) offer ≡ true
  arrived_suits s Nothing h = refl
  arrived_suits s (Calls form e i) h = (split h).0
  arrived_suits s (Waits choices) h = refl
  arrived_suits s Finishes h = refl
  arrived_suits s Ends h = refl
  arrived_suits s (Aborts x) h = refl

  silent_suited : (s : State (ℕ → Seat L)) (action : Action) → is_silent action ≡ true → can (numbered p) s action ≡ true → IsSuited p.ops s.seats →
      IsSuited p.ops (after (numbered p) s action).seats
  silent_suited s (Local t) k c h = freed_suited p.ops.stepped s.seats t h
  silent_suited s (Arrive t) k c h = put_suited s.seats t (record { local = (s.seats t).local; standing = arrived_standing (p.ops.offer (s.seats t).local) }) h
      (arrived_suits s (p.ops.offer (s.seats t).local) (split (split c).1).1)
  silent_suited s (Start d) k c h = absurd (true≢false (sym k))
  silent_suited s (Finish a) k c h = absurd (true≢false (sym k))
  silent_suited s (Else a) k c h = absurd (true≢false (sym k))
  silent_suited s (Delay a j) k c h = absurd (true≢false (sym k))
  silent_suited s (CallElse d) k c h = absurd (true≢false (sym k))
  silent_suited s (Expire d) k c h = absurd (true≢false (sym k))
  silent_suited s (Fail d) k c h = absurd (true≢false (sym k))
  silent_suited s (Complete a) k c h = absurd (true≢false (sym k))
  silent_suited s (Abort t) k c h = absurd (true≢false (sym k))
  silent_suited s End k c h = absurd (true≢false (sym k))

  action_suited : (s : State (ℕ → Seat L)) (action : Action) → can (numbered p) s action ≡ true → IsSuited p.ops s.seats → IsSuited p.ops (after (numbered p) s action).seats
  action_suited s action c h = ⊎_elim
      (λ k. subst (IsSuited p.ops) (sym k.1.seats) (acted_suited k.0 s.seats h))
      (λ k. silent_suited s action k c h)
      (event_or_silent p s action (split c).1)

  -- In a run each task goes on to offer what suits its standing.
  pub run_suited : (actions : List Action) (s : State (ℕ → Seat L)) → IsRun (numbered p) s actions → IsSuited p.ops s.seats → IsSuited p.ops (end_of (numbered p) s actions).seats
  run_suited [] s run h = h
  run_suited (action ∷ actions) s run h = run_suited actions (after (numbered p) s action) run.1 (action_suited s action run.0 h)

  -- ---- no local steps

  -- a seat that neither waits nor is queued, or has no local step
  abbrev pub IsPatientAt : Seat L → Type 0
  IsPatientAt seat = (still seat.standing ≡ seat.standing) ⊎ (p.ops.can_step seat.local ≡ false)

  pub suited_patient : ((l : L) → p.ops.can_step l ≡ true → p.ops.offer l ≡ Nothing) → (seat : Seat L) → suits seat.standing (p.ops.offer seat.local) ≡ true → IsPatientAt seat
  suited_patient rests seat h = go (p.ops.can_step seat.local) refl
    where
      go : (b : Bool) → p.ops.can_step seat.local ≡ b → IsPatientAt seat
      go true q = inl (suits_nothing seat.standing (ap (suits seat.standing) (sym (rests seat.local q)) ∙ h))
      go false q = inr q

  -- ---- the line

  abbrev LineOf : (ℕ → Seat L) → List ℕ → Type 0
  LineOf seats line = (t : ℕ) → times t line ≡ (if is_queued (seats t).standing then 1 else 0)

  -- a seat that is queued exactly where the one before was
  line_put : (seats : ℕ → Seat L) (line : List ℕ) (a : ℕ) (seat : Seat L) → LineOf seats line → is_queued seat.standing ≡ is_queued (seats a).standing →
      LineOf ((numbered p).store.put seats a seat) line
  line_put seats line a seat h e t = go (t == a) refl
    where
      go : (b : Bool) → (t == a) ≡ b → times t line ≡ (if is_queued (if b then seat else seats t).standing then 1 else 0)
      go true q = h t ∙ ap (λ x. if x then 1 else 0) (ap (λ v. is_queued (seats v).standing) (eqb-true t a q) ∙ sym e)
      go false q = h t

  line_map : (seats : ℕ → Seat L) (line : List ℕ) (f : Seat L → Seat L) → LineOf seats line → ((seat : Seat L) → is_queued (f seat).standing ≡ is_queued seat.standing) →
      LineOf (λ u. f (seats u)) line
  line_map seats line f h e t = h t ∙ ap (λ x. if x then 1 else 0) (sym (e (seats t)))

  times_without : (c t : ℕ) (line : List ℕ) → times t (without c line) ≡ (if t == c then 0 else times t line)
  times_without c t [] = sym (zero_both (t == c))
    where
      zero_both : (b : Bool) → if◌then◌else◌ {A = ℕ} b 0 0 ≡ 0
      zero_both true = refl
      zero_both false = refl
  times_without c t (x ∷ line) = go (x == c) refl (times_without c t line)
    where
      go : (b : Bool) → (x == c) ≡ b → times t (without c line) ≡ (if t == c then 0 else times t line) →
          times t (cond (not b) (x ∷ without c line) (without c line)) ≡ (if t == c then 0 else ((if x == t then 1 else 0) + times t line))
      go true q ih = ih ∙ here (t == c) refl
        where
          here : (d : Bool) → (t == c) ≡ d → (if d then 0 else times t line) ≡ (if d then 0 else ((if x == t then 1 else 0) + times t line))
          here true r = refl
          here false r = zero_sum (times t line) ∙ ap (λ b. (if b then 1 else 0) + times t line) (sym (ne_eqb x t (λ e. eqb-false t c r (sym e ∙ eqb-true x c q))))
            where
              zero_sum : (n : ℕ) → n ≡ 0 + n
              zero_sum n = omega arith
      go false q ih = ap (λ n. (if x == t then 1 else 0) + n) ih ∙ there (t == c) refl
        where
          there : (d : Bool) → (t == c) ≡ d → (if x == t then 1 else 0) + (if d then 0 else times t line) ≡ (if d then 0 else ((if x == t then 1 else 0) + times t line))
          there true r = ap (λ b. (if b then 1 else 0) + 0) (ne_eqb x t (λ e. eqb-false x c q (e ∙ eqb-true t c r)))
          there false r = refl

  -- c has left, and stands otherwise
  line_leave : (seats : ℕ → Seat L) (line : List ℕ) (c : ℕ) (seat : Seat L) → LineOf seats line → is_queued seat.standing ≡ false →
      LineOf ((numbered p).store.put seats c seat) (without c line)
  line_leave seats line c seat h e t = times_without c t line ∙ go (t == c)
    where
      go : (b : Bool) → (if b then 0 else times t line) ≡ (if is_queued (if b then seat else seats t).standing then 1 else 0)
      go true = ap (λ x. if x then 1 else 0) (sym e)
      go false = h t

  times_end : (t c : ℕ) (line : List ℕ) → times t (line ++ c ∷ []) ≡ times t line + (if c == t then 1 else 0)
  times_end t c [] = swap' (if c == t then 1 else 0)
    where
      swap' : (n : ℕ) → n + 0 ≡ 0 + n
      swap' n = omega arith
  times_end t c (x ∷ line) = ap (λ n. (if x == t then 1 else 0) + n) (times_end t c line) ∙ regroup (if x == t then 1 else 0) (times t line) (if c == t then 1 else 0)
    where
      regroup : (a b d : ℕ) → a + (b + d) ≡ (a + b) + d
      regroup a b d = omega arith

  -- c has joined at the end
  line_join : (seats : ℕ → Seat L) (line : List ℕ) (c : ℕ) (seat : Seat L) → LineOf seats line → is_queued (seats c).standing ≡ false → is_queued seat.standing ≡ true →
      LineOf ((numbered p).store.put seats c seat) (line ++ c ∷ [])
  line_join seats line c seat h before e t = times_end t c line ∙ go (t == c) refl
    where
      go : (b : Bool) → (t == c) ≡ b → times t line + (if c == t then 1 else 0) ≡ (if is_queued (if b then seat else seats t).standing then 1 else 0)
      go true q =
          ap₂ (λ n b. n + (if b then 1 else 0)) (h t ∙ ap (λ v. if is_queued (seats v).standing then 1 else 0) (eqb-true t c q) ∙ ap (λ x. if x then 1 else 0) before)
          (ap (λ v. c == v) (eqb-true t c q) ∙ equal_self c) ∙
          ap (λ x. if x then 1 else 0) (sym e)
      go false q = ap (λ b. times t line + (if b then 1 else 0)) (ne_eqb c t (λ r. eqb-false t c q (sym r))) ∙ plus_none (times t line) ∙ h t
        where
          plus_none : (n : ℕ) → n + 0 ≡ n
          plus_none n = omega arith

  -- ---- the line behind each action

  live_unqueued : (s : Standing) → is_live s ≡ true → is_queued s ≡ false
  live_unqueued s h = ap is_queued (is-Live s h)

  waiting_unqueued : (s : Standing) → is_waiting s ≡ true → is_queued s ≡ false
  waiting_unqueued s h = ap is_queued (is-Waiting s h)

  served_unqueued : (a : ℕ) (s : Standing) → is_served_by a s ≡ true → is_queued s ≡ false
  served_unqueued a Live h = refl
  served_unqueued a Waiting h = refl
  served_unqueued a Queued h = absurd (true≢false (sym h))
  served_unqueued a (Served by abnormal) h = refl
  served_unqueued a Completed h = refl
  served_unqueued a Killed h = refl

  gone_unqueued : (after : L) (seat : Seat L) (b : Bool) → is_queued (if b then completed seat.local else live after).standing ≡ false
  gone_unqueued after seat true = refl
  gone_unqueued after seat false = refl

  parted_queued : (a : ℕ) (acceptor : L) (seat : Seat L) → is_queued (parted p.ops a acceptor seat).standing ≡ is_queued seat.standing
  parted_queued a acceptor seat = go (is_served_by a seat.standing) refl
    where
      go : (b : Bool) → is_served_by a seat.standing ≡ b →
          is_queued (if b then (if is_abnormal seat.standing then completed seat.local else live (p.ops.resumed acceptor seat.local)) else seat).standing ≡ is_queued seat.standing
      go true q = gone_unqueued (p.ops.resumed acceptor seat.local) seat (is_abnormal seat.standing) ∙ sym (served_unqueued a seat.standing q)
      go false q = refl

  released_queued : (x : ℕ) (seat : Seat L) → is_queued (released p.ops x seat).standing ≡ is_queued seat.standing
  released_queued x seat = go (is_served_by x seat.standing) refl
    where
      go : (b : Bool) → is_served_by x seat.standing ≡ b →
          is_queued (if b then (if is_abnormal seat.standing then completed seat.local else live (p.ops.raised seat.local)) else seat).standing ≡ is_queued seat.standing
      go true q = gone_unqueued (p.ops.raised seat.local) seat (is_abnormal seat.standing) ∙ sym (served_unqueued x seat.standing q)
      go false q = refl

  fallen_unqueued : (closing s : Standing) → is_queued closing ≡ false → is_queued (fallen closing s) ≡ false
  fallen_unqueued closing Live e = e
  fallen_unqueued closing Waiting e = e
  fallen_unqueued closing Queued e = e
  fallen_unqueued closing (Served by abnormal) e = refl
  fallen_unqueued closing Completed e = refl
  fallen_unqueued closing Killed e = refl

  closing_unqueued : (b : Bool) → is_queued (if b then Completed else Killed) ≡ false
  closing_unqueued true = refl
  closing_unqueued false = refl

  -- a task that is not queued is changed, and is live
  freed_lined : (f : L → L) (s : State (ℕ → Seat L)) (a : ℕ) → IsLined s → is_queued (s.seats a).standing ≡ false → LineOf (freed (numbered p).store f s.seats a) s.line
  freed_lined f s a h e = line_put s.seats s.line a (live (f (s.seats a).local)) h (sym e)

  arrive_lined : (s : State (ℕ → Seat L)) (t : ℕ) → IsLined s → is_live (s.seats t).standing ≡ true → (offer : Offer) → arrives p.owner (seen (numbered p) s) offer ≡ true →
      LineOf (stand (numbered p).store s.seats t (arrived_standing offer)) (arrived_line t offer s.line)
  arrive_lined s t h free Nothing c = absurd (true≢false (sym c))
  arrive_lined s t h free (Calls form e i) c =
      line_join s.seats s.line t (record { local = (s.seats t).local; standing = Queued }) h (live_unqueued (s.seats t).standing free) refl
  arrive_lined s t h free (Waits choices) c =
      line_put s.seats s.line t (record { local = (s.seats t).local; standing = Waiting }) h (sym (live_unqueued (s.seats t).standing free))
  arrive_lined s t h free Finishes c = absurd (true≢false (sym c))
  arrive_lined s t h free Ends c = absurd (true≢false (sym c))
  arrive_lined s t h free (Aborts x) c = absurd (true≢false (sym c))

  start_lined : (s : State (ℕ → Seat L)) (c : ℕ) → IsLined s → (offer : Offer) → starts p.ops p.owner (seen (numbered p) s) c offer ≡ true →
      LineOf (met (numbered p) s.seats c offer) (without c s.line)
  start_lined s c h Nothing k = absurd (true≢false (sym k))
  start_lined s c h (Calls form e i) k =
      let opened : ℕ → Seat L = freed (numbered p).store (p.ops.accepted e i c (s.seats c).local) s.seats (p.owner e) in
      line_leave opened s.line c (record { local = (opened c).local; standing = Served (p.owner e) false })
      (freed_lined (p.ops.accepted e i c (s.seats c).local) s (p.owner e) h (waiting_unqueued (s.seats (p.owner e)).standing (split (split k).0).0)) refl
  start_lined s c h (Waits choices) k = absurd (true≢false (sym k))
  start_lined s c h Finishes k = absurd (true≢false (sym k))
  start_lined s c h Ends k = absurd (true≢false (sym k))
  start_lined s c h (Aborts x) k = absurd (true≢false (sym k))

  first_lined : (a : ℕ) (acceptor : L) (callers : List ℕ) (seats : ℕ → Seat L) (line : List ℕ) → LineOf seats line → LineOf (released_first (numbered p) a acceptor callers seats) line
  first_lined a acceptor [] seats line h = h
  first_lined a acceptor (c ∷ callers) seats line h = line_put seats line c (parted p.ops a acceptor (seats c)) h (parted_queued a acceptor (seats c))

  went_lined : (s : State (ℕ → Seat L)) (t x : ℕ) → IsLined s → is_live (s.seats t).standing ≡ true → LineOf (went_on (numbered p) s.seats t x) s.line
  went_lined s t x h free = go (x == t)
    where
      go : (b : Bool) → LineOf (if◌then◌else◌ {A = ℕ → Seat L} b s.seats (freed (numbered p).store p.ops.passed s.seats t)) s.line
      go true = h
      go false = freed_lined p.ops.passed s t h (live_unqueued (s.seats t).standing free)

  aborted_lined : (seats : ℕ → Seat L) (line : List ℕ) (x : ℕ) (closing : Standing) → is_queued closing ≡ false → LineOf seats line → LineOf (aborted (numbered p) seats x closing) (without x line)
  aborted_lined seats line x closing e h =
      line_leave (λ u. released p.ops x (seats u)) line x (record { local = (released p.ops x (seats x)).local; standing = fallen closing (released p.ops x (seats x)).standing })
      (line_map seats line (released p.ops x) h (released_queued x)) (fallen_unqueued closing (released p.ops x (seats x)).standing e)

  abort_lined : (s : State (ℕ → Seat L)) (t : ℕ) → IsLined s → is_live (s.seats t).standing ≡ true → (o : Option ℕ) →
      LineOf (after_abort (numbered p) s t o).seats (after_abort (numbered p) s t o).line
  abort_lined s t h free None = h
  abort_lined s t h free (Some x) = go (is_closed (s.seats x).standing)
    where
      went : ℕ → Seat L
      went = went_on (numbered p) s.seats t x

      go : (b : Bool) → LineOf (if◌then◌else◌ {A = ℕ → Seat L} b went (aborted (numbered p) went x (if x == t then Completed else Killed))) (if b then s.line else without x s.line)
      go true = went_lined s t x h free
      go false = aborted_lined went s.line x (if x == t then Completed else Killed) (closing_unqueued (x == t)) (went_lined s t x h free)

  action_lined : (s : State (ℕ → Seat L)) (action : Action) → action_applies p.ops p.owner (seen (numbered p) s) action ≡ true → IsLined s → IsLined (after (numbered p) s action)
  action_lined s (Local t) c h = freed_lined p.ops.stepped s t h (live_unqueued (s.seats t).standing (split c).0)
  action_lined s (Arrive t) c h = arrive_lined s t h (split c).0 (p.ops.offer (s.seats t).local) (split c).1
  action_lined s (Start d) c h = start_lined s d h (p.ops.offer (s.seats d).local) c
  action_lined s (Finish a) c h = first_lined a (s.seats a).local (p.ops.callers (s.seats a).local) (freed (numbered p).store p.ops.finished s.seats a) s.line
      (freed_lined p.ops.finished s a h (live_unqueued (s.seats a).standing (split c).0))
  action_lined s (Else a) c h = freed_lined p.ops.took_else s a h (waiting_unqueued (s.seats a).standing (split c).0)
  action_lined s (Delay a k) c h = freed_lined (p.ops.took_delay k) s a h (waiting_unqueued (s.seats a).standing (split c).0)
  action_lined s (CallElse d) c h = freed_lined p.ops.took_else s d h (live_unqueued (s.seats d).standing (split c).0)
  action_lined s (Expire d) c h = line_leave s.seats s.line d (live (p.ops.took_delay 1 (s.seats d).local)) h refl
  action_lined s (Fail d) c h = line_leave s.seats s.line d (live (p.ops.raised (s.seats d).local)) h refl
  action_lined s (Complete a) c h = line_put s.seats s.line a (record { local = (s.seats a).local; standing = Completed }) h
      (sym (live_unqueued (s.seats a).standing (and_parts (is_live (s.seats a).standing) _ (and_parts (not (a == 0)) _ c).1).0))
  action_lined s (Abort t) c h = abort_lined s t h (split c).0 (aborted_by (p.ops.offer (s.seats t).local))
  action_lined s End c h = h

  -- In a run each queued task stands in the line once, and no other does.
  pub run_lined : (actions : List Action) (s : State (ℕ → Seat L)) → IsRun (numbered p) s actions → IsLined s → IsLined (end_of (numbered p) s actions)
  run_lined [] s run h = h
  run_lined (action ∷ actions) s run h = run_lined actions (after (numbered p) s action) run.1 (action_lined s action (split run.0).1 h)
