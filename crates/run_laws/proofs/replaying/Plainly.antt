-- The plain progress knows what is to be known, for every lawful program.
use Rattle.std.proofs.Common.{◌≡◌, ℕ, Bool, true, false, not, ◌&&◌, ◌==◌, if◌then◌else◌, List, ◌∷◌, refl, sym, ap, ap₂, ◌∙◌, subst, ⊎_elim, true≢false}
use Rattle.std.specs.Prelude.{ℤ}
use Rattle.std.proofs.lemmas.Bool.{eqb-true, and_parts, cases_Bool, ne_eqb}
use Rattle.event_machine.specs.declared.Standing.{Standing}
use Rattle.event_machine.specs.declared.Standing.TheVariants.{Live, Waiting, Queued, Served, Completed, Killed}
use Rattle.event_machine.specs.declared.Event.{Event}
use Rattle.event_machine.specs.declared.Event.TheVariants.{R, E, S, D, C, T, F, X, B, Z}
use Rattle.event_machine.specs.Offers.{calls_in, is_any_form, is_conditional, is_timed, waits_with, opens, is_finish, is_else, is_delay}
use Rattle.event_machine.specs.States.{Seat, live, completed, is_live, is_closed, is_served_by, is_abnormal}
use Rattle.event_machine.specs.Effects.{fallen}
use Rattle.event_machine.specs.Lawful.{IsLawful}
use Rattle.event_machine.specs.Programs.{Program, numbered}
use Rattle.event_machine.specs.Soundness.{IsSound}
use Rattle.event_machine.specs.Worlds.{aborts, happens, acted, offers}
use Rattle.event_machine.proofs.Basics.{push_if, seat_path}
use Rattle.event_machine.proofs.Standings.{is-Live}
use Rattle.event_machine.proofs.Offering.{finish_is, calls_waits}
use Rattle.event_machine.proofs.Sound.{first_served}
use Rattle.run_laws.specs.replaying.Copies.{behind}
use Rattle.run_laws.specs.replaying.Plainly.{callers_of, seen_tasks}
use Rattle.run_laws.proofs.replaying.Facts.{put, put_each, let_go}
use Rattle.run_laws.proofs.replaying.Silently.{met_is}
use Rattle.run_laws.proofs.replaying.Parting.{parted_is}
use Rattle.run_laws.proofs.replaying.Aborting.{fell, abort_closed, abort_open, abort_self}

module _ {L : Type 0} (p : Program L) (IsProper : L → Type 0) (lawful : IsLawful p.ops IsProper) where
  abbrev pub seen : (ℕ → Seat L) → ℕ → Seat (List ℕ)
  seen tasks = seen_tasks p tasks

  abbrev pub seen_seat : Seat L → Seat (List ℕ)
  seen_seat seat = record { local = p.ops.callers seat.local; standing = seat.standing }

  seen_put : (tasks : ℕ → Seat L) (t : ℕ) (seat : Seat L) → seen (put tasks t seat) ≡ put (seen tasks) t (seen_seat seat)
  seen_put tasks t seat = λ i u. push_if seen_seat (u == t) seat (tasks u) i

  -- a free task that keeps its callers
  pub seen_freed : (tasks : ℕ → Seat L) (t : ℕ) (f : L → L) → p.ops.callers (f (tasks t).local) ≡ p.ops.callers (tasks t).local →
      seen (put tasks t (live (f (tasks t).local))) ≡ put (seen tasks) t (live (seen tasks t).local)
  seen_freed tasks t f h = seen_put tasks t (live (f (tasks t).local)) ∙ ap (λ cs. put (seen tasks) t (live cs)) h

  -- a caller that is let go
  seen_let_go : (f : L → L) (a : ℕ) (seat : Seat L) → (is_served_by a seat.standing ≡ true → is_abnormal seat.standing ≡ false → p.ops.callers (f seat.local) ≡ p.ops.callers seat.local) →
      seen_seat (let_go f a seat) ≡ let_go (λ cs. cs) a (seen_seat seat)
  seen_let_go f a seat h = go (is_served_by a seat.standing) (is_abnormal seat.standing) h
    where
      go : (b c : Bool) → (b ≡ true → c ≡ false → p.ops.callers (f seat.local) ≡ p.ops.callers seat.local) →
          seen_seat (if b then (if c then completed seat.local else live (f seat.local)) else seat) ≡ (if b then (if c then completed (p.ops.callers seat.local) else live (p.ops.callers seat.local)) else seen_seat seat)
      go true true k = refl
      go true false k = ap (λ cs. live cs) (k refl refl)
      go false c k = refl

  seen_fell : (tasks : ℕ → Seat L) (v : ℕ) (closing : Standing) →
      ((u : ℕ) → is_served_by v (tasks u).standing ≡ true → is_abnormal (tasks u).standing ≡ false → p.ops.callers (p.ops.raised (tasks u).local) ≡ p.ops.callers (tasks u).local) →
      seen (fell p.ops.raised tasks v closing) ≡ fell (λ cs. cs) (seen tasks) v closing
  seen_fell tasks v closing h =
      seen_put (λ u. let_go p.ops.raised v (tasks u)) v (record { local = (let_go p.ops.raised v (tasks v)).local; standing = fallen closing (let_go p.ops.raised v (tasks v)).standing }) ∙
      ap (λ (y : Seat (List ℕ)). put (seen (λ u. let_go p.ops.raised v (tasks u))) v (record { local = y.local; standing = fallen closing y.standing })) (each v) ∙
      ap (λ (g : ℕ → Seat (List ℕ)). put g v (record { local = (let_go (λ cs. cs) v (seen tasks v)).local; standing = fallen closing (let_go (λ cs. cs) v (seen tasks v)).standing })) (λ i u. each u i)
    where
      each : (u : ℕ) → seen_seat (let_go p.ops.raised v (tasks u)) ≡ let_go (λ cs. cs) v (seen tasks u)
      each u = seen_let_go p.ops.raised v (tasks u) (h u)

  served_open : (a : ℕ) (s : Standing) → is_served_by a s ≡ true → is_abnormal s ≡ false → is_closed s ≡ false
  served_open a Live h k = refl
  served_open a Waiting h k = refl
  served_open a Queued h k = refl
  served_open a (Served by abnormal) h k = k
  served_open a Completed h k = absurd (true≢false (sym h))
  served_open a Killed h k = absurd (true≢false (sym h))

  module _ (tasks : ℕ → Seat L) (sound : IsSound p.ops IsProper tasks) where
    proper_free : (t : ℕ) → (tasks t).standing ≡ Live → IsProper (tasks t).local
    proper_free t h = sound.proper t (ap is_closed h)

    free_by : (test : Bool) (t : ℕ) → (is_live (tasks t).standing && test) ≡ true → (tasks t).standing ≡ Live
    free_by test t h = is-Live (tasks t).standing (and_parts (is_live (tasks t).standing) test h).0

    seen_abort : (t v : ℕ) → (tasks t).standing ≡ Live → seen (acted (numbered p) tasks (B t v)) ≡ acted (numbered (callers_of p)) (seen tasks) (B t v)
    seen_abort t v free = ⊎_elim itself (λ other. ⊎_elim (of_closed other) (of_other other) (cases_Bool (is_closed (tasks v).standing))) (cases_Bool (v == t))
      where
        raises : (u : ℕ) → is_served_by v (tasks u).standing ≡ true → is_abnormal (tasks u).standing ≡ false → p.ops.callers (p.ops.raised (tasks u).local) ≡ p.ops.callers (tasks u).local
        raises u h k = (lawful.raised (tasks u).local (sound.proper u (served_open v (tasks u).standing h k))).1

        on : ℕ → Seat L
        on = put tasks t (live (p.ops.passed (tasks t).local))

        passing : seen (put tasks t (live (p.ops.passed (tasks t).local))) ≡ put (seen tasks) t (live (seen tasks t).local)
        passing = seen_freed tasks t p.ops.passed (lawful.passed (tasks t).local (proper_free t free)).1

        itself : (v == t) ≡ true → seen (acted (numbered p) tasks (B t v)) ≡ acted (numbered (callers_of p)) (seen tasks) (B t v)
        itself q =
            let open' : is_closed (tasks v).standing ≡ false = ap (λ u. is_closed (tasks u).standing) (eqb-true v t q) ∙ ap is_closed free in
            ap (λ g. seen g) (abort_self p tasks t v open' q) ∙ seen_fell tasks v Completed raises ∙ sym (abort_self (callers_of p) (seen tasks) t v open' q)

        of_closed : (v == t) ≡ false → is_closed (tasks v).standing ≡ true → seen (acted (numbered p) tasks (B t v)) ≡ acted (numbered (callers_of p)) (seen tasks) (B t v)
        of_closed q closed = ap (λ g. seen g) (abort_closed p tasks t v closed q) ∙ passing ∙ sym (abort_closed (callers_of p) (seen tasks) t v closed q)

        of_other : (v == t) ≡ false → is_closed (tasks v).standing ≡ false → seen (acted (numbered p) tasks (B t v)) ≡ acted (numbered (callers_of p)) (seen tasks) (B t v)
        of_other q open' =
            ap (λ g. seen g) (abort_open p tasks t v open' q) ∙
            seen_fell (put tasks t (live (p.ops.passed (tasks t).local))) v Killed
            (λ u. put_each (λ z (seat : Seat L). is_served_by v seat.standing ≡ true → is_abnormal seat.standing ≡ false → p.ops.callers (p.ops.raised seat.local) ≡ p.ops.callers seat.local)
            tasks t (live (p.ops.passed (tasks t).local)) u (λ r h. absurd (true≢false (sym h))) (λ r. raises u)) ∙
            ap (λ g. fell (λ cs. cs) g v Killed) passing ∙
            sym (abort_open (callers_of p) (seen tasks) t v open' q)

    seen_end : (a : ℕ) → happens p tasks (E a) ≡ true → seen (acted (numbered p) tasks (E a)) ≡ acted (numbered (callers_of p)) (seen tasks) (E a)
    seen_end a h =
        ap (λ g. seen g) (parted_is p tasks a (tasks a).local ends.0 (p.ops.callers (p.ops.finished (tasks a).local)) (seat_path refl free) ends.2 other) ∙
        seen_put (put tasks a (live (p.ops.finished (tasks a).local))) ends.0 (let_go (p.ops.resumed (tasks a).local) a (tasks ends.0)) ∙
        ap₂ (λ g y. put g ends.0 y) (seen_put tasks a (live (p.ops.finished (tasks a).local)) ∙ ap (λ cs. put (seen tasks) a (live (behind cs))) (sym ends.2))
        (seen_let_go (p.ops.resumed (tasks a).local) a (tasks ends.0)
        (λ q k. (lawful.resumed (tasks a).local (tasks ends.0).local (proper_free a free) (sound.proper ends.0 (served_open a (tasks ends.0).standing q k))).1)) ∙
        sym (parted_is (callers_of p) (seen tasks) a (p.ops.callers (tasks a).local) ends.0 (p.ops.callers (p.ops.finished (tasks a).local)) (seat_path refl free) ends.2 other)
      where
        free : (tasks a).standing ≡ Live
        free = is-Live (tasks a).standing (and_parts (is_live (tasks a).standing) (is_finish (p.ops.offer (tasks a).local)) h).0

        ends : (c : ℕ) × IsProper (p.ops.finished (tasks a).local) × (p.ops.callers (tasks a).local ≡ c ∷ p.ops.callers (p.ops.finished (tasks a).local))
        ends = lawful.finished (tasks a).local (proper_free a free) (finish_is (p.ops.offer (tasks a).local) (and_parts (is_live (tasks a).standing) (is_finish (p.ops.offer (tasks a).local)) h).1)

        other : (ends.0 == a) ≡ false
        other = ne_eqb ends.0 a (λ q. true≢false (sym (first_served p IsProper lawful tasks a ends.0 sound free ends.1 ends.2) ∙ ap (λ v. is_served_by a (tasks v).standing) q ∙ sound.itself a))

    seen_met : (c e : ℕ) (i : ℤ) → happens p tasks (R c e i) ≡ true → seen (acted (numbered p) tasks (R c e i)) ≡ acted (numbered (callers_of p)) (seen tasks) (R c e i)
    seen_met c e i h =
        ap (λ g. seen g) (met_is tasks c (p.owner e) (p.ops.accepted e i c (tasks c).local (tasks (p.owner e)).local) other) ∙
        seen_put (put tasks (p.owner e) (live (p.ops.accepted e i c (tasks c).local (tasks (p.owner e)).local))) c (record { local = (tasks c).local; standing = Served (p.owner e) false }) ∙
        ap (λ (g : ℕ → Seat (List ℕ)). put g c (record { local = p.ops.callers (tasks c).local; standing = Served (p.owner e) false }))
        (seen_put tasks (p.owner e) (live (p.ops.accepted e i c (tasks c).local (tasks (p.owner e)).local)) ∙ ap (λ cs. put (seen tasks) (p.owner e) (live cs)) accepts) ∙
        sym (met_is (seen tasks) c (p.owner e) (c ∷ p.ops.callers (tasks (p.owner e)).local) other)
      where
        parts : (offers p.ops (calls_in is_any_form e i) (tasks c) ≡ true) × (offers p.ops (waits_with (opens e i)) (tasks (p.owner e)) ≡ true)
        parts = and_parts (offers p.ops (calls_in is_any_form e i) (tasks c)) (offers p.ops (waits_with (opens e i)) (tasks (p.owner e))) h

        caller : (is_live (tasks c).standing ≡ true) × (calls_in is_any_form e i (p.ops.offer (tasks c).local) ≡ true)
        caller = and_parts (is_live (tasks c).standing) (calls_in is_any_form e i (p.ops.offer (tasks c).local)) parts.0

        acceptor : (is_live (tasks (p.owner e)).standing ≡ true) × (waits_with (opens e i) (p.ops.offer (tasks (p.owner e)).local) ≡ true)
        acceptor = and_parts (is_live (tasks (p.owner e)).standing) (waits_with (opens e i) (p.ops.offer (tasks (p.owner e)).local)) parts.1

        other : (c == p.owner e) ≡ false
        other = ne_eqb c (p.owner e) (λ q. calls_waits is_any_form (opens e i) e i (p.ops.offer (tasks c).local) caller.1
            (subst (λ v. waits_with (opens e i) (p.ops.offer (tasks v).local) ≡ true) (sym q) acceptor.1))

        accepts : p.ops.callers (p.ops.accepted e i c (tasks c).local (tasks (p.owner e)).local) ≡ c ∷ p.ops.callers (tasks (p.owner e)).local
        accepts = (lawful.accepted e i c (tasks c).local (tasks (p.owner e)).local (proper_free c (is-Live (tasks c).standing caller.0))
            (proper_free (p.owner e) (is-Live (tasks (p.owner e)).standing acceptor.0)) acceptor.1).1

    -- what an event does to what is known
    pub seen_acted : (e : Event) → happens p tasks e ≡ true → seen (acted (numbered p) tasks e) ≡ acted (numbered (callers_of p)) (seen tasks) e
    seen_acted (R c e i) h = seen_met c e i h
    seen_acted (E a) h = seen_end a h
    seen_acted (S a) h = seen_freed tasks a p.ops.took_else (lawful.took_else (tasks a).local (proper_free a (free_by (waits_with is_else (p.ops.offer (tasks a).local)) a h))).1
    seen_acted (D a k) h = seen_freed tasks a (p.ops.took_delay k) (lawful.took_delay k (tasks a).local (proper_free a (free_by (waits_with (is_delay k) (p.ops.offer (tasks a).local)) a h))).1
    seen_acted (C c e i) h = seen_freed tasks c p.ops.took_else (lawful.took_else (tasks c).local (proper_free c (free_by (calls_in is_conditional e i (p.ops.offer (tasks c).local)) c
        (and_parts (offers p.ops (calls_in is_conditional e i) (tasks c)) (not (is_closed (tasks (p.owner e)).standing)) h).0))).1
    seen_acted (T c e i) h = seen_freed tasks c (p.ops.took_delay 1) (lawful.took_delay 1 (tasks c).local (proper_free c (free_by (calls_in is_timed e i (p.ops.offer (tasks c).local)) c
        (and_parts (offers p.ops (calls_in is_timed e i) (tasks c)) (not (is_closed (tasks (p.owner e)).standing)) h).0))).1
    seen_acted (F c e i) h = seen_freed tasks c p.ops.raised (lawful.raised (tasks c).local (proper_free c (free_by (calls_in is_any_form e i (p.ops.offer (tasks c).local)) c
        (and_parts (offers p.ops (calls_in is_any_form e i) (tasks c)) (is_closed (tasks (p.owner e)).standing) h).0))).1
    seen_acted (X a) h = seen_put tasks a (record { local = (tasks a).local; standing = Completed })
    seen_acted (B t v) h = seen_abort t v (free_by (aborts v (p.ops.offer (tasks t).local)) t h)
    seen_acted Z h = refl
