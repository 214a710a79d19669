-- Who is served is a caller of an open task: each move keeps this.
use Rattle.std.proofs.Common.{◌≡◌, ℕ, ◌+◌, Bool, true, false, not, ◌==◌, if◌then◌else◌, List, [], ◌∷◌, refl, sym, ap, ap₂, ◌∙◌, subst, true≢false, arith}
use Rattle.std.specs.Prelude.{ℤ}
use Rattle.std.proofs.lemmas.Bool.{eqb-true, eqb-false, ne_eqb, and_parts}
use Rattle.event_machine.specs.declared.Standing.{Standing}
use Rattle.event_machine.specs.declared.Standing.TheVariants.{Live, Served, Completed, Killed}
use Rattle.event_machine.specs.declared.Event.{Event}
use Rattle.event_machine.specs.declared.Event.TheVariants.{R, E, S, D, C, T, F, X, B, Z}
use Rattle.event_machine.specs.Offers.{calls_in, is_any_form, waits_with, opens, is_end}
use Rattle.event_machine.specs.States.{Seat, live, completed, is_live, is_closed, is_served_by, is_abnormal}
use Rattle.event_machine.specs.Effects.{freed, stand, met_at, parted, released_first, parted_both, released, fallen, aborted, went_on, abort_seats}
use Rattle.event_machine.specs.Lawful.{IsLawful, Keeps}
use Rattle.event_machine.specs.Programs.{Program, numbered}
use Rattle.event_machine.specs.Worlds.{World, Move, Step, Happen, happens, acted, offers, can_move, moved}
use Rattle.event_machine.specs.Soundness.{IsSound, times}
use Rattle.event_machine.proofs.Basics.{split, push_if}
use Rattle.event_machine.proofs.Standings.{is-Live, served_closed, served_one, fallen_served_by, fallen_closed}
use Rattle.event_machine.proofs.Updates.{put_self, put_at, put_other, freed_standing}
use Rattle.event_machine.proofs.Offering.{finish_is, end_is, calls_waits}
use Rattle.common_lemmas.proofs.Numbers.{equal_self}

module _ {L : Type 0} (p : Program L) (IsProper : L → Type 0) (lawful : IsLawful p.ops IsProper) where
  -- ---- tasks that stand as before, with the callers that they had

  pub sound_same : (tasks others : ℕ → Seat L) → IsSound p.ops IsProper tasks → ((u : ℕ) → (others u).standing ≡ (tasks u).standing) →
      ((u : ℕ) → is_closed (tasks u).standing ≡ false → Keeps p.ops IsProper (tasks u).local (others u).local) → IsSound p.ops IsProper others
  sound_same tasks others sound standing keeps = record {
    closed = λ a c k. ap (is_served_by a) (standing c) ∙ sound.closed a c (sym (ap is_closed (standing a)) ∙ k);
    callers = λ a c k.
        ap (times c) (keeps a (sym (ap is_closed (standing a)) ∙ k)).1 ∙ sound.callers a c (sym (ap is_closed (standing a)) ∙ k) ∙
        ap (λ z. if is_served_by a z then 1 else 0) (sym (standing c));
    itself = λ a. ap (is_served_by a) (standing a) ∙ sound.itself a;
    proper = λ a k. (keeps a (sym (ap is_closed (standing a)) ∙ k)).0;
  }

  sound_freed : (f : L → L) (tasks : ℕ → Seat L) (t : ℕ) → IsSound p.ops IsProper tasks → (tasks t).standing ≡ Live →
      (IsProper (tasks t).local → Keeps p.ops IsProper (tasks t).local (f (tasks t).local)) → IsSound p.ops IsProper (freed (numbered p).store f tasks t)
  sound_freed f tasks t sound free keeps = sound_same tasks (freed (numbered p).store f tasks t) sound (freed_standing p tasks t f free) kept
    where
      go : (u : ℕ) (b : Bool) → (u == t) ≡ b → IsProper (tasks u).local → Keeps p.ops IsProper (tasks u).local (if b then live (f (tasks t).local) else tasks u).local
      go u true e proper = subst (λ v. Keeps p.ops IsProper (tasks v).local (f (tasks t).local)) (sym (eqb-true u t e))
          (keeps (subst (λ v. IsProper (tasks v).local) (eqb-true u t e) proper))
      go u false e proper = (proper, refl)

      kept : (u : ℕ) → is_closed (tasks u).standing ≡ false → Keeps p.ops IsProper (tasks u).local (freed (numbered p).store f tasks t u).local
      kept u k = go u (u == t) refl (sound.proper u k)

  -- a live task is served by nobody
  live_unserved : (a : ℕ) (s : Standing) → s ≡ Live → is_served_by a s ≡ false
  live_unserved a s e = ap (is_served_by a) e

  live_open : (s : Standing) → s ≡ Live → is_closed s ≡ false
  live_open s e = ap is_closed e

  none_one : (b : Bool) → ◌≡◌ {A = ℕ} 0 (if b then 1 else 0) → b ≡ false
  none_one true h = absurd (omega arith)
  none_one false h = refl

  zero_more : (n : ℕ) → 0 + n ≡ n
  zero_more n = omega arith

  -- ---- completing

  sound_completed : (tasks : ℕ → Seat L) (a : ℕ) → IsSound p.ops IsProper tasks → (tasks a).standing ≡ Live → p.ops.callers (tasks a).local ≡ [] →
      IsSound p.ops IsProper (stand (numbered p).store tasks a Completed)
  sound_completed tasks a sound free none = record {
    closed = λ b c k. served b c ∙ closed_before b c (b == a) refl k;
    callers = λ b c k. callers_before b c (b == a) refl k ∙ ap (λ z. if z then 1 else 0) (sym (served b c));
    itself = λ b. served b b ∙ sound.itself b;
    proper = λ b k. proper_before b (b == a) refl k;
  }
    where
      others : ℕ → Seat L
      others = stand (numbered p).store tasks a Completed

      here : Seat L
      here = record { local = (tasks a).local; standing = Completed }

      served : (b c : ℕ) → is_served_by b (others c).standing ≡ is_served_by b (tasks c).standing
      served b c = go (c == a) refl
        where
          go : (d : Bool) → (c == a) ≡ d → is_served_by b (if d then here else tasks c).standing ≡ is_served_by b (tasks c).standing
          go true e = sym (ap (λ v. is_served_by b (tasks v).standing) (eqb-true c a e) ∙ live_unserved b (tasks a).standing free)
          go false e = refl

      closed_before : (b c : ℕ) (d : Bool) → (b == a) ≡ d → is_closed (if d then here else tasks b).standing ≡ true → is_served_by b (tasks c).standing ≡ false
      closed_before b c true e k = subst (λ v. is_served_by v (tasks c).standing ≡ false) (sym (eqb-true b a e))
          (none_one (is_served_by a (tasks c).standing) (sym (ap (times c) none) ∙ sound.callers a c (live_open (tasks a).standing free)))
      closed_before b c false e k = sound.closed b c k

      callers_before : (b c : ℕ) (d : Bool) → (b == a) ≡ d → is_closed (if d then here else tasks b).standing ≡ false →
          times c (p.ops.callers (if d then here else tasks b).local) ≡ (if is_served_by b (tasks c).standing then 1 else 0)
      callers_before b c true e k = absurd (true≢false k)
      callers_before b c false e k = sound.callers b c k

      proper_before : (b : ℕ) (d : Bool) → (b == a) ≡ d → is_closed (if d then here else tasks b).standing ≡ false → IsProper (if d then here else tasks b).local
      proper_before b true e k = absurd (true≢false k)
      proper_before b false e k = sound.proper b k

  -- ---- a rendezvous begins

  module _ (tasks : ℕ → Seat L) (c e : ℕ) (i : ℤ) (sound : IsSound p.ops IsProper tasks) (apart : (c == p.owner e) ≡ false)
      (caller_free : (tasks c).standing ≡ Live) (owner_free : (tasks (p.owner e)).standing ≡ Live)
      (opened : waits_with (opens e i) (p.ops.offer (tasks (p.owner e)).local) ≡ true) where
    abbrev o : ℕ
    o = p.owner e

    abbrev met : ℕ → Seat L
    met = met_at (numbered p) tasks c e i

    abbrev entered : L
    entered = p.ops.accepted e i c (tasks c).local (tasks o).local

    accepts : IsProper entered × (p.ops.callers entered ≡ c ∷ p.ops.callers (tasks o).local)
    accepts = lawful.accepted e i c (tasks c).local (tasks o).local (sound.proper c (live_open (tasks c).standing caller_free))
        (sound.proper o (live_open (tasks o).standing owner_free)) opened

    met_caller : (u : ℕ) → (u == c) ≡ true → met u ≡ record { local = (tasks c).local; standing = Served o false }
    met_caller u q = ap (λ b. if b then record { local = (freed (numbered p).store (p.ops.accepted e i c (tasks c).local) tasks o c).local; standing = Served o false }
        else freed (numbered p).store (p.ops.accepted e i c (tasks c).local) tasks o u) q ∙
        ap (λ b. record { local = (if b then live entered else tasks c).local; standing = Served o false }) apart

    met_owner : (u : ℕ) → (u == c) ≡ false → (u == o) ≡ true → met u ≡ live entered
    met_owner u q r = put_other p (freed (numbered p).store (p.ops.accepted e i c (tasks c).local) tasks o) c _ u q ∙ put_at p tasks o (live entered) u r

    met_rest : (u : ℕ) → (u == c) ≡ false → (u == o) ≡ false → met u ≡ tasks u
    met_rest u q r = put_other p (freed (numbered p).store (p.ops.accepted e i c (tasks c).local) tasks o) c _ u q ∙ put_other p tasks o (live entered) u r

    -- what holds of the caller, of the owner and of all others holds of each task
    met_each : (P : ℕ → Seat L → Type 0) → P c (record { local = (tasks c).local; standing = Served o false }) → P o (live entered) →
        ((u : ℕ) → (u == c) ≡ false → (u == o) ≡ false → P u (tasks u)) → (u : ℕ) → P u (met u)
    met_each P at_c at_o rest u = go (u == c) refl (u == o) refl
      where
        go : (b : Bool) → (u == c) ≡ b → (d : Bool) → (u == o) ≡ d → P u (met u)
        go true q d r = subst (P u) (sym (met_caller u q)) (subst (λ v. P v (record { local = (tasks c).local; standing = Served o false })) (sym (eqb-true u c q)) at_c)
        go false q true r = subst (P u) (sym (met_owner u q r)) (subst (λ v. P v (live entered)) (sym (eqb-true u o r)) at_o)
        go false q false r = subst (P u) (sym (met_rest u q r)) (rest u q r)

    met_closed : (u : ℕ) → is_closed (met u).standing ≡ is_closed (tasks u).standing
    met_closed = met_each (λ u seat. is_closed seat.standing ≡ is_closed (tasks u).standing)
        (sym (live_open (tasks c).standing caller_free)) (sym (live_open (tasks o).standing owner_free)) (λ u q r. refl)

    met_served : (a u : ℕ) → is_served_by a (met u).standing ≡ (if u == c then o == a else is_served_by a (tasks u).standing)
    met_served a = met_each (λ u seat. is_served_by a seat.standing ≡ (if u == c then o == a else is_served_by a (tasks u).standing))
        (ap (λ b. if b then o == a else is_served_by a (tasks c).standing) (sym (equal_self c)))
        (sym (ap (λ b. if b then o == a else is_served_by a (tasks o).standing) (ne_eqb o c (λ q. eqb-false c o apart (sym q))) ∙ live_unserved a (tasks o).standing owner_free))
        (λ u q r. ap (λ b. if b then o == a else is_served_by a (tasks u).standing) (sym q))

    -- a task other than the owner serves whom it served
    met_unchanged : (a u : ℕ) → (o == a) ≡ false → is_served_by a (met u).standing ≡ is_served_by a (tasks u).standing
    met_unchanged a u q = met_served a u ∙ go (u == c) refl
      where
        go : (b : Bool) → (u == c) ≡ b → (if b then o == a else is_served_by a (tasks u).standing) ≡ is_served_by a (tasks u).standing
        go true r = q ∙ sym (ap (λ v. is_served_by a (tasks v).standing) (eqb-true u c r) ∙ live_unserved a (tasks c).standing caller_free)
        go false r = refl

    met_callers : (a u : ℕ) → is_closed (tasks a).standing ≡ false →
        times u (p.ops.callers (met a).local) ≡ (if is_served_by a (met u).standing then 1 else 0)
    met_callers a u k = go (o == a) refl
      where
        of_owner : (b : Bool) → (u == c) ≡ b → times u (c ∷ p.ops.callers (tasks o).local) ≡ (if (if b then o == o else is_served_by o (tasks u).standing) then 1 else 0)
        of_owner true q =
            ap (λ v. times v (c ∷ p.ops.callers (tasks o).local)) (eqb-true u c q) ∙
            ap₂ (λ b n. (if b then 1 else 0) + n) (equal_self c)
            (sound.callers o c (live_open (tasks o).standing owner_free) ∙ ap (λ z. if z then 1 else 0) (live_unserved o (tasks c).standing caller_free)) ∙
            ap (λ z. if z then 1 else 0) (sym (equal_self o))
        of_owner false q =
            ap₂ (λ b n. (if b then 1 else 0) + n) (ne_eqb c u (λ r. eqb-false u c q (sym r))) (sound.callers o u (live_open (tasks o).standing owner_free)) ∙
            zero_more (if is_served_by o (tasks u).standing then 1 else 0)

        of_others : (v : ℕ) → (o == v) ≡ false → p.ops.callers (met v).local ≡ p.ops.callers (tasks v).local
        of_others = met_each (λ v seat. (o == v) ≡ false → p.ops.callers seat.local ≡ p.ops.callers (tasks v).local)
            (λ q. refl) (λ q. absurd (true≢false (sym (equal_self o) ∙ q))) (λ v q r z. refl)

        go : (b : Bool) → (o == a) ≡ b → times u (p.ops.callers (met a).local) ≡ (if is_served_by a (met u).standing then 1 else 0)
        go true q = subst (λ v. times u (p.ops.callers (met v).local) ≡ (if is_served_by v (met u).standing then 1 else 0)) (eqb-true o a q)
            (ap (λ seat. times u (p.ops.callers seat.local)) (met_owner o (ne_eqb o c (λ r. eqb-false c o apart (sym r))) (equal_self o)) ∙
            ap (times u) accepts.1 ∙ of_owner (u == c) refl ∙ ap (λ z. if z then 1 else 0) (sym (met_served o u)))
        go false q = ap (times u) (of_others a q) ∙ sound.callers a u k ∙ ap (λ z. if z then 1 else 0) (sym (met_unchanged a u q))

    sound_met : IsSound p.ops IsProper met
    sound_met = record {
      closed = λ a u k. met_unchanged a u (ne_eqb o a (λ q. true≢false (sym k ∙ met_closed a ∙
          ap (λ v. is_closed (tasks v).standing) (sym q) ∙ live_open (tasks o).standing owner_free))) ∙ sound.closed a u (sym (met_closed a) ∙ k);
      callers = λ a u k. met_callers a u (sym (met_closed a) ∙ k);
      itself = λ a. met_served a a ∙ alone a (a == c) refl;
      proper = met_each (λ a seat. is_closed seat.standing ≡ false → IsProper seat.local)
          (λ k. sound.proper c (live_open (tasks c).standing caller_free)) (λ k. accepts.0) (λ a q r k. sound.proper a k);
    }
      where
        alone : (a : ℕ) (b : Bool) → (a == c) ≡ b → (if b then o == a else is_served_by a (tasks a).standing) ≡ false
        alone a true q = ne_eqb o a (λ r. eqb-false c o apart (sym (r ∙ eqb-true a c q)))
        alone a false q = sound.itself a

  -- ---- a caller is let go

  -- An abnormal caller completes, and another is live with this state.
  abbrev let_go : L → Seat L → Seat L
  let_go after seat = if is_abnormal seat.standing then completed seat.local else live after

  go_closed : (a : ℕ) (after : L) (seat : Seat L) → is_served_by a seat.standing ≡ true → is_closed (let_go after seat).standing ≡ is_closed seat.standing
  go_closed a after seat h = push_if (λ (x : Seat L). is_closed x.standing) (is_abnormal seat.standing) _ _ ∙ same' (is_abnormal seat.standing) ∙ sym (served_closed a seat.standing h)
    where
      same' : (b : Bool) → (if b then true else false) ≡ b
      same' true = refl
      same' false = refl

  go_unserved : (b : ℕ) (after : L) (seat : Seat L) → is_served_by b (let_go after seat).standing ≡ false
  go_unserved b after seat = go (is_abnormal seat.standing)
    where
      go : (d : Bool) → is_served_by b (if d then completed seat.local else live after).standing ≡ false
      go true = refl
      go false = refl

  go_keeps : (a : ℕ) (after : L) (seat : Seat L) → is_served_by a seat.standing ≡ true → is_closed seat.standing ≡ false →
      Keeps p.ops IsProper seat.local after → Keeps p.ops IsProper seat.local (let_go after seat).local
  go_keeps a after seat h k keeps = subst (λ b. Keeps p.ops IsProper seat.local (if b then completed seat.local else live after).local)
      (sym k ∙ served_closed a seat.standing h) keeps

  -- ---- a rendezvous ends

  module _ (tasks : ℕ → Seat L) (a c : ℕ) (sound : IsSound p.ops IsProper tasks) (free : (tasks a).standing ≡ Live)
      (proper_after : IsProper (p.ops.finished (tasks a).local)) (first : p.ops.callers (tasks a).local ≡ c ∷ p.ops.callers (p.ops.finished (tasks a).local)) where
    abbrev rest : List ℕ
    rest = p.ops.callers (p.ops.finished (tasks a).local)

    abbrev done : L
    done = p.ops.finished (tasks a).local

    abbrev gone : Seat L
    gone = let_go (p.ops.resumed (tasks a).local (tasks c).local) (tasks c)

    count_first : (d : ℕ) → (if c == d then 1 else 0) + times d rest ≡ (if is_served_by a (tasks d).standing then 1 else 0)
    count_first d = sym (ap (times d) first) ∙ sound.callers a d (live_open (tasks a).standing free)

    pub first_served : is_served_by a (tasks c).standing ≡ true
    first_served = go (is_served_by a (tasks c).standing) (ap (λ b. (if b then 1 else 0) + times c rest) (sym (equal_self c)) ∙ count_first c)
      where
        go : (b : Bool) → 1 + times c rest ≡ (if b then 1 else 0) → b ≡ true
        go true h = refl
        go false h = absurd (omega arith)

    first_once : times c rest ≡ 0
    first_once =
        let h : 1 + times c rest ≡ 1 = ap (λ b. (if b then 1 else 0) + times c rest) (sym (equal_self c)) ∙ count_first c ∙ ap (λ b. if b then 1 else 0) first_served in
        omega arith

    apart_first : (c == a) ≡ false
    apart_first = ne_eqb c a (λ q. true≢false (sym first_served ∙ ap (λ v. is_served_by a (tasks v).standing) q ∙ live_unserved a (tasks a).standing free))

    parted_first : parted p.ops a (tasks a).local (freed (numbered p).store p.ops.finished tasks a c) ≡ gone
    parted_first = ap (parted p.ops a (tasks a).local) (put_other p tasks a (live done) c apart_first) ∙ ap (λ b. if b then gone else tasks c) first_served

    abbrev ended_both : ℕ → Seat L
    ended_both = parted_both (numbered p) tasks a

    both_is : ended_both ≡ (numbered p).store.put (freed (numbered p).store p.ops.finished tasks a) c gone
    both_is =
        ap (λ cs. released_first (numbered p) a (tasks a).local cs (freed (numbered p).store p.ops.finished tasks a)) first ∙
        ap (λ x. (numbered p).store.put (freed (numbered p).store p.ops.finished tasks a) c x) parted_first

    pub both_each : (P : ℕ → Seat L → Type 0) → P c gone → P a (live done) → ((u : ℕ) → (u == c) ≡ false → (u == a) ≡ false → P u (tasks u)) → (u : ℕ) → P u (ended_both u)
    both_each P at_c at_a others u = subst (λ (f : ℕ → Seat L). P u (f u)) (sym both_is) (go (u == c) refl (u == a) refl)
      where
        after_a : ℕ → Seat L
        after_a = freed (numbered p).store p.ops.finished tasks a

        go : (b : Bool) → (u == c) ≡ b → (d : Bool) → (u == a) ≡ d → P u ((numbered p).store.put after_a c gone u)
        go true q d r = subst (P u) (sym (put_at p after_a c gone u q)) (subst (λ v. P v gone) (sym (eqb-true u c q)) at_c)
        go false q true r = subst (P u) (sym (put_other p after_a c gone u q ∙ put_at p tasks a (live done) u r)) (subst (λ v. P v (live done)) (sym (eqb-true u a r)) at_a)
        go false q false r = subst (P u) (sym (put_other p after_a c gone u q ∙ put_other p tasks a (live done) u r)) (others u q r)

    both_closed : (u : ℕ) → is_closed (ended_both u).standing ≡ is_closed (tasks u).standing
    both_closed = both_each (λ u seat. is_closed seat.standing ≡ is_closed (tasks u).standing)
        (go_closed a (p.ops.resumed (tasks a).local (tasks c).local) (tasks c) first_served) (sym (live_open (tasks a).standing free)) (λ u q r. refl)

    both_served : (b u : ℕ) → is_served_by b (ended_both u).standing ≡ (if u == c then false else is_served_by b (tasks u).standing)
    both_served b = both_each (λ u seat. is_served_by b seat.standing ≡ (if u == c then false else is_served_by b (tasks u).standing))
        (go_unserved b (p.ops.resumed (tasks a).local (tasks c).local) (tasks c) ∙ ap (λ x. if x then false else is_served_by b (tasks c).standing) (sym (equal_self c)))
        (sym (ap (λ x. if x then false else is_served_by b (tasks a).standing) (ne_eqb a c (λ q. eqb-false c a apart_first (sym q))) ∙ live_unserved b (tasks a).standing free))
        (λ u q r. ap (λ x. if x then false else is_served_by b (tasks u).standing) (sym q))

    both_unserved : (b u : ℕ) → is_served_by b (tasks u).standing ≡ false → is_served_by b (ended_both u).standing ≡ false
    both_unserved b u h = both_served b u ∙ go (u == c)
      where
        go : (x : Bool) → (if x then false else is_served_by b (tasks u).standing) ≡ false
        go true = refl
        go false = h

    both_unchanged : (b u : ℕ) → (a == b) ≡ false → is_served_by b (ended_both u).standing ≡ is_served_by b (tasks u).standing
    both_unchanged b u q = both_served b u ∙ go (u == c) refl
      where
        go : (x : Bool) → (u == c) ≡ x → (if x then false else is_served_by b (tasks u).standing) ≡ is_served_by b (tasks u).standing
        go true r = sym (ap (λ v. is_served_by b (tasks v).standing) (eqb-true u c r) ∙ served_one a b (tasks c).standing first_served ∙ q)
        go false r = refl

    both_keeps : (u : ℕ) → (a == u) ≡ false → is_closed (tasks u).standing ≡ false → Keeps p.ops IsProper (tasks u).local (ended_both u).local
    both_keeps = both_each (λ u seat. (a == u) ≡ false → is_closed (tasks u).standing ≡ false → Keeps p.ops IsProper (tasks u).local seat.local)
        (λ q k. go_keeps a (p.ops.resumed (tasks a).local (tasks c).local) (tasks c) first_served k
        (lawful.resumed (tasks a).local (tasks c).local (sound.proper a (live_open (tasks a).standing free)) (sound.proper c k)))
        (λ q. absurd (true≢false (sym (equal_self a) ∙ q)))
        (λ u q r z k. (sound.proper u k, refl))

    both_callers : (b u : ℕ) → is_closed (tasks b).standing ≡ false →
        times u (p.ops.callers (ended_both b).local) ≡ (if is_served_by b (ended_both u).standing then 1 else 0)
    both_callers b u k = go (a == b) refl
      where
        of_a : (x : Bool) → (u == c) ≡ x → times u rest ≡ (if (if x then false else is_served_by a (tasks u).standing) then 1 else 0)
        of_a true q = ap (λ v. times v rest) (eqb-true u c q) ∙ first_once
        of_a false q = sym (zero_more (times u rest)) ∙ ap (λ x. (if x then 1 else 0) + times u rest) (sym (ne_eqb c u (λ r. eqb-false u c q (sym r)))) ∙ count_first u

        at_a : p.ops.callers (ended_both a).local ≡ rest
        at_a = ap (λ (f : ℕ → Seat L). p.ops.callers (f a).local) both_is ∙
            ap (λ x. p.ops.callers x.local) (put_other p (freed (numbered p).store p.ops.finished tasks a) c gone a (ne_eqb a c (λ q. eqb-false c a apart_first (sym q))) ∙
            put_self p tasks a (live done))

        go : (x : Bool) → (a == b) ≡ x → times u (p.ops.callers (ended_both b).local) ≡ (if is_served_by b (ended_both u).standing then 1 else 0)
        go true q = subst (λ v. times u (p.ops.callers (ended_both v).local) ≡ (if is_served_by v (ended_both u).standing then 1 else 0)) (eqb-true a b q)
            (ap (times u) at_a ∙ of_a (u == c) refl ∙ ap (λ z. if z then 1 else 0) (sym (both_served a u)))
        go false q = ap (times u) (both_keeps b q k).1 ∙ sound.callers b u k ∙ ap (λ z. if z then 1 else 0) (sym (both_unchanged b u q))

    sound_both : IsSound p.ops IsProper ended_both
    sound_both = record {
      closed = λ b u k. both_unserved b u (sound.closed b u (sym (both_closed b) ∙ k));
      callers = λ b u k. both_callers b u (sym (both_closed b) ∙ k);
      itself = λ b. both_unserved b b (sound.itself b);
      proper = λ b k. go b (a == b) refl (sym (both_closed b) ∙ k);
    }
      where
        go : (b : ℕ) (x : Bool) → (a == b) ≡ x → is_closed (tasks b).standing ≡ false → IsProper (ended_both b).local
        go b true q k = subst (λ v. IsProper (ended_both v).local) (eqb-true a b q)
            (subst (λ (f : ℕ → Seat L). IsProper (f a).local) (sym both_is)
            (subst (λ x. IsProper x.local) (sym (put_other p (freed (numbered p).store p.ops.finished tasks a) c gone a (ne_eqb a c (λ r. eqb-false c a apart_first (sym r))) ∙
            put_self p tasks a (live done))) proper_after))
        go b false q k = (both_keeps b q k).0

  -- ---- a task is aborted

  released_each : (x : ℕ) (P : Seat L → Type 0) (seat : Seat L) →
      (is_served_by x seat.standing ≡ true → P (let_go (p.ops.raised seat.local) seat)) → (is_served_by x seat.standing ≡ false → P seat) → P (released p.ops x seat)
  released_each x P seat yes' no' = go (is_served_by x seat.standing) refl
    where
      go : (b : Bool) → is_served_by x seat.standing ≡ b → P (if b then let_go (p.ops.raised seat.local) seat else seat)
      go true q = yes' q
      go false q = no' q

  released_closed : (x : ℕ) (seat : Seat L) → is_closed (released p.ops x seat).standing ≡ is_closed seat.standing
  released_closed x seat = released_each x (λ y. is_closed y.standing ≡ is_closed seat.standing) seat
      (λ h. go_closed x (p.ops.raised seat.local) seat h) (λ h. refl)

  released_unserved : (x : ℕ) (seat : Seat L) → is_served_by x (released p.ops x seat).standing ≡ false
  released_unserved x seat = released_each x (λ y. is_served_by x y.standing ≡ false) seat (λ h. go_unserved x (p.ops.raised seat.local) seat) (λ h. h)

  released_unchanged : (x b : ℕ) (seat : Seat L) → (x == b) ≡ false → is_served_by b (released p.ops x seat).standing ≡ is_served_by b seat.standing
  released_unchanged x b seat q = released_each x (λ y. is_served_by b y.standing ≡ is_served_by b seat.standing) seat
      (λ h. go_unserved b (p.ops.raised seat.local) seat ∙ sym (served_one x b seat.standing h ∙ q)) (λ h. refl)

  released_keeps : (x : ℕ) (seat : Seat L) → is_closed seat.standing ≡ false → IsProper seat.local → Keeps p.ops IsProper seat.local (released p.ops x seat).local
  released_keeps x seat k proper = released_each x (λ y. Keeps p.ops IsProper seat.local y.local) seat
      (λ h. go_keeps x (p.ops.raised seat.local) seat h k (lawful.raised seat.local proper)) (λ h. (proper, refl))

  module _ (tasks : ℕ → Seat L) (x : ℕ) (closing : Standing) (sound : IsSound p.ops IsProper tasks)
      (closes : is_closed closing ≡ true) (serves : (a : ℕ) → is_served_by a closing ≡ false) where
    abbrev fell : Seat L
    fell = record { local = (released p.ops x (tasks x)).local; standing = fallen closing (released p.ops x (tasks x)).standing }

    abbrev after_abort : ℕ → Seat L
    after_abort = aborted (numbered p) tasks x closing

    abort_each : (P : ℕ → Seat L → Type 0) → P x fell → ((u : ℕ) → (u == x) ≡ false → P u (released p.ops x (tasks u))) → (u : ℕ) → P u (after_abort u)
    abort_each P at_x others u = go (u == x) refl
      where
        go : (b : Bool) → (u == x) ≡ b → P u (if b then fell else released p.ops x (tasks u))
        go true q = subst (λ v. P v fell) (sym (eqb-true u x q)) at_x
        go false q = others u q

    abort_closes : is_closed (after_abort x).standing ≡ true
    abort_closes = ap (λ b. is_closed (if b then fell else released p.ops x (tasks x)).standing) (equal_self x) ∙ fallen_closed closing (released p.ops x (tasks x)).standing closes

    abort_closed : (u : ℕ) → (u == x) ≡ false → is_closed (after_abort u).standing ≡ is_closed (tasks u).standing
    abort_closed = abort_each (λ u seat. (u == x) ≡ false → is_closed seat.standing ≡ is_closed (tasks u).standing)
        (λ q. absurd (true≢false (sym (equal_self x) ∙ q))) (λ u q r. released_closed x (tasks u))

    abort_unserved : (u : ℕ) → is_served_by x (after_abort u).standing ≡ false
    abort_unserved = abort_each (λ u seat. is_served_by x seat.standing ≡ false)
        (fallen_served_by x closing (released p.ops x (tasks x)).standing (serves x) ∙ released_unserved x (tasks x)) (λ u q. released_unserved x (tasks u))

    abort_unchanged : (b u : ℕ) → (b == x) ≡ false → is_served_by b (after_abort u).standing ≡ is_served_by b (tasks u).standing
    abort_unchanged b u q = abort_each (λ v seat. is_served_by b seat.standing ≡ is_served_by b (tasks v).standing)
        (fallen_served_by b closing (released p.ops x (tasks x)).standing (serves b) ∙ released_unchanged x b (tasks x) (ne_eqb x b (λ r. eqb-false b x q (sym r))))
        (λ v r. released_unchanged x b (tasks v) (ne_eqb x b (λ z. eqb-false b x q (sym z)))) u

    abort_keeps : (u : ℕ) → (u == x) ≡ false → is_closed (tasks u).standing ≡ false → Keeps p.ops IsProper (tasks u).local (after_abort u).local
    abort_keeps = abort_each (λ u seat. (u == x) ≡ false → is_closed (tasks u).standing ≡ false → Keeps p.ops IsProper (tasks u).local seat.local)
        (λ q. absurd (true≢false (sym (equal_self x) ∙ q))) (λ u q r k. released_keeps x (tasks u) k (sound.proper u k))

    -- an acceptor that is not closed is another one than x
    open_other : (b : ℕ) → is_closed (after_abort b).standing ≡ false → (b == x) ≡ false
    open_other b k = ne_eqb b x (λ q. true≢false (sym abort_closes ∙ ap (λ v. is_closed (after_abort v).standing) (sym q) ∙ k))

    sound_aborted : IsSound p.ops IsProper after_abort
    sound_aborted = record {
      closed = λ b u k. closed_at b u (b == x) refl k;
      callers = λ b u k. let q = open_other b k in
          ap (times u) (abort_keeps b q (sym (abort_closed b q) ∙ k)).1 ∙ sound.callers b u (sym (abort_closed b q) ∙ k) ∙
          ap (λ z. if z then 1 else 0) (sym (abort_unchanged b u q));
      itself = λ b. alone b (b == x) refl;
      proper = λ b k. let q = open_other b k in (abort_keeps b q (sym (abort_closed b q) ∙ k)).0;
    }
      where
        closed_at : (b u : ℕ) (d : Bool) → (b == x) ≡ d → is_closed (after_abort b).standing ≡ true → is_served_by b (after_abort u).standing ≡ false
        closed_at b u true q k = subst (λ v. is_served_by v (after_abort u).standing ≡ false) (sym (eqb-true b x q)) (abort_unserved u)
        closed_at b u false q k = abort_unchanged b u q ∙ sound.closed b u (sym (abort_closed b q) ∙ k)

        alone : (b : ℕ) (d : Bool) → (b == x) ≡ d → is_served_by b (after_abort b).standing ≡ false
        alone b true q = subst (λ v. is_served_by v (after_abort b).standing ≡ false) (sym (eqb-true b x q)) (abort_unserved b)
        alone b false q = abort_unchanged b b q ∙ sound.itself b

  sound_went : (tasks : ℕ → Seat L) (t x : ℕ) → IsSound p.ops IsProper tasks → (tasks t).standing ≡ Live → IsSound p.ops IsProper (went_on (numbered p) tasks t x)
  sound_went tasks t x sound free = go (x == t)
    where
      go : (b : Bool) → IsSound p.ops IsProper (if b then tasks else freed (numbered p).store p.ops.passed tasks t)
      go true = sound
      go false = sound_freed p.ops.passed tasks t sound free (lawful.passed (tasks t).local)

  sound_abort : (tasks : ℕ → Seat L) (t x : ℕ) → IsSound p.ops IsProper tasks → (tasks t).standing ≡ Live → IsSound p.ops IsProper (abort_seats (numbered p) tasks t x)
  sound_abort tasks t x sound free = go (is_closed (tasks x).standing)
    where
      closes : (b : Bool) → is_closed (if b then Completed else Killed) ≡ true
      closes true = refl
      closes false = refl

      serves : (a : ℕ) (b : Bool) → is_served_by a (if b then Completed else Killed) ≡ false
      serves a true = refl
      serves a false = refl

      go : (b : Bool) → IsSound p.ops IsProper
          (if b then went_on (numbered p) tasks t x else aborted (numbered p) (went_on (numbered p) tasks t x) x (if x == t then Completed else Killed))
      go true = sound_went tasks t x sound free
      go false = sound_aborted (went_on (numbered p) tasks t x) x (if x == t then Completed else Killed) (sound_went tasks t x sound free)
          (closes (x == t)) (λ a. serves a (x == t))

  pub sound_acted : (tasks : ℕ → Seat L) (e : Event) → IsSound p.ops IsProper tasks → happens p tasks e ≡ true → IsSound p.ops IsProper (acted (numbered p) tasks e)
  sound_acted tasks (R c e i) sound h =
      let called = and_parts (is_live (tasks c).standing) (calls_in is_any_form e i (p.ops.offer (tasks c).local)) (split h).0 in
      let waited = and_parts (is_live (tasks (p.owner e)).standing) (waits_with (opens e i) (p.ops.offer (tasks (p.owner e)).local))
      (and_parts (offers p.ops (calls_in is_any_form e i) (tasks c)) _ h).1 in
      sound_met tasks c e i sound
      (ne_eqb c (p.owner e) (λ q. calls_waits is_any_form (opens e i) e i (p.ops.offer (tasks c).local) called.1
      (subst (λ v. waits_with (opens e i) (p.ops.offer (tasks v).local) ≡ true) (sym q) waited.1)))
      (is-Live (tasks c).standing called.0) (is-Live (tasks (p.owner e)).standing waited.0) waited.1
  sound_acted tasks (E a) sound h =
      let free : (tasks a).standing ≡ Live = is-Live (tasks a).standing (split h).0 in
      let (c, proper, first) = lawful.finished (tasks a).local (sound.proper a (live_open (tasks a).standing free)) (finish_is (p.ops.offer (tasks a).local) (split h).1) in
      sound_both tasks a c sound free proper first
  sound_acted tasks (S a) sound h = sound_freed p.ops.took_else tasks a sound (is-Live (tasks a).standing (split h).0) (lawful.took_else (tasks a).local)
  sound_acted tasks (D a k) sound h = sound_freed (p.ops.took_delay k) tasks a sound (is-Live (tasks a).standing (split h).0) (lawful.took_delay k (tasks a).local)
  sound_acted tasks (C c e i) sound h =
      sound_freed p.ops.took_else tasks c sound (is-Live (tasks c).standing (split (split h).0).0) (lawful.took_else (tasks c).local)
  sound_acted tasks (T c e i) sound h =
      sound_freed (p.ops.took_delay 1) tasks c sound (is-Live (tasks c).standing (split (split h).0).0) (lawful.took_delay 1 (tasks c).local)
  sound_acted tasks (F c e i) sound h = sound_freed p.ops.raised tasks c sound (is-Live (tasks c).standing (split (split h).0).0) (lawful.raised (tasks c).local)
  sound_acted tasks (X a) sound h =
      let k = and_parts (is_live (tasks a).standing) (is_end (p.ops.offer (tasks a).local)) (and_parts (not (a == 0)) _ h).1 in
      let free : (tasks a).standing ≡ Live = is-Live (tasks a).standing k.0 in
      sound_completed tasks a sound free (lawful.ended (tasks a).local (sound.proper a (live_open (tasks a).standing free)) (end_is (p.ops.offer (tasks a).local) k.1))
  sound_acted tasks (B t x) sound h = sound_abort tasks t x sound (is-Live (tasks t).standing (split h).0)
  sound_acted tasks Z sound h = sound

  -- Each move keeps the callers those that are served.
  pub sound_moved : (w : World L) (move : Move) → IsSound p.ops IsProper w.tasks → can_move p w move ≡ true → IsSound p.ops IsProper (moved p w move).tasks
  sound_moved w (Step t) sound h =
      let k = and_parts (is_live (w.tasks t).standing) (p.ops.can_step (w.tasks t).local) (and_parts (not w.ended) _ h).1 in
      sound_freed p.ops.stepped w.tasks t sound (is-Live (w.tasks t).standing k.0) (λ proper. lawful.stepped (w.tasks t).local proper k.1)
  sound_moved w (Happen e) sound h = sound_acted w.tasks e sound (and_parts (not w.ended) _ h).1
