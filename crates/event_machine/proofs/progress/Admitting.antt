-- What is known admits the events whose conditions hold, and no event that the standings of the tasks do not admit.
use Rattle.std.proofs.Common.{◌≡◌, ℕ, suc, ◌+◌, ◌≤◌, Bool, true, false, not, ◌&&◌, ◌==◌, if◌then◌else◌, List, [], ◌∷◌, is_some, refl, sym, ap, ◌∙◌, true≢false, arith}
use Rattle.std.specs.List.{list_all}
use Rattle.std.proofs.lemmas.Bool.{and_parts, ne_eqb, eqb-false}
use Rattle.event_machine.specs.declared.Standing.{Standing}
use Rattle.event_machine.specs.declared.Standing.TheVariants.{Live, Waiting, Queued, Served, Completed, Killed}
use Rattle.event_machine.specs.declared.Event.{Event}
use Rattle.event_machine.specs.declared.Event.TheVariants.{R, E, S, D, C, T, F, X, B, Z}
use Rattle.event_machine.specs.Offers.{is_finish, is_end}
use Rattle.event_machine.specs.States.{Seat, is_live, is_closed, is_completed, is_served, is_served_by}
use Rattle.event_machine.specs.Lawful.{IsLawful}
use Rattle.event_machine.specs.Programs.{Program}
use Rattle.event_machine.specs.Worlds.{happens, offers, still}
use Rattle.event_machine.specs.Admitting.{IsAdmitted}
use Rattle.event_machine.specs.Soundness.{IsSound, times}
use Rattle.event_machine.proofs.Basics.{both}
use Rattle.event_machine.proofs.Offering.{finish_is, end_is}
use Rattle.event_machine.proofs.Admitting.{admitted}
use Rattle.event_machine.proofs.Extending.{caller_served}
use Rattle.event_machine.specs.progress.Known.{Party, Known, party, is_free, is_closed as known_closed, has_callers, suits}
use Rattle.event_machine.specs.progress.Laws.{server_of}
use Rattle.event_machine.proofs.progress.Parties.{all_at, all_of}
use Rattle.event_machine.proofs.progress.Telling.{Tells}
use Rattle.common_lemmas.proofs.Numbers.{equal_self}
use Rattle.common_lemmas.proofs.Truth.{not_true}

-- it is known whether a task is served
served_known : (z : Standing) → is_some (server_of z) ≡ is_served z
served_known Live = refl
served_known Waiting = refl
served_known Queued = refl
served_known (Served by abnormal) = refl
served_known Completed = refl
served_known Killed = refl

-- a free task that neither waits nor is queued is live
free_live : (z : Standing) → still z ≡ z → (not (is_closed z) && not (is_some (server_of z))) ≡ true → z ≡ Live
free_live Live s h = refl
free_live Waiting s h = sym s
free_live Queued s h = sym s
free_live (Served by true) s h = absurd (true≢false (sym h))
free_live (Served by false) s h = absurd (true≢false (sym h))
free_live Completed s h = absurd (true≢false (sym h))
free_live Killed s h = absurd (true≢false (sym h))

module _ {L : Type 0} (p : Program L) (IsProper : L → Type 0) (lawful : IsLawful p.ops IsProper) (k : Known) (tasks : ℕ → Seat L)
    (sound : IsSound p.ops IsProper tasks) (tells : Tells p.ops k tasks) where
  closed_is : (t : ℕ) → known_closed k t ≡ is_closed (tasks t).standing
  closed_is t = ap (λ (y : Party). y.closed) (tells t)

  free_is : (t : ℕ) → (tasks t).standing ≡ Live → is_free k t ≡ true
  free_is t h = ap (λ (y : Party). not y.closed && not (is_some y.server)) (tells t) ∙ ap (λ z. not (is_closed z) && not (is_some (server_of z))) h

  callers_are : (t : ℕ) → (tasks t).standing ≡ Live → (party k t).callers ≡ p.ops.callers (tasks t).local
  callers_are t h = ap (λ (y : Party). y.callers) (tells t) ∙ ap (λ z. if is_closed z then [] else p.ops.callers (tasks t).local) h

  none_served : ((t : ℕ) → is_served (tasks t).standing ≡ false) → list_all (λ y. not (is_some y.server)) k.parties ≡ true
  none_served h = all_at (λ y. not (is_some y.server)) k.parties
      (λ t. ap (λ (y : Party). not (is_some y.server)) (tells t) ∙ ap not (served_known (tasks t).standing ∙ h t))

  -- An event whose conditions hold.
  pub happens_suits : (completed : (t : ℕ) → p.size ≤ t → is_completed (tasks t).standing ≡ true) (e : Event) → happens p tasks e ≡ true → suits p.owner k e ≡ true
  happens_suits completed e h = go e h (admitted p IsProper lawful e tasks sound completed h)
    where
      go : (e : Event) → happens p tasks e ≡ true → IsAdmitted p.owner tasks e → suits p.owner k e ≡ true
      go (R c e i) h a = both (free_is c a.0) (both (free_is (p.owner e) a.1) (ap not (ne_eqb c (p.owner e) a.2)))
      go (E a) h (free, more) = both (free_is a free) (ap has_callers (callers_are a free ∙ ends.2))
        where
          ends : (c : ℕ) × IsProper (p.ops.finished (tasks a).local) × (p.ops.callers (tasks a).local ≡ c ∷ p.ops.callers (p.ops.finished (tasks a).local))
          ends = lawful.finished (tasks a).local (sound.proper a (ap is_closed free)) (finish_is (p.ops.offer (tasks a).local) (and_parts (is_live (tasks a).standing) (is_finish (p.ops.offer (tasks a).local)) h).1)
      go (S a) h free = free_is a free
      go (D a n) h free = free_is a free
      go (C c e i) h a = both (free_is c a.0) (ap not (closed_is (p.owner e) ∙ a.1))
      go (T c e i) h a = both (free_is c a.0) (ap not (closed_is (p.owner e) ∙ a.1))
      go (F c e i) h a = both (free_is c a.0) (closed_is (p.owner e) ∙ a.1)
      go (X a) h (free, none) = both (free_is a free) (ap (λ cs. not (has_callers cs)) (callers_are a free ∙
          lawful.ended (tasks a).local (sound.proper a (ap is_closed free)) (end_is (p.ops.offer (tasks a).local)
          (and_parts (is_live (tasks a).standing) (is_end (p.ops.offer (tasks a).local)) (and_parts (not (a == 0)) (offers p.ops is_end (tasks a)) h).1).1)))
      go (B t x) h free = free_is t free
      go Z h none = none_served none

  -- ---- what is admitted

  module _ (stills : (t : ℕ) → still (tasks t).standing ≡ (tasks t).standing) where
    is_live_there : (t : ℕ) → is_free k t ≡ true → (tasks t).standing ≡ Live
    is_live_there t h = free_live (tasks t).standing (stills t) (sym (ap (λ (y : Party). not y.closed && not (is_some y.server)) (tells t)) ∙ h)

    has_caller : (a : ℕ) → (tasks a).standing ≡ Live → has_callers (party k a).callers ≡ true → (c : ℕ) × (is_served_by a (tasks c).standing ≡ true)
    has_caller a free h = go (p.ops.callers (tasks a).local) refl (ap has_callers (sym (callers_are a free)) ∙ h)
      where
        one_more : (n : ℕ) → 1 + n ≡ suc n
        one_more n = omega arith

        go : (callers : List ℕ) → p.ops.callers (tasks a).local ≡ callers → has_callers callers ≡ true → (c : ℕ) × (is_served_by a (tasks c).standing ≡ true)
        go [] q h = absurd (true≢false (sym h))
        go (c ∷ callers) q h = (
          c,
          (caller_served sound a c (times c callers) (ap is_closed free)
              (ap (times c) q ∙ ap (λ b. (if b then 1 else 0) + times c callers) (equal_self c) ∙ one_more (times c callers))).0,
        )

    no_caller : (a : ℕ) → (tasks a).standing ≡ Live → has_callers (party k a).callers ≡ false → (c : ℕ) → is_served_by a (tasks c).standing ≡ false
    no_caller a free h c = go (p.ops.callers (tasks a).local) refl (ap has_callers (sym (callers_are a free)) ∙ h)
      where
        none : (b : Bool) → ◌≡◌ {A = ℕ} 0 (if b then 1 else 0) → b ≡ false
        none true r = absurd (omega (arith, r))
        none false r = refl

        go : (callers : List ℕ) → p.ops.callers (tasks a).local ≡ callers → has_callers callers ≡ false → is_served_by a (tasks c).standing ≡ false
        go [] q h = none (is_served_by a (tasks c).standing) (sym (ap (times c) q) ∙ sound.callers a c (ap is_closed free))
        go (d ∷ callers) q h = absurd (true≢false h)

    -- An event that suits is one that the standings of the tasks admit.
    pub suits_admitted : (e : Event) → suits p.owner k e ≡ true → IsAdmitted p.owner tasks e
    suits_admitted (R c e i) h =
        let more = and_parts (is_free k c) (is_free k (p.owner e) && not (c == p.owner e)) h in
        let last = and_parts (is_free k (p.owner e)) (not (c == p.owner e)) more.1 in
        (is_live_there c more.0, is_live_there (p.owner e) last.0, eqb-false c (p.owner e) (not_true (c == p.owner e) last.1))
    suits_admitted (E a) h = let more = and_parts (is_free k a) (has_callers (party k a).callers) h in (is_live_there a more.0, has_caller a (is_live_there a more.0) more.1)
    suits_admitted (S a) h = is_live_there a h
    suits_admitted (D a n) h = is_live_there a h
    suits_admitted (C c e i) h = let more = and_parts (is_free k c) (not (known_closed k (p.owner e))) h in
        (is_live_there c more.0, sym (closed_is (p.owner e)) ∙ not_true (known_closed k (p.owner e)) more.1)
    suits_admitted (T c e i) h = let more = and_parts (is_free k c) (not (known_closed k (p.owner e))) h in
        (is_live_there c more.0, sym (closed_is (p.owner e)) ∙ not_true (known_closed k (p.owner e)) more.1)
    suits_admitted (F c e i) h = let more = and_parts (is_free k c) (known_closed k (p.owner e)) h in (is_live_there c more.0, sym (closed_is (p.owner e)) ∙ more.1)
    suits_admitted (X a) h = let more = and_parts (is_free k a) (not (has_callers (party k a).callers)) h in
        (is_live_there a more.0, no_caller a (is_live_there a more.0) (not_true (has_callers (party k a).callers) more.1))
    suits_admitted (B t x) h = is_live_there t h
    suits_admitted Z h = λ t. sym (served_known (tasks t).standing) ∙ sym (ap (λ (y : Party). is_some y.server) (tells t)) ∙
        not_true (is_some (party k t).server) (all_of (λ y. not (is_some y.server)) k.parties refl h t)
