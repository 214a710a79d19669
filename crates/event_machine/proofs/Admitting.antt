-- An event whose conditions hold is one that the standings of the tasks admit.
use Rattle.std.proofs.Common.{◌≡◌, ℕ, zero, suc, pred, ◌<◌, ◌≤◌, Bool, true, false, not, ◌||◌, ◌==◌, if◌then◌else◌, [], refl, sym, ap, ◌∙◌, subst, ⊎_elim, true≢false, arith}
use Rattle.std.proofs.lemmas.Bool.{and_parts, or_cases, cases_lt}
use Rattle.event_machine.specs.declared.Standing.{Standing}
use Rattle.event_machine.specs.declared.Standing.TheVariants.{Live, Waiting, Queued, Served, Completed, Killed}
use Rattle.event_machine.specs.declared.Event.{Event}
use Rattle.event_machine.specs.declared.Event.TheVariants.{R, E, S, D, C, T, F, X, B, Z}
use Rattle.event_machine.specs.Offers.{calls_in, is_any_form, waits_with, opens, is_end, is_terminate}
use Rattle.event_machine.specs.States.{Seat, is_live, is_closed, is_completed, is_served, is_served_by}
use Rattle.event_machine.specs.Lawful.{IsLawful}
use Rattle.event_machine.specs.Programs.{Program}
use Rattle.event_machine.specs.Worlds.{happens, offers, others_end}
use Rattle.event_machine.specs.Soundness.{IsSound, times}
use Rattle.event_machine.specs.Admitting.{IsAdmitted}
use Rattle.event_machine.proofs.Basics.{split}
use Rattle.event_machine.proofs.Standings.{is-Live}
use Rattle.event_machine.proofs.Offering.{finish_is, end_is, calls_waits}
use Rattle.event_machine.proofs.Sound.{first_served}
use Rattle.common_lemmas.proofs.Truth.{not_true}

-- a live or completed task is no caller
free_or_over : (z : Standing) → (is_completed z || is_live z) ≡ true → is_served z ≡ false
free_or_over Live h = refl
free_or_over Waiting h = refl
free_or_over Queued h = refl
free_or_over (Served by abnormal) h = absurd (true≢false (sym h))
free_or_over Completed h = refl
free_or_over Killed h = refl

module _ {L : Type 0} (p : Program L) (IsProper : L → Type 0) (lawful : IsLawful p.ops IsProper) where
  -- who can end is no caller
  others_unserved : (tasks : ℕ → Seat L) (n t : ℕ) → others_end p.ops tasks n ≡ true → suc t ≤ n → is_served (tasks (suc t)).standing ≡ false
  others_unserved tasks zero t h l = absurd (omega arith)
  others_unserved tasks (suc n) t h l = ⊎_elim
      (λ (q : t < n). others_unserved tasks n t (split h).0 q)
      (λ (q : n ≤ t). let e : n ≡ t = omega arith in subst (λ v. is_served (tasks (suc v)).standing ≡ false) e
      (free_or_over (tasks (suc n)).standing (⊎_elim
      (λ c. ap (λ b. b || is_live (tasks (suc n)).standing) c)
      (λ o. over_live (is_completed (tasks (suc n)).standing) (is_live (tasks (suc n)).standing) (split o).0)
      (or_cases (is_completed (tasks (suc n)).standing) (offers p.ops (waits_with is_terminate) (tasks (suc n))) (split h).1))))
      (cases_lt t n)
    where
      over_live : (a b : Bool) → b ≡ true → (a || b) ≡ true
      over_live true b e = refl
      over_live false b e = e

  pub admitted : (e : Event) (tasks : ℕ → Seat L) → IsSound p.ops IsProper tasks → ((t : ℕ) → p.size ≤ t → is_completed (tasks t).standing ≡ true) →
      happens p tasks e ≡ true → IsAdmitted p.owner tasks e
  admitted (R c e i) tasks sound beyond h =
      let called = and_parts (is_live (tasks c).standing) (calls_in is_any_form e i (p.ops.offer (tasks c).local)) (split h).0 in
      let waited = and_parts (is_live (tasks (p.owner e)).standing) (waits_with (opens e i) (p.ops.offer (tasks (p.owner e)).local))
      (and_parts (offers p.ops (calls_in is_any_form e i) (tasks c)) _ h).1 in (
        is-Live (tasks c).standing called.0,
        is-Live (tasks (p.owner e)).standing waited.0,
        λ q. calls_waits is_any_form (opens e i) e i (p.ops.offer (tasks c).local) called.1
            (subst (λ v. waits_with (opens e i) (p.ops.offer (tasks v).local) ≡ true) (sym q) waited.1),
      )
  admitted (E a) tasks sound beyond h =
      let free : (tasks a).standing ≡ Live = is-Live (tasks a).standing (split h).0 in
      let (c, proper, first) = lawful.finished (tasks a).local (sound.proper a (ap is_closed free)) (finish_is (p.ops.offer (tasks a).local) (split h).1) in
      (free, (c, first_served p IsProper lawful tasks a c sound free proper first))
  admitted (S a) tasks sound beyond h = is-Live (tasks a).standing (split h).0
  admitted (D a k) tasks sound beyond h = is-Live (tasks a).standing (split h).0
  admitted (C c e i) tasks sound beyond h =
      (is-Live (tasks c).standing (and_parts (is_live (tasks c).standing) _ (split h).0).0, not_true (is_closed (tasks (p.owner e)).standing) (split h).1)
  admitted (T c e i) tasks sound beyond h =
      (is-Live (tasks c).standing (and_parts (is_live (tasks c).standing) _ (split h).0).0, not_true (is_closed (tasks (p.owner e)).standing) (split h).1)
  admitted (F c e i) tasks sound beyond h =
      (is-Live (tasks c).standing (and_parts (is_live (tasks c).standing) _ (split h).0).0, (split h).1)
  admitted (X a) tasks sound beyond h =
      let k = and_parts (is_live (tasks a).standing) (is_end (p.ops.offer (tasks a).local)) (and_parts (not (a == 0)) _ h).1 in
      let free : (tasks a).standing ≡ Live = is-Live (tasks a).standing k.0 in
      let none : p.ops.callers (tasks a).local ≡ [] = lawful.ended (tasks a).local (sound.proper a (ap is_closed free)) (end_is (p.ops.offer (tasks a).local) k.1) in
      (free, λ c. go (is_served_by a (tasks c).standing) (sym (ap (times c) none) ∙ sound.callers a c (ap is_closed free)))
    where
      go : (b : Bool) → ◌≡◌ {A = ℕ} 0 (if b then 1 else 0) → b ≡ false
      go true q = absurd (omega arith)
      go false q = refl
  admitted (B t x) tasks sound beyond h = is-Live (tasks t).standing (split h).0
  admitted Z tasks sound beyond h = unserved
    where
      main : (tasks 0).standing ≡ Live
      main = is-Live (tasks 0).standing (and_parts (is_live (tasks 0).standing) _ (split h).0).0

      unserved : (t : ℕ) → is_served (tasks t).standing ≡ false
      unserved zero = ap is_served main
      unserved (suc t) = ⊎_elim
          (λ (l : suc t < p.size). others_unserved tasks (pred p.size) t (and_parts (offers p.ops is_end (tasks 0)) _ h).1 (omega arith))
          (λ (l : p.size ≤ suc t). free_or_over (tasks (suc t)).standing (ap (λ b. b || is_live (tasks (suc t)).standing) (beyond (suc t) l)))
          (cases_lt (suc t) p.size)
