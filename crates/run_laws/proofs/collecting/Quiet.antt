-- Where nothing goes on in the copy, its original rests: the recorder waits, no task has anything to tell, and whom a task serves here it serves there.
use Rattle.std.proofs.Common.{◌≡◌, ℕ, ◌<◌, Bool, true, false, not, if◌then◌else◌, List, refl, sym, ap, ◌∙◌, subst, true≢false, arith}
use Rattle.std.specs.Prelude.{ℤ, pos}
use Rattle.std.proofs.lemmas.Bool.{or_left, ne_eqb}
use Rattle.event_machine.specs.declared.Standing.TheVariants.{Live}
use Rattle.event_machine.specs.declared.Event.{Event}
use Rattle.event_machine.specs.declared.Event.TheVariants.{R, E, X}
use Rattle.event_machine.specs.Offers.{Offer, Nothing, Calls, Finishes, calls_in, is_any_form, waits_with, is_finish, is_end, opens}
use Rattle.event_machine.specs.States.{Seat, live, is_live, is_closed, is_served_by}
use Rattle.event_machine.specs.Programs.{Program}
use Rattle.event_machine.specs.Soundness.{IsSound, times}
use Rattle.event_machine.specs.Worlds.{World, Step, can_move, happens}
use Rattle.event_machine.proofs.Basics.{both, same_member-refl}
use Rattle.event_machine.proofs.Extending.{served_caller}
use Rattle.run_laws.specs.imitation.Imitations.{Original}
use Rattle.run_laws.proofs.replaying.Facts.{offers_at}
use Rattle.run_laws.specs.collecting.Notes.{Book}
use Rattle.run_laws.specs.collecting.Copies.{Copy, Opening, Recording, Writing, Noted, telling, copy_steps, copy_offer, copy_callers}
use Rattle.run_laws.specs.collecting.Settings.{Setting, recorder, twin, IsProperCopy}
use Rattle.run_laws.specs.collecting.inner.Beside.{book_of, Hears, OwnAt, OwnBased, OwnCalling, OwnOwing, OwnEnding, OwnLeaving, SeatAt, Free, Telling, Shared, Apart, Gone, RecorderAt, Inv}
use Rattle.run_laws.proofs.collecting.Reaching.{reached_come}
use Rattle.common_lemmas.proofs.Numbers.{equal_self}

-- Nothing goes on: no task has a local step, no rendezvous starts or ends, and no task other than the main program is at its end.
pub record IsCalm {L : Type 0} (p : Program L) (w : World L) : Type 0 where
  pub step : (t : ℕ) → can_move p w (Step t) ≡ true → ⊥
  pub start : (c e : ℕ) (i : ℤ) → happens p w.tasks (R c e i) ≡ true → ⊥
  pub finish : (a : ℕ) → happens p w.tasks (E a) ≡ true → ⊥
  pub exit : (a : ℕ) → happens p w.tasks (X a) ≡ true → ⊥

module _ {o : Original} (x : Setting o) (past : List Event) (r : Copy o.L) (d : World o.L) (w : World (Copy o.L)) (inv : Inv x past r d w) (runs : w.ended ≡ false)
    (sound : IsSound (twin x).ops (IsProperCopy o) w.tasks) (calm : IsCalm (twin x) w) where
  -- ---- the recorder waits

  no_step : (t : ℕ) (k : Copy o.L) → w.tasks t ≡ live k → copy_steps o.p k ≡ true → ⊥
  no_step t k at can = calm.step t (both (ap not runs) (both (ap (λ (y : Seat (Copy o.L)). is_live y.standing) at) (ap (λ (y : Seat (Copy o.L)). copy_steps o.p y.local) at ∙ can)))

  no_finish : (t : ℕ) (k : Copy o.L) → w.tasks t ≡ live k → copy_offer o.p x.note k ≡ Finishes → ⊥
  no_finish t k at q = calm.finish t (offers_at (twin x).ops is_finish (w.tasks t) k at (ap is_finish q))

  waits : (b : Book) × (r ≡ Recording b)
  waits = go r inv.records inv.at
    where
      go : (k : Copy o.L) → RecorderAt x past w.tasks k → w.tasks (recorder x) ≡ live k → (b : Book) × (k ≡ Recording b)
      go Opening h at = absurd (no_step (recorder x) Opening at refl)
      go (Recording b) h at = (b, refl)
      go (Writing c b note done left) h at = absurd (no_step (recorder x) (Writing c b note done left) at refl)
      go (Noted c answer b) h at = absurd (no_finish (recorder x) (Noted c answer b) at refl)
      go k h at = absurd h

  hears_nobody : (t : ℕ) (k : Copy o.L) → Hears x r t k → ⊥
  hears_nobody t k h = subst (λ s. Hears x s t k) waits.1 h

  -- nobody has anything to tell
  no_telling : (t : ℕ) (k : Copy o.L) → w.tasks t ≡ live k → copy_offer o.p x.note k ≡ telling x.note → ⊥
  no_telling t k at tells = calm.start t x.note (pos 0) (both
      (offers_at (twin x).ops (calls_in is_any_form x.note (pos 0)) (w.tasks t) k at (ap (calls_in is_any_form x.note (pos 0)) tells ∙ same_member-refl x.note (pos 0)))
      (offers_at (twin x).ops (waits_with (opens x.note (pos 0))) (w.tasks (x.owner x.note)) (Recording waits.0) (ap w.tasks x.noted ∙ inv.at ∙ ap live waits.1)
      (or_left _ _ (same_member-refl x.note (pos 0)))))

  -- ---- who acts

  -- a free task is at the original's state, and has told all
  free_told : (t : ℕ) (k : Copy o.L) → w.tasks t ≡ live k → OwnAt x (book_of r) w.tasks d.tasks t k →
      (l : o.L) × (d.tasks t ≡ live l) × (copy_callers o.p k ≡ o.p.ops.callers l) × (o.p.ops.can_step l ≡ false)
  free_told t k at (OwnBased l q here) = (l, here, ap (copy_callers o.p) q, rests (o.p.ops.can_step l) refl)
    where
      rests : (b : Bool) → o.p.ops.can_step l ≡ b → o.p.ops.can_step l ≡ false
      rests true h = absurd (no_step t k at (ap (copy_steps o.p) q ∙ h))
      rests false h = h
  free_told t k at (OwnCalling l form e i q offer here met) = (l, here, ap (copy_callers o.p) q, rests (o.p.ops.can_step l) refl)
    where
      rests : (b : Bool) → o.p.ops.can_step l ≡ b → o.p.ops.can_step l ≡ false
      rests true h = absurd (let p : ◌≡◌ {A = Offer} Nothing (Calls form e i) = sym (o.lawful.rests l h) ∙ offer in cc)
      rests false h = h
  free_told t k at (OwnOwing l due q here h) = absurd (no_telling t k at (ap (copy_offer o.p x.note) q))
  free_told t k at (OwnEnding l v c outer q offer has here h together) = absurd (no_finish t k at (ap (copy_offer o.p x.note) q))
  free_told t k at (OwnLeaving l q offer other here) =
      absurd (calm.exit t (both (ap not (ne_eqb t 0 other)) (offers_at (twin x).ops is_end (w.tasks t) k at (ap (λ j. is_end (copy_offer o.p x.note j)) q))))

  below_sound : IsSound o.p.ops o.IsProper d.tasks
  below_sound = (reached_come o past d inv.reached).sound

  -- nobody is served here alone: its acceptor has the same callers in both
  not_apart : (a t : ℕ) → a < o.p.size → is_served_by a (w.tasks t).standing ≡ true → (d.tasks t).standing ≡ Live → ⊥
  not_apart a t l served free = go (inv.seats a l)
    where
      parts : (is_closed (w.tasks a).standing ≡ false) × (times t (copy_callers o.p (w.tasks a).local) ≡ 1)
      parts = served_caller sound a t served

      alike : is_closed (d.tasks a).standing ≡ false → copy_callers o.p (w.tasks a).local ≡ o.p.ops.callers (d.tasks a).local → ⊥
      alike open' same =
          let none : times t (o.p.ops.callers (d.tasks a).local) ≡ 0 = below_sound.callers a t open' ∙ ap (λ z. if is_served_by a z then 1 else 0) free in
          let one : times t (o.p.ops.callers (d.tasks a).local) ≡ 1 = ap (times t) (sym same) ∙ parts.1 in
          omega (arith, none, one)

      go : SeatAt x (book_of r) w.tasks d.tasks r a → ⊥
      go (Free k at own) =
          let (m, here, same, rests) = free_told a k at own in
          alike (ap (λ (y : Seat o.L). is_closed y.standing) here) (ap (λ (y : Seat (Copy o.L)). copy_callers o.p y.local) at ∙ same ∙ ap (λ (y : Seat o.L). o.p.ops.callers y.local) (sym here))
      go (Telling k at hears own was) = hears_nobody a k hears
      go (Shared b v m at here met) = alike (ap (λ (y : Seat o.L). is_closed y.standing) here)
          (ap (λ (y : Seat (Copy o.L)). copy_callers o.p y.local) at ∙ ap (λ (y : Seat o.L). o.p.ops.callers y.local) (sym here))
      go (Apart b v m at lives outs same) = alike (ap is_closed lives) (ap (λ (y : Seat (Copy o.L)). copy_callers o.p y.local) at ∙ sym same)
      go (Gone v at here) = true≢false (ap (λ (y : Seat (Copy o.L)). is_closed y.standing) (sym at) ∙ parts.0)

  -- The original rests.
  pub original_rests : (t : ℕ) → t < o.p.size → (d.tasks t).standing ≡ Live → o.p.ops.can_step (d.tasks t).local ≡ false
  original_rests t l free = go (inv.seats t l)
    where
      go : SeatAt x (book_of r) w.tasks d.tasks r t → o.p.ops.can_step (d.tasks t).local ≡ false
      go (Free k at own) = let (m, here, same, rests) = free_told t k at own in ap (λ (y : Seat o.L). o.p.ops.can_step y.local) here ∙ rests
      go (Telling k at hears own was) = absurd (hears_nobody t k hears)
      go (Shared a v m at here met) = absurd (true≢false (ap is_live (sym free ∙ ap (λ (y : Seat o.L). y.standing) here)))
      go (Apart a v m at lives outs same) = absurd (not_apart a t m (ap (λ (y : Seat (Copy o.L)). is_served_by a y.standing) at ∙ equal_self a) free)
      go (Gone v at here) = absurd (true≢false (ap is_live (sym free ∙ ap (λ (y : Seat o.L). y.standing) here)))
