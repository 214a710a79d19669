-- Where nothing goes on in the copy, its original rests: the recorder waits, and no task has anything to tell.
use Rattle.std.proofs.Common.{◌≡◌, ℕ, ◌<◌, Bool, true, false, not, List, refl, sym, ap, ap₂, ◌∙◌, subst, true≢false}
use Rattle.std.specs.Prelude.{ℤ, pos, is_some}
use Rattle.std.proofs.lemmas.Bool.{and_parts, or_left, ne_eqb}
use Rattle.event_machine.specs.declared.Standing.{Standing}
use Rattle.event_machine.specs.declared.Standing.TheVariants.{Live, Waiting, Queued, Served, Completed, Killed}
use Rattle.event_machine.specs.declared.Action.{Action}
use Rattle.event_machine.specs.declared.Action.TheVariants.{Abort}
use Rattle.event_machine.specs.declared.Event.{Event}
use Rattle.event_machine.specs.declared.Event.TheVariants.{B}
use Rattle.event_machine.specs.Offers.{Offer, Nothing, Calls, Finishes, Aborts, calls_in, is_any_form, waits_with, is_finish, is_end, opens, aborted_by}
use Rattle.event_machine.specs.States.{Seat, State, live, is_live, is_closed}
use Rattle.event_machine.specs.Applying.{can}
use Rattle.event_machine.specs.Programs.{Program, numbered}
use Rattle.event_machine.specs.Queues.{suits, IsSuited}
use Rattle.event_machine.specs.Worlds.{World, still, world_of, happens, aborts}
use Rattle.event_machine.proofs.Basics.{both, same_member-refl}
use Rattle.event_machine.proofs.Offering.{aborts_is}
use Rattle.run_laws.specs.imitation.Imitations.{Original}
use Rattle.run_laws.proofs.replaying.Facts.{offers_at}
use Rattle.run_laws.proofs.collecting.Quiet.{IsCalm}
use Rattle.run_laws.specs.collecting.Copies.{telling}
use Rattle.event_machine.specs.declared.CallForm.{CallForm}
use Rattle.run_laws.specs.aborts.Notes.{Book}
use Rattle.run_laws.specs.aborts.Copies.{Copy, Opening, Recording, Writing, Striking, Noted, copy_steps, copy_offer}
use Rattle.run_laws.specs.aborts.Settings.{Setting, recorder, twin}
use Rattle.run_laws.specs.aborts.inner.Beside.{book_of, Hears, OwnAt, OwnBased, OwnCalling, OwnOwing, OwnServed, OwnReturned, OwnLost, OwnOver, OwnRefusing, OwnLeaving, SeatAt, Free, Telling, Shared, Apart, Gone, RecorderAt, Inv}
use Rattle.common_lemmas.proofs.Numbers.{equal_self}

-- Nobody aborts.
abbrev pub NoAborts : {L : Type 0} → Program L → World L → Type 0
NoAborts p w = (t v : ℕ) → happens p w.tasks (B t v) ≡ true → ⊥

-- where no action of the table applies nobody aborts
pub no_aborts : {L : Type 0} (p : Program L) (s : State (ℕ → Seat L)) → IsSuited p.ops s.seats → s.ended ≡ false → ((action : Action) → can (numbered p) s action ≡ true → ⊥) → NoAborts p (world_of s)
no_aborts p s suited runs stuck t v h =
    let k = and_parts (is_live (still (s.seats t).standing)) (aborts v (p.ops.offer (s.seats t).local)) h in
    let q : p.ops.offer (s.seats t).local ≡ Aborts v = aborts_is v (p.ops.offer (s.seats t).local) k.1 in
    stuck (Abort t) (both (ap not runs) (both (ap is_live (lives q (s.seats t).standing refl k.0)) (ap (λ o. is_some (aborted_by o)) q)))
  where
    fits : (z : Standing) → (s.seats t).standing ≡ z → p.ops.offer (s.seats t).local ≡ Aborts v → suits z (Aborts v) ≡ true
    fits z e q = ap₂ suits (sym e) (sym q) ∙ suited t

    lives : p.ops.offer (s.seats t).local ≡ Aborts v → (z : Standing) → (s.seats t).standing ≡ z → is_live (still z) ≡ true → z ≡ Live
    lives q Live e f = refl
    lives q Waiting e f = absurd (true≢false (sym (fits Waiting e q)))
    lives q Queued e f = absurd (true≢false (sym (fits Queued e q)))
    lives q (Served by abnormal) e f = absurd (true≢false (sym f))
    lives q Completed e f = absurd (true≢false (sym f))
    lives q Killed e f = absurd (true≢false (sym f))

module _ {o : Original} (x : Setting o) (past : List Event) (r : Copy o.L) (d : World o.L) (w : World (Copy o.L)) (inv : Inv x past r d w) (runs : w.ended ≡ false)
    (calm : IsCalm (twin x) w) (no_abort : NoAborts (twin x) w) where
  -- ---- the recorder waits

  no_step : (t : ℕ) (k : Copy o.L) → w.tasks t ≡ live k → copy_steps o.p k ≡ true → ⊥
  no_step t k at can = calm.step t (both (ap not runs) (both (ap (λ (y : Seat (Copy o.L)). is_live y.standing) at) (ap (λ (y : Seat (Copy o.L)). copy_steps o.p y.local) at ∙ can)))

  no_finish : (t : ℕ) (k : Copy o.L) → w.tasks t ≡ live k → copy_offer o.p x.note k ≡ Finishes → ⊥
  no_finish t k at q = calm.finish t (offers_at (twin x).ops is_finish (w.tasks t) k at (ap is_finish q))

  pub waits : (b : Book) × (r ≡ Recording b)
  waits = go r inv.records inv.at
    where
      go : (k : Copy o.L) → RecorderAt x past w.tasks k → w.tasks (recorder x) ≡ live k → (b : Book) × (k ≡ Recording b)
      go Opening h at = absurd (no_step (recorder x) Opening at refl)
      go (Recording b) h at = (b, refl)
      go (Writing c b note done left) h at = absurd (no_step (recorder x) (Writing c b note done left) at refl)
      go (Striking c b t v) h at = absurd (no_abort (recorder x) v (offers_at (twin x).ops (aborts v) (w.tasks (recorder x)) (Striking c b t v) at (equal_self v)))
      go (Noted c answer b) h at = absurd (no_finish (recorder x) (Noted c answer b) at refl)
      go k h at = absurd h

  hears_nobody : (t : ℕ) (k : Copy o.L) → Hears x r t k → ⊥
  hears_nobody t k h = subst (λ s. Hears x s t k) waits.1 h

  -- nobody has anything to tell
  no_telling : (t : ℕ) (k : Copy o.L) → w.tasks t ≡ live k → copy_offer o.p x.note k ≡ telling x.note → ⊥
  no_telling t k at tells = calm.start t x.note (pos 0) (both
      (offers_at (twin x).ops (calls_in is_any_form x.note (pos 0)) (w.tasks t) k at (ap (calls_in is_any_form x.note (pos 0)) tells ∙ same_member-refl x.note (pos 0)))
      (offers_at (twin x).ops (waits_with (opens x.note (pos 0))) (w.tasks (x.owner x.note)) (Recording waits.0) (ap w.tasks x.noted ∙ inv.at ∙ ap live waits.1)
      (or_left _ _ (same_member-refl x.note (pos 0)))))

  -- ---- who acts

  -- a task at a call has no step
  call_rests : (l : o.L) (form : CallForm) (e : ℕ) (i : ℤ) → o.p.ops.offer l ≡ Calls form e i → (f : Bool) → o.p.ops.can_step l ≡ f → o.p.ops.can_step l ≡ false
  call_rests l form e i offer true h = absurd (let p : ◌≡◌ {A = Offer} Nothing (Calls form e i) = sym (o.lawful.rests l h) ∙ offer in cc)
  call_rests l form e i offer false h = h

  free_rests : (t : ℕ) (k : Copy o.L) → w.tasks t ≡ live k → OwnAt x (book_of r) d.tasks t k → (d.tasks t).standing ≡ Live → o.p.ops.can_step (d.tasks t).local ≡ false
  free_rests t k at (OwnBased l q here) free = ap (λ (y : Seat o.L). o.p.ops.can_step y.local) here ∙ rests (o.p.ops.can_step l) refl
    where
      rests : (f : Bool) → o.p.ops.can_step l ≡ f → o.p.ops.can_step l ≡ false
      rests true h = absurd (no_step t k at (ap (copy_steps o.p) q ∙ h))
      rests false h = h
  free_rests t k at (OwnCalling l form e i q offer here met) free = ap (λ (y : Seat o.L). o.p.ops.can_step y.local) here ∙ call_rests l form e i offer (o.p.ops.can_step l) refl
  free_rests t k at (OwnOwing l due q here h) free = absurd (no_telling t k at (ap (copy_offer o.p x.note) q))
  free_rests t k at (OwnServed l m a form e i q offer here was) free = absurd (no_telling t k at (ap (copy_offer o.p x.note) q))
  free_rests t k at (OwnReturned l m form e i q offer here met was) free = absurd (no_telling t k at (ap (copy_offer o.p x.note) q))
  free_rests t k at (OwnLost l due form e i q behind offer here met was) free = absurd (no_telling t k at (ap (copy_offer o.p x.note) q))
  free_rests t k at (OwnOver l c q below offer has once here was) free = absurd (no_telling t k at (ap (copy_offer o.p x.note) q))
  free_rests t k at (OwnRefusing l c q here gone) free = absurd (no_finish t k at (ap (copy_offer o.p x.note) q))
  free_rests t k at (OwnLeaving l q offer other here) free =
      absurd (calm.exit t (both (ap not (ne_eqb t 0 other)) (offers_at (twin x).ops is_end (w.tasks t) k at (ap (λ j. is_end (copy_offer o.p x.note j)) q))))

  -- The original rests.
  pub original_rests : (t : ℕ) → t < o.p.size → (d.tasks t).standing ≡ Live → o.p.ops.can_step (d.tasks t).local ≡ false
  original_rests t l free = go (inv.seats t l)
    where
      go : SeatAt x (book_of r) w.tasks d.tasks r t → o.p.ops.can_step (d.tasks t).local ≡ false
      go (Free k at own) = free_rests t k at own free
      go (Telling k at hears own was) = absurd (hears_nobody t k hears)
      go (Shared a v form e i at offer here was) = absurd (true≢false (ap is_live (sym free ∙ ap (λ (y : Seat o.L). y.standing) here)))
      go (Apart a v form e i at offer owns here met) = ap (λ (y : Seat o.L). o.p.ops.can_step y.local) here ∙ call_rests v form e i offer (o.p.ops.can_step v) refl
      go (Gone closed closed' outs) = absurd (true≢false (sym closed' ∙ ap is_closed free))
