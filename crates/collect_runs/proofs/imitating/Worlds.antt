-- What is so of the tasks of the law's copy in a world to which it comes: who tells whom of what, and where the normal form is.
use Rattle.std.proofs.Common.{◌≡◌, ℕ, suc, ◌<◌, ◌≤◌, true, false, List, sym, ap, ◌∙◌, subst, true≢false, arith}
use Rattle.std.specs.Prelude.{ℤ, pos}
use Rattle.event_machine.specs.declared.CallForm.{CallForm}
use Rattle.event_machine.specs.declared.CallForm.TheVariants.{Plain, Conditional, Timed}
use Rattle.event_machine.specs.declared.Standing.TheVariants.{Live}
use Rattle.event_machine.specs.declared.Event.{Event}
use Rattle.event_machine.specs.Offers.{Offer, Nothing, Calls, Waits, Finishes, Ends, Aborts, calls_in, is_any_form}
use Rattle.event_machine.specs.States.{Seat, live, is_live}
use Rattle.event_machine.specs.Worlds.{World, aborts}
use Rattle.event_machine.proofs.Basics.{same_member-refl}
use Rattle.common_lemmas.proofs.Numbers.{equal_self}
use Rattle.run_laws.specs.imitation.Imitations.{Original}
use Rattle.run_laws.specs.collecting.Notes.{HasFailed}
use Rattle.run_laws.specs.collecting.Copies.{Begun, TookElse, TookDelay, TookOther, Failed, Upset, Due, Copy, Based, Calling, Owing, Ending, Leaving, under, telling, based_note, call_note, other_note, note_of}
use Rattle.run_laws.specs.collecting.Settings.{Setting}
use Rattle.run_laws.specs.collecting.inner.Beside.{CameFree, book_of, DueAt, OwnAt, OwnBased, OwnCalling, OwnOwing, OwnEnding, OwnLeaving, RecorderAt, Inv}
use Rattle.run_laws.proofs.collecting.Offered.{IsFree, FreeOwn, FreeRecorder, free_task}
use Rattle.run_laws.proofs.collecting.Reaching.{reached_come}
use Rattle.run_laws.proofs.collecting.Singles.{of_task}
use Rattle.run_laws.proofs.collecting.Meetings.{served_below}
use Rattle.collect_runs.specs.recorder.Telling.{IsWithin}

module _ {o : Original} (x : Setting o) (past : List Event) (r : Copy o.L) (d : World o.L) (w : World (Copy o.L)) (inv : Inv x past r d w) where
  -- the recorder is no original task's state
  recorder-other : (t : ℕ) (l : o.L) → r ≡ Based t l → ⊥
  recorder-other t l q = subst (RecorderAt x past w.tasks) q inv.records

  -- A live task that is based is beside the original's, which is free.
  pub based-free : (t u : ℕ) (l : o.L) → (w.tasks t).standing ≡ Live → (w.tasks t).local ≡ Based u l → d.tasks t ≡ live l
  based-free t u l free is = go (free_task x past r d w inv t (ap is_live free))
    where
      by_own : (k : Copy o.L) → k ≡ Based u l → OwnAt x (book_of r) w.tasks d.tasks t k → d.tasks t ≡ live l
      by_own k q (OwnBased m p at) = at ∙ ap (λ (j : Copy o.L). live (under l j)) (sym p ∙ q)
      by_own k q (OwnCalling m form e i p offer at met) = absurd (let h : ◌≡◌ {A = Copy o.L} (Calling t m) (Based u l) = sym p ∙ q in cc)
      by_own k q (OwnOwing m due p at due') = absurd (let h : ◌≡◌ {A = Copy o.L} (Owing t due m) (Based u l) = sym p ∙ q in cc)
      by_own k q (OwnEnding m v c outer p offer has at apart together) = absurd (let h : ◌≡◌ {A = Copy o.L} (Ending t m) (Based u l) = sym p ∙ q in cc)
      by_own k q (OwnLeaving m p offer other at) = absurd (let h : ◌≡◌ {A = Copy o.L} (Leaving t m) (Based u l) = sym p ∙ q in cc)

      go : IsFree x past r d w inv t → d.tasks t ≡ live l
      go (FreeOwn below k at own) = by_own k (ap (λ (y : Seat (Copy o.L)). y.local) (sym at) ∙ is) own
      go (FreeRecorder e) = absurd (recorder-other u l (ap (λ (y : Seat (Copy o.L)). y.local) (sym inv.at) ∙ ap (λ n. (w.tasks n).local) (sym e) ∙ is))

  -- so nothing that is asked of the original's worlds fails there
  pub based-aborts : (t u v : ℕ) (l : o.L) → (w.tasks t).standing ≡ Live → (w.tasks t).local ≡ Based u l → aborts v (o.p.ops.offer l) ≡ false
  based-aborts t u v l free is =
      let at : d.tasks t ≡ live l = based-free t u l free is in
      ap (λ (y : Seat o.L). aborts v (o.p.ops.offer y.local)) (sym at) ∙
      x.no_aborts d (reached_come o past d inv.reached) inv.runs t v (ap (λ (y : Seat o.L). y.standing) at)

  -- ---- who tells

  -- who was free at a call does not call the recorder
  pub free-other : (t : ℕ) (l : o.L) → CameFree o t l → o.p.ops.offer l ≡ telling x.note → ⊥
  free-other t l came is =
      let calls : calls_in is_any_form x.note (pos 0) (o.p.ops.offer (came.d.tasks t).local) ≡ true =
      ap (λ (y : Seat o.L). calls_in is_any_form x.note (pos 0) (o.p.ops.offer y.local)) came.at ∙ ap (calls_in is_any_form x.note (pos 0)) is ∙ same_member-refl x.note (pos 0) in
      true≢false (sym (equal_self x.note) ∙ (x.calls_tasks came.d came.come came.runs t x.note (pos 0) (ap (λ (y : Seat o.L). y.standing) came.at) calls).other)

  -- The note of a task that tells is about original tasks.
  module _ (runs : w.ended ≡ false) (last : ℕ) (many : o.p.size ≡ suc last) (t : ℕ) (below : t < o.p.size) where
    within : (n : ℕ) → n < o.p.size → n ≤ last
    within n l = omega (arith, l, many)

    based-within : (offer : Offer) → IsWithin last (based_note t offer)
    based-within Nothing = within t below
    based-within (Calls form e i) = within t below
    based-within (Waits choices) = within t below
    based-within Finishes = tt
    based-within Ends = within t below
    based-within (Aborts v) = within t below

    owner-within : (l : o.L) (form : CallForm) (e : ℕ) (i : ℤ) → d.tasks t ≡ live l → o.p.ops.offer l ≡ Calls form e i → o.p.owner e ≤ last
    owner-within l form e i at is =
        within (o.p.owner e) (of_task x past r d w inv t l e i at (ap (calls_in is_any_form e i) is ∙ same_member-refl e i)).task

    other-within : (form : CallForm) (e : ℕ) (i : ℤ) → o.p.owner e ≤ last → IsWithin last (other_note o.p t form e i)
    other-within Plain e i l = within t below
    other-within Conditional e i l = l
    other-within Timed e i l = l

    due-within : (l : o.L) (due : Due o.L) → d.tasks t ≡ live l → DueAt x (book_of r) w.tasks d.tasks t l due → IsWithin last (note_of o.p (Owing t due l))
    due-within l (Begun s e i v) at h = within s (served_below x past r d w inv runs s t (ap (λ (y : Seat (Copy o.L)). y.standing) h.3.at))
    due-within l TookElse at h = tt
    due-within l (TookDelay j) at h = tt
    due-within l TookOther at h =
        subst (λ (offer : Offer). IsWithin last (call_note t (λ form e i. other_note o.p t form e i) offer)) (sym h.3)
        (other-within h.0 h.1 h.2 (owner-within l h.0 h.1 h.2 at h.3))
    due-within l Failed at h = subst (λ (offer : Offer). IsWithin last (call_note t (λ form e i. HasFailed t e i) offer)) (sym h.3) (within t below)
    due-within l (Upset e i) at h = within t below

    pub note-within : (k : Copy o.L) → OwnAt x (book_of r) w.tasks d.tasks t k → IsWithin last (note_of o.p k)
    note-within k (OwnBased l q at) = subst (λ (j : Copy o.L). IsWithin last (note_of o.p j)) (sym q) (based-within (o.p.ops.offer l))
    note-within k (OwnCalling l form e i q offer at met) = subst (λ (j : Copy o.L). IsWithin last (note_of o.p j)) (sym q) (within t below)
    note-within k (OwnOwing l due q at h) = subst (λ (j : Copy o.L). IsWithin last (note_of o.p j)) (sym q) (due-within l due at h)
    note-within k (OwnEnding l v c outer q offer has at apart together) = subst (λ (j : Copy o.L). IsWithin last (note_of o.p j)) (sym q) (within t below)
    note-within k (OwnLeaving l q offer other at) = subst (λ (j : Copy o.L). IsWithin last (note_of o.p j)) (sym q) (within t below)
