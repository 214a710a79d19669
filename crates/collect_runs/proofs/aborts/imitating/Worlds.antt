-- What is so of the tasks of the law's copy in a world to which it comes: who tells whom of what, and where the normal form is.
use Rattle.std.proofs.Common.{◌≡◌, ℕ, suc, ◌<◌, ◌≤◌, Bool, true, false, if◌then◌else◌, List, refl, sym, ap, ◌∙◌, subst, true≢false, arith}
use Rattle.std.specs.Prelude.{ℤ, pos}
use Rattle.event_machine.specs.declared.CallForm.{CallForm}
use Rattle.event_machine.specs.declared.CallForm.TheVariants.{Plain, Conditional, Timed}
use Rattle.event_machine.specs.declared.Standing.TheVariants.{Live, Served}
use Rattle.event_machine.specs.declared.Event.{Event}
use Rattle.event_machine.specs.Offers.{Offer, Nothing, Calls, Waits, Finishes, Ends, Aborts, calls_in, is_any_form}
use Rattle.event_machine.specs.States.{Seat, live, is_live, is_closed}
use Rattle.event_machine.specs.Soundness.{IsSound}
use Rattle.event_machine.specs.Worlds.{World, aborts}
use Rattle.event_machine.proofs.Basics.{same_member-refl}
use Rattle.common_lemmas.proofs.Numbers.{equal_self}
use Rattle.run_laws.specs.imitation.Imitations.{Original, IsComeTo}
use Rattle.run_laws.specs.imitation.Imitating.{local_at}
use Rattle.run_laws.specs.collecting.Copies.{telling}
use Rattle.run_laws.specs.collecting.inner.Beside.{CameFree}
use Rattle.run_laws.proofs.collecting.Reaching.{reached_come}
use Rattle.run_laws.specs.aborts.Notes.{HasFailed, HasReturned, ToAbort, Book}
use Rattle.run_laws.specs.aborts.Copies.{Begun, TookElse, TookDelay, TookOther, Failed, Returned, Over, Due, Copy, Based, Calling, Owing, Refusing, Leaving}
use Rattle.run_laws.specs.aborts.Copies.{Striking, under, based_note, call_note, other_note, copy_callers, note_of}
use Rattle.run_laws.specs.aborts.Settings.{Setting, recorder, twin, IsProperCopy}
use Rattle.run_laws.specs.aborts.inner.Beside.{book_of, IsBehindCall, DueAt, OwnAt, OwnBased, OwnCalling, OwnOwing, OwnServed, OwnReturned, OwnLost, OwnOver}
use Rattle.run_laws.specs.aborts.inner.Beside.{OwnRefusing, OwnLeaving, RecorderAt, Inv}
use Rattle.run_laws.proofs.aborts.Reading.{is_based, differ}
use Rattle.run_laws.proofs.aborts.Offered.{IsFree, FreeOwn, FreeRecorder, free_task}
use Rattle.run_laws.proofs.aborts.Singles.{of_task}
use Rattle.run_laws.proofs.aborts.Pairs.{IsFirst, first_is}
use Rattle.run_laws.proofs.aborts.Meetings.{served_below}
use Rattle.run_laws.proofs.aborts.Tellers.{TellingAt, telling_at}
use Rattle.collect_runs.specs.aborts.recorder.Telling.{IsWithin}

-- No free task of the original aborts main.
abbrev pub SparesMain : Original → Type 0
SparesMain o =
    (y : World o.L) → IsComeTo o y → y.ended ≡ false → (t v : ℕ) → (y.tasks t).standing ≡ Live → aborts v (o.p.ops.offer (local_at y t)) ≡ true → 0 < v

module _ {o : Original} (x : Setting o) (past : List Event) (r : Copy o.L) (d : World o.L) (w : World (Copy o.L)) (inv : Inv x past r d w) where
  -- A live task that is based is beside the original's, which is free.
  pub based-free : (t u : ℕ) (l : o.L) → (w.tasks t).standing ≡ Live → (w.tasks t).local ≡ Based u l → d.tasks t ≡ live l
  based-free t u l free is = go (free_task x past r d w inv t (ap is_live free))
    where
      clash : (k m : Copy o.L) → k ≡ Based u l → k ≡ m → is_based m ≡ false → d.tasks t ≡ live l
      clash k m q p f = absurd (differ is_based (Based u l) m refl f (sym q ∙ p))

      by_own : (k : Copy o.L) → k ≡ Based u l → OwnAt x (book_of r) d.tasks t k → d.tasks t ≡ live l
      by_own k q (OwnBased m p at) = at ∙ ap (λ (j : Copy o.L). live (under l j)) (sym p ∙ q)
      by_own k q (OwnCalling m form e i p offer at met) = clash k (Calling t m) q p refl
      by_own k q (OwnOwing m due p at due') = clash k (Owing t due m) q p refl
      by_own k q (OwnServed m v a form e i p offer at was) = clash k (Owing t (Returned v) m) q p refl
      by_own k q (OwnReturned m v form e i p offer at met was) = clash k (Owing t (Returned v) m) q p refl
      by_own k q (OwnLost m due form e i p behind offer at met was) = clash k (Owing t due m) q p refl
      by_own k q (OwnOver m c p below offer has once at was) = clash k (Owing t (Over c) m) q p refl
      by_own k q (OwnRefusing m c p at gone) = clash k (Refusing t c m) q p refl
      by_own k q (OwnLeaving m p offer other at) = clash k (Leaving t m) q p refl

      -- the recorder is no original task's state
      recorder-other : r ≡ Based u l → ⊥
      recorder-other q = subst (RecorderAt x past w.tasks) q inv.records

      go : IsFree x past r d w inv t → d.tasks t ≡ live l
      go (FreeOwn below k at own) = by_own k (ap (λ (y : Seat (Copy o.L)). y.local) (sym at) ∙ is) own
      go (FreeRecorder e) = absurd (recorder-other (ap (λ (y : Seat (Copy o.L)). y.local) (sym inv.at) ∙ ap (λ n. (w.tasks n).local) (sym e) ∙ is))

  -- ---- who tells

  -- who was free at a call does not call the recorder
  pub free-other : (t : ℕ) (l : o.L) → CameFree o t l → o.p.ops.offer l ≡ telling x.note → ⊥
  free-other t l came is =
      let calls : calls_in is_any_form x.note (pos 0) (o.p.ops.offer (came.d.tasks t).local) ≡ true =
      ap (λ (y : Seat o.L). calls_in is_any_form x.note (pos 0) (o.p.ops.offer y.local)) came.at ∙ ap (calls_in is_any_form x.note (pos 0)) is ∙
      same_member-refl x.note (pos 0) in
      true≢false (sym (equal_self x.note) ∙
      (x.calls_tasks came.d came.come came.runs t x.note (pos 0) (ap (λ (y : Seat o.L). y.standing) came.at) calls).other)

  -- The note of a task that tells is about original tasks, where no free task of the original aborts main.
  module _ (spares : SparesMain o) (runs : w.ended ≡ false) (sound : IsSound (twin x).ops (IsProperCopy o) w.tasks) (last : ℕ) (many : o.p.size ≡ suc last) (t : ℕ)
      (below : t < o.p.size) where
    within : (n : ℕ) → n < o.p.size → n ≤ last
    within n l = omega (arith, l, many)

    based-within : (l : o.L) → d.tasks t ≡ live l → (offer : Offer) → o.p.ops.offer l ≡ offer → IsWithin last (based_note t offer)
    based-within l at Nothing q = within t below
    based-within l at (Calls form e i) q = within t below
    based-within l at (Waits choices) q = within t below
    based-within l at Finishes q = within t below
    based-within l at Ends q = within t below
    based-within l at (Aborts v) q =
        let come : IsComeTo o d = reached_come o past d inv.reached in
        let free : (d.tasks t).standing ≡ Live = ap (λ (y : Seat o.L). y.standing) at in
        let is : aborts v (o.p.ops.offer (local_at d t)) ≡ true = ap (λ (y : Seat o.L). aborts v (o.p.ops.offer y.local)) at ∙ ap (aborts v) q ∙ equal_self v in
        (spares d come inv.runs t v free is, within v (x.aborts_tasks d come inv.runs t v free is))

    owner-within : (l : o.L) (form : CallForm) (e : ℕ) (i : ℤ) → d.tasks t ≡ live l → o.p.ops.offer l ≡ Calls form e i → o.p.owner e ≤ last
    owner-within l form e i at is =
        within (o.p.owner e) (of_task x past r d w inv t l e i at (ap (calls_in is_any_form e i) is ∙ same_member-refl e i)).task

    other-within : (form : CallForm) (e : ℕ) (i : ℤ) → o.p.owner e ≤ last → IsWithin last (other_note o.p t form e i)
    other-within Plain e i l = within t below
    other-within Conditional e i l = l
    other-within Timed e i l = l

    failed-within : (offer : Offer) → IsWithin last (call_note t (λ form e i. HasFailed t e i) offer)
    failed-within Nothing = within t below
    failed-within (Calls form e i) = within t below
    failed-within (Waits choices) = within t below
    failed-within Finishes = within t below
    failed-within Ends = within t below
    failed-within (Aborts v) = within t below

    back-within : (b : Bool) (offer : Offer) → IsWithin last (if b then call_note t (λ form e i. HasFailed t e i) offer else HasReturned t)
    back-within true offer = failed-within offer
    back-within false offer = within t below

    behind-within : (l : o.L) (due : Due o.L) → IsBehindCall due → IsWithin last (note_of o.p x.pends (Owing t due l))
    behind-within l (Begun s e i v) h = absurd h
    behind-within l TookElse h = absurd h
    behind-within l (TookDelay j) h = absurd h
    behind-within l TookOther h = absurd h
    behind-within l Failed h = failed-within (o.p.ops.offer l)
    behind-within l (Returned m) h = back-within (x.pends m) (o.p.ops.offer l)
    behind-within l (Over s) h = absurd h

    -- whom a task has accepted it serves
    begun-within : (s e : ℕ) (i : ℤ) (v l : o.L) → (w.tasks t).local ≡ Owing t (Begun s e i v) l → is_closed (w.tasks t).standing ≡ false → s ≤ last
    begun-within s e i v l at open' =
        let first : IsFirst w.tasks t s (o.p.ops.callers l) = first_is w.tasks sound t s (o.p.ops.callers l) open' (ap (copy_callers o.p) at) in
        within s (served_below x past r d w inv runs sound s t first.served)

    due-within : (l : o.L) (due : Due o.L) → (w.tasks t).local ≡ Owing t due l → is_closed (w.tasks t).standing ≡ false → d.tasks t ≡ live l →
        DueAt x (book_of r) d.tasks t l due → IsWithin last (note_of o.p x.pends (Owing t due l))
    due-within l (Begun s e i v) is open' at h = (begun-within s e i v l is open', within t below)
    due-within l TookElse is open' at h = tt
    due-within l (TookDelay j) is open' at h = tt
    due-within l TookOther is open' at h =
        subst (λ (offer : Offer). IsWithin last (call_note t (λ form e i. other_note o.p t form e i) offer)) (sym h.3)
        (other-within h.0 h.1 h.2 (owner-within l h.0 h.1 h.2 at h.3))
    due-within l Failed is open' at h = failed-within (o.p.ops.offer l)
    due-within l (Returned m) is open' at h = absurd h
    due-within l (Over s) is open' at h = absurd h

    pub note-within : (k : Copy o.L) → (w.tasks t).local ≡ k → is_closed (w.tasks t).standing ≡ false → OwnAt x (book_of r) d.tasks t k →
        IsWithin last (note_of o.p x.pends k)
    note-within k is open' own = go own
      where
        so : (m : Copy o.L) → k ≡ m → IsWithin last (note_of o.p x.pends m) → IsWithin last (note_of o.p x.pends k)
        so m q h = subst (λ (j : Copy o.L). IsWithin last (note_of o.p x.pends j)) (sym q) h

        go : OwnAt x (book_of r) d.tasks t k → IsWithin last (note_of o.p x.pends k)
        go (OwnBased l q at) = so (Based t l) q (based-within l at (o.p.ops.offer l) refl)
        go (OwnCalling l form e i q offer at met) = so (Calling t l) q (within t below)
        go (OwnOwing l due q at h) = so (Owing t due l) q (due-within l due (is ∙ q) open' at h)
        go (OwnServed l m a form e i q offer at was) = so (Owing t (Returned m) l) q (behind-within l (Returned m) tt)
        go (OwnReturned l m form e i q offer at met was) = so (Owing t (Returned m) l) q (behind-within l (Returned m) tt)
        go (OwnLost l due form e i q behind offer at met was) = so (Owing t due l) q (behind-within l due behind)
        go (OwnOver l s q within' offer has once at was) = so (Owing t (Over s) l) q (within s within')
        go (OwnRefusing l s q at gone) = so (Refusing t s l) q (within t below)
        go (OwnLeaving l q offer other at) = so (Leaving t l) q (within t below)

-- Whom the recorder is to abort is a task of the original.
module _ {o : Original} (x : Setting o) (past : List Event) (d : World o.L) (w : World (Copy o.L)) (t : ℕ) (b : Book) (a v : ℕ)
    (inv : Inv x past (Striking t b a v) d w) where
  pub strikes-task : SparesMain o → w.ended ≡ false → IsSound (twin x).ops (IsProperCopy o) w.tasks → (last : ℕ) → o.p.size ≡ suc last → v < o.p.size
  strikes-task spares runs sound last many =
      let r : Copy o.L = Striking t b a v in
      let served : (w.tasks t).standing ≡ Served (recorder x) false = inv.records.2 in
      let teller : TellingAt x past r d w inv runs sound t = telling_at x past r d w inv runs sound t inv.records.1 served in
      let is : (w.tasks t).local ≡ teller.k = ap (λ (y : Seat (Copy o.L)). y.local) teller.at in
      let h : IsWithin last (ToAbort a v) =
      subst (IsWithin last) (sym teller.hears.1) (note-within x past r d w inv spares runs sound last many t inv.records.1 teller.k is (ap is_closed served) teller.own) in
      let l : v ≤ last = h.1 in
      omega (arith, l, many)
