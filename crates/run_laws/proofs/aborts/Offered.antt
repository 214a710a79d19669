-- Who offers what: a test on what a task of the copy offers says where it is, and where the original's is.
use Rattle.std.proofs.Common.{◌≡◌, ℕ, suc, ◌<◌, ◌≤◌, Bool, true, false, ◌==◌, if◌then◌else◌, List, refl, sym, ap, ◌∙◌, subst, ⊎_elim, inl, inr, ◌⊎◌, true≢false, arith}
use Rattle.std.specs.Prelude.{ℤ, pos}
use Rattle.std.proofs.lemmas.Bool.{eqb-true, and_parts, cases_lt}
use Rattle.event_machine.specs.declared.CallForm.{CallForm}
use Rattle.event_machine.specs.declared.CallForm.TheVariants.{Plain}
use Rattle.event_machine.specs.declared.Choice.{Choice}
use Rattle.event_machine.specs.declared.Standing.{Standing}
use Rattle.event_machine.specs.declared.Standing.TheVariants.{Live, Served}
use Rattle.event_machine.specs.declared.Event.{Event}
use Rattle.event_machine.specs.Offers.{Offer, Nothing, Calls, Waits, Aborts, Finishes, Ends, same_member, calls_in, waits_with, is_finish, is_end}
use Rattle.event_machine.specs.States.{Seat, live, completed, is_live, is_completed, is_closed}
use Rattle.event_machine.specs.Worlds.{World, offers, aborts}
use Rattle.event_machine.proofs.Basics.{same_member-true}
use Rattle.event_machine.proofs.Offering.{finish_is}
use Rattle.run_laws.specs.imitation.Imitations.{Original}
use Rattle.run_laws.proofs.replaying.Facts.{offers_live}
use Rattle.run_laws.specs.aborts.Notes.{Book}
use Rattle.run_laws.specs.collecting.Copies.{telling}
use Rattle.run_laws.proofs.collecting.Offered.{not_live, finish_tells, end_tells}
use Rattle.run_laws.proofs.collecting.Reaching.{reached_come}
use Rattle.run_laws.specs.collecting.inner.Beside.{CameFree}
use Rattle.run_laws.specs.aborts.Copies.{Returned, Over, Copy, Based, Calling, Owing, Refusing, Leaving, under, based_offer, copy_offer}
use Rattle.run_laws.specs.aborts.Settings.{Setting, recorder, twin}
use Rattle.run_laws.specs.aborts.inner.Beside.{book_of, OwnAt, OwnBased, OwnCalling, OwnOwing, OwnServed, OwnReturned, OwnLost, OwnOver, OwnRefusing, OwnLeaving, SeatAt, Free, Telling, Shared, Apart, Gone, Inv}
use Rattle.run_laws.proofs.aborts.Lawful.{based_passes}

-- a task that calls before it has told so tells
based_calls : (note : ℕ) (test : CallForm → Bool) (e : ℕ) (i : ℤ) (t : ℕ) (offer : Offer) → calls_in test e i (based_offer note t offer) ≡ true → based_offer note t offer ≡ telling note
based_calls note test e i t (Calls form f j) h = refl
based_calls note test e i t Ends h = go (t == 0) h
  where
    go : (b : Bool) → calls_in test e i (if b then Ends else telling note) ≡ true → (if b then Ends else telling note) ≡ telling note
    go true k = absurd (true≢false (sym k))
    go false k = refl
based_calls note test e i t (Aborts v) h = refl
based_calls note test e i t offer h = absurd (true≢false (sym h))

-- the main program alone ends before it has told so
based_ends : (note : ℕ) (t : ℕ) (offer : Offer) → is_end (based_offer note t offer) ≡ true → (t ≡ 0) × (offer ≡ Ends)
based_ends note t Ends h = go (t == 0) refl h
  where
    go : (b : Bool) → (t == 0) ≡ b → is_end (if b then Ends else telling note) ≡ true → (t ≡ 0) × (Ends ≡ Ends)
    go true q k = (eqb-true t 0 q, refl)
    go false q k = absurd (true≢false (sym k))
based_ends note t offer h = absurd (true≢false (sym h))

-- a task of the copy aborts nobody before it has told so
based_no_abort : (note v t : ℕ) (offer : Offer) → aborts v (based_offer note t offer) ≡ false
based_no_abort note v t Nothing = refl
based_no_abort note v t (Calls form e i) = refl
based_no_abort note v t (Waits choices) = refl
based_no_abort note v t Finishes = refl
based_no_abort note v t Ends = go (t == 0)
  where
    go : (b : Bool) → aborts v (if b then Ends else telling note) ≡ false
    go true = refl
    go false = refl
based_no_abort note v t (Aborts u) = refl

-- who is live is not closed
pub live_closed : (s : Standing) → is_live s ≡ true → is_closed s ≡ true → ⊥
live_closed Live p q = true≢false (sym q)
live_closed s p q = true≢false (sym p)

module _ {o : Original} (x : Setting o) where
  module _ (b : Book) (d : ℕ → Seat o.L) (t : ℕ) (k : Copy o.L) (own : OwnAt x b d t k) where
    -- The task is based, and the original's passes the test.
    pub record BasedOn (test : Offer → Bool) : Type 0 where
      pub l : o.L
      pub is : k ≡ Based t l
      pub at : d t ≡ live l
      pub passes : test (o.p.ops.offer l) ≡ true

    -- the offer in this state, where it passes the test
    passing : (test : Offer → Bool) (m : Copy o.L) → k ≡ m → test (copy_offer o.p x.note k) ≡ true → test (copy_offer o.p x.note m) ≡ true
    passing test m q h = ap (λ j. test (copy_offer o.p x.note j)) (sym q) ∙ h

    -- What no note, call or end passes, only a task at a wait offers.
    based_on : (test : Offer → Bool) → test (telling x.note) ≡ false → ((form : CallForm) (e : ℕ) (i : ℤ) → test (Calls form e i) ≡ false) →
        test Finishes ≡ false → test Ends ≡ false →
        test (copy_offer o.p x.note k) ≡ true → BasedOn test
    based_on test tells calls finishes ends h = go own
      where
        clash : (m : Copy o.L) → k ≡ m → test (copy_offer o.p x.note m) ≡ false → BasedOn test
        clash m q f = absurd (true≢false (sym (passing test m q h) ∙ f))

        go : OwnAt x b d t k → BasedOn test
        go (OwnBased l q at) = record { l = l; is = q; at = at; passes = based_passes x.note test t (o.p.ops.offer l) tells (passing test (Based t l) q h) }
        go (OwnCalling l form e i q offer at met) = clash (Calling t l) q (ap test offer ∙ calls form e i)
        go (OwnOwing l due q at due') = clash (Owing t due l) q tells
        go (OwnServed l m a form e i q offer at was) = clash (Owing t (Returned m) l) q tells
        go (OwnReturned l m form e i q offer at met was) = clash (Owing t (Returned m) l) q tells
        go (OwnLost l due form e i q behind offer at met was) = clash (Owing t due l) q tells
        go (OwnOver l c q below offer has once at was) = clash (Owing t (Over c) l) q tells
        go (OwnRefusing l c q at gone) = clash (Refusing t c l) q finishes
        go (OwnLeaving l q offer other at) = clash (Leaving t l) q ends

    pub waits_at : (test : Choice → Bool) → waits_with test (copy_offer o.p x.note k) ≡ true → BasedOn (waits_with test)
    waits_at test h = based_on (waits_with test) refl (λ form e i. refl) refl refl h

    pub aborts_nobody : (v : ℕ) → aborts v (copy_offer o.p x.note k) ≡ true → ⊥
    aborts_nobody v h = go own
      where
        clash : (m : Copy o.L) → k ≡ m → aborts v (copy_offer o.p x.note m) ≡ false → ⊥
        clash m q f = true≢false (sym (passing (aborts v) m q h) ∙ f)

        go : OwnAt x b d t k → ⊥
        go (OwnBased l q at) = clash (Based t l) q (based_no_abort x.note v t (o.p.ops.offer l))
        go (OwnCalling l form e i q offer at met) = clash (Calling t l) q (ap (aborts v) offer)
        go (OwnOwing l due q at due') = clash (Owing t due l) q refl
        go (OwnServed l m a form e i q offer at was) = clash (Owing t (Returned m) l) q refl
        go (OwnReturned l m form e i q offer at met was) = clash (Owing t (Returned m) l) q refl
        go (OwnLost l due form e i q behind offer at met was) = clash (Owing t due l) q refl
        go (OwnOver l c q below offer has once at was) = clash (Owing t (Over c) l) q refl
        go (OwnRefusing l c q at gone) = clash (Refusing t c l) q refl
        go (OwnLeaving l q offer other at) = clash (Leaving t l) q refl

    -- The task calls: an original entry, or the recorder's.
    pub record CallingOn (test : CallForm → Bool) (e : ℕ) (i : ℤ) : Type 0 where
      pub l : o.L
      pub is : k ≡ Calling t l
      pub at : d t ≡ live l
      pub met : b.met t ≡ 0
      pub calls : calls_in test e i (o.p.ops.offer l) ≡ true

    pub record TellingOn (test : CallForm → Bool) (e : ℕ) : Type 0 where
      pub tells : copy_offer o.p x.note k ≡ telling x.note
      pub entry : e ≡ x.note
      pub plain : test Plain ≡ true

    pub calls_at : (test : CallForm → Bool) (e : ℕ) (i : ℤ) → calls_in test e i (copy_offer o.p x.note k) ≡ true → CallingOn test e i ⊎ TellingOn test e
    calls_at test e i h = go own
      where
        tells_at : copy_offer o.p x.note k ≡ telling x.note → CallingOn test e i ⊎ TellingOn test e
        tells_at q =
            let g = and_parts (test Plain) (same_member e i x.note (pos 0)) (ap (calls_in test e i) (sym q) ∙ h) in
            inr (record { tells = q; entry = (same_member-true e x.note i (pos 0) g.1).0; plain = g.0 })

        clash : (m : Copy o.L) → k ≡ m → calls_in test e i (copy_offer o.p x.note m) ≡ false → CallingOn test e i ⊎ TellingOn test e
        clash m q f = absurd (true≢false (sym (passing (calls_in test e i) m q h) ∙ f))

        go : OwnAt x b d t k → CallingOn test e i ⊎ TellingOn test e
        go (OwnBased l q at) = tells_at (ap (copy_offer o.p x.note) q ∙ based_calls x.note test e i t (o.p.ops.offer l) (passing (calls_in test e i) (Based t l) q h))
        go (OwnCalling l form f j q offer at met) = inl (record { l = l; is = q; at = at; met = met; calls = passing (calls_in test e i) (Calling t l) q h })
        go (OwnOwing l due q at due') = tells_at (ap (copy_offer o.p x.note) q)
        go (OwnServed l m a form f j q offer at was) = tells_at (ap (copy_offer o.p x.note) q)
        go (OwnReturned l m form f j q offer at met was) = tells_at (ap (copy_offer o.p x.note) q)
        go (OwnLost l due form f j q behind offer at met was) = tells_at (ap (copy_offer o.p x.note) q)
        go (OwnOver l c q below offer has once at was) = tells_at (ap (copy_offer o.p x.note) q)
        go (OwnRefusing l c q at gone) = clash (Refusing t c l) q refl
        go (OwnLeaving l q offer other at) = clash (Leaving t l) q refl

    -- The task is at the end of an accept body: of a rendezvous that was told, or of a refused one.
    pub data FinishOn : Type 0 where
      AtEndOf : (l : o.L) → k ≡ Based t l → d t ≡ live l → o.p.ops.offer l ≡ Finishes → FinishOn
      AtRefusal : (l : o.L) (c : ℕ) → k ≡ Refusing t c l → d t ≡ live l → is_closed (d c).standing ≡ true → FinishOn

    pub finish_at : is_finish (copy_offer o.p x.note k) ≡ true → FinishOn
    finish_at h = go own
      where
        clash : (m : Copy o.L) → k ≡ m → is_finish (copy_offer o.p x.note m) ≡ false → FinishOn
        clash m q f = absurd (true≢false (sym (passing is_finish m q h) ∙ f))

        go : OwnAt x b d t k → FinishOn
        go (OwnBased l q at) = AtEndOf l q at (finish_is (o.p.ops.offer l) (based_passes x.note is_finish t (o.p.ops.offer l) refl (passing is_finish (Based t l) q h)))
        go (OwnCalling l form e i q offer at met) = clash (Calling t l) q (ap is_finish offer)
        go (OwnOwing l due q at due') = clash (Owing t due l) q refl
        go (OwnServed l m a form e i q offer at was) = clash (Owing t (Returned m) l) q refl
        go (OwnReturned l m form e i q offer at met was) = clash (Owing t (Returned m) l) q refl
        go (OwnLost l due form e i q behind offer at met was) = clash (Owing t due l) q refl
        go (OwnOver l c q below offer has once at was) = clash (Owing t (Over c) l) q refl
        go (OwnRefusing l c q at gone) = AtRefusal l c q at gone
        go (OwnLeaving l q offer other at) = clash (Leaving t l) q refl

    -- The task is at its end: it has told so, or is the main program.
    pub record LeavingOn : Type 0 where
      pub l : o.L
      pub is : k ≡ Leaving t l
      pub other : t ≡ 0 → ⊥
      pub at : d t ≡ completed l

    pub record MainOn : Type 0 where
      pub l : o.L
      pub is : k ≡ Based t l
      pub main : t ≡ 0
      pub at : d t ≡ live l
      pub ends : o.p.ops.offer l ≡ Ends

    pub end_at : is_end (copy_offer o.p x.note k) ≡ true → MainOn ⊎ LeavingOn
    end_at h = go own
      where
        clash : (m : Copy o.L) → k ≡ m → is_end (copy_offer o.p x.note m) ≡ false → MainOn ⊎ LeavingOn
        clash m q f = absurd (true≢false (sym (passing is_end m q h) ∙ f))

        go : OwnAt x b d t k → MainOn ⊎ LeavingOn
        go (OwnBased l q at) =
            let g = based_ends x.note t (o.p.ops.offer l) (passing is_end (Based t l) q h) in
            inl (record { l = l; is = q; main = g.0; at = at; ends = g.1 })
        go (OwnCalling l form e i q offer at met) = clash (Calling t l) q (ap is_end offer)
        go (OwnOwing l due q at due') = clash (Owing t due l) q refl
        go (OwnServed l m a form e i q offer at was) = clash (Owing t (Returned m) l) q refl
        go (OwnReturned l m form e i q offer at met was) = clash (Owing t (Returned m) l) q refl
        go (OwnLost l due form e i q behind offer at met was) = clash (Owing t due l) q refl
        go (OwnOver l c q below offer has once at was) = clash (Owing t (Over c) l) q refl
        go (OwnRefusing l c q at gone) = clash (Refusing t c l) q refl
        go (OwnLeaving l q offer other at) = inr (record { l = l; is = q; other = other; at = at })

  -- ---- in a world

  module _ (past : List Event) (r : Copy o.L) (d : World o.L) (w : World (Copy o.L)) (inv : Inv x past r d w) where
    -- A live task is an original one, or the recorder.
    pub data IsFree (t : ℕ) : Type 0 where
      FreeOwn : t < o.p.size → (k : Copy o.L) → w.tasks t ≡ live k → OwnAt x (book_of r) d.tasks t k → IsFree t
      FreeRecorder : t ≡ recorder x → IsFree t

    pub free_task : (t : ℕ) → is_live (w.tasks t).standing ≡ true → IsFree t
    free_task t h = ⊎_elim below (λ (m : o.p.size ≤ t). ⊎_elim (at_end m) beyond (cases_lt t (suc o.p.size))) (cases_lt t o.p.size)
      where
        below : t < o.p.size → IsFree t
        below l = go (inv.seats t l)
          where
            go : SeatAt x (book_of r) w.tasks d.tasks r t → IsFree t
            go (Free k at own) = FreeOwn l k at own
            go (Telling k at hears own was) = absurd (not_live (w.tasks t) (record { local = k; standing = Served (recorder x) false }) h at refl)
            go (Shared a v form e i at offer here was) = absurd (not_live (w.tasks t) (record { local = Calling t v; standing = Served a false }) h at refl)
            go (Apart a v form e i at offer owns here met) = absurd (not_live (w.tasks t) (record { local = Calling t v; standing = Served a false }) h at refl)
            go (Gone there here outs) = absurd (live_closed (w.tasks t).standing h there)

        at_end : o.p.size ≤ t → t < suc o.p.size → IsFree t
        at_end m l = FreeRecorder (let e : t ≡ recorder x = omega (arith, m, l) in e)

        beyond : suc o.p.size ≤ t → IsFree t
        beyond m = absurd (go (w.tasks t).standing h (inv.beyond t m))
          where
            go : (s : Standing) → is_live s ≡ true → is_completed s ≡ true → ⊥
            go Live p q = true≢false (sym q)
            go s p q = true≢false (sym p)

    -- who tells was free in the original, in the state where it is
    pub came_free : (t : ℕ) (k : Copy o.L) → OwnAt x (book_of r) d.tasks t k → copy_offer o.p x.note k ≡ telling x.note → CameFree o t (under o.p.ops.nobody k)
    came_free t k own tells = go own
      where
        free : (m : Copy o.L) → k ≡ m → d.tasks t ≡ live (under o.p.ops.nobody m) → CameFree o t (under o.p.ops.nobody k)
        free m q at = record { d = d; come = reached_come o past d inv.reached; runs = inv.runs; at = at ∙ ap (λ j. live (under o.p.ops.nobody j)) (sym q) }

        before : (m : Copy o.L) → k ≡ m → CameFree o t (under o.p.ops.nobody m) → CameFree o t (under o.p.ops.nobody k)
        before m q was = subst (λ j. CameFree o t (under o.p.ops.nobody j)) (sym q) was

        go : OwnAt x (book_of r) d.tasks t k → CameFree o t (under o.p.ops.nobody k)
        go (OwnBased l q at) = free (Based t l) q at
        go (OwnCalling l form e i q offer at met) = free (Calling t l) q at
        go (OwnOwing l due q at h) = free (Owing t due l) q at
        go (OwnServed l m a form e i q offer at was) = before (Owing t (Returned m) l) q was
        go (OwnReturned l m form e i q offer at met was) = before (Owing t (Returned m) l) q was
        go (OwnLost l due form e i q behind offer at met was) = before (Owing t due l) q was
        go (OwnOver l c q below offer has once at was) = before (Owing t (Over c) l) q was
        go (OwnRefusing l c q at gone) = absurd (finish_tells x.note (ap (copy_offer o.p x.note) (sym q) ∙ tells))
        go (OwnLeaving l q offer other at) = absurd (end_tells x.note (ap (copy_offer o.p x.note) (sym q) ∙ tells))

    -- What a test on an offer says: who offers is in such a state.
    pub data Offers (test : Offer → Bool) (t : ℕ) : Type 0 where
      OffersOwn : t < o.p.size → (k : Copy o.L) → w.tasks t ≡ live k → OwnAt x (book_of r) d.tasks t k → test (copy_offer o.p x.note k) ≡ true → Offers test t
      OffersRecorder : t ≡ recorder x → test (copy_offer o.p x.note r) ≡ true → Offers test t

    pub offers_by : (test : Offer → Bool) (t : ℕ) → offers (twin x).ops test (w.tasks t) ≡ true → Offers test t
    offers_by test t h =
        let p = offers_live (twin x).ops test (w.tasks t) h in
        go p.1 (free_task t p.0)
      where
        go : test (copy_offer o.p x.note (w.tasks t).local) ≡ true → IsFree t → Offers test t
        go p (FreeOwn l k at own) = OffersOwn l k at own (ap (λ (y : Seat (Copy o.L)). test (copy_offer o.p x.note y.local)) (sym at) ∙ p)
        go p (FreeRecorder e) = OffersRecorder e (ap (λ (y : Seat (Copy o.L)). test (copy_offer o.p x.note y.local)) (sym (ap w.tasks e ∙ inv.at)) ∙ p)
