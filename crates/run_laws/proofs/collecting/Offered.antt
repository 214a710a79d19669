-- Who offers what: a test on what a task of the copy offers says where it is, and where the original's is.
use Rattle.std.proofs.Common.{◌≡◌, ℕ, suc, ◌<◌, ◌≤◌, Bool, true, false, ◌==◌, if◌then◌else◌, List, ◌∷◌, refl, sym, ap, ◌∙◌, ⊎_elim, inl, inr, ◌⊎◌, true≢false, arith}
use Rattle.std.specs.Prelude.{ℤ, pos}
use Rattle.std.proofs.lemmas.Bool.{eqb-true, and_parts, cases_lt}
use Rattle.event_machine.specs.declared.CallForm.{CallForm}
use Rattle.event_machine.specs.declared.CallForm.TheVariants.{Plain}
use Rattle.event_machine.specs.declared.Choice.{Choice}
use Rattle.event_machine.specs.declared.Standing.{Standing}
use Rattle.event_machine.specs.declared.Standing.TheVariants.{Live, Served}
use Rattle.event_machine.specs.declared.Event.{Event}
use Rattle.event_machine.specs.Offers.{Offer, Nothing, Calls, Waits, Aborts, Finishes, Ends, same_member, calls_in, waits_with, is_finish, is_end}
use Rattle.event_machine.specs.States.{Seat, live, completed, is_live, is_completed}
use Rattle.event_machine.specs.Worlds.{World, offers, aborts}
use Rattle.event_machine.proofs.Basics.{same_member-true}
use Rattle.run_laws.specs.imitation.Imitations.{Original}
use Rattle.run_laws.proofs.replaying.Facts.{offers_live}
use Rattle.run_laws.specs.collecting.Notes.{Book}
use Rattle.run_laws.specs.collecting.Copies.{Copy, Based, Calling, Owing, Ending, Leaving, under, telling, based_offer, copy_offer}
use Rattle.run_laws.specs.collecting.Settings.{Setting, recorder, twin}
use Rattle.run_laws.specs.collecting.inner.Beside.{CameFree, CameTogether, book_of, StandsApart, OwnAt, OwnBased, OwnCalling, OwnOwing, OwnEnding, OwnLeaving, SeatAt, Free, Telling, Shared, Apart, Gone, Inv}
use Rattle.run_laws.proofs.collecting.Reaching.{reached_come}
use Rattle.run_laws.proofs.collecting.Lawful.{based_passes, based_no_finish}

-- a task that stands so is not live
pub not_live : {L : Type 0} (seat other : Seat L) → is_live seat.standing ≡ true → seat ≡ other → is_live other.standing ≡ false → ⊥
not_live seat other h at q = true≢false (sym h ∙ ap (λ (y : Seat _). is_live y.standing) at ∙ q)

-- no offer is two
pub nothing_tells : (note : ℕ) → Nothing ≡ telling note → ⊥
nothing_tells note h = let p : ◌≡◌ {A = Offer} Nothing (Calls Plain note (pos 0)) = h in cc

pub waits_tell : {choices : List _} (note : ℕ) → Waits choices ≡ telling note → ⊥
waits_tell {choices} note h = let p : ◌≡◌ {A = Offer} (Waits choices) (Calls Plain note (pos 0)) = h in cc

pub finish_tells : (note : ℕ) → Finishes ≡ telling note → ⊥
finish_tells note h = let p : ◌≡◌ {A = Offer} Finishes (Calls Plain note (pos 0)) = h in cc

pub end_tells : (note : ℕ) → Ends ≡ telling note → ⊥
end_tells note h = let p : ◌≡◌ {A = Offer} Ends (Calls Plain note (pos 0)) = h in cc

pub abort_tells : (v note : ℕ) → Aborts v ≡ telling note → ⊥
abort_tells v note h = let p : ◌≡◌ {A = Offer} (Aborts v) (Calls Plain note (pos 0)) = h in cc

-- a task that calls before it has told so tells
based_calls : (note : ℕ) (test : CallForm → Bool) (e : ℕ) (i : ℤ) (t : ℕ) (offer : Offer) → calls_in test e i (based_offer note t offer) ≡ true → based_offer note t offer ≡ telling note
based_calls note test e i t (Calls form f j) h = refl
based_calls note test e i t Finishes h = refl
based_calls note test e i t Ends h = go (t == 0) h
  where
    go : (b : Bool) → calls_in test e i (if b then Ends else telling note) ≡ true → (if b then Ends else telling note) ≡ telling note
    go true k = absurd (true≢false (sym k))
    go false k = refl
based_calls note test e i t offer h = absurd (true≢false (sym h))

-- the main program alone ends before it has told so
based_ends : (note : ℕ) (t : ℕ) (offer : Offer) → is_end (based_offer note t offer) ≡ true → (t ≡ 0) × (offer ≡ Ends)
based_ends note t Ends h = go (t == 0) refl h
  where
    go : (b : Bool) → (t == 0) ≡ b → is_end (if b then Ends else telling note) ≡ true → (t ≡ 0) × (Ends ≡ Ends)
    go true q k = (eqb-true t 0 q, refl)
    go false q k = absurd (true≢false (sym k))
based_ends note t offer h = absurd (true≢false (sym h))

module _ {o : Original} (x : Setting o) where
  module _ (b : Book) (w : ℕ → Seat (Copy o.L)) (d : ℕ → Seat o.L) (t : ℕ) (k : Copy o.L) (own : OwnAt x b w d t k) where
    -- The task is based, and the original's passes the test.
    pub record BasedOn (test : Offer → Bool) : Type 0 where
      pub l : o.L
      pub is : k ≡ Based t l
      pub at : d t ≡ live l
      pub passes : test (o.p.ops.offer l) ≡ true

    -- the offer in this state, where it passes the test
    passing : (test : Offer → Bool) (m : Copy o.L) → k ≡ m → test (copy_offer o.p x.note k) ≡ true → test (copy_offer o.p x.note m) ≡ true
    passing test m q h = ap (λ j. test (copy_offer o.p x.note j)) (sym q) ∙ h

    -- What no note, call or end passes, only a task at a wait, or at an abort statement, offers.
    pub based_on : (test : Offer → Bool) → test (telling x.note) ≡ false → ((form : CallForm) (e : ℕ) (i : ℤ) → test (Calls form e i) ≡ false) →
        test Finishes ≡ false → test Ends ≡ false →
        test (copy_offer o.p x.note k) ≡ true → BasedOn test
    based_on test tells calls finishes ends h = go own
      where
        clash : (m : Copy o.L) → k ≡ m → test (copy_offer o.p x.note m) ≡ false → BasedOn test
        clash m q f = absurd (true≢false (sym (passing test m q h) ∙ f))

        go : OwnAt x b w d t k → BasedOn test
        go (OwnBased l q at) = record { l = l; is = q; at = at; passes = based_passes x.note test t (o.p.ops.offer l) tells (passing test (Based t l) q h) }
        go (OwnCalling l form e i q offer at met) = clash (Calling t l) q (ap test offer ∙ calls form e i)
        go (OwnOwing l due q at due') = clash (Owing t due l) q tells
        go (OwnEnding l v c outer q offer has at apart together) = clash (Ending t l) q finishes
        go (OwnLeaving l q offer other at) = clash (Leaving t l) q ends

    pub waits_at : (test : Choice → Bool) → waits_with test (copy_offer o.p x.note k) ≡ true → BasedOn (waits_with test)
    waits_at test h = based_on (waits_with test) refl (λ form e i. refl) refl refl h

    pub aborts_at : (v : ℕ) → aborts v (copy_offer o.p x.note k) ≡ true → BasedOn (aborts v)
    aborts_at v h = based_on (aborts v) refl (λ form e i. refl) refl refl h

    -- The task calls: an original entry, or the recorder's.
    pub record CallingOn (test : CallForm → Bool) (e : ℕ) (i : ℤ) : Type 0 where
      pub l : o.L
      pub is : k ≡ Calling t l
      pub at : d t ≡ live l
      pub met : b.met t ≡ false
      pub calls : calls_in test e i (o.p.ops.offer l) ≡ true

    pub record TellingOn (test : CallForm → Bool) (e : ℕ) : Type 0 where
      pub tells : copy_offer o.p x.note k ≡ telling x.note
      pub entry : e ≡ x.note
      pub plain : test Plain ≡ true

    pub calls_at : (test : CallForm → Bool) (e : ℕ) (i : ℤ) → calls_in test e i (copy_offer o.p x.note k) ≡ true → CallingOn test e i ⊎ TellingOn test e
    calls_at test e i h = go own
      where
        told : copy_offer o.p x.note k ≡ telling x.note → CallingOn test e i ⊎ TellingOn test e
        told q =
            let g = and_parts (test Plain) (same_member e i x.note (pos 0)) (ap (calls_in test e i) (sym q) ∙ h) in
            inr (record { tells = q; entry = (same_member-true e x.note i (pos 0) g.1).0; plain = g.0 })

        clash : (m : Copy o.L) → k ≡ m → calls_in test e i (copy_offer o.p x.note m) ≡ false → CallingOn test e i ⊎ TellingOn test e
        clash m q f = absurd (true≢false (sym (passing (calls_in test e i) m q h) ∙ f))

        go : OwnAt x b w d t k → CallingOn test e i ⊎ TellingOn test e
        go (OwnBased l q at) = told (ap (copy_offer o.p x.note) q ∙ based_calls x.note test e i t (o.p.ops.offer l) (passing (calls_in test e i) (Based t l) q h))
        go (OwnCalling l form f j q offer at met) = inl (record { l = l; is = q; at = at; met = met; calls = passing (calls_in test e i) (Calling t l) q h })
        go (OwnOwing l due q at due') = told (ap (copy_offer o.p x.note) q)
        go (OwnEnding l v c outer q offer has at apart together) = clash (Ending t l) q refl
        go (OwnLeaving l q offer other at) = clash (Leaving t l) q refl

    -- The task is at the end of an accept body, and has told so.
    pub record EndingOn : Type 0 where
      pub l : o.L
      pub v : o.L
      pub c : ℕ
      pub outer : List ℕ
      pub is : k ≡ Ending t l
      pub has : o.p.ops.callers l ≡ c ∷ outer
      pub at : d t ≡ live (o.p.ops.finished l)
      pub apart : StandsApart x b w d t c v (o.p.ops.resumed l v) true
      pub together : CameTogether o t c l v

    pub finish_at : is_finish (copy_offer o.p x.note k) ≡ true → EndingOn
    finish_at h = go own
      where
        clash : (m : Copy o.L) → k ≡ m → is_finish (copy_offer o.p x.note m) ≡ false → EndingOn
        clash m q f = absurd (true≢false (sym (passing is_finish m q h) ∙ f))

        go : OwnAt x b w d t k → EndingOn
        go (OwnBased l q at) = clash (Based t l) q (based_no_finish x.note t (o.p.ops.offer l))
        go (OwnCalling l form e i q offer at met) = clash (Calling t l) q (ap is_finish offer)
        go (OwnOwing l due q at due') = clash (Owing t due l) q refl
        go (OwnEnding l v c outer q offer has at apart together) = record { l = l; v = v; c = c; outer = outer; is = q; has = has; at = at; apart = apart; together = together }
        go (OwnLeaving l q offer other at) = clash (Leaving t l) q refl

    -- The task is at its end: it has told so, or is the main program.
    pub record LeavingOn : Type 0 where
      pub l : o.L
      pub is : k ≡ Leaving t l
      pub other : t ≡ 0 → ⊥
      pub at : d t ≡ completed l

    pub record MainOn : Type 0 where
      pub l : o.L
      pub is : k ≡ Based t l
      pub main : t ≡ 0
      pub at : d t ≡ live l
      pub ends : o.p.ops.offer l ≡ Ends

    pub end_at : is_end (copy_offer o.p x.note k) ≡ true → MainOn ⊎ LeavingOn
    end_at h = go own
      where
        clash : (m : Copy o.L) → k ≡ m → is_end (copy_offer o.p x.note m) ≡ false → MainOn ⊎ LeavingOn
        clash m q f = absurd (true≢false (sym (passing is_end m q h) ∙ f))

        go : OwnAt x b w d t k → MainOn ⊎ LeavingOn
        go (OwnBased l q at) =
            let g = based_ends x.note t (o.p.ops.offer l) (passing is_end (Based t l) q h) in
            inl (record { l = l; is = q; main = g.0; at = at; ends = g.1 })
        go (OwnCalling l form e i q offer at met) = clash (Calling t l) q (ap is_end offer)
        go (OwnOwing l due q at due') = clash (Owing t due l) q refl
        go (OwnEnding l v c outer q offer has at apart together) = clash (Ending t l) q refl
        go (OwnLeaving l q offer other at) = inr (record { l = l; is = q; other = other; at = at })

  -- ---- in a world

  module _ (past : List Event) (r : Copy o.L) (d : World o.L) (w : World (Copy o.L)) (inv : Inv x past r d w) where
    -- A live task is an original one, or the recorder.
    pub data IsFree (t : ℕ) : Type 0 where
      FreeOwn : t < o.p.size → (k : Copy o.L) → w.tasks t ≡ live k → OwnAt x (book_of r) w.tasks d.tasks t k → IsFree t
      FreeRecorder : t ≡ recorder x → IsFree t

    pub free_task : (t : ℕ) → is_live (w.tasks t).standing ≡ true → IsFree t
    free_task t h = ⊎_elim below (λ (m : o.p.size ≤ t). ⊎_elim (at_end m) beyond (cases_lt t (suc o.p.size))) (cases_lt t o.p.size)
      where
        below : t < o.p.size → IsFree t
        below l = go (inv.seats t l)
          where
            go : SeatAt x (book_of r) w.tasks d.tasks r t → IsFree t
            go (Free k at own) = FreeOwn l k at own
            go (Telling k at hears own was) = absurd (not_live (w.tasks t) (record { local = k; standing = Served (recorder x) false }) h at refl)
            go (Shared a v m at here met) = absurd (not_live (w.tasks t) (record { local = Calling t v; standing = Served a false }) h at refl)
            go (Apart a v m at free outs same) = absurd (not_live (w.tasks t) (record { local = Calling t v; standing = Served a false }) h at refl)
            go (Gone v at here) = absurd (not_live (w.tasks t) (completed (Leaving t v)) h at refl)

        at_end : o.p.size ≤ t → t < suc o.p.size → IsFree t
        at_end m l = FreeRecorder (let e : t ≡ recorder x = omega (arith, m, l) in e)

        beyond : suc o.p.size ≤ t → IsFree t
        beyond m = absurd (go (w.tasks t).standing h (inv.beyond t m))
          where
            go : (s : Standing) → is_live s ≡ true → is_completed s ≡ true → ⊥
            go Live p q = true≢false (sym q)
            go s p q = true≢false (sym p)

    -- who tells was free in the original, in the state where it is
    pub came_free : (t : ℕ) (k : Copy o.L) → OwnAt x (book_of r) w.tasks d.tasks t k → copy_offer o.p x.note k ≡ telling x.note → CameFree o t (under o.p.ops.nobody k)
    came_free t k own tells = go own
      where
        free : (m : Copy o.L) → k ≡ m → d.tasks t ≡ live (under o.p.ops.nobody m) → CameFree o t (under o.p.ops.nobody k)
        free m q at = record { d = d; come = reached_come o past d inv.reached; runs = inv.runs; at = at ∙ ap (λ j. live (under o.p.ops.nobody j)) (sym q) }

        go : OwnAt x (book_of r) w.tasks d.tasks t k → CameFree o t (under o.p.ops.nobody k)
        go (OwnBased l q at) = free (Based t l) q at
        go (OwnCalling l form e i q offer at met) = free (Calling t l) q at
        go (OwnOwing l due q at h) = free (Owing t due l) q at
        go (OwnEnding l v c outer q offer has at h together) = absurd (finish_tells x.note (ap (copy_offer o.p x.note) (sym q) ∙ tells))
        go (OwnLeaving l q offer other at) = absurd (end_tells x.note (ap (copy_offer o.p x.note) (sym q) ∙ tells))

    -- What a test on an offer says: who offers is in such a state.
    pub data Offers (test : Offer → Bool) (t : ℕ) : Type 0 where
      OffersOwn : t < o.p.size → (k : Copy o.L) → w.tasks t ≡ live k → OwnAt x (book_of r) w.tasks d.tasks t k → test (copy_offer o.p x.note k) ≡ true → Offers test t
      OffersRecorder : t ≡ recorder x → test (copy_offer o.p x.note r) ≡ true → Offers test t

    pub offers_by : (test : Offer → Bool) (t : ℕ) → offers (twin x).ops test (w.tasks t) ≡ true → Offers test t
    offers_by test t h =
        let p = offers_live (twin x).ops test (w.tasks t) h in
        go p.1 (free_task t p.0)
      where
        go : test (copy_offer o.p x.note (w.tasks t).local) ≡ true → IsFree t → Offers test t
        go p (FreeOwn l k at own) = OffersOwn l k at own (ap (λ (y : Seat (Copy o.L)). test (copy_offer o.p x.note y.local)) (sym at) ∙ p)
        go p (FreeRecorder e) = OffersRecorder e (ap (λ (y : Seat (Copy o.L)). test (copy_offer o.p x.note y.local)) (sym (ap w.tasks e ∙ inv.at)) ∙ p)
