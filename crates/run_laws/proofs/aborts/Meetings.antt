-- A rendezvous of the copy starts or ends: of two original tasks, or of one with the recorder. The original does nothing.
use Rattle.std.proofs.Common.{◌≡◌, ℕ, suc, ◌<◌, ◌≤◌, true, false, ◌==◌, List, [], refl, sym, ap, ◌∙◌, subst, ⊎_elim, true≢false, arith}
use Rattle.std.specs.Prelude.{ℤ}
use Rattle.std.proofs.lemmas.Bool.{eqb-true, and_parts, cases_lt, ne_eqb}
use Rattle.event_machine.specs.declared.CallForm.{CallForm}
use Rattle.event_machine.specs.declared.Standing.{Standing}
use Rattle.event_machine.specs.declared.Standing.TheVariants.{Live, Served}
use Rattle.event_machine.specs.declared.Event.{Event}
use Rattle.event_machine.specs.declared.Event.TheVariants.{R}
use Rattle.event_machine.specs.Offers.{Calls, calls_in, is_any_form, waits_with, opens}
use Rattle.event_machine.specs.States.{Seat, live, is_closed, is_completed, is_served_by}
use Rattle.event_machine.specs.Soundness.{IsSound}
use Rattle.event_machine.specs.Worlds.{World, Happen, moved, happens, offers}
use Rattle.event_machine.proofs.Offering.{calls_is}
use Rattle.event_machine.proofs.Standings.{served_one}
use Rattle.run_laws.specs.imitation.Imitations.{Original}
use Rattle.run_laws.proofs.replaying.Facts.{below_apart, put}
use Rattle.run_laws.specs.collecting.Notes.{pieces}
use Rattle.run_laws.specs.collecting.Copies.{telling}
use Rattle.run_laws.specs.collecting.Settings.{IsOfTask}
use Rattle.run_laws.proofs.collecting.Reaching.{reached_come}
use Rattle.run_laws.proofs.collecting.Meetings.{start_is}
use Rattle.run_laws.specs.aborts.Notes.{Book, line_of}
use Rattle.run_laws.specs.aborts.Copies.{Due, Begun, Returned, Over, Copy, Based, Calling, Owing, Recording, Writing, note_of, copy_offer}
use Rattle.run_laws.specs.aborts.Settings.{Setting, recorder, twin, IsProperCopy}
use Rattle.run_laws.specs.aborts.inner.Beside.{book_of, Hears, OwnAt, OwnOwing, Free, Telling, Apart, RecorderAt, AreBegun, AreOver, Inv, IsBeside}
use Rattle.run_laws.proofs.aborts.Reading.{is_calling, is_owing, is_back, begun_caller, begun_state, due_of, differ}
use Rattle.run_laws.proofs.aborts.Frames.{own_on}
use Rattle.run_laws.proofs.aborts.Offered.{BasedOn, waits_at, CallingOn, TellingOn, calls_at, Offers, OffersOwn, OffersRecorder, offers_by, came_free}
use Rattle.run_laws.proofs.aborts.Singles.{RecorderOffers, IsRecording, IsNoted, IsStriking, recorder_offers, offers_own, of_task}
use Rattle.run_laws.proofs.aborts.Pairs.{pair_tasks, pair_last, pair_first, pair_other, pair_each, pair_begun, pair_over, pair_acts, records_pair}
use Rattle.common_lemmas.proofs.Numbers.{equal_self, unequal_above}

-- who completes is served by nobody
pub completed_unserved : (a : ℕ) (z : Standing) → is_completed z ≡ true → is_served_by a z ≡ true → ⊥
completed_unserved a (Served by abnormal) p r = true≢false (sym p)
completed_unserved a z p r = true≢false (sym r)

-- one task serves it
pub served_by_one : (a b : ℕ) (s : Standing) → is_served_by a s ≡ true → is_served_by b s ≡ true → a ≡ b
served_by_one a b s p q = eqb-true a b (sym (served_one a b s p) ∙ q)

module _ {o : Original} (x : Setting o) (past : List Event) (r : Copy o.L) (d : World o.L) (w : World (Copy o.L)) (inv : Inv x past r d w) (runs : w.ended ≡ false)
    (sound : IsSound (twin x).ops (IsProperCopy o) w.tasks) where
  -- the recorder is live
  recorder_live : (w.tasks (recorder x)).standing ≡ Live
  recorder_live = ap (λ (y : Seat (Copy o.L)). y.standing) inv.at

  below_sound : IsSound o.p.ops o.IsProper d.tasks
  below_sound = (reached_come o past d inv.reached).sound

  -- a live task is served by nobody
  pub free_unserved : (u : ℕ) (k : Copy o.L) → w.tasks u ≡ live k → (t : ℕ) → is_served_by t (w.tasks u).standing ≡ false
  free_unserved u k at t = ap (λ (y : Seat (Copy o.L)). is_served_by t y.standing) at

  -- who is served is an original task
  pub served_below : (c a : ℕ) → is_served_by a (w.tasks c).standing ≡ true → c < o.p.size
  served_below c a h = ⊎_elim (λ (l : c < o.p.size). l) (λ (m : o.p.size ≤ c). ⊎_elim (at_end m) (λ k. absurd (completed_unserved a (w.tasks c).standing
      (inv.beyond c k) h)) (cases_lt c (suc o.p.size)))
      (cases_lt c o.p.size)
    where
      at_end : o.p.size ≤ c → c < suc o.p.size → c < o.p.size
      at_end m l =
          let e : c ≡ recorder x = omega (arith, m, l) in
          absurd (true≢false (sym h ∙ ap (λ u. is_served_by a (w.tasks u).standing) e ∙ ap (is_served_by a) recorder_live))

  -- the recorder is to tell nothing
  pub recorder_owes_none : (u : ℕ) (due : Due o.L) (l : o.L) → r ≡ Owing u due l → ⊥
  recorder_owes_none u due l q = subst (RecorderAt x past w.tasks) q inv.records

  -- ---- the recorder hears a note

  module _ (b : Book) (q : r ≡ Recording b) (c : ℕ) (below : c < o.p.size) (k : Copy o.L) (at : w.tasks c ≡ live k) (own : OwnAt x (book_of r) d.tasks c k)
      (tells : copy_offer o.p x.note k ≡ telling x.note) where
    abbrev pub hearing : Copy o.L
    hearing = Writing c b (note_of o.p x.pends k) [] (pieces x.lines (line_of b (note_of o.p x.pends k)))

    apart : (c == recorder x) ≡ false
    apart = below_apart c (recorder x) below

    abbrev teller : Seat (Copy o.L)
    teller = record { local = k; standing = Served (recorder x) false }

    abbrev hearer : Seat (Copy o.L)
    hearer = live hearing

    abbrev heard_tasks : ℕ → Seat (Copy o.L)
    heard_tasks = pair_tasks x past r d w inv runs c (recorder x) apart (omega (arith, below)) (omega arith) teller hearer

    local : (w.tasks c).local ≡ k
    local = ap (λ (s : Seat (Copy o.L)). s.local) at

    hears_begun : AreBegun x heard_tasks
    hears_begun = pair_begun x past r d w inv runs c (recorder x) apart (omega (arith, below)) (omega arith) teller hearer
        (λ t e i l v p s. absurd (differ is_owing (Owing t (Begun c e i v) l) hearing refl refl (sym (ap (λ (f : Seat (Copy o.L)). f.local) (sym (at_t t s)) ∙ p))))
        (λ t e i l v p s. absurd (true≢false (sym s)))
        (λ u e i l v f g p s. inv.begun c u e i l v (local ∙ p) s)
        (λ u e i l v f g p s. absurd (differ is_owing (Owing (recorder x) (Begun u e i v) l) hearing refl refl (sym p)))
      where
        -- the recorder alone serves it
        at_t : (t : ℕ) → is_served_by t teller.standing ≡ true → heard_tasks t ≡ hearer
        at_t t s = ap heard_tasks (sym (eqb-true (recorder x) t s)) ∙ pair_first x past r d w inv runs c (recorder x) apart (omega (arith, below)) (omega arith) teller hearer

    hears_over : AreOver x heard_tasks d.tasks
    hears_over = pair_over x past r d w inv runs c (recorder x) apart (omega (arith, below)) (omega arith) teller hearer
        (λ t m v p open' s.
        let g : ((w.tasks t).local ≡ Owing t (Over c) m) × (d.tasks t ≡ live m) = inv.over t c m v (local ∙ p) (ap (λ (f : Seat (Copy o.L)). is_closed f.standing) at) s in
        (still t m v p g.0, g.1))
        (λ t m v p open' s. absurd (differ is_owing (Owing (recorder x) (Returned m) v) hearing refl refl (sym p)))
        (λ u m v p open' s at' here. sym local ∙ at')
        (λ u m v p open' s at' here. absurd (recorder_owes_none (recorder x) (Over u) m (sym (ap (λ (f : Seat (Copy o.L)). f.local) inv.at) ∙ at')))
      where
        still : (t : ℕ) (m v : o.L) → k ≡ Owing c (Returned m) v → (w.tasks t).local ≡ Owing t (Over c) m → (heard_tasks t).local ≡ Owing t (Over c) m
        still t m v p h = pair_each x past r d w inv runs c (recorder x) apart (omega (arith, below)) (omega arith) teller hearer
            (λ u s. (w.tasks u).local ≡ Owing u (Over c) m → s.local ≡ Owing u (Over c) m)
            (λ f. sym local ∙ f)
            (λ f. absurd (recorder_owes_none (recorder x) (Over c) m (sym (ap (λ (f : Seat (Copy o.L)). f.local) inv.at) ∙ f)))
            (λ u f g h. h) t h

    pub hears_inv : Inv x past hearing d (record { tasks = put (put w.tasks (recorder x) (live hearing)) c (record { local = k; standing = Served (recorder x) false }); ended = w.ended })
    hears_inv =
        let in_c : c < suc o.p.size = omega (arith, below) in
        let in_r : recorder x < suc o.p.size = omega arith in
        pair_acts x past r d w inv runs c (recorder x) apart in_c in_r teller hearer hearing (ap book_of (sym q))
        (λ t j p f h. absurd (subst (λ s. Hears x s t j) q h))
        (λ l. Telling k (pair_last x past r d w inv runs c (recorder x) apart in_c in_r teller hearer) (refl, refl, tells)
        (own_on x (book_of r) b w.tasks heard_tasks d.tasks d.tasks c k refl (ap (λ s. (book_of s).met c) (sym q)) (λ u h. h) own)
        (came_free x past r d w inv c k own tells))
        (λ l. absurd (omega (arith, l)))
        hears_begun hears_over
        (pair_first x past r d w inv runs c (recorder x) apart in_c in_r teller hearer)
        (subst (λ s. RecorderAt x past w.tasks s) q inv.records, below, ap (λ (s : Seat (Copy o.L)). s.standing) (pair_last x past r d w inv runs c (recorder x) apart in_c in_r teller hearer), refl)

  -- ---- an original task accepts another

  module _ (c a e : ℕ) (i : ℤ) (l m : o.L) (form : CallForm) (below : c < o.p.size) (below' : a < o.p.size) (at : w.tasks c ≡ live (Calling c l)) (at' : w.tasks a ≡ live (Based a m))
      (here : d.tasks c ≡ live l) (here' : d.tasks a ≡ live m) (met : (book_of r).met c ≡ 0) (owns : o.p.owner e ≡ a)
      (offer : o.p.ops.offer l ≡ Calls form e i) (calls : calls_in is_any_form e i (o.p.ops.offer l) ≡ true) (waits : waits_with (opens e i) (o.p.ops.offer m) ≡ true) (other : (c == a) ≡ false) where
    abbrev due : Copy o.L
    due = Owing a (Begun c e i l) m

    abbrev caller : Seat (Copy o.L)
    caller = record { local = Calling c l; standing = Served a false }

    abbrev accepting : Seat (Copy o.L)
    accepting = live due

    in_c : c < suc o.p.size
    in_c = omega (arith, below)

    in_a : a < suc o.p.size
    in_a = omega (arith, below')

    abbrev met_tasks : ℕ → Seat (Copy o.L)
    met_tasks = pair_tasks x past r d w inv runs c a other in_c in_a caller accepting

    meets_begun : AreBegun x met_tasks
    meets_begun = pair_begun x past r d w inv runs c a other in_c in_a caller accepting
        (λ t f j n v p s. ap (Calling c) (ap (λ k. begun_state l (due_of k)) (sym (at_t t s) ∙ p)))
        (λ t f j n v p s. absurd (true≢false (sym s)))
        (λ u f j n v g h p s. absurd (differ is_owing (Owing c (Begun u f j v) n) (Calling c l) refl refl (sym p)))
        (λ u f j n v g h p s. absurd (true≢false (sym (ap (λ t. t == c) (ap (λ k. begun_caller (due_of k)) (sym p)) ∙ equal_self c) ∙ g)))
      where
        at_t : (t : ℕ) → is_served_by t caller.standing ≡ true → (met_tasks t).local ≡ due
        at_t t s = ap (λ u. (met_tasks u).local) (sym (eqb-true a t s)) ∙ ap (λ (f : Seat (Copy o.L)). f.local) (pair_first x past r d w inv runs c a other in_c in_a caller accepting)

    meets_over : AreOver x met_tasks d.tasks
    meets_over = pair_over x past r d w inv runs c a other in_c in_a caller accepting
        (λ t n v p open' s. absurd (differ is_owing (Owing c (Returned n) v) (Calling c l) refl refl (sym p)))
        (λ t n v p open' s. absurd (differ is_back (Owing a (Returned n) v) due refl refl (sym p)))
        (λ u n v p open' s p' h. absurd (differ is_owing (Owing c (Over u) n) (w.tasks c).local refl (ap (λ (f : Seat (Copy o.L)). is_owing f.local) at) (sym p')))
        (λ u n v p open' s p' h. absurd (differ is_owing (Owing a (Over u) n) (w.tasks a).local refl (ap (λ (f : Seat (Copy o.L)). is_owing f.local) at') (sym p')))

    pub meets_inv : Inv x past r d (record { tasks = put (put w.tasks a (live due)) c (record { local = Calling c l; standing = Served a false }); ended = w.ended })
    meets_inv = pair_acts x past r d w inv runs c a other in_c in_a caller accepting r refl (λ t k p f h. (h, refl))
        (λ u. Apart a l form e i (pair_last x past r d w inv runs c a other in_c in_a caller accepting) offer owns here met)
        (λ u. Free due (pair_first x past r d w inv runs c a other in_c in_a caller accepting) (OwnOwing m (Begun c e i l) refl here' (calls, waits, owns)))
        meets_begun meets_over
        (pair_other x past r d w inv runs c a other in_c in_a caller accepting (recorder x) (unequal_above (recorder x) c below) (unequal_above (recorder x) a below') ∙ inv.at)
        (records_pair x past r d w inv runs c a other in_c in_a caller accepting (free_unserved c (Calling c l) at (recorder x)) (free_unserved a (Based a m) at' (recorder x)))

  -- ---- all starts

  pub meet_moves : (c e : ℕ) (i : ℤ) → happens (twin x) w.tasks (R c e i) ≡ true → IsBeside x (moved (twin x) w (Happen (R c e i)))
  meet_moves c e i h =
      let halves = and_parts (offers (twin x).ops (calls_in is_any_form e i) (w.tasks c)) (offers (twin x).ops (waits_with (opens e i)) (w.tasks (x.owner e))) h in
      let (below, (k, at, own, passes)) = offers_own x past r d w inv (calls_in is_any_form e i) c refl refl refl (λ v. refl) halves.0 in
      let by : Offers x past r d w inv (waits_with (opens e i)) (x.owner e) = offers_by x past r d w inv (waits_with (opens e i)) (x.owner e) halves.1 in
      ⊎_elim (called c e i below k at own by) (tells_it c e i below k at own by) (calls_at x (book_of r) d.tasks c k own is_any_form e i passes)
    where
      called : (c e : ℕ) (i : ℤ) → c < o.p.size → (k : Copy o.L) → w.tasks c ≡ live k → (own : OwnAt x (book_of r) d.tasks c k) →
          Offers x past r d w inv (waits_with (opens e i)) (x.owner e) →
          CallingOn x (book_of r) d.tasks c k own is_any_form e i → IsBeside x (moved (twin x) w (Happen (R c e i)))
      called c e i below k at own by g = go by
        where
          task : IsOfTask o.p.size o.p.owner x.note x.owner e
          task = of_task x past r d w inv c g.l e i g.at g.calls

          go : Offers x past r d w inv (waits_with (opens e i)) (x.owner e) → IsBeside x (moved (twin x) w (Happen (R c e i)))
          go (OffersRecorder q passes) = absurd (let n : o.p.owner e ≡ recorder x = sym task.same ∙ q in let l : o.p.owner e < o.p.size = task.task in omega (arith, n, l))
          go (OffersOwn below' m at' own' passes) =
              let a : ℕ = x.owner e in
              let f : BasedOn x (book_of r) d.tasks a m own' (waits_with (opens e i)) = waits_at x (book_of r) d.tasks a m own' (opens e i) passes in
              let (form, q, any) = calls_is is_any_form e i (o.p.ops.offer g.l) g.calls in
              let now : w.tasks c ≡ live (Calling c g.l) = at ∙ ap live g.is in
              let now' : w.tasks a ≡ live (Based a f.l) = at' ∙ ap live f.is in
              let other : (c == a) ≡ false = ne_eqb c a (λ q. differ is_calling (Calling c g.l) (Based a f.l) refl refl (ap (λ (s : Seat (Copy o.L)). s.local) (sym now ∙ ap w.tasks q ∙ now'))) in
              let inv' : Inv x past r d (record {
                tasks = put (put w.tasks a (live (Owing a (Begun c e i g.l) f.l))) c
                    (record { local = Calling c g.l; standing = Served a false });
                ended = w.ended;
              }) =
              meets_inv c a e i g.l f.l form below below' now now' g.at f.at g.met (sym task.same) q g.calls f.passes other in
              record {
                past = past;
                r = r;
                d = d;
                inv = subst (λ tasks. Inv x past r d (record { tasks = tasks; ended = w.ended })) (start_is (twin x) w.tasks c a e i (Calling c g.l) (Based a f.l)
                    (Owing a (Begun c e i g.l) f.l) refl now now' refl other) inv';
              }

      tells_it : (c e : ℕ) (i : ℤ) → c < o.p.size → (k : Copy o.L) → w.tasks c ≡ live k → (own : OwnAt x (book_of r) d.tasks c k) →
          Offers x past r d w inv (waits_with (opens e i)) (x.owner e) →
          TellingOn x (book_of r) d.tasks c k own is_any_form e → IsBeside x (moved (twin x) w (Happen (R c e i)))
      tells_it c e i below k at own by g = go by
        where
          owns : x.owner e ≡ recorder x
          owns = ap x.owner g.entry ∙ x.noted

          go : Offers x past r d w inv (waits_with (opens e i)) (x.owner e) → IsBeside x (moved (twin x) w (Happen (R c e i)))
          go (OffersOwn below' m at' own' passes) = absurd (omega (arith, owns, below'))
          go (OffersRecorder q passes) = inner (recorder_offers x past w.tasks r (waits_with (opens e i)) refl inv.records passes)
            where
              inner : RecorderOffers x r (waits_with (opens e i)) → IsBeside x (moved (twin x) w (Happen (R c e i)))
              inner (IsNoted u answer b f p) = absurd (true≢false (sym p))
              inner (IsStriking u b t v f p) = absurd (true≢false (sym p))
              inner (IsRecording b f p) =
                  let other : (c == recorder x) ≡ false = below_apart c (recorder x) below in
                  record {
                    past = past;
                    r = hearing b f c below k at own g.tells;
                    d = d;
                    inv = subst (λ tasks. Inv x past (hearing b f c below k at own g.tells) d (record { tasks = tasks; ended = w.ended }))
                        (start_is (twin x) w.tasks c (recorder x) e i k (Recording b) (hearing b f c below k at own g.tells) owns at (inv.at ∙ ap live f) refl other)
                        (hears_inv b f c below k at own g.tells);
                  }
