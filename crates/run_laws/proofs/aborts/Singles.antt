-- One task of the copy acts, and no other is touched: a local step, another part of a wait or of a call, a call that fails, the end of a task.
use Rattle.std.proofs.Common.{◌≡◌, ℕ, ◌<◌, Bool, true, false, not, ◌||◌, ◌==◌, List, [], ◌∷◌, refl, sym, ap, ◌∙◌, ⊎_elim, true≢false, arith}
use Rattle.std.specs.Prelude.{ℤ, pos}
use Rattle.std.proofs.lemmas.Bool.{and_parts, or_left, or_right, cases_Bool}
use Rattle.event_machine.specs.declared.CallForm.{CallForm}
use Rattle.event_machine.specs.declared.CallForm.TheVariants.{Plain}
use Rattle.event_machine.specs.declared.Choice.TheVariants.{Accept, Terminate}
use Rattle.event_machine.specs.declared.Standing.TheVariants.{Live, Served, Completed}
use Rattle.event_machine.specs.declared.Event.{Event}
use Rattle.event_machine.specs.declared.Event.TheVariants.{S, D, C, T, F, X}
use Rattle.event_machine.specs.Offers.{Offer, Nothing, Waits, Finishes, Aborts, calls_in, is_any_form, is_conditional, is_timed, waits_with, is_end, is_else, is_delay}
use Rattle.event_machine.specs.States.{Seat, live, completed, is_live, is_closed, is_served_by}
use Rattle.event_machine.specs.Worlds.{World, Step, Happen, can_move, moved, happens, offers}
use Rattle.event_machine.proofs.Basics.{both}
use Rattle.event_machine.proofs.Offering.{calls_is}
use Rattle.run_laws.specs.imitation.Imitations.{Original}
use Rattle.run_laws.proofs.replaying.Facts.{put, put_self, put_other}
use Rattle.run_laws.specs.collecting.Settings.{IsOfTask}
use Rattle.run_laws.specs.collecting.inner.Beside.{IsReached}
use Rattle.run_laws.proofs.collecting.Reaching.{reached_come, reach_step}
use Rattle.run_laws.proofs.collecting.Singles.{at_one}
use Rattle.run_laws.specs.aborts.Notes.{Book}
use Rattle.run_laws.specs.aborts.Copies.{Due, Begun, TookElse, TookDelay, TookOther, Failed, Returned, Over, Copy, Based, Calling, Owing, Refusing, Leaving, Opening, Recording, Writing, Striking, Noted, copy_steps, copy_stepped, copy_offer, call_owes, wait_owes}
use Rattle.run_laws.specs.aborts.Settings.{Setting, recorder, twin, out_of}
use Rattle.run_laws.specs.aborts.inner.Beside.{book_of, DueAt, OwnAt, OwnBased, OwnCalling, OwnOwing, OwnServed, OwnReturned, OwnLost, OwnOver, OwnRefusing, OwnLeaving, SeatAt, Free, Telling, Shared, Apart, Gone, RecorderAt, AreBegun, AreOver, Inv, IsBeside}
use Rattle.run_laws.proofs.aborts.Reading.{linked_due, is_linked, unlinked}
use Rattle.run_laws.proofs.aborts.Frames.{touch_inv}
use Rattle.run_laws.proofs.aborts.Offered.{BasedOn, waits_at, CallingOn, TellingOn, calls_at, MainOn, LeavingOn, end_at, Offers, OffersOwn, OffersRecorder, offers_by}
use Rattle.common_lemmas.proofs.Numbers.{equal_self, unequal_above}

-- who is live is served by nobody
pub unserved_live : {L : Type 0} (seat : Seat L) (t : ℕ) → seat.standing ≡ Live → is_served_by t seat.standing ≡ false
unserved_live seat t free = ap (is_served_by t) free

module _ {o : Original} (x : Setting o) where
  -- the recorder's state stays where the task that it serves is served still
  pub records_on : (past : List Event) (r : Copy o.L) (w w' : ℕ → Seat (Copy o.L)) →
      ((c : ℕ) → is_served_by (recorder x) (w c).standing ≡ true → (w' c).standing ≡ (w c).standing) →
      RecorderAt x past w r → RecorderAt x past w' r
  records_on past Opening w w' h k = k
  records_on past (Recording b) w w' h k = k
  records_on past (Writing c b note done left) w w' h k = (k.0, k.1, h c (ap (is_served_by (recorder x)) k.2 ∙ equal_self (recorder x)) ∙ k.2, k.3)
  records_on past (Striking c b t v) w w' h k = (k.0, k.1, h c (ap (is_served_by (recorder x)) k.2 ∙ equal_self (recorder x)) ∙ k.2)
  records_on past (Noted c answer b) w w' h k = (k.0, k.1, ap (is_served_by (recorder x)) (h c k.2) ∙ k.2)
  records_on past r w w' h k = absurd k

  -- What the recorder offers: it waits for a note, is at the end of its accept body, or is to abort.
  pub data RecorderOffers (r : Copy o.L) (test : Offer → Bool) : Type 0 where
    IsRecording : (b : Book) → r ≡ Recording b → test (Waits (Accept x.note (pos 0) ∷ Terminate ∷ [])) ≡ true → RecorderOffers r test
    IsNoted : (c : ℕ) (answer : Bool) (b : Book) → r ≡ Noted c answer b → test Finishes ≡ true → RecorderOffers r test
    IsStriking : (c : ℕ) (b : Book) (t v : ℕ) → r ≡ Striking c b t v → test (Aborts v) ≡ true → RecorderOffers r test

  pub recorder_offers : (past : List Event) (w : ℕ → Seat (Copy o.L)) (r : Copy o.L) (test : Offer → Bool) → test Nothing ≡ false → RecorderAt x past w r →
      test (copy_offer o.p x.note r) ≡ true →
      RecorderOffers r test
  recorder_offers past w Opening test none k h = absurd (true≢false (sym h ∙ none))
  recorder_offers past w (Recording b) test none k h = IsRecording b refl h
  recorder_offers past w (Writing c b note done left) test none k h = absurd (true≢false (sym h ∙ none))
  recorder_offers past w (Striking c b t v) test none k h = IsStriking c b t v refl h
  recorder_offers past w (Noted c answer b) test none k h = IsNoted c answer b refl h
  recorder_offers past w r test none k h = absurd k

  module _ (past : List Event) (r : Copy o.L) (d : World o.L) (w : World (Copy o.L)) (inv : Inv x past r d w) where
    -- what neither the recorder's wait nor the end of an accept body passes, an original task offers
    pub offers_own : (test : Offer → Bool) (t : ℕ) → test Nothing ≡ false → test (Waits (Accept x.note (pos 0) ∷ Terminate ∷ [])) ≡ false → test Finishes ≡ false →
        ((v : ℕ) → test (Aborts v) ≡ false) → offers (twin x).ops test (w.tasks t) ≡ true →
        (t < o.p.size) × ((k : Copy o.L) × (w.tasks t ≡ live k) × OwnAt x (book_of r) d.tasks t k × (test (copy_offer o.p x.note k) ≡ true))
    offers_own test t none waits finishes aborts h = go (offers_by x past r d w inv test t h)
      where
        go : Offers x past r d w inv test t →
            (t < o.p.size) × ((k : Copy o.L) × (w.tasks t ≡ live k) × OwnAt x (book_of r) d.tasks t k × (test (copy_offer o.p x.note k) ≡ true))
        go (OffersOwn l k at own passes) = (l, (k, at, own, passes))
        go (OffersRecorder e passes) = absurd (clash (recorder_offers past w.tasks r test none inv.records passes))
          where
            clash : RecorderOffers r test → ⊥
            clash (IsRecording b q g) = true≢false (sym g ∙ waits)
            clash (IsNoted c answer b q g) = true≢false (sym g ∙ finishes)
            clash (IsStriking c b u v q g) = true≢false (sym g ∙ aborts v)

    -- a call of the original is of an entry of a task
    pub of_task : (t : ℕ) (l : o.L) (e : ℕ) (i : ℤ) → d.tasks t ≡ live l → calls_in is_any_form e i (o.p.ops.offer l) ≡ true → IsOfTask o.p.size o.p.owner x.note x.owner e
    of_task t l e i at calls = x.calls_tasks d (reached_come o past d inv.reached) inv.runs t e i (ap (λ (y : Seat o.L). y.standing) at)
        (ap (λ (y : Seat o.L). calls_in is_any_form e i (o.p.ops.offer y.local)) at ∙ calls)

    -- who is closed is closed in the original
    pub closed_too : (t : ℕ) → t < o.p.size → is_closed (w.tasks t).standing ≡ true → is_closed (d.tasks t).standing ≡ true
    closed_too t l h = go (inv.seats t l)
      where
        open' : (y : Seat (Copy o.L)) → w.tasks t ≡ y → is_closed y.standing ≡ false → is_closed (d.tasks t).standing ≡ true
        open' y at q = absurd (true≢false (sym h ∙ ap (λ (z : Seat (Copy o.L)). is_closed z.standing) at ∙ q))

        go : SeatAt x (book_of r) w.tasks d.tasks r t → is_closed (d.tasks t).standing ≡ true
        go (Free k at own) = open' (live k) at refl
        go (Telling k at hears own was) = open' (record { local = k; standing = Served (recorder x) false }) at refl
        go (Shared a v form e i at offer here was) = open' (record { local = Calling t v; standing = Served a false }) at refl
        go (Apart a v form e i at offer owns here met) = open' (record { local = Calling t v; standing = Served a false }) at refl
        go (Gone there here outs) = here

    -- ---- one task acts

    -- a live task that is not to tell of a rendezvous, before and after
    module _ (a : ℕ) (k : Copy o.L) (at : w.tasks a ≡ live k) (plain : is_linked k ≡ false) (y : Seat (Copy o.L)) (plain' : is_linked y.local ≡ false) (unserved :
        (u : ℕ) → is_served_by u y.standing ≡ false) where
      pub one_begun : AreBegun x (put w.tasks a y)
      one_begun t c e i l v p s = ⊎_elim
          (λ q. absurd (true≢false (sym s ∙ at_one (λ u. is_served_by t (put w.tasks a y u).standing ≡ false) c a q (ap (λ (z : Seat
          (Copy o.L)). is_served_by t z.standing) (put_self w.tasks a y) ∙ unserved t))))
          (λ q. ⊎_elim
          (λ f. absurd (unlinked (put w.tasks a y t).local t (Begun c e i v) l (at_one (λ u. is_linked (put w.tasks a y u).local ≡ false) t a f
          (ap (λ (z : Seat (Copy o.L)). is_linked z.local) (put_self w.tasks a y) ∙ plain')) refl p))
          (λ f. ap (λ (z : Seat (Copy o.L)). z.local) (put_other w.tasks a c y q) ∙
          inv.begun t c e i l v (ap (λ (z : Seat (Copy o.L)). z.local) (sym (put_other w.tasks a t y f)) ∙
          p) (ap (λ (z : Seat (Copy o.L)). is_served_by t z.standing) (sym (put_other w.tasks a c y q)) ∙ s))
          (cases_Bool (t == a)))
          (cases_Bool (c == a))

      pub one_over : (d' : ℕ → Seat o.L) → ((u : ℕ) → (u == a) ≡ false → d' u ≡ d.tasks u) → AreOver x (put w.tasks a y) d'
      one_over d' others u c m v p open' s = ⊎_elim
          (λ q. absurd (unlinked (put w.tasks a y c).local c (Returned m) v (at_one (λ z. is_linked (put w.tasks a y z).local ≡ false) c a q
          (ap (λ (z : Seat (Copy o.L)). is_linked z.local) (put_self w.tasks a y) ∙ plain')) refl p))
          (λ q.
          let g : ((w.tasks u).local ≡ Owing u (Over c) m) × (d.tasks u ≡ live m) = inv.over u c m v
          (ap (λ (z : Seat (Copy o.L)). z.local) (sym (put_other w.tasks a c y q)) ∙ p)
          (ap (λ (z : Seat (Copy o.L)). is_closed z.standing) (sym (put_other w.tasks a c y q)) ∙ open')
          (ap (λ (z : Seat o.L). is_served_by u z.standing) (sym (others c q)) ∙ s) in
          ⊎_elim
          (λ f. absurd (unlinked (w.tasks u).local u (Over c) m (at_one (λ z. is_linked (w.tasks z).local ≡ false) u a f (ap (λ (z : Seat (Copy o.L)). is_linked z.local) at ∙ plain)) refl g.0))
          (λ f. (ap (λ (z : Seat (Copy o.L)). z.local) (put_other w.tasks a u y f) ∙ g.0, others u f ∙ g.1))
          (cases_Bool (u == a)))
          (cases_Bool (c == a))

    module _ (runs : w.ended ≡ false) (a : ℕ) (below : a < o.p.size) (k : Copy o.L) (at : w.tasks a ≡ live k) (plain : is_linked k ≡ false) where
      free : (w.tasks a).standing ≡ Live
      free = ap (λ (y : Seat (Copy o.L)). y.standing) at

      -- it is not to tell of a rendezvous, before and after
      module _ (y : Seat (Copy o.L)) (plain' : is_linked y.local ≡ false) (unserved : (u : ℕ) → is_served_by u y.standing ≡ false) where
        pub one_acts : (d' : World o.L) → IsReached o past d' → d'.ended ≡ false → ((u : ℕ) → (u == a) ≡ false → d'.tasks u ≡ d.tasks u) →
            is_closed (d'.tasks a).standing ≡ is_closed (d.tasks a).standing → ((u : ℕ) → is_served_by u (d'.tasks a).standing ≡ is_served_by u (d.tasks a).standing) →
            SeatAt x (book_of r) (put w.tasks a y) d'.tasks r a →
            Inv x past r d' (record { tasks = put w.tasks a y; ended = w.ended })
        one_acts d' reached goes_on others closed served seat = touch_inv x past past r r d d' w (record { tasks = put w.tasks a y; ended = w.ended }) inv (record {
          touched = λ u. u == a;
          same = λ u q. record { there = put_other w.tasks a u y q; here = others u q; met = refl; acceptor = refl };
          closed = λ u h. same_closed u ∙ h;
          hears = λ t j q h. (h, refl);
          seats = λ t l q. at_one (SeatAt x (book_of r) (put w.tasks a y) d'.tasks r) t a q seat;
          gone = λ t l. inv.gone t l ∙ sym (same_closed t);
          serves = λ u t l q. inv.serves u t l ∙ sym (at_one (λ z. is_served_by u (d'.tasks z).standing ≡ is_served_by u (d.tasks z).standing) t a q (served u));
          begun = one_begun a k at plain y plain' unserved;
          over = one_over a k at plain y plain' unserved d'.tasks others;
          reached = reached;
          runs = goes_on;
          ends = λ h. absurd (true≢false (sym h ∙ runs));
          at = put_other w.tasks a (recorder x) y (unequal_above (recorder x) a below) ∙ inv.at;
          records = records_on past r w.tasks (put w.tasks a y) (λ c h. ap (λ (z : Seat (Copy o.L)). z.standing) (put_other w.tasks a c y (apart c h))) inv.records;
          beyond = λ t l. unequal_above t a (omega (arith, l, below));
        })
          where
            same_closed : (u : ℕ) → is_closed (d'.tasks u).standing ≡ is_closed (d.tasks u).standing
            same_closed u = ⊎_elim (λ q. at_one (λ v. is_closed (d'.tasks v).standing ≡ is_closed (d.tasks v).standing) u a q closed) (λ q. ap
                (λ (z : Seat o.L). is_closed z.standing) (others u q)) (cases_Bool (u == a))

            apart : (c : ℕ) → is_served_by (recorder x) (w.tasks c).standing ≡ true → (c == a) ≡ false
            apart c h = ⊎_elim (λ q. absurd (true≢false (sym h ∙ at_one (λ u. is_served_by (recorder x) (w.tasks u).standing ≡ false) c a q (unserved_live (w.tasks a)
                (recorder x) free)))) (λ q. q) (cases_Bool (c == a))

        -- The original does nothing.
        pub alone_acts : SeatAt x (book_of r) (put w.tasks a y) d.tasks r a → Inv x past r d (record { tasks = put w.tasks a y; ended = w.ended })
        alone_acts seat = one_acts d inv.reached inv.runs (λ u q. refl) refl (λ u. refl) seat

      -- It is to tell what it has done.
      pub owes : (m : Copy o.L) (l : o.L) (due : Due o.L) → m ≡ Owing a due l → linked_due due ≡ false → d.tasks a ≡ live l →
          DueAt x (book_of r) d.tasks a l due → IsBeside x (record { tasks = put w.tasks a (live m); ended = w.ended })
      owes m l due q other here h = record {
        past = past;
        r = r;
        d = d;
        inv = alone_acts (live m) (ap is_linked q ∙
            other) (λ u. refl) (Free m (put_self w.tasks a (live m)) (OwnOwing l due q here h));
      }

    module _ (runs : w.ended ≡ false) where
      -- what a function makes of a task's state
      made : (f : Copy o.L → Copy o.L) (a : ℕ) (k m : Copy o.L) → w.tasks a ≡ live k → k ≡ m → f (w.tasks a).local ≡ f m
      made f a k m at q = ap (λ (y : Seat (Copy o.L)). f y.local) at ∙ ap f q

      pub else_moves : (a : ℕ) → happens (twin x) w.tasks (S a) ≡ true → IsBeside x (moved (twin x) w (Happen (S a)))
      else_moves a h =
          let (below, (k, at, own, passes)) = offers_own (waits_with is_else) a refl refl refl (λ v. refl) h in
          let g : BasedOn x (book_of r) d.tasks a k own (waits_with is_else) = waits_at x (book_of r) d.tasks a k own is_else passes in
          owes runs a below k at (ap is_linked g.is) (wait_owes TookElse TookOther (w.tasks a).local) g.l TookElse (made (wait_owes TookElse TookOther) a k (Based a g.l) at g.is) refl g.at g.passes

      pub delay_moves : (a j : ℕ) → happens (twin x) w.tasks (D a j) ≡ true → IsBeside x (moved (twin x) w (Happen (D a j)))
      delay_moves a j h =
          let (below, (k, at, own, passes)) = offers_own (waits_with (is_delay j)) a refl refl refl (λ v. refl) h in
          let g : BasedOn x (book_of r) d.tasks a k own (waits_with (is_delay j)) = waits_at x (book_of r) d.tasks a k own (is_delay j) passes in
          owes runs a below k at (ap is_linked g.is) (wait_owes (TookDelay j) TookOther (w.tasks a).local) g.l (TookDelay j) (made (wait_owes (TookDelay j) TookOther) a k
          (Based a g.l) at g.is) refl g.at g.passes

      -- the other part of a call is taken: no note is a call of that form
      other_moves : (test : CallForm → Bool) (due : Due o.L) (c e : ℕ) (i : ℤ) → test Plain ≡ false →
          ((form : CallForm) → test form ≡ true → (is_conditional form || is_timed form) ≡ true) →
          offers (twin x).ops (calls_in test e i) (w.tasks c) ≡ true → IsBeside x (record { tasks = put w.tasks c (live (wait_owes due TookOther (w.tasks c).local)); ended = w.ended })
      other_moves test due c e i plain forms h =
          let (below, (k, at, own, passes)) = offers_own (calls_in test e i) c refl refl refl (λ v. refl) h in
          ⊎_elim
          (λ (g : CallingOn x (book_of r) d.tasks c k own test e i).
          let (form, q, f) = calls_is test e i (o.p.ops.offer g.l) g.calls in
          owes runs c below k at (ap is_linked g.is) (wait_owes due TookOther (w.tasks c).local) g.l TookOther (made (wait_owes due TookOther) c k
          (Calling c g.l) at g.is) refl g.at (form, e, i, q, forms form f))
          (λ (g : TellingOn x (book_of r) d.tasks c k own test e). absurd (true≢false (sym g.plain ∙ plain)))
          (calls_at x (book_of r) d.tasks c k own test e i passes)

      pub call_else_moves : (c e : ℕ) (i : ℤ) → happens (twin x) w.tasks (C c e i) ≡ true → IsBeside x (moved (twin x) w (Happen (C c e i)))
      call_else_moves c e i h = other_moves is_conditional TookElse c e i refl (λ form f. or_left (is_conditional form) (is_timed form) f)
          (and_parts (offers (twin x).ops (calls_in is_conditional e i) (w.tasks c)) (not (is_closed (w.tasks (x.owner e)).standing)) h).0

      pub expire_moves : (c e : ℕ) (i : ℤ) → happens (twin x) w.tasks (T c e i) ≡ true → IsBeside x (moved (twin x) w (Happen (T c e i)))
      expire_moves c e i h = other_moves is_timed (TookDelay 1) c e i refl (λ form f. or_right (is_conditional form) (is_timed form) f)
          (and_parts (offers (twin x).ops (calls_in is_timed e i) (w.tasks c)) (not (is_closed (w.tasks (x.owner e)).standing)) h).0

      pub fail_moves : (c e : ℕ) (i : ℤ) → happens (twin x) w.tasks (F c e i) ≡ true → IsBeside x (moved (twin x) w (Happen (F c e i)))
      fail_moves c e i h =
          let both' = and_parts (offers (twin x).ops (calls_in is_any_form e i) (w.tasks c)) (is_closed (w.tasks (x.owner e)).standing) h in
          let (below, (k, at, own, passes)) = offers_own (calls_in is_any_form e i) c refl refl refl (λ v. refl) both'.0 in
          ⊎_elim
          (λ (g : CallingOn x (book_of r) d.tasks c k own is_any_form e i).
          let (form, q, f) = calls_is is_any_form e i (o.p.ops.offer g.l) g.calls in
          let task : IsOfTask o.p.size o.p.owner x.note x.owner e = of_task c g.l e i g.at g.calls in
          let gone : is_closed (d.tasks (o.p.owner e)).standing ≡ true = closed_too (o.p.owner e) task.task (ap (λ u. is_closed (w.tasks u).standing) (sym task.same) ∙ both'.1) in
          owes runs c below k at (ap is_linked g.is) (call_owes Failed (w.tasks c).local) g.l Failed (made (call_owes Failed) c k (Calling c g.l) at g.is) refl g.at (form, e, i, q, gone, g.met))
          (λ (g : TellingOn x (book_of r) d.tasks c k own is_any_form e).
          absurd (true≢false (sym both'.1 ∙ ap (λ (y : Seat (Copy o.L)). is_closed y.standing) (ap (λ u. w.tasks (x.owner u)) g.entry ∙ ap w.tasks x.noted ∙ inv.at))))
          (calls_at x (book_of r) d.tasks c k own is_any_form e i passes)

      pub complete_moves : (a : ℕ) → happens (twin x) w.tasks (X a) ≡ true → IsBeside x (moved (twin x) w (Happen (X a)))
      complete_moves a h =
          let both' = and_parts (not (a == 0)) (offers (twin x).ops is_end (w.tasks a)) h in
          let (below, (k, at, own, passes)) = offers_own is_end a refl refl refl (λ v. refl) both'.1 in
          ⊎_elim
          (λ (g : MainOn x (book_of r) d.tasks a k own). absurd (true≢false (sym both'.0 ∙ ap (λ u. not (u == 0)) g.main)))
          (λ (g : LeavingOn x (book_of r) d.tasks a k own).
          let y : Seat (Copy o.L) = record { local = (w.tasks a).local; standing = Completed } in
          let done : y ≡ completed (Leaving a g.l) = ap completed (ap (λ (z : Seat (Copy o.L)). z.local) at ∙ g.is) in
          let now : put w.tasks a y a ≡ completed (Leaving a g.l) = put_self w.tasks a y ∙ done in
          let b : IsBeside x (record { tasks = put w.tasks a y; ended = w.ended }) =
          record {
            past = past;
            r = r;
            d = d;
            inv = alone_acts runs a below k at (ap is_linked g.is) y (ap (λ (z : Seat (Copy o.L)). is_linked z.local) done) (λ u. refl)
                (Gone (ap (λ (z : Seat (Copy o.L)). is_closed z.standing) now) (ap (λ (z : Seat o.L). is_closed z.standing) g.at)
                (ap (λ (z : Seat (Copy o.L)). out_of x z.local) now ∙ sym (ap (λ (z : Seat o.L). o.out z.local) g.at)));
          } in b)
          (end_at x (book_of r) d.tasks a k own passes)

      -- a local step of an original task
      pub own_steps : (t : ℕ) → t < o.p.size → (k : Copy o.L) → w.tasks t ≡ live k → OwnAt x (book_of r) d.tasks t k → copy_steps o.p k ≡ true →
          IsBeside x (moved (twin x) w (Step t))
      own_steps t below k at own can = go own
        where
          clash : (m : Copy o.L) → k ≡ m → copy_steps o.p m ≡ false → IsBeside x (moved (twin x) w (Step t))
          clash m q f = absurd (true≢false (sym can ∙ ap (copy_steps o.p) q ∙ f))

          go : OwnAt x (book_of r) d.tasks t k → IsBeside x (moved (twin x) w (Step t))
          go (OwnBased l q here) =
              let d' : World o.L = moved o.p d (Step t) in
              let y : Seat (Copy o.L) = live (copy_stepped o.p (w.tasks t).local) in
              let z : Seat o.L = live (o.p.ops.stepped (d.tasks t).local) in
              let steps : can_move o.p d (Step t) ≡ true = both (ap not inv.runs) (both (ap (λ (s : Seat o.L). is_live s.standing) here)
              (ap (λ (s : Seat o.L). o.p.ops.can_step s.local) here ∙ ap (copy_steps o.p) (sym q) ∙ can)) in
              let there : d'.tasks t ≡ live (o.p.ops.stepped l) = put_self d.tasks t z ∙ ap (λ (s : Seat o.L). live (o.p.ops.stepped s.local)) here in
              let inv' : Inv x past r d' (record { tasks = put w.tasks t y; ended = w.ended }) = one_acts runs t below k at (ap is_linked q) y (ap is_linked (made
              (copy_stepped o.p) t k (Based t l) at q)) (λ u. refl) d' (reach_step o past d t inv.reached steps) inv.runs (λ u f. put_other d.tasks t u z f)
              (ap (λ (s : Seat o.L). is_closed s.standing) (put_self d.tasks t z) ∙ sym (ap (λ (s : Seat o.L). is_closed s.standing) here))
              (λ u. ap (λ (s : Seat o.L). is_served_by u s.standing) (put_self d.tasks t z) ∙ sym (ap (λ (s : Seat o.L). is_served_by u s.standing) here))
              (Free (Based t (o.p.ops.stepped l)) (put_self w.tasks t y ∙ ap live (made (copy_stepped o.p) t k (Based t l) at q)) (OwnBased (o.p.ops.stepped l) refl there)) in
              record { past = past; r = r; d = d'; inv = inv' }
          go (OwnCalling l form e i q offer here met) = clash (Calling t l) q refl
          go (OwnOwing l due q here due') = clash (Owing t due l) q refl
          go (OwnServed l m a form e i q offer here was) = clash (Owing t (Returned m) l) q refl
          go (OwnReturned l m form e i q offer here met was) = clash (Owing t (Returned m) l) q refl
          go (OwnLost l due form e i q behind offer here met was) = clash (Owing t due l) q refl
          go (OwnOver l c q below' offer has once here was) = clash (Owing t (Over c) l) q refl
          go (OwnRefusing l c q here gone) = clash (Refusing t c l) q refl
          go (OwnLeaving l q offer other here) = clash (Leaving t l) q refl
