-- A rendezvous of the copy ends: one of two original tasks, which nobody has told, or a refused one; or one with the recorder. The original does nothing.
use Rattle.std.proofs.Common.{◌≡◌, ℕ, suc, ◌<◌, ◌≤◌, Bool, true, false, ◌==◌, if◌then◌else◌, List, [], ◌∷◌, refl, sym, ap, ◌∙◌, subst, inl, ⊎_elim, true≢false, arith}
use Rattle.std.specs.Prelude.{ℤ}
use Rattle.std.proofs.lemmas.Bool.{eqb-true, cases_lt, ne_eqb}
use Rattle.event_machine.specs.declared.CallForm.{CallForm}
use Rattle.event_machine.specs.declared.Standing.TheVariants.{Served}
use Rattle.event_machine.specs.declared.Event.{Event}
use Rattle.event_machine.specs.declared.Event.TheVariants.{E}
use Rattle.event_machine.specs.Offers.{Calls, Finishes, calls_in, is_any_form, is_finish}
use Rattle.event_machine.specs.States.{Seat, live, completed, is_closed, is_served_by}
use Rattle.event_machine.specs.Programs.{numbered}
use Rattle.event_machine.specs.Soundness.{IsSound, times}
use Rattle.event_machine.specs.Worlds.{World, Happen, moved, happens, acted}
use Rattle.event_machine.proofs.Basics.{same_member-refl}
use Rattle.event_machine.proofs.Standings.{served_closed, completed_closed}
use Rattle.event_machine.proofs.Extending.{served_caller}
use Rattle.run_laws.specs.imitation.Imitations.{Original}
use Rattle.run_laws.proofs.replaying.Facts.{below_apart, put, let_go, let_go_served}
use Rattle.run_laws.proofs.replaying.Parting.{parted_is}
use Rattle.run_laws.specs.collecting.inner.Beside.{CameFree}
use Rattle.run_laws.proofs.collecting.Reaching.{reached_come, reached_over}
use Rattle.run_laws.specs.aborts.Notes.{Book}
use Rattle.run_laws.specs.aborts.Copies.{Due, Begun, Returned, Over, Copy, Based, Calling, Owing, Refusing, Leaving, Recording, Noted, first_caller, answered, copy_callers}
use Rattle.run_laws.specs.aborts.Settings.{Setting, recorder, twin, out_of, IsProperCopy}
use Rattle.run_laws.specs.aborts.inner.Beside.{book_of, heard, Hears, OwnAt, OwnBased, OwnCalling, OwnOwing, OwnServed, OwnReturned, OwnLost, OwnOver, OwnRefusing, OwnLeaving, SeatAt, Free, Telling, Shared, Apart, Gone, RecorderAt, AreBegun, AreOver, Inv, IsBeside}
use Rattle.run_laws.proofs.aborts.Reading.{is_based, is_owing, is_begun, is_back, is_over, back_state, due_of, state_of, differ, not_owing}
use Rattle.run_laws.proofs.aborts.Offered.{FinishOn, AtEndOf, AtRefusal, finish_at, Offers, OffersOwn, OffersRecorder, offers_by}
use Rattle.run_laws.proofs.aborts.Singles.{RecorderOffers, IsRecording, IsNoted, IsStriking, recorder_offers, of_task}
use Rattle.run_laws.proofs.aborts.Pairs.{IsFirst, first_is, pair_tasks, pair_last, pair_first, pair_other, pair_begun, pair_over, pair_acts, records_pair}
use Rattle.run_laws.proofs.aborts.Meetings.{served_by_one, free_unserved, served_below}
use Rattle.common_lemmas.proofs.Numbers.{equal_self, unequal_above}

-- whom an abnormal caller's acceptor lets go completes
pub let_go_closed : {L : Type 0} (f : L → L) (a : ℕ) (seat : Seat L) → is_served_by a seat.standing ≡ true → is_closed seat.standing ≡ true → let_go f a seat ≡ completed seat.local
let_go_closed f a seat served closed = let_go_served f a seat served ∙
    ap (λ b. if b then completed seat.local else live (f seat.local)) (sym (served_closed a seat.standing served) ∙ closed)

module _ {o : Original} (x : Setting o) (past : List Event) (r : Copy o.L) (d : World o.L) (w : World (Copy o.L)) (inv : Inv x past r d w) (runs : w.ended ≡ false)
    (sound : IsSound (twin x).ops (IsProperCopy o) w.tasks) where
  below_sound : IsSound o.p.ops o.IsProper d.tasks
  below_sound = (reached_come o past d inv.reached).sound

  -- who is closed serves nobody
  pub closed_none : (c u : ℕ) → is_closed (w.tasks c).standing ≡ true → is_served_by c (w.tasks u).standing ≡ true → ⊥
  closed_none c u closed served = true≢false (sym served ∙ sound.closed c u closed)

  pub closed_none' : (c u : ℕ) → is_closed (d.tasks c).standing ≡ true → is_served_by c (d.tasks u).standing ≡ true → ⊥
  closed_none' c u closed served = true≢false (sym served ∙ below_sound.closed c u closed)

  -- an original task serves whom one serves
  pub shared_below : (a c : ℕ) (v : o.L) → d.tasks c ≡ record { local = v; standing = Served a false } → a < o.p.size
  shared_below a c v here = ⊎_elim (λ (l : a < o.p.size). l)
      (λ (m : o.p.size ≤ a). absurd (true≢false (sym (completed_closed (d.tasks a).standing (reached_over o past d inv.reached a m)) ∙
      (served_caller below_sound a c (ap (λ (f : Seat o.L). is_served_by a f.standing) here ∙ equal_self a)).0)))
      (cases_lt a o.p.size)

  pub apart_below : (a c : ℕ) (v : o.L) (form : CallForm) (e : ℕ) (i : ℤ) → o.p.ops.offer v ≡ Calls form e i → o.p.owner e ≡ a → d.tasks c ≡ live v → a < o.p.size
  apart_below a c v form e i offer owns here =
      let l : o.p.owner e < o.p.size = (of_task x past r d w inv c v e i here (ap (calls_in is_any_form e i) offer ∙ same_member-refl e i)).task in omega (arith, l, owns)

  -- ---- two original tasks part, where the caller is in this seat then

  module _ (a c : ℕ) (rest : List ℕ) (k z : Copy o.L) (below : a < o.p.size) (at : w.tasks a ≡ live k) (has : copy_callers o.p k ≡ c ∷ rest) (makes : (twin x).ops.finished k ≡ z)
      (same : is_over k ≡ false) where
    pub first : IsFirst w.tasks a c rest
    first = first_is w.tasks sound a c rest (ap (λ (s : Seat (Copy o.L)). is_closed s.standing) at) (ap (λ (s : Seat (Copy o.L)). copy_callers o.p s.local) at ∙ has)

    pub below' : c < o.p.size
    below' = served_below x past r d w inv runs sound c a first.served

    pub other : (c == a) ≡ false
    other = ne_eqb c a (λ q. true≢false (sym first.served ∙ ap (λ u. is_served_by a (w.tasks u).standing) q ∙ sound.itself a))

    pub in_c : c < suc o.p.size
    in_c = let l : c < o.p.size = below' in omega (arith, l)

    pub in_a : a < suc o.p.size
    in_a = omega (arith, below)

    not_told : is_served_by (recorder x) (w.tasks c).standing ≡ false
    not_told = go (is_served_by (recorder x) (w.tasks c).standing) refl
      where
        go : (b : Bool) → is_served_by (recorder x) (w.tasks c).standing ≡ b → is_served_by (recorder x) (w.tasks c).standing ≡ false
        go true q = let e : a ≡ recorder x = served_by_one a (recorder x) (w.tasks c).standing first.served q in absurd (omega (arith, e, below))
        go false q = q

    module _ (y : Seat (Copy o.L)) (lets : let_go ((twin x).ops.resumed k) a (w.tasks c) ≡ y) where
      abbrev parted_tasks : ℕ → Seat (Copy o.L)
      parted_tasks = pair_tasks x past r d w inv runs c a other in_c in_a y (live z)

      pub parts_to : (seat_c : SeatAt x (book_of r) parted_tasks d.tasks r c) (seat_a : SeatAt x (book_of r) parted_tasks d.tasks r a) → AreBegun x parted_tasks → AreOver x parted_tasks d.tasks →
          IsBeside x (moved (twin x) w (Happen (E a)))
      parts_to seat_c seat_a begun over =
          let inv' : Inv x past r d (record { tasks = parted_tasks; ended = w.ended }) =
          pair_acts x past r d w inv runs c a other in_c in_a y (live z) r refl (λ t k p f h. (h, refl)) (λ u. seat_c) (λ u. seat_a) begun over
          (pair_other x past r d w inv runs c a other in_c in_a y (live z) (recorder x) (unequal_above (recorder x) c below') (unequal_above (recorder x) a below) ∙ inv.at)
          (records_pair x past r d w inv runs c a other in_c in_a y (live z) not_told (free_unserved x past r d w inv runs sound a k at (recorder x))) in
          let acts : acted (numbered (twin x)) w.tasks (E a) ≡ put (put w.tasks a (live z)) c y =
          parted_is (twin x) w.tasks a k c rest at has other ∙ ap (λ j. put (put w.tasks a (live j)) c (let_go ((twin x).ops.resumed k) a (w.tasks c))) makes ∙
          ap (λ s. put (put w.tasks a (live z)) c s) lets in
          record { past = past; r = r; d = d; inv = subst (λ tasks. Inv x past r d (record { tasks = tasks; ended = w.ended })) (sym acts) inv' }

      -- the two have accepted nobody since, and are served by nobody
      parts_begun : ((t : ℕ) → is_served_by t y.standing ≡ false) → is_begun z ≡ false →
          ((u e : ℕ) (i : ℤ) (l v : o.L) → y.local ≡ Owing c (Begun u e i v) l → is_served_by c (w.tasks u).standing ≡ true → ⊥) → AreBegun x parted_tasks
      parts_begun unserved plain none = pair_begun x past r d w inv runs c a other in_c in_a y (live z)
          (λ t e i l v p s. absurd (true≢false (sym s ∙ unserved t)))
          (λ t e i l v p s. absurd (true≢false (sym s)))
          (λ u e i l v f g p s. absurd (none u e i l v p s))
          (λ u e i l v f g p s. absurd (differ is_begun (Owing a (Begun u e i v) l) z refl plain (sym p)))

      parts_over : is_back z ≡ false →
          ((t : ℕ) (m v : o.L) → y.local ≡ Owing c (Returned m) v → is_closed y.standing ≡ false → is_served_by t (d.tasks c).standing ≡ true →
          ((parted_tasks t).local ≡ Owing t (Over c) m) × (d.tasks t ≡ live m)) →
          ((u : ℕ) (m : o.L) → (w.tasks c).local ≡ Owing c (Over u) m → is_served_by c (d.tasks u).standing ≡ true → ⊥) → AreOver x parted_tasks d.tasks
      parts_over plain back none = pair_over x past r d w inv runs c a other in_c in_a y (live z)
          back
          (λ t m v p open' s. absurd (differ is_back (Owing a (Returned m) v) z refl plain (sym p)))
          (λ u m v p open' s at' here. absurd (none u m at' s))
          (λ u m v p open' s at' here. absurd (differ is_over (Owing a (Over u) m) (w.tasks a).local refl (ap (λ (s : Seat (Copy o.L)). is_over s.local) at ∙ same) (sym at')))

    -- a caller that is closed completes
    module _ (closed : is_closed (w.tasks c).standing ≡ true) (closed' : is_closed (d.tasks c).standing ≡ true) (outs : out_of x (w.tasks c).local ≡ o.out (d.tasks c).local) where
      abbrev gone : Seat (Copy o.L)
      gone = completed (w.tasks c).local

      lets_gone : let_go ((twin x).ops.resumed k) a (w.tasks c) ≡ gone
      lets_gone = let_go_closed ((twin x).ops.resumed k) a (w.tasks c) first.served closed

      pub parts_gone : is_begun z ≡ false → is_back z ≡ false → (OwnAt x (book_of r) d.tasks a z) → IsBeside x (moved (twin x) w (Happen (E a)))
      parts_gone plain plain' own = parts_to gone lets_gone
          (Gone (ap (λ (s : Seat (Copy o.L)). is_closed s.standing) (pair_last x past r d w inv runs c a other in_c in_a gone (live z))) closed'
          (ap (λ (s : Seat (Copy o.L)). out_of x s.local) (pair_last x past r d w inv runs c a other in_c in_a gone (live z)) ∙ outs))
          (Free z (pair_first x past r d w inv runs c a other in_c in_a gone (live z)) own)
          (parts_begun gone lets_gone (λ t. refl) plain (λ u e i l v p s. closed_none c u closed s))
          (parts_over gone lets_gone plain' (λ t m v p open' s. absurd (true≢false open')) (λ u m p s. closed_none' c u closed' s))

  -- a task at the end of a rendezvous that was told
  module _ (a : ℕ) (l : o.L) (below : a < o.p.size) (at : w.tasks a ≡ live (Based a l)) (here : d.tasks a ≡ live l) (offer : o.p.ops.offer l ≡ Finishes) where
    proper : o.IsProper l
    proper = subst (λ (s : Seat o.L). o.IsProper s.local) here (below_sound.proper a (ap (λ (s : Seat o.L). is_closed s.standing) here))

    abbrev c : ℕ
    c = first_caller (o.p.ops.callers l)

    abbrev rest : List ℕ
    rest = o.p.ops.callers (o.p.ops.finished l)

    abbrev over' : Copy o.L
    over' = Owing a (Over c) l

    has' : o.p.ops.callers l ≡ c ∷ rest
    has' = let (u, proper', has) = o.lawful.finished l proper offer in has ∙ ap (λ v. v ∷ rest) (sym (ap first_caller has))

    pub finish_told : IsBeside x (moved (twin x) w (Happen (E a)))
    finish_told = go (inv.seats c in_size)
      where
        in_size : c < o.p.size
        in_size = below' a c rest (Based a l) over' below at has' refl refl

        there : IsFirst w.tasks a c rest
        there = first a c rest (Based a l) over' below at has' refl refl

        -- in the original too
        first' : IsFirst d.tasks a c rest
        first' = first_is d.tasks below_sound a c rest (ap (λ (s : Seat o.L). is_closed s.standing) here) (ap (λ (s : Seat o.L). o.p.ops.callers s.local) here ∙ has')

        own' : OwnAt x (book_of r) d.tasks a over'
        own' = OwnOver l c refl in_size offer has' first'.once (inl here) (record { d = d; come = reached_come o past d inv.reached; runs = inv.runs; at = here })

        -- both serve the caller
        both_serve : (v : o.L) (form : CallForm) (e : ℕ) (i : ℤ) → w.tasks c ≡ record { local = Calling c v; standing = Served a false } → o.p.ops.offer v ≡ Calls form e i →
            d.tasks c ≡ record { local = v; standing = Served a false } → CameFree o c v → IsBeside x (moved (twin x) w (Happen (E a)))
        both_serve v form e i at_c calls here_c was =
            let k : Copy o.L = Based a l in
            let y : Seat (Copy o.L) = live (Owing c (Returned l) v) in
            let lets : let_go ((twin x).ops.resumed k) a (w.tasks c) ≡ y = ap (let_go ((twin x).ops.resumed k) a) at_c ∙
            let_go_served ((twin x).ops.resumed k) a (record { local = Calling c v; standing = Served a false }) (equal_self a) in
            let o' : (c == a) ≡ false = other a c rest k over' below at has' refl refl in
            let n : c < suc o.p.size = in_c a c rest k over' below at has' refl refl in
            let m : a < suc o.p.size = in_a a c rest k over' below at has' refl refl in
            parts_to a c rest k over' below at has' refl refl y lets
            (Free (Owing c (Returned l) v) (pair_last x past r d w inv runs c a o' n m y (live over')) (OwnServed v l a form e i refl calls here_c was))
            (Free over' (pair_first x past r d w inv runs c a o' n m y (live over')) own')
            (parts_begun a c rest k over' below at has' refl refl y lets (λ t. refl) refl (λ u f j h g p s. differ is_begun (Owing c (Begun u f j g) h) (Owing c (Returned l) v) refl refl (sym p)))
            (parts_over a c rest k over' below at has' refl refl y lets refl
            (λ t h g p open' s.
            let same : l ≡ h = ap (λ q. back_state l (due_of q)) p in
            let e : a ≡ t = eqb-true a t (ap (λ (f : Seat o.L). is_served_by t f.standing) (sym here_c) ∙ s) in
            subst (λ u. ((pair_tasks x past r d w inv runs c a o' n m y (live over') u).local ≡ Owing u (Over c) h) × (d.tasks u ≡ live h)) e
            (ap (λ (f : Seat (Copy o.L)). f.local) (pair_first x past r d w inv runs c a o' n m y (live over')) ∙ ap (Owing a (Over c)) same, here ∙ ap live same))
            (λ u h p s. differ is_owing (Owing c (Over u) h) (w.tasks c).local refl (ap (λ (f : Seat (Copy o.L)). is_owing f.local) at_c) (sym p)))

        -- who serves it is a
        by_a : (b : ℕ) (v : o.L) → w.tasks c ≡ record { local = Calling c v; standing = Served b false } → b ≡ a
        by_a b v at_c = eqb-true b a (ap (λ (f : Seat (Copy o.L)). is_served_by a f.standing) (sym at_c) ∙ there.served)

        go : SeatAt x (book_of r) w.tasks d.tasks r c → IsBeside x (moved (twin x) w (Happen (E a)))
        go (Free k at_c own) = absurd (true≢false (sym there.served ∙ ap (λ (f : Seat (Copy o.L)). is_served_by a f.standing) at_c))
        go (Telling k at_c hears own was) =
            let e : recorder x ≡ a = eqb-true (recorder x) a (ap (λ (f : Seat (Copy o.L)). is_served_by a f.standing) (sym at_c) ∙ there.served) in absurd (omega (arith, e, below))
        go (Shared b v form e i at_c calls here_c was) =
            let q : b ≡ a = by_a b v at_c in
            both_serve v form e i (at_c ∙ ap (λ u. record { local = Calling c v; standing = Served u false }) q) calls (here_c ∙ ap (λ u. record { local = v; standing = Served u false }) q) was
        go (Apart b v form e i at_c calls owns here_c met) = absurd (true≢false (sym first'.served ∙ ap (λ (f : Seat o.L). is_served_by a f.standing) here_c))
        go (Gone closed closed' outs) = parts_gone a c rest (Based a l) over' below at has' refl refl closed closed' outs refl refl own'

  -- who is closed in the original and served here by one of its tasks is closed here too, and has written the same
  pub closed_here : (a c : ℕ) → a < o.p.size → is_served_by a (w.tasks c).standing ≡ true → is_closed (d.tasks c).standing ≡ true →
      (is_closed (w.tasks c).standing ≡ true) × (out_of x (w.tasks c).local ≡ o.out (d.tasks c).local)
  closed_here a c below served closed = go (inv.seats c (served_below x past r d w inv runs sound c a served))
    where
      go : SeatAt x (book_of r) w.tasks d.tasks r c → (is_closed (w.tasks c).standing ≡ true) × (out_of x (w.tasks c).local ≡ o.out (d.tasks c).local)
      go (Free k at own) = absurd (true≢false (sym served ∙ ap (λ (f : Seat (Copy o.L)). is_served_by a f.standing) at))
      go (Telling k at hears own was) =
          let e : recorder x ≡ a = eqb-true (recorder x) a (ap (λ (f : Seat (Copy o.L)). is_served_by a f.standing) (sym at) ∙ served) in absurd (omega (arith, e, below))
      go (Shared b v form e i at calls here was) = absurd (true≢false (sym closed ∙ ap (λ (f : Seat o.L). is_closed f.standing) here))
      go (Apart b v form e i at calls owns here met) = absurd (true≢false (sym closed ∙ ap (λ (f : Seat o.L). is_closed f.standing) here))
      go (Gone closed' closed'' outs) = (closed', outs)

  -- a task at the end of a refused rendezvous
  module _ (a c : ℕ) (l : o.L) (below : a < o.p.size) (at : w.tasks a ≡ live (Refusing a c l)) (here : d.tasks a ≡ live l) (closed : is_closed (d.tasks c).standing ≡ true) where
    abbrev rest' : List ℕ
    rest' = o.p.ops.callers l

    abbrev k : Copy o.L
    k = Refusing a c l

    abbrev z : Copy o.L
    z = Based a l

    pub refused_here : (is_closed (w.tasks c).standing ≡ true) × (out_of x (w.tasks c).local ≡ o.out (d.tasks c).local)
    refused_here = closed_here a c below (first a c rest' k z below at refl refl refl).served closed

    pub finish_refused : IsBeside x (moved (twin x) w (Happen (E a)))
    finish_refused = parts_gone a c rest' k z below at refl refl refl refused_here.0 closed refused_here.1 refl refl (OwnBased l refl here)

  -- who is served in a rendezvous that is refused is closed as it ends
  pub refused_closed : (a u c : ℕ) (l : o.L) → (w.tasks a).local ≡ Refusing u c l → happens (twin x) w.tasks (E a) ≡ true → is_closed (w.tasks c).standing ≡ true
  refused_closed a u c l is h = go (offers_by x past r d w inv is_finish a h)
    where
      go : Offers x past r d w inv is_finish a → is_closed (w.tasks c).standing ≡ true
      go (OffersOwn below k at own passes) = inner (finish_at x (book_of r) d.tasks a k own passes)
        where
          is' : k ≡ Refusing u c l
          is' = ap (λ (s : Seat (Copy o.L)). s.local) (sym at) ∙ is

          inner : FinishOn x (book_of r) d.tasks a k own → is_closed (w.tasks c).standing ≡ true
          inner (AtEndOf m q here offer) = absurd (differ is_based (Based a m) (Refusing u c l) refl refl (sym q ∙ is'))
          inner (AtRefusal m s q here gone) =
              let same : s ≡ c = ap (λ j. first_caller (copy_callers o.p j)) (sym q ∙ is') in
              subst (λ v. is_closed (w.tasks v).standing ≡ true) same (refused_here a s m below (at ∙ ap live q) here gone).0
      go (OffersRecorder e passes) =
          let q : r ≡ Refusing u c l = ap (λ (s : Seat (Copy o.L)). s.local) (sym inv.at) ∙ (ap (λ t. (w.tasks t).local) (sym e) ∙ is) in
          absurd (subst (RecorderAt x past w.tasks) q inv.records)

  -- ---- the recorder answers

  module _ (c : ℕ) (answer : Bool) (b : Book) (q : r ≡ Noted c answer b) where
    abbrev n : ℕ
    n = recorder x

    noted_at : w.tasks n ≡ live (Noted c answer b)
    noted_at = inv.at ∙ ap live q

    records : (b.events ≡ past) × (c < o.p.size) × (is_served_by n (w.tasks c).standing ≡ true)
    records = subst (RecorderAt x past w.tasks) q inv.records

    apart : (c == n) ≡ false
    apart = below_apart c (recorder x) records.1

    same : (book_of r) ≡ b
    same = ap book_of q

    from_book : (P : Book → Type 0) → P (book_of r) → P b
    from_book P h = subst P same h

    within_c : c < suc o.p.size
    within_c = let l : c < o.p.size = records.1 in omega (arith, l)

    within_n : n < suc o.p.size
    within_n = omega arith

    module _ (y : Seat (Copy o.L)) where
      abbrev answered_tasks : ℕ → Seat (Copy o.L)
      answered_tasks = pair_tasks x past r d w inv runs c n apart within_c within_n y (live (Recording b))

      answers_to : SeatAt x b answered_tasks d.tasks (Recording b) c → ((t : ℕ) → is_served_by t y.standing ≡ false) →
          ((u : ℕ) (due : Due o.L) (l : o.L) → y.local ≡ Owing c due l → (is_closed (w.tasks c).standing ≡ true) × (is_closed y.standing ≡ true)) →
          ((u : ℕ) (m v : o.L) → (w.tasks u).local ≡ Owing u (Returned m) v → is_closed (w.tasks u).standing ≡ false → is_served_by c (d.tasks u).standing ≡ true →
          (w.tasks c).local ≡ Owing c (Over u) m → d.tasks c ≡ live m → ⊥) →
          Inv x past (Recording b) d (record { tasks = answered_tasks; ended = w.ended })
      answers_to seat unserved owes none = pair_acts x past r d w inv runs c n apart within_c within_n y (live (Recording b)) (Recording b) (sym same)
          (λ t k p f h. absurd (true≢false (sym (ap (λ v. v == c) (sym (subst (λ s. Hears x s t k) q h).0) ∙ equal_self c) ∙ p)))
          (λ m. seat) (λ m. absurd (omega (arith, m)))
          (pair_begun x past r d w inv runs c n apart within_c within_n y (live (Recording b))
          (λ t e i l v p s. absurd (true≢false (sym s ∙ unserved t)))
          (λ t e i l v p s. absurd (true≢false (sym s)))
          (λ u e i l v f g p s. absurd (closed_none c u (owes u (Begun u e i v) l p).0 s))
          (λ u e i l v f g p s. absurd (differ is_owing (Owing n (Begun u e i v) l) (Recording b) refl refl (sym p))))
          (pair_over x past r d w inv runs c n apart within_c within_n y (live (Recording b))
          (λ t m v p open' s. absurd (true≢false (sym (owes t (Returned m) v p).1 ∙ open')))
          (λ t m v p open' s. absurd (differ is_owing (Owing n (Returned m) v) (Recording b) refl refl (sym p)))
          (λ u m v p open' s at' here. absurd (none u m v p open' s at' here))
          (λ u m v p open' s at' here. absurd (differ is_owing (Owing n (Over u) m) (Noted c answer b) refl refl (sym at' ∙ ap (λ (f : Seat (Copy o.L)). f.local) noted_at))))
          (pair_first x past r d w inv runs c n apart within_c within_n y (live (Recording b))) records.0

      moved_is : let_go (answered o.p answer) n (w.tasks c) ≡ y → acted (numbered (twin x)) w.tasks (E n) ≡ put (put w.tasks n (live (Recording b))) c y
      moved_is lets = parted_is (twin x) w.tasks n (Noted c answer b) c [] noted_at refl apart ∙ ap (λ s. put (put w.tasks n (live (Recording b))) c s) lets

      answers_beside : let_go (answered o.p answer) n (w.tasks c) ≡ y → Inv x past (Recording b) d (record { tasks = answered_tasks; ended = w.ended }) → IsBeside x (moved (twin x) w (Happen (E n)))
      answers_beside lets inv' = record {
        past = past;
        r = Recording b;
        d = d;
        inv = subst (λ tasks. Inv x past (Recording b) d (record { tasks = tasks; ended = w.ended })) (sym (moved_is lets)) inv';
      }

    pub answers : IsBeside x (moved (twin x) w (Happen (E n)))
    answers = go (inv.seats c records.1)
      where
        teller : (k : Copy o.L) → w.tasks c ≡ record { local = k; standing = Served n false } → OwnAt x (book_of r) d.tasks c (heard x r k) → IsBeside x (moved (twin x) w (Happen (E n)))
        teller k at own =
            let j : Copy o.L = answered o.p answer k in
            let y : Seat (Copy o.L) = live j in
            answers_beside y (ap (let_go (answered o.p answer) n) at ∙ let_go_served (answered o.p answer) n (record { local = k; standing = Served n false }) (equal_self n))
            (answers_to y
            (Free j (pair_last x past r d w inv runs c n apart within_c within_n y (live (Recording b))) own')
            (λ t. refl) (λ u due l p. absurd (not_owing o.p answer k c due l p)) none)
          where
            own' : OwnAt x b d.tasks c (answered o.p answer k)
            own' = from_book (λ b'. OwnAt x b' d.tasks c (answered o.p answer k)) (subst (λ s. OwnAt x (book_of r) d.tasks c (heard x s k)) q own)

            -- who is behind a rendezvous is in the original behind it too, and serves that caller no more
            none : (u : ℕ) (m v : o.L) → (w.tasks u).local ≡ Owing u (Returned m) v → is_closed (w.tasks u).standing ≡ false → is_served_by c (d.tasks u).standing ≡ true →
                (w.tasks c).local ≡ Owing c (Over u) m → d.tasks c ≡ live m → ⊥
            none u m v p open' s at' here =
                let is : k ≡ Owing c (Over u) m = ap (λ (f : Seat (Copy o.L)). f.local) (sym at) ∙ at' in
                let here' : d.tasks c ≡ live (o.p.ops.finished m) = finished_there (subst (λ f. OwnAt x b d.tasks c (answered o.p answer f)) is own') in
                let level : m ≡ o.p.ops.finished m = ap (λ (f : Seat o.L). f.local) (sym here ∙ here') in
                let one : times u (o.p.ops.callers (d.tasks c).local) ≡ 1 = (served_caller below_sound c u s).1 in
                let two : times u (o.p.ops.callers (o.p.ops.finished m)) ≡ 1 = ap (λ (f : Seat o.L). times u (o.p.ops.callers f.local)) (sym here') ∙ one in
                let three : times u (copy_callers o.p (w.tasks c).local) ≡ (if is_served_by c (w.tasks u).standing then 1 else 0) =
                sound.callers c u (ap (λ (f : Seat (Copy o.L)). is_closed f.standing) at) in
                let four : times u (o.p.ops.callers (o.p.ops.finished m)) ≡ (if is_served_by c (w.tasks u).standing then 1 else 0) = ap (λ f. times u (copy_callers o.p f)) (sym at') ∙ three in
                let five : is_served_by c (w.tasks u).standing ≡ false = back_unserved u m v p open' in
                let six : times u (o.p.ops.callers (o.p.ops.finished m)) ≡ 0 = four ∙ ap (λ f. if f then 1 else 0) five in
                omega (arith, two, six)
              where
                finished_there : OwnAt x b d.tasks c (Based c (o.p.ops.finished m)) → d.tasks c ≡ live (o.p.ops.finished m)
                finished_there (OwnBased l e here) = here ∙ ap live (sym (ap (state_of m) e))
                finished_there (OwnCalling l form f i e offer here met) = absurd (differ is_based (Based c (o.p.ops.finished m)) (Calling c l) refl refl e)
                finished_there (OwnOwing l due e here h) = absurd (differ is_based (Based c (o.p.ops.finished m)) (Owing c due l) refl refl e)
                finished_there (OwnServed l h a form f i e offer here was) = absurd (differ is_based (Based c (o.p.ops.finished m)) (Owing c (Returned h) l) refl refl e)
                finished_there (OwnReturned l h form f i e offer here met was) = absurd (differ is_based (Based c (o.p.ops.finished m)) (Owing c (Returned h) l) refl refl e)
                finished_there (OwnLost l due form f i e behind offer here met was) = absurd (differ is_based (Based c (o.p.ops.finished m)) (Owing c due l) refl refl e)
                finished_there (OwnOver l u' e below offer has once here was) = absurd (differ is_based (Based c (o.p.ops.finished m)) (Owing c (Over u') l) refl refl e)
                finished_there (OwnRefusing l u' e here gone) = absurd (differ is_based (Based c (o.p.ops.finished m)) (Refusing c u' l) refl refl e)
                finished_there (OwnLeaving l e offer other here) = absurd (differ is_based (Based c (o.p.ops.finished m)) (Leaving c l) refl refl e)

                back_unserved : (u : ℕ) (m v : o.L) → (w.tasks u).local ≡ Owing u (Returned m) v → is_closed (w.tasks u).standing ≡ false → is_served_by c (w.tasks u).standing ≡ false
                back_unserved u m v p open' = back (is_served_by c (w.tasks u).standing) refl
                  where
                    back : (f : Bool) → is_served_by c (w.tasks u).standing ≡ f → is_served_by c (w.tasks u).standing ≡ false
                    back false e = e
                    back true e = absurd (clash (inv.seats u (served_below x past r d w inv runs sound u c e)))
                      where
                        calling : (a : ℕ) (l : o.L) → w.tasks u ≡ record { local = Calling u l; standing = Served a false } → ⊥
                        calling a l at_u = differ is_owing (Owing u (Returned m) v) (w.tasks u).local refl (ap (λ (f : Seat (Copy o.L)). is_owing f.local) at_u) (sym p)

                        clash : SeatAt x (book_of r) w.tasks d.tasks r u → ⊥
                        clash (Free j at_u own) = true≢false (sym e ∙ ap (λ (f : Seat (Copy o.L)). is_served_by c f.standing) at_u)
                        clash (Telling j at_u hears own was) =
                            let g : n ≡ c = eqb-true n c (ap (λ (f : Seat (Copy o.L)). is_served_by c f.standing) (sym at_u) ∙ e) in
                            true≢false (sym (ap (λ f. f == n) (sym g) ∙ equal_self n) ∙ apart)
                        clash (Shared a l form f i at_u offer here was) = calling a l at_u
                        clash (Apart a l form f i at_u offer owns here met) = calling a l at_u
                        clash (Gone closed closed' outs) = true≢false (sym closed ∙ open')

        by_n : (a : ℕ) (v : o.L) → w.tasks c ≡ record { local = Calling c v; standing = Served a false } → a ≡ n
        by_n a v at = eqb-true a n (ap (λ (f : Seat (Copy o.L)). is_served_by n f.standing) (sym at) ∙ records.2)

        go : SeatAt x (book_of r) w.tasks d.tasks r c → IsBeside x (moved (twin x) w (Happen (E n)))
        go (Free k at own) = absurd (true≢false (sym records.2 ∙ ap (λ (f : Seat (Copy o.L)). is_served_by n f.standing) at))
        go (Telling k at hears own was) = teller k at own
        go (Shared a v form e i at offer here was) = let l : a < o.p.size = shared_below a c v here in let e : a ≡ n = by_n a v at in absurd (omega (arith, l, e))
        go (Apart a v form e i at offer owns here met) = let l : a < o.p.size = apart_below a c v form e i offer owns here in let q : a ≡ n = by_n a v at in absurd (omega (arith, l, q))
        go (Gone closed closed' outs) =
            let y : Seat (Copy o.L) = completed (w.tasks c).local in
            let last : answered_tasks y c ≡ y = pair_last x past r d w inv runs c n apart within_c within_n y (live (Recording b)) in
            answers_beside y (let_go_closed (answered o.p answer) n (w.tasks c) records.2 closed)
            (answers_to y (Gone (ap (λ (f : Seat (Copy o.L)). is_closed f.standing) last) closed' (ap (λ (f : Seat (Copy o.L)). out_of x f.local) last ∙
            outs)) (λ t. refl) (λ u due l p. (closed, refl))
            (λ u m v p open' s at' here. closed_none' c u closed' s))

  -- ---- all ends

  pub finish_moves : (a : ℕ) → happens (twin x) w.tasks (E a) ≡ true → IsBeside x (moved (twin x) w (Happen (E a)))
  finish_moves a h = go (offers_by x past r d w inv is_finish a h)
    where
      go : Offers x past r d w inv is_finish a → IsBeside x (moved (twin x) w (Happen (E a)))
      go (OffersOwn below k at own passes) = inner (finish_at x (book_of r) d.tasks a k own passes)
        where
          inner : FinishOn x (book_of r) d.tasks a k own → IsBeside x (moved (twin x) w (Happen (E a)))
          inner (AtEndOf l q here offer) = finish_told a l below (at ∙ ap live q) here offer
          inner (AtRefusal l c q here gone) = finish_refused a c l below (at ∙ ap live q) here gone
      go (OffersRecorder e passes) = inner (recorder_offers x past w.tasks r is_finish refl inv.records passes)
        where
          inner : RecorderOffers x r is_finish → IsBeside x (moved (twin x) w (Happen (E a)))
          inner (IsRecording b q p) = absurd (true≢false (sym p))
          inner (IsStriking c b t v q p) = absurd (true≢false (sym p))
          inner (IsNoted c answer b q p) = subst (λ u. IsBeside x (moved (twin x) w (Happen (E u)))) (sym e) (answers c answer b q)
