-- The recorder aborts a task, and the original makes the abort.
use Rattle.std.proofs.Common.{◌≡◌, ℕ, suc, ◌<◌, ◌≤◌, Bool, true, false, ◌&&◌, ◌==◌, if◌then◌else◌, List, [], ◌∷◌, ◌++◌, refl, sym, ap, ap₂, ◌∙◌, subst, inl, inr, ⊎_elim, ◌⊎◌, true≢false, arith}
use Rattle.std.specs.Prelude.{ℤ}
use Rattle.std.proofs.lemmas.Bool.{eqb-true, cases_Bool, ne_eqb}
use Rattle.event_machine.specs.declared.CallForm.{CallForm}
use Rattle.event_machine.specs.declared.CallForm.TheVariants.{Plain, Conditional, Timed}
use Rattle.event_machine.specs.declared.Standing.TheVariants.{Served, Killed}
use Rattle.event_machine.specs.declared.Event.{Event}
use Rattle.event_machine.specs.declared.Event.TheVariants.{B}
use Rattle.event_machine.specs.Offers.{Offer, Nothing, Calls, Waits, Finishes, Ends, Aborts}
use Rattle.event_machine.specs.States.{Seat, live, completed, is_closed, is_completed, is_served_by, is_abnormal}
use Rattle.event_machine.specs.Programs.{Program, numbered}
use Rattle.event_machine.specs.Soundness.{IsSound}
use Rattle.event_machine.specs.Worlds.{World, Happen, moved, happens, acted, aborts}
use Rattle.event_machine.proofs.Standings.{served_closed, fallen_served_by, fallen_closed}
use Rattle.run_laws.specs.imitation.Imitations.{Original}
use Rattle.run_laws.proofs.replaying.Facts.{below_apart, offers_at, let_go, let_go_other, let_go_served}
use Rattle.run_laws.specs.collecting.Copies.{telling}
use Rattle.run_laws.specs.collecting.inner.Beside.{CameFree}
use Rattle.run_laws.proofs.collecting.Reaching.{reached_come, reach_event}
use Rattle.run_laws.proofs.collecting.Singles.{at_one}
use Rattle.run_laws.specs.aborts.Notes.{Note, BeforeCall, HasFailed, AtEnd, ToAbort, HasReturned, Book, are_met, recorded}
use Rattle.run_laws.specs.aborts.Copies.{Due, Begun, TookElse, TookDelay, TookOther, Failed, Returned, Over, Copy, Based, Calling, Owing, Refusing, Leaving, Striking, Noted, under, based_offer, based_note, call_note, other_note, due_note, note_of, copy_offer, told, call_owes}
use Rattle.run_laws.specs.aborts.Settings.{Setting, recorder, twin, out_of, IsProperCopy}
use Rattle.run_laws.specs.aborts.inner.Beside.{book_of, Hears, OwnAt, OwnBased, OwnCalling, OwnOwing, OwnServed, OwnReturned, OwnLost, OwnOver, OwnRefusing, OwnLeaving, SeatAt, Free, Telling, Shared, Apart, Gone, AreBegun, AreOver, Inv, IsBeside}
use Rattle.run_laws.proofs.aborts.Reading.{is_owing, is_based, is_begun, is_back, differ}
use Rattle.run_laws.proofs.aborts.Owns.{own_served}
use Rattle.run_laws.proofs.aborts.Frames.{seat_on}
use Rattle.run_laws.proofs.aborts.Offered.{Offers, OffersOwn, OffersRecorder, offers_by, aborts_nobody}
use Rattle.run_laws.proofs.aborts.Singles.{RecorderOffers, IsRecording, IsNoted, IsStriking, recorder_offers}
use Rattle.run_laws.proofs.aborts.Meetings.{completed_unserved}
use Rattle.run_laws.proofs.aborts.Tellers.{TellingAt, telling_at}
use Rattle.run_laws.proofs.aborts.Outputs.{same_output}
use Rattle.run_laws.proofs.aborts.Struck.{fallen_seat, let_go_closed_same, let_go_free, struck_self, struck_victim, struck_other, own_self, own_other}
use Rattle.common_lemmas.proofs.Numbers.{equal_self, unequal_above, unequal_turned}

-- ---- who tells that it is to abort a task

abbrev is_abort : Note → Bool
is_abort (ToAbort t v) = true
is_abort note = false

abbrev abort_by : Note → ℕ
abort_by (ToAbort t v) = t
abort_by note = 0

abbrev abort_of : Note → ℕ
abort_of (ToAbort t v) = v
abort_of note = 0

module _ {L : Type 0} (p : Program L) (pends : L → Bool) where
  call_no_abort : (t : ℕ) (make : CallForm → ℕ → ℤ → Note) → ((form : CallForm) (e : ℕ) (i : ℤ) → is_abort (make form e i) ≡ false) → (offer : Offer) → is_abort (call_note t make offer) ≡ false
  call_no_abort t make h Nothing = refl
  call_no_abort t make h (Calls form e i) = h form e i
  call_no_abort t make h (Waits choices) = refl
  call_no_abort t make h Finishes = refl
  call_no_abort t make h Ends = refl
  call_no_abort t make h (Aborts v) = refl

  due_no_abort : (t : ℕ) (due : Due L) (offer : Offer) → is_abort (due_note p pends t due offer) ≡ false
  due_no_abort t (Begun c e i v) offer = refl
  due_no_abort t TookElse offer = refl
  due_no_abort t (TookDelay k) offer = refl
  due_no_abort t TookOther offer = call_no_abort t (λ form e i. other_note p t form e i) other offer
    where
      other : (form : CallForm) (e : ℕ) (i : ℤ) → is_abort (other_note p t form e i) ≡ false
      other Plain e i = refl
      other Conditional e i = refl
      other Timed e i = refl
  due_no_abort t Failed offer = call_no_abort t (λ form e i. HasFailed t e i) (λ form e i. refl) offer
  due_no_abort t (Returned m) offer = go (pends m)
    where
      go : (b : Bool) → is_abort (if b then call_note t (λ form e i. HasFailed t e i) offer else HasReturned t) ≡ false
      go true = call_no_abort t (λ form e i. HasFailed t e i) (λ form e i. refl) offer
      go false = refl
  due_no_abort t (Over c) offer = refl

  abort_based : (k : Copy L) → is_abort (note_of p pends k) ≡ true → is_based k ≡ true
  abort_based (Based t l) h = refl
  abort_based (Owing t due l) h = absurd (true≢false (sym h ∙ due_no_abort t due (p.ops.offer l)))
  abort_based k h = absurd (true≢false (sym h))

-- what it tells where the original is to abort
based_abort : (t u v : ℕ) (offer : Offer) → ToAbort u v ≡ based_note t offer → (offer ≡ Aborts v) × (u ≡ t)
based_abort t u v (Aborts y) h = (ap Aborts (ap abort_of (sym h)), ap abort_by h)
based_abort t u v Nothing h = absurd (differ is_abort (ToAbort u v) (BeforeCall t) refl refl h)
based_abort t u v (Calls form e i) h = absurd (differ is_abort (ToAbort u v) (BeforeCall t) refl refl h)
based_abort t u v (Waits choices) h = absurd (differ is_abort (ToAbort u v) (BeforeCall t) refl refl h)
based_abort t u v Finishes h = absurd (differ is_abort (ToAbort u v) (BeforeCall t) refl refl h)
based_abort t u v Ends h = absurd (differ is_abort (ToAbort u v) (AtEnd t) refl refl h)

-- ---- what TASKING_ERROR at the call of a caller leaves

failed_begun : {L : Type 0} (k : Copy L) (t c e : ℕ) (i : ℤ) (l v : L) → call_owes Failed k ≡ Owing t (Begun c e i v) l → k ≡ Owing t (Begun c e i v) l
failed_begun (Calling u m) t c e i l v h = absurd (differ is_begun (Owing t (Begun c e i v) l) (Owing u Failed m) refl refl (sym h))
failed_begun k t c e i l v h = h

failed_back : {L : Type 0} (k : Copy L) (t : ℕ) (m v : L) → call_owes Failed k ≡ Owing t (Returned m) v → k ≡ Owing t (Returned m) v
failed_back (Calling u l) t m v h = absurd (differ is_back (Owing t (Returned m) v) (Owing u Failed l) refl refl (sym h))
failed_back k t m v h = h

-- the state of who is let go
let_go_local : {L : Type 0} (f : L → L) (a : ℕ) (seat : Seat L) → ((let_go f a seat).local ≡ seat.local) ⊎ ((let_go f a seat).local ≡ f seat.local)
let_go_local {L} f a seat = ⊎_elim (λ h. served h) (λ h. inl (ap (λ (y : Seat L). y.local) (let_go_other f a seat h))) (cases_Bool (is_served_by a seat.standing))
  where
    served : is_served_by a seat.standing ≡ true → ((let_go f a seat).local ≡ seat.local) ⊎ ((let_go f a seat).local ≡ f seat.local)
    served h = go (is_abnormal seat.standing) refl
      where
        go : (b : Bool) → is_abnormal seat.standing ≡ b → ((let_go f a seat).local ≡ seat.local) ⊎ ((let_go f a seat).local ≡ f seat.local)
        go true q = inl (ap (λ (y : Seat L). y.local) (let_go_served f a seat h ∙ ap (λ b. if b then completed seat.local else live (f seat.local)) q))
        go false q = inr (ap (λ (y : Seat L). y.local) (let_go_served f a seat h ∙ ap (λ b. if b then completed seat.local else live (f seat.local)) q))

module _ {o : Original} (x : Setting o) (past : List Event) (d : World o.L) (w : World (Copy o.L)) (c : ℕ) (b : Book) (u v : ℕ) (inv : Inv x past (Striking c b u v) d w) (runs : w.ended ≡ false)
    (sound : IsSound (twin x).ops (IsProperCopy o) w.tasks) where
  abbrev n : ℕ
  n = recorder x

  abbrev r : Copy o.L
  r = Striking c b u v

  below : c < o.p.size
  below = inv.records.1

  served : (w.tasks c).standing ≡ Served n false
  served = inv.records.2

  below_sound : IsSound o.p.ops o.IsProper d.tasks
  below_sound = (reached_come o past d inv.reached).sound

  -- Who has told: in the original it is at its abort statement.
  record TellerAt : Type 0 where
    l : o.L
    at : w.tasks c ≡ record { local = Based c l; standing = Served n false }
    here : d.tasks c ≡ live l
    offer : o.p.ops.offer l ≡ Aborts v
    self : u ≡ c
    tells : based_offer x.note c (o.p.ops.offer l) ≡ telling x.note
    was : CameFree o c l

  teller : TellerAt
  teller = go told'.own
    where
      told' : TellingAt x past r d w inv runs sound c
      told' = telling_at x past r d w inv runs sound c below served

      none : (j : Copy o.L) → told'.k ≡ j → is_based j ≡ false → TellerAt
      none j q f = absurd (true≢false (sym (abort_based o.p x.pends told'.k (ap is_abort (sym told'.hears.1))) ∙ ap is_based q ∙ f))

      go : OwnAt x b d.tasks c told'.k → TellerAt
      go (OwnBased l q here) =
          let g : (o.p.ops.offer l ≡ Aborts v) × (u ≡ c) = based_abort c u v (o.p.ops.offer l) (told'.hears.1 ∙ ap (note_of o.p x.pends) q) in
          record {
            l = l;
            at = told'.at ∙ ap (λ j. record { local = j; standing = Served n false }) q;
            here = here;
            offer = g.0;
            self = g.1;
            tells = ap (copy_offer o.p x.note) (sym q) ∙ told'.hears.2;
            was = subst (λ j. CameFree o c (under o.p.ops.nobody j)) q told'.was;
          }
      go (OwnCalling l form e i q offer here met) = none (Calling c l) q refl
      go (OwnOwing l due q here h) = none (Owing c due l) q refl
      go (OwnServed l m a form e i q offer here was) = none (Owing c (Returned m) l) q refl
      go (OwnReturned l m form e i q offer here met was) = none (Owing c (Returned m) l) q refl
      go (OwnLost l due form e i q behind offer here met was) = none (Owing c due l) q refl
      go (OwnOver l s q in_s offer has once here was) = none (Owing c (Over s) l) q refl
      go (OwnRefusing l s q here gone) = none (Refusing c s l) q refl
      go (OwnLeaving l q offer other here) = none (Leaving c l) q refl

  abbrev l : o.L
  l = teller.l

  aborts_now : aborts v (o.p.ops.offer (d.tasks c).local) ≡ true
  aborts_now = ap (λ (y : Seat o.L). aborts v (o.p.ops.offer y.local)) teller.here ∙ ap (aborts v) teller.offer ∙ equal_self v

  -- the victim is an original task
  in_v : v < o.p.size
  in_v = x.aborts_tasks d (reached_come o past d inv.reached) inv.runs c v (ap (λ (y : Seat o.L). y.standing) teller.here) aborts_now

  victim_other : (v == n) ≡ false
  victim_other = below_apart v n in_v

  abbrev b' : Book
  b' = recorded b (ToAbort u v)

  abbrev r' : Copy o.L
  r' = Noted c false b'

  -- ---- the tasks then

  abbrev w' : ℕ → Seat (Copy o.L)
  w' = acted (numbered (twin x)) w.tasks (B n v)

  abbrev d' : ℕ → Seat o.L
  d' = acted (numbered o.p) d.tasks (B c v)

  abbrev raise : Copy o.L → Copy o.L
  raise = call_owes Failed

  there_recorder : w' n ≡ live r'
  there_recorder = struck_self (twin x) w.tasks sound n v r inv.at victim_other

  there_victim : w' v ≡ fallen_seat (w.tasks v)
  there_victim = struck_victim (twin x) w.tasks sound n v r inv.at victim_other

  there_other : (t : ℕ) → (t == n) ≡ false → (t == v) ≡ false → w' t ≡ let_go raise v (w.tasks t)
  there_other t p q = struck_other (twin x) w.tasks sound n v r inv.at victim_other t p q

  -- in the original, where it does not abort itself and where it does
  here_teller : (v == c) ≡ false → d' c ≡ live (o.p.ops.passed l)
  here_teller q = struck_self o.p d.tasks below_sound c v l teller.here q

  here_self : (v == c) ≡ true → d' v ≡ completed l
  here_self q = own_self o.p d.tasks below_sound c v l teller.here q

  here_victim : (v == c) ≡ false → d' v ≡ fallen_seat (d.tasks v)
  here_victim q = struck_victim o.p d.tasks below_sound c v l teller.here q

  here_other : (t : ℕ) → (t == c) ≡ false → (t == v) ≡ false → d' t ≡ let_go o.p.ops.raised v (d.tasks t)
  here_other t p q = ⊎_elim (λ f. own_other o.p d.tasks below_sound c v l teller.here f t q) (λ f. struck_other o.p d.tasks below_sound c v l teller.here f t p q) (cases_Bool (v == c))

  -- whatever the task is that is aborted
  victim_closed : is_closed (d' v).standing ≡ true
  victim_closed = ⊎_elim (λ q. ap (λ (y : Seat o.L). is_closed y.standing) (here_self q))
      (λ q. ap (λ (y : Seat o.L). is_closed y.standing) (here_victim q) ∙ fallen_closed Killed (d.tasks v).standing refl) (cases_Bool (v == c))

  victim_out : o.out (d' v).local ≡ o.out (d.tasks v).local
  victim_out = ⊎_elim (λ q. ap (λ (y : Seat o.L). o.out y.local) (here_self q ∙ sym (ap (λ (y : Seat o.L). completed y.local) (ap d.tasks (eqb-true v c q) ∙ teller.here))))
      (λ q. ap (λ (y : Seat o.L). o.out y.local) (here_victim q)) (cases_Bool (v == c))

  -- the teller is served by nobody then
  teller_free : (a : ℕ) → is_served_by a (d' c).standing ≡ false
  teller_free a = ⊎_elim
      (λ q. ap (λ t. is_served_by a (d' t).standing) (sym (eqb-true v c q)) ∙ ap (λ (y : Seat o.L). is_served_by a y.standing) (here_self q))
      (λ q. ap (λ (y : Seat o.L). is_served_by a y.standing) (here_teller q)) (cases_Bool (v == c))

  -- ---- what the recorder keeps

  met_same : (t : ℕ) → t < o.p.size → is_served_by v (d.tasks t).standing ≡ false → b'.met t ≡ b.met t
  met_same t k h = ap (λ f. if f then 3 else b.met t) (inv.serves v t k ∙ h)

  met_lost : (t : ℕ) → t < o.p.size → is_served_by v (d.tasks t).standing ≡ true → b'.met t ≡ 3
  met_lost t k h = ap (λ f. if f then 3 else b.met t) (inv.serves v t k ∙ h)

  -- ---- each task

  closed_same : (t : ℕ) → (t == v) ≡ false → is_closed (d' t).standing ≡ is_closed (d.tasks t).standing
  closed_same t q = ⊎_elim
      (λ p.
      let not_v : (v == c) ≡ false = unequal_turned c v (at_one (λ s. (s == v) ≡ false → (c == v) ≡ false) t c p (λ h. h) q) in
      at_one (λ s. is_closed (d' s).standing ≡ is_closed (d.tasks s).standing) t c p
      (ap (λ (y : Seat o.L). is_closed y.standing) (here_teller not_v) ∙ sym (ap (λ (y : Seat o.L). is_closed y.standing) teller.here)))
      (λ p. ap (λ (y : Seat o.L). is_closed y.standing) (here_other t p q) ∙ let_go_closed_same o.p.ops.raised v (d.tasks t))
      (cases_Bool (t == c))

  stay_closed : (t : ℕ) → is_closed (d.tasks t).standing ≡ true → is_closed (d' t).standing ≡ true
  stay_closed t h = ⊎_elim (λ q. at_one (λ s. is_closed (d' s).standing ≡ true) t v q victim_closed) (λ q. closed_same t q ∙ h) (cases_Bool (t == v))

  -- a task that is neither the teller nor the victim
  module _ (t : ℕ) (k : t < o.p.size) (p : (t == c) ≡ false) (q : (t == v) ≡ false) where
    there : w' t ≡ let_go raise v (w.tasks t)
    there = there_other t (below_apart t n k) q

    here : d' t ≡ let_go o.p.ops.raised v (d.tasks t)
    here = here_other t p q

    -- the victim serves it in neither, in the original alone, here alone, or in both
    there_same : is_served_by v (w.tasks t).standing ≡ false → w' t ≡ w.tasks t
    there_same h = there ∙ let_go_other raise v (w.tasks t) h

    here_same : is_served_by v (d.tasks t).standing ≡ false → d' t ≡ d.tasks t
    here_same h = here ∙ let_go_other o.p.ops.raised v (d.tasks t) h

    no_hears : (j : Copy o.L) → Hears x r t j → ⊥
    no_hears j h = true≢false (sym (ap (λ s. s == c) (sym h.0) ∙ equal_self c) ∙ p)

    abbrev Then : Type 0
    Then = SeatAt x b' w' d' r' t

    clash_here : (seat : Seat o.L) → d.tasks t ≡ seat → is_served_by v seat.standing ≡ false → is_served_by v (d.tasks t).standing ≡ true → ⊥
    clash_here seat at f h = true≢false (sym h ∙ ap (λ (y : Seat o.L). is_served_by v y.standing) at ∙ f)

    clash_there : (seat : Seat (Copy o.L)) → w.tasks t ≡ seat → is_served_by v seat.standing ≡ false → is_served_by v (w.tasks t).standing ≡ true → ⊥
    clash_there seat at f h = true≢false (sym h ∙ ap (λ (y : Seat (Copy o.L)). is_served_by v y.standing) at ∙ f)

    -- a closed task stays as it is, or completes
    closed_then : is_closed (w.tasks t).standing ≡ true → is_closed (d.tasks t).standing ≡ true → out_of x (w.tasks t).local ≡ o.out (d.tasks t).local → Then
    closed_then closed closed' outs = Gone
        (ap (λ (y : Seat (Copy o.L)). is_closed y.standing) there ∙ let_go_closed_same raise v (w.tasks t) ∙ closed)
        (ap (λ (y : Seat o.L). is_closed y.standing) here ∙ let_go_closed_same o.p.ops.raised v (d.tasks t) ∙ closed')
        (ap (λ (y : Seat (Copy o.L)). out_of x y.local) there ∙ local_same raise (w.tasks t) closed ∙ outs ∙
        sym (ap (λ (y : Seat o.L). o.out y.local) here ∙ local_same' o.p.ops.raised (d.tasks t) closed'))
      where
        local_is : {L : Type 0} (f : L → L) (seat : Seat L) → is_closed seat.standing ≡ true → (let_go f v seat).local ≡ seat.local
        local_is {L} f seat closed = ⊎_elim
            (λ h. ap (λ (y : Seat L). y.local) (let_go_served f v seat h ∙ ap (λ b. if b then completed seat.local else live (f seat.local)) (sym (served_closed v seat.standing h) ∙ closed)))
            (λ h. ap (λ (y : Seat L). y.local) (let_go_other f v seat h)) (cases_Bool (is_served_by v seat.standing))

        local_same : (f : Copy o.L → Copy o.L) (seat : Seat (Copy o.L)) → is_closed seat.standing ≡ true → out_of x (let_go f v seat).local ≡ out_of x seat.local
        local_same f seat closed = ap (out_of x) (local_is f seat closed)

        local_same' : (f : o.L → o.L) (seat : Seat o.L) → is_closed seat.standing ≡ true → o.out (let_go f v seat).local ≡ o.out seat.local
        local_same' f seat closed = ap o.out (local_is f seat closed)

    seat_other : Then
    seat_other = ⊎_elim
        (λ f. ⊎_elim (both_served f) (here_alone f) (cases_Bool (is_served_by v (d.tasks t).standing)))
        (λ f. ⊎_elim (there_alone f) (neither f) (cases_Bool (is_served_by v (d.tasks t).standing)))
        (cases_Bool (is_served_by v (w.tasks t).standing))
      where
        neither : is_served_by v (w.tasks t).standing ≡ false → is_served_by v (d.tasks t).standing ≡ false → Then
        neither f g = seat_on x b b' w.tasks w' d.tasks d' r r' t (record { there = there_same f; here = here_same g; met = met_same t k g; acceptor = refl }) stay_closed
            (λ j h. absurd (no_hears j h)) (inv.seats t k)

        -- it is behind its call, and nobody has told
        there_alone : is_served_by v (w.tasks t).standing ≡ false → is_served_by v (d.tasks t).standing ≡ true → Then
        there_alone f g = go (inv.seats t k)
          where
            go : SeatAt x b w.tasks d.tasks r t → Then
            go (Free j at own) =
                let (m, y, form, e, i, is, calls, at', was) = own_served x b d.tasks v t j own g in
                Free j (there_same f ∙ at) (OwnLost y (Returned m) form e i is tt calls
                (here ∙ ap (let_go o.p.ops.raised v) at' ∙ let_go_served o.p.ops.raised v (record { local = y; standing = Served v false }) (equal_self v)) (met_lost t k g) was)
            go (Telling j at hears own was) = absurd (no_hears j hears)
            go (Shared a y form e i at calls at' was) =
                absurd (true≢false (sym g ∙ ap (λ (s : Seat o.L). is_served_by v s.standing) at' ∙ sym (ap (λ (s : Seat (Copy o.L)). is_served_by v s.standing) at) ∙ f))
            go (Apart a y form e i at calls owns at' met) = absurd (clash_here (live y) at' refl g)
            go (Gone closed closed' outs) = closed_then closed closed' outs

        -- the victim has not told that it has accepted it
        here_alone : is_served_by v (w.tasks t).standing ≡ true → is_served_by v (d.tasks t).standing ≡ false → Then
        here_alone f g = go (inv.seats t k)
          where
            go : SeatAt x b w.tasks d.tasks r t → Then
            go (Free j at own) = absurd (clash_there (live j) at refl f)
            go (Telling j at hears own was) = absurd (no_hears j hears)
            go (Shared a y form e i at calls at' was) =
                absurd (true≢false (sym f ∙ ap (λ (s : Seat (Copy o.L)). is_served_by v s.standing) at ∙ sym (ap (λ (s : Seat o.L). is_served_by v s.standing) at') ∙ g))
            go (Apart a y form e i at calls owns at' met) =
                let is : a ≡ v = eqb-true a v (ap (λ (s : Seat (Copy o.L)). is_served_by v s.standing) (sym at) ∙ f) in
                Free (Owing t Failed y) (there ∙ ap (let_go raise v) at ∙ let_go_served raise v (record { local = Calling t y; standing = Served a false }) (ap (λ s. s == v) is ∙ equal_self v))
                (OwnOwing y Failed refl (here_same g ∙ at') (form, e, i, calls, ap (λ s. is_closed (d' s).standing) (owns ∙ is) ∙ victim_closed, met_same t k g ∙ met))
            go (Gone closed closed' outs) = closed_then closed closed' outs

        both_served : is_served_by v (w.tasks t).standing ≡ true → is_served_by v (d.tasks t).standing ≡ true → Then
        both_served f g = go (inv.seats t k)
          where
            go : SeatAt x b w.tasks d.tasks r t → Then
            go (Free j at own) = absurd (clash_there (live j) at refl f)
            go (Telling j at hears own was) = absurd (no_hears j hears)
            go (Shared a y form e i at calls at' was) =
                let is : (a == v) ≡ true = ap (λ (s : Seat (Copy o.L)). is_served_by v s.standing) (sym at) ∙ f in
                Free (Owing t Failed y) (there ∙ ap (let_go raise v) at ∙ let_go_served raise v (record { local = Calling t y; standing = Served a false }) is)
                (OwnLost y Failed form e i refl tt calls (here ∙ ap (let_go o.p.ops.raised v) at' ∙ let_go_served o.p.ops.raised v
                (record { local = y; standing = Served a false }) is) (met_lost t k g) was)
            go (Apart a y form e i at calls owns at' met) = absurd (clash_here (live y) at' refl g)
            go (Gone closed closed' outs) = closed_then closed closed' outs

  -- the victim
  seat_victim : SeatAt x b' w' d' r' v
  seat_victim = Gone (ap (λ (y : Seat (Copy o.L)). is_closed y.standing) there_victim ∙ fallen_closed Killed (w.tasks v).standing refl) victim_closed
      (ap (λ (y : Seat (Copy o.L)). out_of x y.local) there_victim ∙ same_output x b w.tasks d.tasks r v (inv.seats v in_v) ∙ sym victim_out)

  -- the teller, which is another
  seat_teller : (v == c) ≡ false → SeatAt x b' w' d' r' c
  seat_teller q =
      let there : w' c ≡ record { local = Based c l; standing = Served n false } = there_other c (below_apart c n below) (unequal_turned v c q) ∙
      let_go_other raise v (w.tasks c) (ap (is_served_by v) served ∙ unequal_turned v n victim_other) ∙ teller.at in
      Telling (Based c l) there (refl, teller.tells) (OwnBased (o.p.ops.passed l) (ap (λ f. told o.p c f l) teller.offer) (here_teller q)) teller.was

  seats : (t : ℕ) → t < o.p.size → SeatAt x b' w' d' r' t
  seats t k = ⊎_elim
      (λ q. at_one (SeatAt x b' w' d' r') t v q seat_victim)
      (λ q. ⊎_elim
      (λ p. at_one (SeatAt x b' w' d' r') t c p (seat_teller (unequal_turned c v (at_one (λ s. (s == v) ≡ false → (c == v) ≡ false) t c p (λ h. h) q))))
      (λ p. seat_other t k p q)
      (cases_Bool (t == c)))
      (cases_Bool (t == v))

  -- ---- what the book says

  gone_then : (t : ℕ) → t < o.p.size → b'.gone t ≡ is_closed (d' t).standing
  gone_then t k = ⊎_elim
      (λ q. ap (λ f. if f then true else b.gone t) q ∙ sym (at_one (λ s. is_closed (d' s).standing ≡ true) t v q victim_closed))
      (λ q. ap (λ f. if f then true else b.gone t) q ∙ inv.gone t k ∙ sym (closed_same t q))
      (cases_Bool (t == v))

  serves_then : (a t : ℕ) → t < o.p.size → are_met b' a t ≡ is_served_by a (d' t).standing
  serves_then a t k = ⊎_elim at_served (λ h. ap (λ m. (m == 1) && (b.acceptor t == a)) (met_same t k h) ∙ inv.serves a t k ∙ sym (same h)) (cases_Bool (is_served_by v (d.tasks t).standing))
    where
      -- whom the victim does not serve another serves as before
      same : is_served_by v (d.tasks t).standing ≡ false → is_served_by a (d' t).standing ≡ is_served_by a (d.tasks t).standing
      same h = ⊎_elim
          (λ p. at_one (λ s. is_served_by a (d' s).standing ≡ is_served_by a (d.tasks s).standing) t c p (teller_free a ∙ sym (ap (λ (y : Seat o.L). is_served_by a y.standing) teller.here)))
          (λ p. ⊎_elim
          (λ q. at_one (λ s. (s == c) ≡ false → is_served_by a (d' s).standing ≡ is_served_by a (d.tasks s).standing) t v q
          (λ f. ap (λ (y : Seat o.L). is_served_by a y.standing) (here_victim f) ∙ fallen_served_by a Killed (d.tasks v).standing refl) p)
          (λ q. ap (λ (y : Seat o.L). is_served_by a y.standing) (here_same t k p q h))
          (cases_Bool (t == v)))
          (cases_Bool (t == c))

      at_served : is_served_by v (d.tasks t).standing ≡ true → are_met b' a t ≡ is_served_by a (d' t).standing
      at_served h =
          let p : (t == c) ≡ false = ne_eqb t c (λ e. true≢false (sym h ∙ ap (λ s. is_served_by v (d.tasks s).standing) e ∙ ap (λ (y : Seat o.L). is_served_by v y.standing) teller.here)) in
          let q : (t == v) ≡ false = ne_eqb t v (λ e. true≢false (sym h ∙ ap (λ s. is_served_by v (d.tasks s).standing) e ∙ below_sound.itself v)) in
          ap (λ m. (m == 1) && (b.acceptor t == a)) (met_lost t k h) ∙ sym (ap (λ (y : Seat o.L). is_served_by a y.standing) (here t k p q) ∙ let_go_free o.p.ops.raised v a (d.tasks t) h)

  -- ---- links

  -- a task that is then in this state was in it
  kept_begun : (t s e : ℕ) (i : ℤ) (m y : o.L) → (w' t).local ≡ Owing t (Begun s e i y) m → (w.tasks t).local ≡ Owing t (Begun s e i y) m
  kept_begun t s e i m y h = ⊎_elim
      (λ q. absurd (differ is_owing (Owing t (Begun s e i y) m) (w' t).local refl (at_one (λ z. is_owing (w' z).local ≡ false) t n q (ap (λ (f : Seat
      (Copy o.L)). is_owing f.local) there_recorder)) (sym h)))
      (λ p. ⊎_elim
      (λ q. at_one (λ z. (w' z).local ≡ Owing t (Begun s e i y) m → (w.tasks z).local ≡ Owing t (Begun s e i y) m) t v q (λ g. ap (λ (f : Seat (Copy o.L)). f.local) (sym there_victim) ∙ g) h)
      (λ q.
      let g : (let_go raise v (w.tasks t)).local ≡ Owing t (Begun s e i y) m = ap (λ (f : Seat (Copy o.L)). f.local) (sym (there_other t p q)) ∙ h in
      ⊎_elim (λ f. sym f ∙ g) (λ f. failed_begun (w.tasks t).local t s e i m y (sym f ∙ g)) (let_go_local raise v (w.tasks t)))
      (cases_Bool (t == v)))
      (cases_Bool (t == n))

  kept_back : (t : ℕ) (m y : o.L) → (w' t).local ≡ Owing t (Returned m) y → (w.tasks t).local ≡ Owing t (Returned m) y
  kept_back t m y h = ⊎_elim
      (λ q. absurd (differ is_owing (Owing t (Returned m) y) (w' t).local refl (at_one (λ z. is_owing (w' z).local ≡ false) t n q (ap (λ (f : Seat
      (Copy o.L)). is_owing f.local) there_recorder)) (sym h)))
      (λ p. ⊎_elim
      (λ q. at_one (λ z. (w' z).local ≡ Owing t (Returned m) y → (w.tasks z).local ≡ Owing t (Returned m) y) t v q (λ g. ap (λ (f : Seat (Copy o.L)). f.local) (sym there_victim) ∙ g) h)
      (λ q.
      let g : (let_go raise v (w.tasks t)).local ≡ Owing t (Returned m) y = ap (λ (f : Seat (Copy o.L)). f.local) (sym (there_other t p q)) ∙ h in
      ⊎_elim (λ f. sym f ∙ g) (λ f. failed_back (w.tasks t).local t m y (sym f ∙ g)) (let_go_local raise v (w.tasks t)))
      (cases_Bool (t == v)))
      (cases_Bool (t == n))

  -- who is served then was served, and is in the state in which it was
  kept_served : (a t : ℕ) → is_served_by a (w' t).standing ≡ true → (is_served_by a (w.tasks t).standing ≡ true) × ((w' t).local ≡ (w.tasks t).local)
  kept_served a t h = ⊎_elim
      (λ q. absurd (true≢false (sym h ∙ at_one (λ z. is_served_by a (w' z).standing ≡ false) t n q (ap (λ (f : Seat (Copy o.L)). is_served_by a f.standing) there_recorder))))
      (λ p. ⊎_elim
      (λ q. at_one (λ z. is_served_by a (w' z).standing ≡ true → (is_served_by a (w.tasks z).standing ≡ true) × ((w' z).local ≡ (w.tasks z).local)) t v q
      (λ g. (
        sym (fallen_served_by a Killed (w.tasks v).standing refl) ∙ ap (λ (f : Seat (Copy o.L)). is_served_by a f.standing) (sym there_victim) ∙
            g,
        ap (λ (f : Seat (Copy o.L)). f.local) there_victim,
      )) h)
      (λ q. ⊎_elim
      (λ g. absurd (true≢false (sym h ∙ ap (λ (f : Seat (Copy o.L)). is_served_by a f.standing) (there_other t p q) ∙ let_go_free raise v a (w.tasks t) g)))
      (λ g.
      let is : w' t ≡ w.tasks t = there_other t p q ∙ let_go_other raise v (w.tasks t) g in
      (ap (λ (f : Seat (Copy o.L)). is_served_by a f.standing) (sym is) ∙ h, ap (λ (f : Seat (Copy o.L)). f.local) is))
      (cases_Bool (is_served_by v (w.tasks t).standing)))
      (cases_Bool (t == v)))
      (cases_Bool (t == n))

  begun_then : AreBegun x w'
  begun_then t s e i m y h g =
      let k : (is_served_by t (w.tasks s).standing ≡ true) × ((w' s).local ≡ (w.tasks s).local) = kept_served t s g in
      k.1 ∙ inv.begun t s e i m y (kept_begun t s e i m y h) k.0

  over_then : AreOver x w' d'
  over_then a t m y h open' g =
      let is : (w.tasks t).local ≡ Owing t (Returned m) y = kept_back t m y h in
      let not_n : (t == n) ≡ false = ne_eqb t n (λ e. differ is_owing (Owing t (Returned m) y) (w' t).local refl (ap (λ s. is_owing (w' s).local) e ∙
      ap (λ (f : Seat (Copy o.L)). is_owing f.local) there_recorder) (sym h)) in
      let not_c : (t == c) ≡ false = ne_eqb t c (λ e. true≢false (sym g ∙ ap (λ s. is_served_by a (d' s).standing) e ∙ teller_free a)) in
      let not_v : (t == v) ≡ false = ne_eqb t v (λ e. true≢false (sym (ap (λ s. is_closed (w' s).standing) e ∙
      ap (λ (f : Seat (Copy o.L)). is_closed f.standing) there_victim ∙ fallen_closed Killed (w.tasks v).standing refl) ∙ open')) in
      let unserved : is_served_by v (d.tasks t).standing ≡ false = none_served' t not_c not_v a g in
      let here' : d' t ≡ d.tasks t = here_other t not_c not_v ∙ let_go_other o.p.ops.raised v (d.tasks t) unserved in
      let open'' : is_closed (w.tasks t).standing ≡ false =
      sym (let_go_closed_same raise v (w.tasks t)) ∙ ap (λ (f : Seat (Copy o.L)). is_closed f.standing) (sym (there_other t not_n not_v)) ∙ open' in
      let g' : is_served_by a (d.tasks t).standing ≡ true = ap (λ (f : Seat o.L). is_served_by a f.standing) (sym here') ∙ g in
      let link : ((w.tasks a).local ≡ Owing a (Over t) m) × (d.tasks a ≡ live m) = inv.over a t m y is open'' g' in
      let a_not_v : (a == v) ≡ false = ne_eqb a v (λ e. true≢false (sym g' ∙ ap (λ s. is_served_by s (d.tasks t).standing) e ∙ unserved)) in
      let a_not_n : (a == n) ≡ false = ne_eqb a n (λ e. differ is_owing (Owing a (Over t) m) (w.tasks a).local refl (ap (λ s. is_owing (w.tasks s).local) e ∙
      ap (λ (f : Seat (Copy o.L)). is_owing f.local) inv.at) (sym link.0)) in
      let a_not_c : (a == c) ≡ false = ne_eqb a c (λ e. differ is_owing (Owing a (Over t) m) (w.tasks a).local refl (ap (λ s. is_owing (w.tasks s).local) e ∙
      ap (λ (f : Seat (Copy o.L)). is_owing f.local) teller.at) (sym link.0)) in (
        ap (λ (f : Seat (Copy o.L)). f.local) (there_other a a_not_n a_not_v) ∙ ⊎_elim (λ f. f ∙ link.0) (λ f. f ∙ ap raise link.0) (let_go_local raise v (w.tasks a)),
        here_other a a_not_c a_not_v ∙ ap (let_go o.p.ops.raised v) link.1,
      )
    where
      none_served' : (t : ℕ) → (t == c) ≡ false → (t == v) ≡ false → (a : ℕ) → is_served_by a (d' t).standing ≡ true → is_served_by v (d.tasks t).standing ≡ false
      none_served' t p q a g = ⊎_elim
          (λ f. absurd (true≢false (sym g ∙ ap (λ (y : Seat o.L). is_served_by a y.standing) (here_other t p q) ∙ let_go_free o.p.ops.raised v a (d.tasks t) f)))
          (λ f. f) (cases_Bool (is_served_by v (d.tasks t).standing))

  -- ---- what the original can do, and has written behind it

  pub can_abort : happens o.p d.tasks (B u v) ≡ true
  can_abort = ap (λ t. happens o.p d.tasks (B t v)) teller.self ∙ offers_at o.p.ops (aborts v) (d.tasks c) l teller.here (ap (aborts v) teller.offer ∙ equal_self v)

  outputs_then : (t : ℕ) → o.out (d' t).local ≡ o.out (d.tasks t).local
  outputs_then t = ⊎_elim
      (λ q. at_one (λ s. o.out (d' s).local ≡ o.out (d.tasks s).local) t v q victim_out)
      (λ q. ⊎_elim
      (λ p.
      let not_v : (v == c) ≡ false = unequal_turned c v (at_one (λ s. (s == v) ≡ false → (c == v) ≡ false) t c p (λ h. h) q) in
      at_one (λ s. o.out (d' s).local ≡ o.out (d.tasks s).local) t c p
      (ap (λ (y : Seat o.L). o.out y.local) (here_teller not_v) ∙ x.passes_silent l ∙ sym (ap (λ (y : Seat o.L). o.out y.local) teller.here)))
      (λ p. ap (λ (y : Seat o.L). o.out y.local) (here_other t p q) ∙
      ⊎_elim (λ f. ap o.out f) (λ f. ap o.out f ∙ x.silent.raised (d.tasks t).local) (let_go_local o.p.ops.raised v (d.tasks t)))
      (cases_Bool (t == c)))
      (cases_Bool (t == v))

  pub abort_outputs : (t : ℕ) → o.out (acted (numbered o.p) d.tasks (B u v) t).local ≡ o.out (d.tasks t).local
  abort_outputs t = ap (λ s. o.out (acted (numbered o.p) d.tasks (B s v) t).local) teller.self ∙ outputs_then t

  -- ---- the whole

  past' : b'.events ≡ past ++ (B c v ∷ [])
  past' = ap₂ (λ es t. es ++ (B t v ∷ [])) inv.records.0 teller.self

  teller_served : is_served_by n (w' c).standing ≡ true
  teller_served = ⊎_elim
      (λ q. at_one (λ t. is_served_by n (w' t).standing ≡ is_served_by n (w.tasks t).standing) c v q
      (ap (λ (f : Seat (Copy o.L)). is_served_by n f.standing) there_victim ∙ fallen_served_by n Killed (w.tasks v).standing refl) ∙ still)
      (λ q. ap (λ (f : Seat (Copy o.L)). is_served_by n f.standing) (there_other c (below_apart c n below) q ∙
      let_go_other raise v (w.tasks c) (ap (is_served_by v) served ∙ unequal_turned v n victim_other)) ∙ still)
      (cases_Bool (c == v))
    where
      still : is_served_by n (w.tasks c).standing ≡ true
      still = ap (is_served_by n) served ∙ equal_self n

  pub strikes : IsBeside x (moved (twin x) w (Happen (B n v)))
  strikes = record {
    past = past ++ (B c v ∷ []);
    r = r';
    d = moved o.p d (Happen (B c v));
    inv = record {
      reached = reach_event o past d (B c v) inv.reached inv.runs
          (offers_at o.p.ops (aborts v) (d.tasks c) l teller.here (ap (aborts v) teller.offer ∙ equal_self v));
      runs = inv.runs;
      ends = λ h. absurd (true≢false (sym h ∙ runs));
      at = there_recorder;
      records = (past', below, teller_served);
      gone = gone_then;
      serves = serves_then;
      seats = seats;
      begun = begun_then;
      over = over_then;
      beyond = beyond;
    };
  }
    where
      beyond : (t : ℕ) → suc o.p.size ≤ t → is_completed (w' t).standing ≡ true
      beyond t k =
          let p : (t == n) ≡ false = unequal_above t n k in
          let q : (t == v) ≡ false = let j : v < o.p.size = in_v in unequal_above t v (omega (arith, k, j)) in
          let free : is_served_by v (w.tasks t).standing ≡ false = ⊎_elim (λ f. absurd (completed_unserved v (w.tasks t).standing (inv.beyond t k) f)) (λ f. f)
          (cases_Bool (is_served_by v (w.tasks t).standing)) in
          ap (λ (f : Seat (Copy o.L)). is_completed f.standing) (there_other t p q ∙ let_go_other raise v (w.tasks t) free) ∙ inv.beyond t k

module _ {o : Original} (x : Setting o) (past : List Event) (r : Copy o.L) (d : World o.L) (w : World (Copy o.L)) (inv : Inv x past r d w) (runs : w.ended ≡ false)
    (sound : IsSound (twin x).ops (IsProperCopy o) w.tasks) where
  -- ---- all aborts: the recorder alone aborts

  pub abort_moves : (t v : ℕ) → happens (twin x) w.tasks (B t v) ≡ true → IsBeside x (moved (twin x) w (Happen (B t v)))
  abort_moves t v h = go (offers_by x past r d w inv (aborts v) t h)
    where
      go : Offers x past r d w inv (aborts v) t → IsBeside x (moved (twin x) w (Happen (B t v)))
      go (OffersOwn within k at own passes) = absurd (aborts_nobody x (book_of r) d.tasks t k own v passes)
      go (OffersRecorder e passes) = inner (recorder_offers x past w.tasks r (aborts v) refl inv.records passes)
        where
          inner : RecorderOffers x r (aborts v) → IsBeside x (moved (twin x) w (Happen (B t v)))
          inner (IsRecording b q p) = absurd (true≢false (sym p))
          inner (IsNoted c answer b q p) = absurd (true≢false (sym p))
          inner (IsStriking c b u y q p) =
              let is : v ≡ y = eqb-true v y p in
              subst (λ (g : ℕ). IsBeside x (moved (twin x) w (Happen (B g v)))) (sym e)
              (subst (λ (g : ℕ). IsBeside x (moved (twin x) w (Happen (B (recorder x) g)))) (sym is) (strikes x past d w c b u y (subst (λ s. Inv x past s d w) q inv) runs sound))
