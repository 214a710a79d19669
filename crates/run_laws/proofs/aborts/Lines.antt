-- The recorder makes a local step: it begins, or writes one more piece, and the original does nothing; or it ends a line, and the original makes its event,
-- but where the event is an abort.
use Rattle.std.proofs.Common.{◌≡◌, ℕ, ◌<◌, Bool, true, false, not, ◌||◌, ◌&&◌, ◌==◌, if◌then◌else◌, List, [], ◌∷◌, ◌++◌, Some, None, option_to_list, append-nil, refl, sym, ap, ap₂, ◌∙◌, subst, inr, ⊎_elim, ◌⊎◌, true≢false, arith}
use Rattle.std.specs.Prelude.{ℤ, pos}
use Rattle.std.proofs.lemmas.Bool.{eqb-true, and_parts, or_parts, or_cases, or_from, cases_Bool, ne_eqb}
use Rattle.event_machine.specs.declared.CallForm.{CallForm}
use Rattle.event_machine.specs.declared.CallForm.TheVariants.{Plain, Conditional, Timed}
use Rattle.event_machine.specs.declared.Standing.TheVariants.{Served}
use Rattle.event_machine.specs.declared.Event.{Event}
use Rattle.event_machine.specs.declared.Event.TheVariants.{R, E, S, D, C, T, F, X}
use Rattle.event_machine.specs.Offers.{Offer, Nothing, Calls, Waits, Finishes, Ends, Aborts, calls_in, is_any_form, is_conditional, is_timed, waits_with, is_finish, is_end, opens, is_else, is_delay}
use Rattle.event_machine.specs.States.{Seat, live, completed, is_closed, is_served_by}
use Rattle.event_machine.specs.Programs.{numbered}
use Rattle.event_machine.specs.Soundness.{IsSound, times}
use Rattle.event_machine.specs.Worlds.{World, Happen, moved, happens, acted, is_last}
use Rattle.event_machine.proofs.Basics.{both, same_member-refl}
use Rattle.run_laws.specs.imitation.Imitations.{Original}
use Rattle.run_laws.proofs.replaying.Facts.{below_apart, put, put_self, put_other, offers_at, let_go, let_go_served}
use Rattle.run_laws.proofs.replaying.Parting.{parted_is}
use Rattle.run_laws.specs.collecting.Copies.{telling, other_part}
use Rattle.run_laws.specs.collecting.Notes.{flagged}
use Rattle.run_laws.specs.collecting.Settings.{IsOfTask}
use Rattle.run_laws.specs.collecting.inner.Beside.{IsReached}
use Rattle.run_laws.proofs.collecting.Meetings.{start_is}
use Rattle.run_laws.proofs.collecting.Offered.{nothing_tells, waits_tell, finish_tells, end_tells}
use Rattle.run_laws.proofs.collecting.Reaching.{reached_come, reach_event}
use Rattle.run_laws.proofs.collecting.Singles.{at_one}
use Rattle.run_laws.specs.aborts.Notes.{Note, BeforeCall, HasBegun, HasFinished, HasElse, HasDelay, HasCallElse, HasExpired, HasFailed, AtEnd, ToAbort, HasReturned, Book, are_met, answer_of, recorded, numbered_so}
use Rattle.run_laws.specs.aborts.Copies.{Due, Begun, TookElse, TookDelay, TookOther, Failed, Returned, Over, Copy, Based, Calling, Owing, Refusing, Leaving, Writing, Striking, Noted, line_ends, based_offer, told, based_note, note_of, call_note, other_note, copy_offer, copy_callers, answered}
use Rattle.run_laws.specs.aborts.Settings.{Setting, recorder, twin, out_of, IsProperCopy}
use Rattle.run_laws.specs.aborts.inner.Beside.{IsBehindCall, DueAt, OwnAt, OwnBased, OwnCalling, OwnOwing, OwnServed, OwnReturned, OwnLost, OwnOver, OwnRefusing, OwnLeaving, SeatAt, Free, Telling, Shared, Apart, Gone, AreOver, Inv, IsBeside}
use Rattle.run_laws.proofs.aborts.Reading.{is_owing, is_over, over_caller, due_of, state_of, differ}
use Rattle.run_laws.proofs.aborts.Owns.{end_other, met_none, own_served, own_over}
use Rattle.run_laws.proofs.aborts.Frames.{own_on, touch_inv}
use Rattle.run_laws.proofs.aborts.Tellers.{TellingAt, telling_at}
use Rattle.run_laws.proofs.aborts.Silently.{silent_step, step_served}
use Rattle.run_laws.proofs.aborts.Singles.{one_begun, of_task}
use Rattle.run_laws.proofs.aborts.Pairs.{IsFirst, first_is, none_served}
use Rattle.run_laws.proofs.aborts.Meetings.{served_below}
use Rattle.run_laws.proofs.aborts.Partings.{let_go_closed, shared_below, closed_none'}
use Rattle.common_lemmas.proofs.Numbers.{equal_self, unequal_above, unequal_turned}

module _ {o : Original} (x : Setting o) (past : List Event) where
  -- ---- a line ends

  module _ (d : World o.L) (w : World (Copy o.L)) (c : ℕ) (b : Book) (note : Note) (done : List ℕ) (inv : Inv x past (Writing c b note done []) d w) (runs : w.ended ≡ false)
      (sound' : IsSound (twin x).ops (IsProperCopy o) w.tasks) where
    abbrev r : Copy o.L
    r = Writing c b note done []

    abbrev n : ℕ
    n = recorder x

    abbrev written_events : b.events ≡ past
    written_events = inv.records.0

    below : c < o.p.size
    below = inv.records.1

    served : (w.tasks c).standing ≡ Served (recorder x) false
    served = inv.records.2

    sound : IsSound o.p.ops o.IsProper d.tasks
    sound = (reached_come o past d inv.reached).sound

    open_there : is_closed (w.tasks c).standing ≡ false
    open_there = ap is_closed served

    teller : TellingAt x past r d w inv runs sound' c
    teller = telling_at x past r d w inv runs sound' c below served

    local : (w.tasks c).local ≡ teller.k
    local = ap (λ (f : Seat (Copy o.L)). f.local) teller.at

    -- the tasks when the line has ended
    abbrev ended_tasks : Bool → Book → ℕ → Seat (Copy o.L)
    ended_tasks answer b' = put w.tasks (recorder x) (live (Noted c answer b'))

    ended_same : (answer : Bool) (b' : Book) (u : ℕ) → u < o.p.size → ended_tasks answer b' u ≡ w.tasks u
    ended_same answer b' u l = put_other w.tasks (recorder x) u (live (Noted c answer b')) (below_apart u (recorder x) l)

    -- who is behind its call, and its acceptor, behind the event
    abbrev LinkedIn : (ℕ → Seat o.L) → Type 0
    LinkedIn d' = (a u : ℕ) (m v : o.L) → (w.tasks u).local ≡ Owing u (Returned m) v → is_closed (w.tasks u).standing ≡ false → is_served_by a (d' u).standing ≡ true →
        ((w.tasks a).local ≡ Owing a (Over u) m) × (d' a ≡ live m)

    -- What the original has done as the line ends: its event is one of c, and of the task s, or of c alone, where s is c.
    record IsDone (answer : Bool) (b' : Book) (past' : List Event) (d' : World o.L) (s : ℕ) : Type 0 where
      events : b'.events ≡ past'
      reached : IsReached o past' d'
      goes_on : d'.ended ≡ false
      others : (u : ℕ) → (u == c) ≡ false → (u == s) ≡ false → (d'.tasks u ≡ d.tasks u) × (b'.met u ≡ b.met u) × (b'.acceptor u ≡ b.acceptor u)
      gone : (t : ℕ) → t < o.p.size → b'.gone t ≡ is_closed (d'.tasks t).standing
      closed : (t : ℕ) → is_closed (d.tasks t).standing ≡ true → is_closed (d'.tasks t).standing ≡ true
      within : s < o.p.size
      serves_c : (a : ℕ) → are_met b' a c ≡ is_served_by a (d'.tasks c).standing
      serves_s : (s == c) ≡ false → (a : ℕ) → are_met b' a s ≡ is_served_by a (d'.tasks s).standing
      linked : LinkedIn d'.tasks
      own' : OwnAt x b' d'.tasks c (answered o.p answer teller.k)
      seat : (s == c) ≡ false → SeatAt x b' (ended_tasks answer b') d'.tasks (Noted c answer b') s

    abbrev Goal : Bool → Book → Type 0
    Goal answer b' = IsBeside x (record { tasks = ended_tasks answer b'; ended = w.ended })

    -- whatever the task is called that is c, or s
    at_two : (P : ℕ → Type 0) (s : ℕ) → P c → ((s == c) ≡ false → P s) → (t : ℕ) → ((t == c) ≡ true) ⊎ ((t == s) ≡ true) → P t
    at_two P s at_c at_s t h = ⊎_elim (λ e. at_one P t c e at_c) (λ e. at_one P t s e (⊎_elim (λ f. at_one P s c f at_c) at_s (cases_Bool (s == c)))) h

    done_inv : (answer : Bool) (b' : Book) (past' : List Event) (d' : World o.L) (s : ℕ) → IsDone answer b' past' d' s →
        Inv x past' (Noted c answer b') d' (record { tasks = ended_tasks answer b'; ended = w.ended })
    done_inv answer b' past' d' s m = touch_inv x past past' r (Noted c answer b') d d' w (record { tasks = ended_tasks answer b'; ended = w.ended }) inv (record {
      touched = λ u. (u == recorder x) || ((u == c) || (u == s));
      same = λ u q.
          let k = or_parts (u == recorder x) ((u == c) || (u == s)) q in
          let j = or_parts (u == c) (u == s) k.1 in
          let g = m.others u j.0 j.1 in
          record { there = put_other w.tasks (recorder x) u (live (Noted c answer b')) k.0; here = g.0; met = g.1; acceptor = g.2 };
      closed = m.closed;
      hears = λ t k q h.
          let j = or_parts (t == c) (t == s) (or_parts (t == recorder x) ((t == c) || (t == s)) q).1 in
          absurd (true≢false (sym (ap (λ u. u == c) (sym h.0) ∙ equal_self c) ∙ j.0));
      seats = λ t l q. at_two (λ u. SeatAt x b' (ended_tasks answer b') d'.tasks (Noted c answer b') u) s at_c m.seat t (which t l q);
      gone = m.gone;
      serves = λ a t l q. at_two (λ u. are_met b' a u ≡ is_served_by a (d'.tasks u).standing) s (m.serves_c a) (λ f. m.serves_s f a) t (which t l q);
      begun = one_begun x past r d w inv (recorder x) r inv.at refl (live (Noted c answer b')) refl (λ u. refl);
      over = over;
      reached = m.reached;
      runs = m.goes_on;
      ends = λ h. absurd (true≢false (sym h ∙ runs));
      at = put_self w.tasks (recorder x) (live (Noted c answer b'));
      records = (m.events, below, ap (λ (y : Seat (Copy o.L)). is_served_by n y.standing) (ended_same answer b' c below) ∙ ap (is_served_by n) served ∙ equal_self n);
      beyond = λ t l. or_from (t == recorder x) ((t == c) || (t == s)) (unequal_above t (recorder x) l)
          (or_from (t == c) (t == s) (let k : c < o.p.size = below in unequal_above t c (omega (arith, l, k))) (let k : s < o.p.size = m.within in unequal_above t s (omega (arith, l, k))));
    })
      where
        which : (t : ℕ) → t < o.p.size → ((t == recorder x) || ((t == c) || (t == s))) ≡ true → ((t == c) ≡ true) ⊎ ((t == s) ≡ true)
        which t l q = ⊎_elim (λ e. absurd (true≢false (sym e ∙ below_apart t (recorder x) l))) (λ f. or_cases (t == c) (t == s) f) (or_cases (t == recorder x) ((t == c) || (t == s)) q)

        at_c : SeatAt x b' (ended_tasks answer b') d'.tasks (Noted c answer b') c
        at_c = Telling teller.k (ended_same answer b' c below ∙ teller.at) (refl, teller.hears.2) m.own' teller.was

        -- the recorder is to tell nothing
        over : AreOver x (ended_tasks answer b') d'.tasks
        over a u h v p open' served' = ⊎_elim
            (λ e. absurd (differ is_owing (Owing u (Returned h) v) (ended_tasks answer b' u).local refl
            (at_one (λ z. is_owing (ended_tasks answer b' z).local ≡ false) u n e (ap (λ (f : Seat (Copy o.L)). is_owing f.local) (put_self w.tasks n (live (Noted c answer b'))))) (sym p)))
            (λ e.
            let q : ended_tasks answer b' u ≡ w.tasks u = put_other w.tasks n u (live (Noted c answer b')) e in
            let g : ((w.tasks a).local ≡ Owing a (Over u) h) × (d'.tasks a ≡ live h) =
            m.linked a u h v (ap (λ (f : Seat (Copy o.L)). f.local) (sym q) ∙ p) (ap (λ (f : Seat (Copy o.L)). is_closed f.standing) (sym q) ∙ open') served' in (
              ⊎_elim
                  (λ f. absurd (differ is_owing (Owing a (Over u) h) (w.tasks a).local refl (at_one (λ z. is_owing (w.tasks z).local ≡ false) a n f (ap (λ (s : Seat
                  (Copy o.L)). is_owing s.local) inv.at)) (sym g.0)))
                  (λ f. ap (λ (s : Seat (Copy o.L)). s.local) (put_other w.tasks n a (live (Noted c answer b')) f) ∙ g.0)
                  (cases_Bool (a == n)),
              g.1,
            ))
            (cases_Bool (u == n))

    finish : (answer : Bool) (b' : Book) (past' : List Event) (d' : World o.L) (s : ℕ) → IsDone answer b' past' d' s → Goal answer b'
    finish answer b' past' d' s m = record { past = past'; r = Noted c answer b'; d = d'; inv = done_inv answer b' past' d' s m }

    -- the original does nothing: the note has no line
    nothing_done : (answer : Bool) (b' : Book) → b'.events ≡ b.events ++ [] → b'.gone ≡ b.gone → b'.acceptor ≡ b.acceptor → ((u : ℕ) → (u == c) ≡ false → b'.met u ≡ b.met u) →
        ((a : ℕ) → are_met b' a c ≡ is_served_by a (d.tasks c).standing) → OwnAt x b' d.tasks c (answered o.p answer teller.k) → Goal answer b'
    nothing_done answer b' events gone acceptor met serves own' = finish answer b' past d c (record {
      events = events ∙ append-nil b.events ∙ written_events;
      reached = inv.reached;
      goes_on = inv.runs;
      others = λ u p q. (refl, met u p, ap (λ (f : ℕ → ℕ). f u) acceptor);
      gone = λ t k. ap (λ (f : ℕ → Bool). f t) gone ∙ inv.gone t k;
      closed = λ t h. h;
      within = below;
      serves_c = serves;
      serves_s = λ q. absurd (true≢false (sym (equal_self c) ∙ q));
      linked = λ a u m v p open' s. inv.over a u m v p open' s;
      own' = own';
      seat = λ q. absurd (true≢false (sym (equal_self c) ∙ q));
    })

    -- it keeps the same
    same_done : (answer : Bool) → OwnAt x b d.tasks c (answered o.p answer teller.k) → Goal answer (record { gone = b.gone; met = b.met; acceptor = b.acceptor; events = b.events ++ [] })
    same_done answer own' = nothing_done answer (record { gone = b.gone; met = b.met; acceptor = b.acceptor; events = b.events ++ [] }) refl refl refl (λ u p. refl) (λ a. inv.serves a c below)
        (kept (answered o.p answer teller.k) own')
      where
        kept : (k : Copy o.L) → OwnAt x b d.tasks c k → OwnAt x (record { gone = b.gone; met = b.met; acceptor = b.acceptor; events = b.events ++ [] }) d.tasks c k
        kept k own' = own_on x b (record { gone = b.gone; met = b.met; acceptor = b.acceptor; events = b.events ++ [] }) w.tasks w.tasks d.tasks d.tasks c k refl refl (λ a h. h) own'

    -- ---- an event of the teller alone

    module _ (l : o.L) (here : d.tasks c ≡ live l) (alone : is_over teller.k ≡ false) where
      open_c : is_closed (d.tasks c).standing ≡ false
      open_c = ap (λ (y : Seat o.L). is_closed y.standing) here

      alone_done : (answer : Bool) (b' : Book) (e : Event) (y : Seat o.L) → happens o.p d.tasks e ≡ true → is_last e ≡ false → acted (numbered o.p) d.tasks e ≡ put d.tasks c y →
          ((a : ℕ) → is_served_by a y.standing ≡ false) → b'.events ≡ past ++ (e ∷ []) → b'.met ≡ b.met → b'.acceptor ≡ b.acceptor →
          ((t : ℕ) → t < o.p.size → b'.gone t ≡ is_closed (put d.tasks c y t).standing) →
          ((moved o.p d (Happen e)).tasks c ≡ y → OwnAt x b' (moved o.p d (Happen e)).tasks c (answered o.p answer teller.k)) →
          IsDone answer b' (past ++ (e ∷ [])) (moved o.p d (Happen e)) c
      alone_done answer b' e y can more acts free events met acceptor gone own' = record {
        events = events;
        reached = reach_event o past d e inv.reached inv.runs can;
        goes_on = ap (λ f. f || d.ended) more ∙ inv.runs;
        others = λ u p q. (other' u p, ap (λ (f : ℕ → ℕ). f u) met, ap (λ (f : ℕ → ℕ). f u) acceptor);
        gone = λ t k. gone t k ∙ ap (λ (f : ℕ → Seat o.L). is_closed (f t).standing) (sym acts);
        closed = λ t h. ⊎_elim
            (λ q. absurd (true≢false (sym h ∙ at_one (λ v. is_closed (d.tasks v).standing ≡ false) t c q open_c)))
            (λ q. ap (λ (z : Seat o.L). is_closed z.standing) (other' t q) ∙ h)
            (cases_Bool (t == c));
        within = below;
        serves_c = λ a. ap₂ (λ (f g : ℕ → ℕ). (f c == 1) && (g c == a)) met acceptor ∙ inv.serves a c below ∙ ap (λ (z : Seat o.L). is_served_by a z.standing) here ∙
            sym (ap (λ (z : Seat o.L). is_served_by a z.standing) now ∙ free a);
        serves_s = λ q. absurd (true≢false (sym (equal_self c) ∙ q));
        linked = linked;
        own' = own' now;
        seat = λ q. absurd (true≢false (sym (equal_self c) ∙ q));
      }
        where
          now : (moved o.p d (Happen e)).tasks c ≡ y
          now = ap (λ (f : ℕ → Seat o.L). f c) acts ∙ put_self d.tasks c y

          other' : (u : ℕ) → (u == c) ≡ false → (moved o.p d (Happen e)).tasks u ≡ d.tasks u
          other' u q = ap (λ (f : ℕ → Seat o.L). f u) acts ∙ put_other d.tasks c u y q

          linked : LinkedIn (moved o.p d (Happen e)).tasks
          linked a u m v p open' s = ⊎_elim
              (λ q. absurd (true≢false (sym s ∙ at_one (λ z. is_served_by a ((moved o.p d (Happen e)).tasks z).standing ≡ false) u c q (ap
              (λ (z : Seat o.L). is_served_by a z.standing) now ∙ free a))))
              (λ q.
              let g : ((w.tasks a).local ≡ Owing a (Over u) m) × (d.tasks a ≡ live m) = inv.over a u m v p open' (ap (λ (z : Seat o.L). is_served_by a z.standing) (sym (other' u q)) ∙ s) in (
                g.0,
                ⊎_elim
                    (λ f. absurd (differ is_over (Owing a (Over u) m) (w.tasks a).local refl (at_one (λ z. is_over (w.tasks z).local ≡ false) a c f (ap is_over local ∙ alone)) (sym g.0)))
                    (λ f. other' a f ∙ g.1)
                    (cases_Bool (a == c)),
              ))
              (cases_Bool (u == c))

      -- the teller goes on in this state
      free_done : (answer : Bool) (b' : Book) (e : Event) (m : o.L) → answered o.p answer teller.k ≡ Based c m → happens o.p d.tasks e ≡ true → is_last e ≡ false →
          acted (numbered o.p) d.tasks e ≡ put d.tasks c (live m) → b'.events ≡ b.events ++ (e ∷ []) → b'.gone ≡ b.gone → b'.met ≡ b.met → b'.acceptor ≡ b.acceptor → Goal answer b'
      free_done answer b' e m is can more acts events gone met acceptor = finish answer b' (past ++ (e ∷ [])) (moved o.p d (Happen e)) c
          (alone_done answer b' e (live m) can more acts (λ a. refl) (events ∙ ap (λ es. es ++ (e ∷ [])) written_events) met acceptor
          (λ t k. ap (λ (f : ℕ → Bool). f t) gone ∙ inv.gone t k ∙ sym (same_closed t)) (λ at. OwnBased m is at))
        where
          same_closed : (t : ℕ) → is_closed (put d.tasks c (live m) t).standing ≡ is_closed (d.tasks t).standing
          same_closed t = ⊎_elim
              (λ q. at_one (λ v. is_closed (put d.tasks c (live m) v).standing ≡ is_closed (d.tasks v).standing) t c q (ap (λ (z : Seat o.L). is_closed z.standing)
              (put_self d.tasks c (live m)) ∙ sym open_c))
              (λ q. ap (λ (z : Seat o.L). is_closed z.standing) (put_other d.tasks c t (live m) q))
              (cases_Bool (t == c))

      -- what a function makes of its state
      freed_is : (f : o.L → o.L) → put d.tasks c (live (f (d.tasks c).local)) ≡ put d.tasks c (live (f l))
      freed_is f = ap (λ (z : Seat o.L). put d.tasks c (live (f z.local))) here

    -- ---- before a call, and at an end

    tells_call : (l : o.L) → d.tasks c ≡ live l → (form : CallForm) (e : ℕ) (i : ℤ) → teller.k ≡ Based c l → o.p.ops.offer l ≡ Calls form e i → Goal false (recorded b (BeforeCall c))
    tells_call l here form e i q offer = nothing_done false (recorded b (BeforeCall c)) refl refl refl (λ u p. ap (λ f. if f then 0 else b.met u) p)
        (λ a. met_none (numbered_so b.met c 0 c) (b.acceptor c) 0 refl none a ∙ sym (ap (λ (z : Seat o.L). is_served_by a z.standing) here))
        (OwnCalling l form e i (ap (answered o.p false) q ∙ ap (λ f. told o.p c f l) offer) offer here none)
      where
        none : numbered_so b.met c 0 c ≡ 0
        none = ap (λ f. if f then 0 else b.met c) (equal_self c)

    tells_end : (l : o.L) → d.tasks c ≡ live l → teller.k ≡ Based c l → o.p.ops.offer l ≡ Ends → (c == 0) ≡ false → Goal false (recorded b (AtEnd c))
    tells_end l here q offer other = finish false (recorded b (AtEnd c)) (past ++ (X c ∷ [])) (moved o.p d (Happen (X c))) c
        (alone_done l here (ap is_over q) false (recorded b (AtEnd c)) (X c) (completed l) (both (ap not other) (offers_at o.p.ops is_end (d.tasks c) l here (ap is_end offer))) refl
        (ap (λ (z : Seat o.L). put d.tasks c (completed z.local)) here) (λ a. refl) (ap (λ es. es ++ (X c ∷ [])) written_events) refl refl gone
        (λ at. OwnLeaving l (ap (answered o.p false) q ∙ ap (λ f. told o.p c f l) offer) offer (λ z. true≢false (sym (equal_self 0) ∙ ap (λ v. v == 0) (sym z) ∙ other)) at))
      where
        gone : (t : ℕ) → t < o.p.size → flagged b.gone c true t ≡ is_closed (put d.tasks c (completed l) t).standing
        gone t k = go (t == c)
          where
            go : (f : Bool) → (if f then true else b.gone t) ≡ is_closed (if f then completed l else d.tasks t).standing
            go true = refl
            go false = inv.gone t k

    -- ---- what it has done

    module _ (l : o.L) (here : d.tasks c ≡ live l) where
      tells_else : teller.k ≡ Owing c TookElse l → waits_with is_else (o.p.ops.offer l) ≡ true → Goal false (recorded b (HasElse c))
      tells_else q h = free_done l here (ap is_over q) false (recorded b (HasElse c)) (S c) (o.p.ops.took_else l) (ap (answered o.p false) q)
          (offers_at o.p.ops (waits_with is_else) (d.tasks c) l here h) refl (freed_is l here (ap is_over q) o.p.ops.took_else) refl refl refl refl

      tells_delay : (j : ℕ) → teller.k ≡ Owing c (TookDelay j) l → waits_with (is_delay j) (o.p.ops.offer l) ≡ true → Goal false (recorded b (HasDelay c j))
      tells_delay j q h = free_done l here (ap is_over q) false (recorded b (HasDelay c j)) (D c j) (o.p.ops.took_delay j l) (ap (answered o.p false) q)
          (offers_at o.p.ops (waits_with (is_delay j)) (d.tasks c) l here h) refl (freed_is l here (ap is_over q) (o.p.ops.took_delay j)) refl refl refl refl

      -- a call that fails
      module _ (form : CallForm) (e : ℕ) (i : ℤ) (offer : o.p.ops.offer l ≡ Calls form e i) where
        calls_now : (test : CallForm → Bool) → test form ≡ true → calls_in test e i (o.p.ops.offer l) ≡ true
        calls_now test h = ap (calls_in test e i) offer ∙ both h (same_member-refl e i)

        can_fail : is_closed (d.tasks (o.p.owner e)).standing ≡ true → happens o.p d.tasks (F c e i) ≡ true
        can_fail h = both (offers_at o.p.ops (calls_in is_any_form e i) (d.tasks c) l here (calls_now is_any_form refl)) h

        task : IsOfTask o.p.size o.p.owner x.note x.owner e
        task = of_task x past r d w inv c l e i here (calls_now is_any_form refl)

        owner_gone : b.gone (o.p.owner e) ≡ is_closed (d.tasks (o.p.owner e)).standing
        owner_gone = inv.gone (o.p.owner e) task.task

        tells_fail : teller.k ≡ Owing c Failed l → is_closed (d.tasks (o.p.owner e)).standing ≡ true → b.met c ≡ 0 → Goal (answer_of b (HasFailed c e i)) (recorded b (HasFailed c e i))
        tells_fail q closed met = subst (λ g. Goal ((g == 3) || (g == 0)) (record {
          gone = b.gone;
          met = if g == 1 then numbered_so b.met c 2 else b.met;
          acceptor = b.acceptor;
          events = b.events ++ option_to_list (if g == 1 then Some (E (b.acceptor c)) else (if g == 0 then Some (F c e i) else None));
        })) (sym met)
            (free_done l here (ap is_over q) true (record { gone = b.gone; met = b.met; acceptor = b.acceptor; events = b.events ++ (F c e i ∷ []) }) (F c e i)
            (o.p.ops.raised l) (ap (answered o.p true) q)
            (can_fail closed) refl (freed_is l here (ap is_over q) o.p.ops.raised) refl refl refl refl)

        -- the other part of the call: it is too late where the owner is gone
        other_done : (make : ℕ → ℕ → ℤ → Event) (m : o.L) → teller.k ≡ Owing c TookOther l → other_part o.p (Calls form e i) l ≡ m →
            (is_closed (d.tasks (o.p.owner e)).standing ≡ false → happens o.p d.tasks (make c e i) ≡ true) → is_last (make c e i) ≡ false →
            acted (numbered o.p) d.tasks (make c e i) ≡ put d.tasks c (live m) →
            (f : Bool) → is_closed (d.tasks (o.p.owner e)).standing ≡ f →
            Goal f (record { gone = b.gone; met = b.met; acceptor = b.acceptor; events = b.events ++ ((if f then F c e i else make c e i) ∷ []) })
        other_done make m q other can more acts true h = free_done l here (ap is_over q) true
            (record { gone = b.gone; met = b.met; acceptor = b.acceptor; events = b.events ++ (F c e i ∷ []) }) (F c e i) (o.p.ops.raised l) (ap (answered o.p true) q)
            (can_fail h) refl (freed_is l here (ap is_over q) o.p.ops.raised) refl refl refl refl
        other_done make m q other can more acts false h = free_done l here (ap is_over q) false
            (record { gone = b.gone; met = b.met; acceptor = b.acceptor; events = b.events ++ (make c e i ∷ []) }) (make c e i) m
            (ap (answered o.p false) q ∙ ap (Based c) (ap (λ f. other_part o.p f l) offer ∙ other)) (can h) more acts refl refl refl refl

      tells_call_else : (e : ℕ) (i : ℤ) → o.p.ops.offer l ≡ Calls Conditional e i → teller.k ≡ Owing c TookOther l →
          Goal (b.gone (o.p.owner e)) (recorded b (HasCallElse c e i (o.p.owner e)))
      tells_call_else e i offer q = other_done Conditional e i offer C (o.p.ops.took_else l) q refl
          (λ h. both (offers_at o.p.ops (calls_in is_conditional e i) (d.tasks c) l here (calls_now Conditional e i offer is_conditional refl)) (ap not h)) refl
          (freed_is l here (ap is_over q) o.p.ops.took_else) (b.gone (o.p.owner e)) (sym (owner_gone Conditional e i offer))

      tells_expired : (e : ℕ) (i : ℤ) → o.p.ops.offer l ≡ Calls Timed e i → teller.k ≡ Owing c TookOther l → Goal (b.gone (o.p.owner e)) (recorded b (HasExpired c e i (o.p.owner e)))
      tells_expired e i offer q = other_done Timed e i offer T (o.p.ops.took_delay 1 l) q refl
          (λ h. both (offers_at o.p.ops (calls_in is_timed e i) (d.tasks c) l here (calls_now Timed e i offer is_timed refl)) (ap not h)) refl
          (freed_is l here (ap is_over q) (o.p.ops.took_delay 1)) (b.gone (o.p.owner e)) (sym (owner_gone Timed e i offer))

    -- ---- an event of the teller and of another task

    module _ (s : ℕ) (apart_s : (s == c) ≡ false) (within_s : s < o.p.size) where
      pair_done : (answer : Bool) (b' : Book) (e : Event) (y z : Seat o.L) → happens o.p d.tasks e ≡ true → is_last e ≡ false →
          acted (numbered o.p) d.tasks e c ≡ y → acted (numbered o.p) d.tasks e s ≡ z → ((u : ℕ) → (u == c) ≡ false → (u == s) ≡ false → acted (numbered o.p) d.tasks e u ≡ d.tasks u) →
          is_closed y.standing ≡ is_closed (d.tasks c).standing → is_closed z.standing ≡ is_closed (d.tasks s).standing → b'.events ≡ b.events ++ (e ∷ []) → b'.gone ≡ b.gone →
          ((u : ℕ) → (u == c) ≡ false → (u == s) ≡ false → (b'.met u ≡ b.met u) × (b'.acceptor u ≡ b.acceptor u)) →
          ((a : ℕ) → are_met b' a c ≡ is_served_by a y.standing) → ((a : ℕ) → are_met b' a s ≡ is_served_by a z.standing) →
          ((a : ℕ) (m v : o.L) → (w.tasks c).local ≡ Owing c (Returned m) v → is_served_by a y.standing ≡ true → ⊥) →
          ((a : ℕ) (m v : o.L) → (w.tasks s).local ≡ Owing s (Returned m) v → is_served_by a z.standing ≡ true → ⊥) →
          ((u : ℕ) (m : o.L) → (u == c) ≡ false → (u == s) ≡ false → (w.tasks c).local ≡ Owing c (Over u) m → is_served_by c (d.tasks u).standing ≡ true → ⊥) →
          ((u : ℕ) (m : o.L) → (u == c) ≡ false → (u == s) ≡ false → (w.tasks s).local ≡ Owing s (Over u) m → is_served_by s (d.tasks u).standing ≡ true → ⊥) →
          ((moved o.p d (Happen e)).tasks c ≡ y → OwnAt x b' (moved o.p d (Happen e)).tasks c (answered o.p answer teller.k)) →
          ((moved o.p d (Happen e)).tasks s ≡ z → SeatAt x b' (ended_tasks answer b') (moved o.p d (Happen e)).tasks (Noted c answer b') s) → Goal answer b'
      pair_done answer b' e y z can more acts_c acts_s acts same_c same_s events gone kept serves_c serves_s back_c back_s over_c over_s own' seat =
          finish answer b' (past ++ (e ∷ [])) (moved o.p d (Happen e)) s (record {
            events = events ∙ ap (λ es. es ++ (e ∷ [])) written_events;
            reached = reach_event o past d e inv.reached inv.runs can;
            goes_on = ap (λ f. f || d.ended) more ∙ inv.runs;
            others = λ u p q. let g = kept u p q in (acts u p q, g.0, g.1);
            gone = λ t k. ap (λ (f : ℕ → Bool). f t) gone ∙ inv.gone t k ∙ sym (same_closed t);
            closed = λ t h. same_closed t ∙ h;
            within = within_s;
            serves_c = λ a. serves_c a ∙ sym (ap (λ (f : Seat o.L). is_served_by a f.standing) acts_c);
            serves_s = λ q a. serves_s a ∙ sym (ap (λ (f : Seat o.L). is_served_by a f.standing) acts_s);
            linked = linked;
            own' = own' acts_c;
            seat = λ q. seat acts_s;
          })
        where
          same_closed : (t : ℕ) → is_closed ((moved o.p d (Happen e)).tasks t).standing ≡ is_closed (d.tasks t).standing
          same_closed t = ⊎_elim
              (λ q. at_one (λ v. is_closed ((moved o.p d (Happen e)).tasks v).standing ≡ is_closed (d.tasks v).standing) t s q (ap (λ (f : Seat o.L). is_closed f.standing) acts_s ∙ same_s))
              (λ p. ⊎_elim
              (λ q. at_one (λ v. is_closed ((moved o.p d (Happen e)).tasks v).standing ≡ is_closed (d.tasks v).standing) t c q (ap (λ (f : Seat o.L). is_closed f.standing) acts_c ∙ same_c))
              (λ q. ap (λ (f : Seat o.L). is_closed f.standing) (acts t q p))
              (cases_Bool (t == c)))
              (cases_Bool (t == s))

          linked : LinkedIn (moved o.p d (Happen e)).tasks
          linked a u m v p open' h = ⊎_elim
              (λ q. absurd (at_one (λ t. (w.tasks t).local ≡ Owing t (Returned m) v → is_served_by a ((moved o.p d (Happen e)).tasks t).standing ≡ true → ⊥) u c q
              (λ p' h'. back_c a m v p' (ap (λ (f : Seat o.L). is_served_by a f.standing) (sym acts_c) ∙ h')) p h))
              (λ not_c. ⊎_elim
              (λ q. absurd (at_one (λ t. (w.tasks t).local ≡ Owing t (Returned m) v → is_served_by a ((moved o.p d (Happen e)).tasks t).standing ≡ true → ⊥) u s q
              (λ p' h'. back_s a m v p' (ap (λ (f : Seat o.L). is_served_by a f.standing) (sym acts_s) ∙ h')) p h))
              (λ not_s.
              let h' : is_served_by a (d.tasks u).standing ≡ true = ap (λ (f : Seat o.L). is_served_by a f.standing) (sym (acts u not_c not_s)) ∙ h in
              let g : ((w.tasks a).local ≡ Owing a (Over u) m) × (d.tasks a ≡ live m) = inv.over a u m v p open' h' in (
                g.0,
                ⊎_elim
                    (λ q. absurd (at_one (λ t. (w.tasks t).local ≡ Owing t (Over u) m → is_served_by t (d.tasks u).standing ≡ true → ⊥) a c q (over_c u m not_c not_s) g.0 h'))
                    (λ f. ⊎_elim
                    (λ q. absurd (at_one (λ t. (w.tasks t).local ≡ Owing t (Over u) m → is_served_by t (d.tasks u).standing ≡ true → ⊥) a s q (over_s u m not_c not_s) g.0 h'))
                    (λ q. acts a f q ∙ g.1)
                    (cases_Bool (a == s)))
                    (cases_Bool (a == c)),
              ))
              (cases_Bool (u == s)))
              (cases_Bool (u == c))

    -- ---- a rendezvous has begun

    module _ (l : o.L) (here : d.tasks c ≡ live l) (s e : ℕ) (i : ℤ) (v : o.L) (q : teller.k ≡ Owing c (Begun s e i v) l) (due : DueAt x b d.tasks c l (Begun s e i v)) where
      local_begun : (w.tasks c).local ≡ Owing c (Begun s e i v) l
      local_begun = local ∙ q

      there : IsFirst w.tasks c s (o.p.ops.callers l)
      there = first_is w.tasks sound' c s (o.p.ops.callers l) open_there (ap (copy_callers o.p) local_begun)

      in_s : s < o.p.size
      in_s = served_below x past r d w inv runs sound' s c there.served

      not_c : (s == c) ≡ false
      not_c = ne_eqb s c (λ f. true≢false (sym there.served ∙ ap (λ u. is_served_by c (w.tasks u).standing) f ∙ sound'.itself c))

      -- the original's does not serve it
      unserved : is_served_by c (d.tasks s).standing ≡ false
      unserved = none_served d.tasks sound c s (ap (λ (f : Seat o.L). is_closed f.standing) here) (ap (λ (f : Seat o.L). times s (o.p.ops.callers f.local)) here ∙ there.once)

      -- the caller is where it was
      begins : (form : CallForm) (f : ℕ) (j : ℤ) → w.tasks s ≡ record { local = Calling s v; standing = Served c false } → o.p.ops.offer v ≡ Calls form f j → d.tasks s ≡ live v →
          Goal false (record { gone = b.gone; met = numbered_so b.met s 1; acceptor = numbered_so b.acceptor s c; events = b.events ++ (R s e i ∷ []) })
      begins form f j at_s calls here_s =
          let b' : Book = record { gone = b.gone; met = numbered_so b.met s 1; acceptor = numbered_so b.acceptor s c; events = b.events ++ (R s e i ∷ []) } in
          let y : Seat o.L = live (o.p.ops.accepted e i s v l) in
          let z : Seat o.L = record { local = v; standing = Served c false } in
          let acts : acted (numbered o.p) d.tasks (R s e i) ≡ put (put d.tasks c y) s z = sym (start_is o.p d.tasks s c e i v l (o.p.ops.accepted e i s v l) due.2 here_s here refl not_c) in
          let can : happens o.p d.tasks (R s e i) ≡ true = both (offers_at o.p.ops (calls_in is_any_form e i) (d.tasks s) v here_s due.0)
          (offers_at o.p.ops (waits_with (opens e i)) (d.tasks (o.p.owner e)) l (ap d.tasks due.2 ∙ here) due.1) in
          pair_done s not_c in_s false b' (R s e i) y z can refl
          (ap (λ (g : ℕ → Seat o.L). g c) acts ∙ put_other (put d.tasks c y) s c z (unequal_turned s c not_c) ∙ put_self d.tasks c y)
          (ap (λ (g : ℕ → Seat o.L). g s) acts ∙ put_self (put d.tasks c y) s z)
          (λ u g h. ap (λ (k : ℕ → Seat o.L). k u) acts ∙ put_other (put d.tasks c y) s u z h ∙ put_other d.tasks c u y g)
          (sym (ap (λ (g : Seat o.L). is_closed g.standing) here)) (sym (ap (λ (g : Seat o.L). is_closed g.standing) here_s)) refl refl
          (λ u g h. (ap (λ k. if k then 1 else b.met u) h, ap (λ k. if k then c else b.acceptor u) h))
          (λ a. ap₂ (λ k m. (k == 1) && (m == a)) (ap (λ k. if k then 1 else b.met c) (unequal_turned s c not_c)) (ap (λ k. if k then c else b.acceptor c) (unequal_turned s c not_c)) ∙
          inv.serves a c below ∙ ap (λ (g : Seat o.L). is_served_by a g.standing) here)
          (λ a. ap₂ (λ k m. (k == 1) && (m == a)) (ap (λ k. if k then 1 else b.met s) (equal_self s)) (ap (λ k. if k then c else b.acceptor s) (equal_self s)))
          (λ a m g p h. true≢false (sym h))
          (λ a m g p h. differ is_owing (Owing s (Returned m) g) (w.tasks s).local refl (ap (λ (k : Seat (Copy o.L)). is_owing k.local) at_s) (sym p))
          (λ u m g h p k. differ is_over (Owing c (Over u) m) (Owing c (Begun s e i v) l) refl refl (sym p ∙ local_begun))
          (λ u m g h p k. differ is_owing (Owing s (Over u) m) (w.tasks s).local refl (ap (λ (k : Seat (Copy o.L)). is_owing k.local) at_s) (sym p))
          (λ at. OwnBased (o.p.ops.accepted e i s v l) (ap (answered o.p false) q) at)
          (λ at. Shared c v form f j (ended_same false b' s in_s ∙ at_s) calls at (record { d = d; come = reached_come o past d inv.reached; runs = inv.runs; at = here_s }))

      -- the caller is aborted
      refused : is_closed (d.tasks s).standing ≡ true → Goal true (record { gone = b.gone; met = b.met; acceptor = b.acceptor; events = b.events ++ [] })
      refused closed = same_done true (OwnRefusing l s (ap (answered o.p true) q) here closed)

      tells_begun : Goal (b.gone s) (recorded b (HasBegun s e i c))
      tells_begun = go (inv.seats s in_s)
        where
          with_gone : (g : Bool) → b.gone s ≡ g → Goal g (record {
            gone = b.gone;
            met = if g then b.met else numbered_so b.met s 1;
            acceptor = if g then b.acceptor else numbered_so b.acceptor s c;
            events = b.events ++ option_to_list (if g then None else Some (R s e i));
          }) → Goal (b.gone s) (recorded b (HasBegun s e i c))
          with_gone g h goal = subst (λ g. Goal g (record {
            gone = b.gone;
            met = if g then b.met else numbered_so b.met s 1;
            acceptor = if g then b.acceptor else numbered_so b.acceptor s c;
            events = b.events ++ option_to_list (if g then None else Some (R s e i));
          })) (sym h) goal

          by_c : (a : ℕ) (g : o.L) → w.tasks s ≡ record { local = Calling s g; standing = Served a false } → a ≡ c
          by_c a g at = eqb-true a c (ap (λ (k : Seat (Copy o.L)). is_served_by c k.standing) (sym at) ∙ there.served)

          go : SeatAt x b w.tasks d.tasks r s → Goal (b.gone s) (recorded b (HasBegun s e i c))
          go (Free k at own) = absurd (true≢false (sym there.served ∙ ap (λ (f : Seat (Copy o.L)). is_served_by c f.standing) at))
          go (Telling k at hears own was) = absurd (true≢false (sym (ap (λ u. u == c) (sym hears.0) ∙ equal_self c) ∙ not_c))
          go (Shared a g form f j at calls here_s was) =
              absurd (true≢false (sym (ap (λ (k : Seat o.L). is_served_by c k.standing) here_s ∙ ap (λ u. u == c) (by_c a g at) ∙ equal_self c) ∙ unserved))
          go (Apart a g form f j at calls owns here_s met) =
              let same : Calling s g ≡ Calling s v = ap (λ (k : Seat (Copy o.L)). k.local) (sym at) ∙ inv.begun c s e i l v local_begun there.served in
              let is : g ≡ v = ap (state_of v) same in
              with_gone false (inv.gone s in_s ∙ ap (λ (k : Seat o.L). is_closed k.standing) here_s)
              (begins form f j (at ∙ ap₂ (λ k u. record { local = Calling s k; standing = Served u false }) is (by_c a g at)) (ap o.p.ops.offer (sym is) ∙ calls) (here_s ∙ ap live is))
          go (Gone closed closed' outs) = with_gone true (inv.gone s in_s ∙ closed') (refused closed')

    -- ---- the end of a rendezvous

    -- what the end of a rendezvous makes of the two
    module _ (a u : ℕ) (m : o.L) (other : (u == a) ≡ false) (here : d.tasks a ≡ live m) (has : o.p.ops.callers m ≡ u ∷ o.p.ops.callers (o.p.ops.finished m)) (z : Seat o.L)
        (lets : let_go (o.p.ops.resumed m) a (d.tasks u) ≡ z) where
      ends_as : acted (numbered o.p) d.tasks (E a) ≡ put (put d.tasks a (live (o.p.ops.finished m))) u z
      ends_as = parted_is o.p d.tasks a m u (o.p.ops.callers (o.p.ops.finished m)) here has other ∙ ap (λ f. put (put d.tasks a (live (o.p.ops.finished m))) u f) lets

      ends_acceptor : acted (numbered o.p) d.tasks (E a) a ≡ live (o.p.ops.finished m)
      ends_acceptor = ap (λ (f : ℕ → Seat o.L). f a) ends_as ∙ put_other (put d.tasks a (live (o.p.ops.finished m))) u a z (unequal_turned u a other) ∙ put_self d.tasks a (live (o.p.ops.finished m))

      ends_caller : acted (numbered o.p) d.tasks (E a) u ≡ z
      ends_caller = ap (λ (f : ℕ → Seat o.L). f u) ends_as ∙ put_self (put d.tasks a (live (o.p.ops.finished m))) u z

      ends_other : (t : ℕ) → (t == a) ≡ false → (t == u) ≡ false → acted (numbered o.p) d.tasks (E a) t ≡ d.tasks t
      ends_other t p q = ap (λ (f : ℕ → Seat o.L). f t) ends_as ∙ put_other (put d.tasks a (live (o.p.ops.finished m))) u t z q ∙ put_other d.tasks a t (live (o.p.ops.finished m)) p

    -- ---- the acceptor tells of it

    module _ (l : o.L) (s : ℕ) (q : teller.k ≡ Owing c (Over s) l) (in_s : s < o.p.size) (offer : o.p.ops.offer l ≡ Finishes) (has : o.p.ops.callers l ≡ s ∷ o.p.ops.callers (o.p.ops.finished l))
        (once : times s (o.p.ops.callers (o.p.ops.finished l)) ≡ 0) where
      local_over : (w.tasks c).local ≡ Owing c (Over s) l
      local_over = local ∙ q

      by_met : (f : Bool) → are_met b c s ≡ f → Goal false (record {
        gone = b.gone;
        met = if f then numbered_so b.met s 2 else b.met;
        acceptor = b.acceptor;
        events = b.events ++ option_to_list (if f then Some (E c) else None);
      }) → Goal false (recorded b (HasFinished c s))
      by_met f h goal = subst (λ f. Goal false (record {
        gone = b.gone;
        met = if f then numbered_so b.met s 2 else b.met;
        acceptor = b.acceptor;
        events = b.events ++ option_to_list (if f then Some (E c) else None);
      })) (sym h) goal

      -- the caller has told
      told_before : d.tasks c ≡ live (o.p.ops.finished l) → Goal false (recorded b (HasFinished c s))
      told_before here = by_met false (inv.serves c s in_s ∙ none_served d.tasks sound c s (ap (λ (f : Seat o.L). is_closed f.standing) here) (ap
          (λ (f : Seat o.L). times s (o.p.ops.callers f.local)) here ∙ once))
          (same_done false (OwnBased (o.p.ops.finished l) (ap (answered o.p false) q) here))

      module _ (here : d.tasks c ≡ live l) where
        there' : IsFirst d.tasks c s (o.p.ops.callers (o.p.ops.finished l))
        there' = first_is d.tasks sound c s (o.p.ops.callers (o.p.ops.finished l)) (ap (λ (f : Seat o.L). is_closed f.standing) here) (ap (λ (f : Seat o.L). o.p.ops.callers f.local) here ∙ has)

        not_c' : (s == c) ≡ false
        not_c' = ne_eqb s c (λ f. true≢false (sym there'.served ∙ ap (λ u. is_served_by c (d.tasks u).standing) f ∙ sound.itself c))

        -- it does not serve it here
        parted_here : is_served_by c (w.tasks s).standing ≡ false
        parted_here = none_served w.tasks sound' c s open_there (ap (λ k. times s (copy_callers o.p k)) local_over ∙ once)

        ends_with : (z : Seat o.L) → let_go (o.p.ops.resumed l) c (d.tasks s) ≡ z → is_closed z.standing ≡ is_closed (d.tasks s).standing → ((a : ℕ) → is_served_by a z.standing ≡ false) →
            ((u : ℕ) (m : o.L) → (w.tasks s).local ≡ Owing s (Over u) m → is_served_by s (d.tasks u).standing ≡ true → ⊥) →
            ((moved o.p d (Happen (E c))).tasks s ≡ z → SeatAt x (record { gone = b.gone; met = numbered_so b.met s 2; acceptor = b.acceptor; events = b.events ++ (E c ∷ []) })
            (ended_tasks false (record { gone = b.gone; met = numbered_so b.met s 2; acceptor = b.acceptor; events = b.events ++ (E c ∷ []) })) (moved o.p d (Happen (E c))).tasks
            (Noted c false (record { gone = b.gone; met = numbered_so b.met s 2; acceptor = b.acceptor; events = b.events ++ (E c ∷ []) })) s) → Goal false (recorded b (HasFinished c s))
        ends_with z lets closed free over_s seat = by_met true (inv.serves c s in_s ∙ there'.served)
            (pair_done s not_c' in_s false (record { gone = b.gone; met = numbered_so b.met s 2; acceptor = b.acceptor; events = b.events ++ (E c ∷ []) }) (E c) (live (o.p.ops.finished l)) z
            (offers_at o.p.ops is_finish (d.tasks c) l here (ap is_finish offer)) refl
            (ends_acceptor c s l not_c' here has z lets) (ends_caller c s l not_c' here has z lets) (ends_other c s l not_c' here has z lets)
            (sym (ap (λ (f : Seat o.L). is_closed f.standing) here)) closed refl refl
            (λ u f g. (ap (λ k. if k then 2 else b.met u) g, refl))
            (λ a. ap (λ k. (k == 1) && (b.acceptor c == a)) (ap (λ k. if k then 2 else b.met c) (unequal_turned s c not_c')) ∙ inv.serves a c below ∙
            ap (λ (f : Seat o.L). is_served_by a f.standing) here)
            (λ a. met_none (numbered_so b.met s 2 s) (b.acceptor s) 2 refl (ap (λ k. if k then 2 else b.met s) (equal_self s)) a ∙ sym (free a))
            (λ a m v p h. true≢false (sym h))
            (λ a m v p h. true≢false (sym h ∙ free a))
            (λ u m f g p h. true≢false (sym (ap (λ v. v == s) (ap (λ j. over_caller (due_of j)) (sym p ∙ local_over)) ∙ equal_self s) ∙ g))
            (λ u m f g p h. over_s u m p h)
            (λ at. OwnBased (o.p.ops.finished l) (ap (answered o.p false) q) at) seat)

        tells_over : Goal false (recorded b (HasFinished c s))
        tells_over = go (inv.seats s in_s)
          where
            go : SeatAt x b w.tasks d.tasks r s → Goal false (recorded b (HasFinished c s))
            go (Free k at own) =
                let (m, v, form, e, i, is, calls, here_s, was) = own_served x b d.tasks c s k own there'.served in
                let here_local : (w.tasks s).local ≡ Owing s (Returned m) v = ap (λ (f : Seat (Copy o.L)). f.local) at ∙ is in
                let link : ((w.tasks c).local ≡ Owing c (Over s) m) × (d.tasks c ≡ live m) = inv.over c s m v here_local (ap (λ (f : Seat (Copy o.L)). is_closed f.standing) at) there'.served in
                let same : m ≡ l = ap (λ (f : Seat o.L). f.local) (sym link.1 ∙ here) in
                ends_with (live (o.p.ops.resumed l v))
                (ap (let_go (o.p.ops.resumed l) c) here_s ∙ let_go_served (o.p.ops.resumed l) c (record { local = v; standing = Served c false }) (equal_self c))
                (sym (ap (λ (f : Seat o.L). is_closed f.standing) here_s)) (λ a. refl)
                (λ u g p h. differ is_over (Owing s (Over u) g) (Owing s (Returned m) v) refl refl (sym p ∙ here_local))
                (λ at_s. Free k (ended_same false (record { gone = b.gone; met = numbered_so b.met s 2; acceptor = b.acceptor; events = b.events ++ (E c ∷ []) }) s in_s ∙ at)
                (OwnReturned v m form e i is calls (at_s ∙ ap (λ j. live (o.p.ops.resumed j v)) (sym same)) (ap (λ j. if j then 2 else b.met s) (equal_self s)) was))
            go (Telling k at hears own was) = absurd (true≢false (sym (ap (λ u. u == c) (sym hears.0) ∙ equal_self c) ∙ not_c'))
            go (Shared a v form e i at calls here_s was) =
                let is : a ≡ c = eqb-true a c (ap (λ (f : Seat o.L). is_served_by c f.standing) (sym here_s) ∙ there'.served) in
                absurd (true≢false (sym (ap (λ (f : Seat (Copy o.L)). is_served_by c f.standing) at ∙ ap (λ u. u == c) is ∙ equal_self c) ∙ parted_here))
            go (Apart a v form e i at calls owns here_s met) = absurd (true≢false (sym there'.served ∙ ap (λ (f : Seat o.L). is_served_by c f.standing) here_s))
            go (Gone closed closed' outs) =
                let z : Seat o.L = completed (d.tasks s).local in
                ends_with z (let_go_closed (o.p.ops.resumed l) c (d.tasks s) there'.served closed') (sym closed') (λ a. refl) (λ u g p h. closed_none' x past r d w inv runs sound' s u closed' h)
                (λ at_s.
                let b' : Book = record { gone = b.gone; met = numbered_so b.met s 2; acceptor = b.acceptor; events = b.events ++ (E c ∷ []) } in
                Gone (ap (λ (f : Seat (Copy o.L)). is_closed f.standing) (ended_same false b' s in_s) ∙ closed) (ap (λ (f : Seat o.L). is_closed f.standing) at_s)
                (ap (λ (f : Seat (Copy o.L)). out_of x f.local) (ended_same false b' s in_s) ∙ outs ∙ sym (ap (λ (f : Seat o.L). o.out f.local) at_s)))

    -- ---- the caller tells of it, or of an exception

    module _ (e : ℕ) (i : ℤ) where
      -- what comes of either note where its call is at this number, with this acceptor
      abbrev FailedAt : ℕ → ℕ → Type 0
      FailedAt g a = Goal ((g == 3) || (g == 0)) (record {
        gone = b.gone;
        met = if g == 1 then numbered_so b.met c 2 else b.met;
        acceptor = b.acceptor;
        events = b.events ++ option_to_list (if g == 1 then Some (E a) else (if g == 0 then Some (F c e i) else None));
      })

      abbrev ReturnedAt : ℕ → ℕ → Type 0
      ReturnedAt g a = Goal (g == 3) (record {
        gone = b.gone;
        met = if g == 1 then numbered_so b.met c 2 else b.met;
        acceptor = b.acceptor;
        events = b.events ++ option_to_list (if g == 1 then Some (E a) else None);
      })

      failed_at : (g a : ℕ) → b.met c ≡ g → b.acceptor c ≡ a → FailedAt g a → Goal (answer_of b (HasFailed c e i)) (recorded b (HasFailed c e i))
      failed_at g a p q goal = subst (FailedAt (b.met c)) (sym q) (subst (λ g. FailedAt g a) (sym p) goal)

      returned_at : (g a : ℕ) → b.met c ≡ g → b.acceptor c ≡ a → ReturnedAt g a → Goal (answer_of b (HasReturned c)) (recorded b (HasReturned c))
      returned_at g a p q goal = subst (ReturnedAt (b.met c)) (sym q) (subst (λ g. ReturnedAt g a) (sym p) goal)

      abbrev NoteDone : Note → Type 0
      NoteDone m = Goal (answer_of b m) (recorded b m)

      -- the note behind a call is one of the two
      late : (g a : ℕ) → b.met c ≡ g → b.acceptor c ≡ a → FailedAt g a → ReturnedAt g a → (f : Bool) → NoteDone (if f then HasFailed c e i else HasReturned c)
      late g a p q failed returned true = failed_at g a p q failed
      late g a p q failed returned false = returned_at g a p q returned

      module _ (l m : o.L) (q : teller.k ≡ Owing c (Returned m) l) where
        -- the acceptor has told of it
        told_already : d.tasks c ≡ live (o.p.ops.resumed m l) → b.met c ≡ 2 → (f : Bool) → NoteDone (if f then HasFailed c e i else HasReturned c)
        told_already here met f =
            let goal : Goal false (record { gone = b.gone; met = b.met; acceptor = b.acceptor; events = b.events ++ [] }) = same_done false (OwnBased
            (o.p.ops.resumed m l) (ap (answered o.p false) q) here) in
            late 2 (b.acceptor c) met refl goal goal f

        -- the acceptor was aborted before
        lost : d.tasks c ≡ live (o.p.ops.raised l) → b.met c ≡ 3 → (f : Bool) → NoteDone (if f then HasFailed c e i else HasReturned c)
        lost here met f =
            let goal : Goal true (record { gone = b.gone; met = b.met; acceptor = b.acceptor; events = b.events ++ [] }) = same_done true (OwnBased (o.p.ops.raised l) (ap
            (answered o.p true) q) here) in
            late 3 (b.acceptor c) met refl goal goal f

        module _ (a : ℕ) (here : d.tasks c ≡ record { local = l; standing = Served a false }) where
          local_back : (w.tasks c).local ≡ Owing c (Returned m) l
          local_back = local ∙ q

          served' : is_served_by a (d.tasks c).standing ≡ true
          served' = ap (λ (f : Seat o.L). is_served_by a f.standing) here ∙ equal_self a

          link : ((w.tasks a).local ≡ Owing a (Over c) m) × (d.tasks a ≡ live m)
          link = inv.over a c m l local_back open_there served'

          in_a : a < o.p.size
          in_a = shared_below x past r d w inv runs sound' a c l here

          not_a : (a == c) ≡ false
          not_a = ne_eqb a c (λ f. true≢false (sym served' ∙ ap (λ u. is_served_by u (d.tasks c).standing) f ∙ sound.itself c))

          met_it : (b.met c ≡ 1) × (b.acceptor c ≡ a)
          met_it = let k = and_parts (b.met c == 1) (b.acceptor c == a) (inv.serves a c below ∙ served') in (eqb-true (b.met c) 1 k.0, eqb-true (b.acceptor c) a k.1)

          abbrev then' : Book
          then' = record { gone = b.gone; met = numbered_so b.met c 2; acceptor = b.acceptor; events = b.events ++ (E a ∷ []) }

          ends_so : (k : Copy o.L) → w.tasks a ≡ live k → OwnAt x b d.tasks a k → Goal false then'
          ends_so k at own =
              let is : k ≡ Owing a (Over c) m = ap (λ (f : Seat (Copy o.L)). f.local) (sym at) ∙ link.0 in
              let (offer, has, once, was) = own_over x b d.tasks a c m k is own in
              let y : Seat o.L = live (o.p.ops.resumed m l) in
              let z : Seat o.L = live (o.p.ops.finished m) in
              let lets : let_go (o.p.ops.resumed m) a (d.tasks c) ≡ y = ap (let_go (o.p.ops.resumed m) a) here ∙
              let_go_served (o.p.ops.resumed m) a (record { local = l; standing = Served a false }) (equal_self a) in
              let not_c : (c == a) ≡ false = unequal_turned a c not_a in
              pair_done a not_a in_a false then' (E a) y z (offers_at o.p.ops is_finish (d.tasks a) m link.1 (ap is_finish offer)) refl
              (ends_caller a c m not_c link.1 has y lets) (ends_acceptor a c m not_c link.1 has y lets) (λ u f g. ends_other a c m not_c link.1 has y lets u g f)
              (sym (ap (λ (f : Seat o.L). is_closed f.standing) here)) (sym (ap (λ (f : Seat o.L). is_closed f.standing) link.1)) refl refl
              (λ u f g. (ap (λ k. if k then 2 else b.met u) f, refl))
              (λ u. met_none (numbered_so b.met c 2 c) (b.acceptor c) 2 refl (ap (λ k. if k then 2 else b.met c) (equal_self c)) u)
              (λ u. ap (λ k. (k == 1) && (b.acceptor a == u)) (ap (λ k. if k then 2 else b.met a) not_a) ∙ inv.serves u a in_a ∙ ap (λ (f : Seat o.L). is_served_by u f.standing) link.1)
              (λ u g v p h. true≢false (sym h)) (λ u g v p h. true≢false (sym h))
              (λ u g f f' p h. differ is_over (Owing c (Over u) g) (Owing c (Returned m) l) refl refl (sym p ∙ local_back))
              (λ u g f f' p h. true≢false (sym (ap (λ v. v == c) (ap (λ j. over_caller (due_of j)) (sym p ∙ link.0)) ∙ equal_self c) ∙ f))
              (λ at'. OwnBased (o.p.ops.resumed m l) (ap (answered o.p false) q) at')
              (λ at'. Free k (ended_same false then' a in_a ∙ at) (OwnOver m c is below offer has once (inr at') was))

          tells_back : (f : Bool) → NoteDone (if f then HasFailed c e i else HasReturned c)
          tells_back f = let goal : Goal false then' = go (inv.seats a in_a) in late 1 a met_it.0 met_it.1 goal goal f
            where
              calling : (u : ℕ) (v : o.L) → w.tasks a ≡ record { local = Calling a v; standing = Served u false } → ⊥
              calling u v at = differ is_owing (Owing a (Over c) m) (w.tasks a).local refl (ap (λ (k : Seat (Copy o.L)). is_owing k.local) at) (sym link.0)

              go : SeatAt x b w.tasks d.tasks r a → Goal false then'
              go (Free k at own) = ends_so k at own
              go (Telling k at hears own was) = absurd (true≢false (sym (ap (λ u. u == c) (sym hears.0) ∙ equal_self c) ∙ not_a))
              go (Shared u v form g j at calls here' was) = absurd (calling u v at)
              go (Apart u v form g j at calls owns here' met) = absurd (calling u v at)
              go (Gone closed closed' outs) = absurd (true≢false (sym closed' ∙ ap (λ (k : Seat o.L). is_closed k.standing) link.1))

      -- TASKING_ERROR was raised, since the acceptor was aborted
      lost_call : (l : o.L) → teller.k ≡ Owing c Failed l → d.tasks c ≡ live (o.p.ops.raised l) → b.met c ≡ 3 → NoteDone (HasFailed c e i)
      lost_call l q here met = failed_at 3 (b.acceptor c) met refl (same_done true (OwnBased (o.p.ops.raised l) (ap (answered o.p true) q) here))

    -- ---- all ends of a line

    abbrev Ends' : Note → Type 0
    Ends' m = IsBeside x (record { tasks = put w.tasks (recorder x) (live (line_ends c b m)); ended = w.ended })

    -- the note says which
    by_note : (m : Note) → note ≡ m → Ends' m → Ends' note
    by_note m q h = subst Ends' (sym q) h

    says : (k : Copy o.L) → teller.k ≡ k → note ≡ note_of o.p x.pends k
    says k q = teller.hears.1 ∙ ap (note_of o.p x.pends) q

    tells_so : (k : Copy o.L) → teller.k ≡ k → copy_offer o.p x.note k ≡ telling x.note
    tells_so k q = ap (copy_offer o.p x.note) (sym q) ∙ teller.hears.2

    -- it is to abort a task: the original does nothing yet
    strikes : (v : ℕ) → note ≡ ToAbort c v → Ends' (ToAbort c v)
    strikes v q = record {
      past = past;
      r = Striking c b c v;
      d = d;
      inv = silent_step x past r (Striking c b c v) d w inv runs refl refl refl (λ t k h. ((h.0, sym q ∙ h.1, h.2), refl))
          (written_events, below, step_served x past r (Striking c b c v) d w inv runs c below served);
    }

    based_ends : (l : o.L) → teller.k ≡ Based c l → d.tasks c ≡ live l → (offer : Offer) → o.p.ops.offer l ≡ offer → Ends' note
    based_ends l q here Nothing h = absurd (nothing_tells x.note (ap (based_offer x.note c) (sym h) ∙ tells_so (Based c l) q))
    based_ends l q here (Calls form e i) h = by_note (BeforeCall c) (says (Based c l) q ∙ ap (based_note c) h) (tells_call l here form e i q h)
    based_ends l q here (Waits choices) h = absurd (waits_tell x.note (ap (based_offer x.note c) (sym h) ∙ tells_so (Based c l) q))
    based_ends l q here Finishes h = absurd (finish_tells x.note (ap (based_offer x.note c) (sym h) ∙ tells_so (Based c l) q))
    based_ends l q here Ends h = by_note (AtEnd c) (says (Based c l) q ∙ ap (based_note c) h) (tells_end l here q h (end_other x.note c (ap (based_offer x.note c) (sym h) ∙ tells_so (Based c l) q)))
    based_ends l q here (Aborts v) h =
        let is : note ≡ ToAbort c v = says (Based c l) q ∙ ap (based_note c) h in by_note (ToAbort c v) is (strikes v is)

    other_ends : (l : o.L) → teller.k ≡ Owing c TookOther l → d.tasks c ≡ live l → (form : CallForm) (e : ℕ) (i : ℤ) → o.p.ops.offer l ≡ Calls form e i →
        (is_conditional form || is_timed form) ≡ true → Ends' note
    other_ends l q here Plain e i h f = absurd (true≢false (sym f))
    other_ends l q here Conditional e i h f = by_note (HasCallElse c e i (o.p.owner e)) (says (Owing c TookOther l) q ∙
        ap (call_note c (λ form g j. other_note o.p c form g j)) h) (tells_call_else l here e i h q)
    other_ends l q here Timed e i h f = by_note (HasExpired c e i (o.p.owner e)) (says (Owing c TookOther l) q ∙
        ap (call_note c (λ form g j. other_note o.p c form g j)) h) (tells_expired l here e i h q)

    due_ends : (l : o.L) (due : Due o.L) → teller.k ≡ Owing c due l → d.tasks c ≡ live l → DueAt x b d.tasks c l due → Ends' note
    due_ends l (Begun s e i v) q here h = by_note (HasBegun s e i c) (says (Owing c (Begun s e i v) l) q) (tells_begun l here s e i v q h)
    due_ends l TookElse q here h = by_note (HasElse c) (says (Owing c TookElse l) q) (tells_else l here q h)
    due_ends l (TookDelay j) q here h = by_note (HasDelay c j) (says (Owing c (TookDelay j) l) q) (tells_delay l here j q h)
    due_ends l TookOther q here h = other_ends l q here h.0 h.1 h.2 h.3 h.4
    due_ends l Failed q here h = by_note (HasFailed c h.1 h.2) (says (Owing c Failed l) q ∙ ap (call_note c (λ form g j. HasFailed c g j)) h.3) (tells_fail l here h.0 h.1 h.2 h.3 q h.4 h.5)
    due_ends l (Returned m) q here h = absurd h
    due_ends l (Over s) q here h = absurd h

    -- the note of a task that is behind its call
    back_ends : (l m : o.L) (form : CallForm) (e : ℕ) (i : ℤ) → teller.k ≡ Owing c (Returned m) l → o.p.ops.offer l ≡ Calls form e i →
        ((f : Bool) → NoteDone e i (if f then HasFailed c e i else HasReturned c)) → Ends' note
    back_ends l m form e i q offer goal = go (x.pends m) refl (goal (x.pends m))
      where
        is : note ≡ (if x.pends m then HasFailed c e i else HasReturned c)
        is = says (Owing c (Returned m) l) q ∙ ap (λ h. if x.pends m then call_note c (λ form g j. HasFailed c g j) h else HasReturned c) offer

        go : (f : Bool) → x.pends m ≡ f → NoteDone e i (if f then HasFailed c e i else HasReturned c) → Ends' note
        go true p h = by_note (HasFailed c e i) (is ∙ ap (λ f. if f then HasFailed c e i else HasReturned c) p) h
        go false p h = by_note (HasReturned c) (is ∙ ap (λ f. if f then HasFailed c e i else HasReturned c) p) h

    lost_ends : (l : o.L) (due : Due o.L) (form : CallForm) (e : ℕ) (i : ℤ) → teller.k ≡ Owing c due l → IsBehindCall due → o.p.ops.offer l ≡ Calls form e i → d.tasks c ≡ live (o.p.ops.raised l) →
        b.met c ≡ 3 → Ends' note
    lost_ends l (Begun s e' i' v) form e i q behind offer here met = absurd behind
    lost_ends l TookElse form e i q behind offer here met = absurd behind
    lost_ends l (TookDelay j) form e i q behind offer here met = absurd behind
    lost_ends l TookOther form e i q behind offer here met = absurd behind
    lost_ends l Failed form e i q behind offer here met = by_note (HasFailed c e i) (says (Owing c Failed l) q ∙ ap (call_note c (λ form g j. HasFailed c g j)) offer) (lost_call e i l q here met)
    lost_ends l (Returned m) form e i q behind offer here met = back_ends l m form e i q offer (lost e i l m q here met)
    lost_ends l (Over s) form e i q behind offer here met = absurd behind

    -- The original makes the event of the line, if the note has one, and it is no abort.
    pub line_done : Ends' note
    line_done = go teller.own
      where
        go : OwnAt x b d.tasks c teller.k → Ends' note
        go (OwnBased l q here) = based_ends l q here (o.p.ops.offer l) refl
        go (OwnCalling l form e i q offer here met) =
            let calls : calls_in is_any_form x.note (pos 0) (o.p.ops.offer l) ≡ true = ap (calls_in is_any_form x.note (pos 0)) (tells_so (Calling c l) q) ∙ same_member-refl x.note (pos 0) in
            absurd (true≢false (sym (equal_self x.note) ∙ (of_task x past r d w inv c l x.note (pos 0) here calls).other))
        go (OwnOwing l due q here h) = due_ends l due q here h
        go (OwnServed l m a form e i q offer here was) = back_ends l m form e i q offer (tells_back e i l m q a here)
        go (OwnReturned l m form e i q offer here met was) = back_ends l m form e i q offer (told_already e i l m q here met)
        go (OwnLost l due form e i q behind offer here met was) = lost_ends l due form e i q behind offer here met
        go (OwnOver l s q in_s offer has once here was) = by_note (HasFinished c s) (says (Owing c (Over s) l) q)
            (⊎_elim (λ f. tells_over l s q in_s offer has once f) (λ f. told_before l s q in_s offer has once f) here)
        go (OwnRefusing l s q here gone) = absurd (finish_tells x.note (tells_so (Refusing c s l) q))
        go (OwnLeaving l q offer other here) = absurd (end_tells x.note (tells_so (Leaving c l) q))
