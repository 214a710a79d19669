-- The recorder makes a local step: it begins, or writes one more piece, and the original does nothing; or it ends a line, and the original makes its event.
use Rattle.std.proofs.Common.{◌≡◌, ℕ, ◌<◌, ◌≤◌, Bool, true, false, not, ◌||◌, ◌==◌, if◌then◌else◌, List, [], ◌∷◌, ◌++◌, Some, None, option_to_list, append-nil, append_assoc, refl, sym, ap, ◌∙◌, subst, ⊎_elim, ◌⊎◌, true≢false, arith}
use Rattle.std.specs.List.{concat}
use Rattle.std.specs.Prelude.{ℤ, pos}
use Rattle.std.proofs.lemmas.Bool.{eqb-true, or_parts, or_cases, or_from, cases_Bool, cases_lt, ne_eqb}
use Rattle.event_machine.specs.declared.CallForm.{CallForm}
use Rattle.event_machine.specs.declared.CallForm.TheVariants.{Plain, Conditional, Timed}
use Rattle.event_machine.specs.declared.Standing.{Standing}
use Rattle.event_machine.specs.declared.Standing.TheVariants.{Live, Served}
use Rattle.event_machine.specs.declared.Event.{Event}
use Rattle.event_machine.specs.declared.Event.TheVariants.{R, E, S, D, C, T, F, X}
use Rattle.event_machine.specs.Offers.{Offer, Nothing, Calls, Waits, Finishes, Ends, Aborts, calls_in, is_any_form, is_conditional, is_timed, waits_with, is_finish, is_end, opens, is_else, is_delay}
use Rattle.event_machine.specs.States.{Seat, live, completed, is_closed, is_completed, is_served_by}
use Rattle.event_machine.specs.Programs.{numbered}
use Rattle.event_machine.specs.Soundness.{IsSound}
use Rattle.event_machine.specs.Worlds.{World, Step, Happen, moved, happens, acted, is_last}
use Rattle.event_machine.proofs.Basics.{both, same_member-refl}
use Rattle.event_machine.proofs.Sound.{first_served}
use Rattle.run_laws.specs.imitation.Imitations.{Original}
use Rattle.run_laws.proofs.replaying.Facts.{put, put_self, put_other, offers_at, let_go, let_go_served}
use Rattle.run_laws.proofs.replaying.Parting.{parted_is}
use Rattle.run_laws.specs.collecting.Notes.{Note, BeforeCall, HasBegun, AtFinish, HasElse, HasDelay, HasCallElse, HasExpired, HasFailed, AtEnd, Book, empty_book, answer_of, recorded, flagged}
use Rattle.run_laws.specs.collecting.Copies.{Due, Begun, TookElse, TookDelay, TookOther, Failed, Upset, Copy, Based, Calling, Owing, Ending, Leaving, Opening, Recording, Writing, Noted, telling, based_offer, told, based_note, note_of, call_note, other_note, copy_offer, copy_steps, copy_stepped, done_by, other_part, answered}
use Rattle.run_laws.specs.collecting.Settings.{Setting, IsOfTask, recorder, twin}
use Rattle.run_laws.specs.collecting.inner.Beside.{IsReached, book_of, heard, Hears, DueAt, OwnAt, OwnBased, OwnCalling, OwnOwing, OwnEnding, OwnLeaving, SeatAt, Free, Telling, Shared, Apart, Gone, RecorderAt, Inv, IsBeside}
use Rattle.run_laws.proofs.collecting.Reaching.{reached_come, reached_over, reach_event}
use Rattle.run_laws.proofs.collecting.Frames.{touch_inv}
use Rattle.run_laws.proofs.collecting.Offered.{nothing_tells, waits_tell, finish_tells, end_tells, abort_tells}
use Rattle.run_laws.proofs.collecting.Singles.{live_unserved, at_one, of_task}
use Rattle.run_laws.proofs.collecting.Meetings.{served_once, start_is, served_below, TellingAt, telling_at}
use Rattle.common_lemmas.proofs.Numbers.{equal_self, unequal_above, unequal_turned}

-- who tells of its end is not the main program
pub end_other : (note t : ℕ) → based_offer note t Ends ≡ telling note → (t == 0) ≡ false
end_other note t h = go (t == 0) refl h
  where
    go : (b : Bool) → (t == 0) ≡ b → (if b then Ends else telling note) ≡ telling note → (t == 0) ≡ false
    go true q k = absurd (end_tells note k)
    go false q k = q

module _ {o : Original} (x : Setting o) (past : List Event) where
  -- ---- no line ends

  module _ (r r' : Copy o.L) (d : World o.L) (w : World (Copy o.L)) (inv : Inv x past r d w) (runs : w.ended ≡ false) where
    abbrev pub step_tasks : ℕ → Seat (Copy o.L)
    step_tasks = put w.tasks (recorder x) (live r')

    step_other : (u : ℕ) → (u == recorder x) ≡ false → step_tasks u ≡ w.tasks u
    step_other u q = put_other w.tasks (recorder x) u (live r') q

    below_recorder : (u : ℕ) → u < o.p.size → (u == recorder x) ≡ false
    below_recorder u l = ne_eqb u (recorder x) (λ e. omega (arith, e, l))

    pub silent_step : book_of r' ≡ book_of r → ((t : ℕ) (k : Copy o.L) → Hears x r t k → Hears x r' t k × (heard x r k ≡ heard x r' k)) → RecorderAt x past step_tasks r' →
        Inv x past r' d (record { tasks = step_tasks; ended = w.ended })
    silent_step same hears records = touch_inv x past past r r' d d w (record { tasks = step_tasks; ended = w.ended }) inv (record {
      touched = λ u. u == recorder x;
      same = λ u q. record { there = step_other u q; here = refl; met = ap (λ (b : Book). b.met u) same };
      alone = λ t c l q served h. live_unserved (w.tasks c) t (at_one (λ u. (w.tasks u).standing ≡ Live) c (recorder x) h (ap (λ (y : Seat (Copy o.L)). y.standing) inv.at)) served;
      closed = λ u h. h;
      hears = λ t k q h. hears t k h;
      seats = λ t l q. absurd (true≢false (sym q ∙ below_recorder t l));
      gone = λ t l. ap (λ (b : Book). b.gone t) same ∙ inv.gone t l;
      reached = inv.reached;
      runs = inv.runs;
      ends = λ h. absurd (true≢false (sym h ∙ runs));
      at = put_self w.tasks (recorder x) (live r');
      records = records;
      beyond = λ t l. unequal_above t (recorder x) l;
    })

    -- who is served by the recorder still is
    step_served : (c : ℕ) → c < o.p.size → (w.tasks c).standing ≡ Served (recorder x) false → (step_tasks c).standing ≡ Served (recorder x) false
    step_served c l h = ap (λ (y : Seat (Copy o.L)). y.standing) (step_other c (below_recorder c l)) ∙ h

  -- ---- a line ends

  module _ (d : World o.L) (w : World (Copy o.L)) (c : ℕ) (b : Book) (note : Note) (done : List ℕ) (inv : Inv x past (Writing c b note done []) d w) (runs : w.ended ≡ false) where
    abbrev written_events : b.events ≡ past
    written_events = inv.records.0

    below : c < o.p.size
    below = inv.records.1

    served : (w.tasks c).standing ≡ Served (recorder x) false
    served = inv.records.2

    teller : TellingAt x past (Writing c b note done []) d w inv runs c
    teller = telling_at x past (Writing c b note done []) d w inv runs c below served

    own : OwnAt x b w.tasks d.tasks c teller.k
    own = teller.own

    sound : IsSound o.p.ops o.IsProper d.tasks
    sound = (reached_come o past d inv.reached).sound

    not_recorder : (u : ℕ) → u < o.p.size → (u == recorder x) ≡ false
    not_recorder u l = ne_eqb u (recorder x) (λ e. omega (arith, e, l))

    -- the tasks when the line has ended
    abbrev ended_tasks : Bool → Book → ℕ → Seat (Copy o.L)
    ended_tasks answer b' = put w.tasks (recorder x) (live (Noted c answer b'))

    ended_same : (answer : Bool) (b' : Book) (u : ℕ) → u < o.p.size → ended_tasks answer b' u ≡ w.tasks u
    ended_same answer b' u l = put_other w.tasks (recorder x) u (live (Noted c answer b')) (not_recorder u l)

    -- What the original has done as the line ends: its event is one of c, and of the task s, which c serves or which is c.
    record IsDone (answer : Bool) (b' : Book) (past' : List Event) (d' : World o.L) (s : ℕ) : Type 0 where
      events : b'.events ≡ past'
      reached : IsReached o past' d'
      goes_on : d'.ended ≡ false
      others : (u : ℕ) → (u == c) ≡ false → (u == s) ≡ false → (d'.tasks u ≡ d.tasks u) × (b'.met u ≡ b.met u)
      gone : (t : ℕ) → t < o.p.size → b'.gone t ≡ is_closed (d'.tasks t).standing
      closed : (t : ℕ) → is_closed (d.tasks t).standing ≡ true → is_closed (d'.tasks t).standing ≡ true
      within : s < o.p.size
      serves : (t : ℕ) → t < o.p.size → (t == c) ≡ false → (w.tasks s).standing ≡ Served t false → ⊥
      own' : OwnAt x b' (ended_tasks answer b') d'.tasks c (answered o.p answer teller.k)
      seat : (s == c) ≡ false → SeatAt x b' (ended_tasks answer b') d'.tasks (Noted c answer b') s

    abbrev Goal : Bool → Book → Type 0
    Goal answer b' = IsBeside x (record { tasks = ended_tasks answer b'; ended = w.ended })

    done_inv : (answer : Bool) (b' : Book) (past' : List Event) (d' : World o.L) (s : ℕ) → IsDone answer b' past' d' s →
        Inv x past' (Noted c answer b') d' (record { tasks = ended_tasks answer b'; ended = w.ended })
    done_inv answer b' past' d' s m = touch_inv x past past' (Writing c b note done []) (Noted c answer b') d d' w (record { tasks = ended_tasks answer b'; ended = w.ended }) inv (record {
      touched = λ u. (u == recorder x) || ((u == c) || (u == s));
      same = λ u q.
          let k = or_parts (u == recorder x) ((u == c) || (u == s)) q in
          let j = or_parts (u == c) (u == s) k.1 in
          let g = m.others u j.0 j.1 in
          record { there = put_other w.tasks (recorder x) u (live (Noted c answer b')) k.0; here = g.0; met = g.1 };
      alone = λ t u l q served' h.
          let k = or_parts (t == recorder x) ((t == c) || (t == s)) q in
          let j = or_parts (t == c) (t == s) k.1 in
          ⊎_elim
          (λ e. live_unserved (w.tasks u) t (at_one (λ v. (w.tasks v).standing ≡ Live) u (recorder x) e (ap (λ (y : Seat (Copy o.L)). y.standing) inv.at)) served')
          (λ f. ⊎_elim
          (λ e. let n : t ≡ recorder x = served_once (w.tasks u) t (recorder x) served' (at_one (λ v. (w.tasks v).standing ≡ Served (recorder x) false) u c e served) in omega (arith, n, l))
          (λ e. m.serves t l j.0 (subst (λ v. (w.tasks v).standing ≡ Served t false) (eqb-true u s e) served'))
          (or_cases (u == c) (u == s) f))
          (or_cases (u == recorder x) ((u == c) || (u == s)) h);
      closed = m.closed;
      hears = λ t k q h.
          let j = or_parts (t == c) (t == s) (or_parts (t == recorder x) ((t == c) || (t == s)) q).1 in
          absurd (true≢false (sym (ap (λ u. u == c) (sym h.0) ∙ equal_self c) ∙ j.0));
      seats = λ t l q. ⊎_elim
          (λ e. absurd (true≢false (sym e ∙ not_recorder t l)))
          (λ f. at_each t (or_cases (t == c) (t == s) f))
          (or_cases (t == recorder x) ((t == c) || (t == s)) q);
      gone = m.gone;
      reached = m.reached;
      runs = m.goes_on;
      ends = λ h. absurd (true≢false (sym h ∙ runs));
      at = put_self w.tasks (recorder x) (live (Noted c answer b'));
      records = (m.events, below, ap (λ (y : Seat (Copy o.L)). y.standing) (ended_same answer b' c below) ∙ served);
      beyond = λ t l. or_from (t == recorder x) ((t == c) || (t == s)) (unequal_above t (recorder x) l)
          (or_from (t == c) (t == s) (let k : c < o.p.size = below in unequal_above t c (omega (arith, l, k))) (let k : s < o.p.size = m.within in unequal_above t s (omega (arith, l, k))));
    })
      where
        P : ℕ → Type 0
        P t = SeatAt x b' (ended_tasks answer b') d'.tasks (Noted c answer b') t

        at_c : P c
        at_c = Telling teller.k (ended_same answer b' c below ∙ teller.at) (refl, teller.hears.2) m.own' teller.was

        at_each : (t : ℕ) → ((t == c) ≡ true) ⊎ ((t == s) ≡ true) → P t
        at_each t h = ⊎_elim (λ e. at_one P t c e at_c)
            (λ e. at_one P t s e (⊎_elim (λ f. at_one P s c f at_c) m.seat (cases_Bool (s == c)))) h

    finish : (answer : Bool) (b' : Book) (past' : List Event) (d' : World o.L) (s : ℕ) → IsDone answer b' past' d' s → Goal answer b'
    finish answer b' past' d' s m = record { past = past'; r = Noted c answer b'; d = d'; inv = done_inv answer b' past' d' s m }

    -- ---- an event of the teller alone

    module _ (l : o.L) (here : d.tasks c ≡ live l) where
      open_c : is_closed (d.tasks c).standing ≡ false
      open_c = ap (λ (y : Seat o.L). is_closed y.standing) here

      alone_done : (answer : Bool) (b' : Book) (e : Event) (y : Seat o.L) → happens o.p d.tasks e ≡ true → is_last e ≡ false → acted (numbered o.p) d.tasks e ≡ put d.tasks c y →
          b'.events ≡ past ++ (e ∷ []) → ((u : ℕ) → b'.met u ≡ b.met u) →
          ((t : ℕ) → t < o.p.size → b'.gone t ≡ is_closed (put d.tasks c y t).standing) →
          ((moved o.p d (Happen e)).tasks c ≡ y → OwnAt x b' (ended_tasks answer b') (moved o.p d (Happen e)).tasks c (answered o.p answer teller.k)) →
          IsDone answer b' (past ++ (e ∷ [])) (moved o.p d (Happen e)) c
      alone_done answer b' e y can more acts events met gone own' = record {
        events = events;
        reached = reach_event o past d e inv.reached inv.runs can;
        goes_on = ap (λ f. f || d.ended) more ∙ inv.runs;
        others = λ u p q. (ap (λ (f : ℕ → Seat o.L). f u) acts ∙ put_other d.tasks c u y p, met u);
        gone = λ t k. gone t k ∙ ap (λ (f : ℕ → Seat o.L). is_closed (f t).standing) (sym acts);
        closed = λ t h. ⊎_elim
            (λ q. absurd (true≢false (sym h ∙ at_one (λ v. is_closed (d.tasks v).standing ≡ false) t c q open_c)))
            (λ q. ap (λ (f : ℕ → Seat o.L). is_closed (f t).standing) acts ∙ ap (λ (z : Seat o.L). is_closed z.standing) (put_other d.tasks c t y q) ∙ h)
            (cases_Bool (t == c));
        within = below;
        serves = λ t k p h. let n : t ≡ recorder x = served_once (w.tasks c) t (recorder x) h served in omega (arith, n, k);
        own' = own' (ap (λ (f : ℕ → Seat o.L). f c) acts ∙ put_self d.tasks c y);
        seat = λ q. absurd (true≢false (sym (equal_self c) ∙ q));
      }

      -- the teller goes on in this state
      free_done : (answer : Bool) (b' : Book) (e : Event) (m : o.L) → answered o.p answer teller.k ≡ Based c m → happens o.p d.tasks e ≡ true → is_last e ≡ false →
          acted (numbered o.p) d.tasks e ≡ put d.tasks c (live m) → b'.events ≡ b.events ++ (e ∷ []) → b'.gone ≡ b.gone → b'.met ≡ b.met → Goal answer b'
      free_done answer b' e m is can more acts events gone met = finish answer b' (past ++ (e ∷ [])) (moved o.p d (Happen e)) c
          (alone_done answer b' e (live m) can more acts (events ∙ ap (λ es. es ++ (e ∷ [])) written_events) (λ u. ap (λ (f : ℕ → Bool). f u) met)
          (λ t k. ap (λ (f : ℕ → Bool). f t) gone ∙ inv.gone t k ∙ sym (same_closed t)) (λ at. OwnBased m is at))
        where
          same_closed : (t : ℕ) → is_closed (put d.tasks c (live m) t).standing ≡ is_closed (d.tasks t).standing
          same_closed t = ⊎_elim
              (λ q. at_one (λ v. is_closed (put d.tasks c (live m) v).standing ≡ is_closed (d.tasks v).standing) t c q (ap (λ (z : Seat o.L). is_closed z.standing) (put_self d.tasks c (live m)) ∙ sym open_c))
              (λ q. ap (λ (z : Seat o.L). is_closed z.standing) (put_other d.tasks c t (live m) q))
              (cases_Bool (t == c))

      -- what a function makes of its state
      freed_is : (f : o.L → o.L) → put d.tasks c (live (f (d.tasks c).local)) ≡ put d.tasks c (live (f l))
      freed_is f = ap (λ (z : Seat o.L). put d.tasks c (live (f z.local))) here

      -- the original does nothing: the note has no line
      nothing_done : (answer : Bool) (b' : Book) → b'.events ≡ b.events ++ [] → b'.gone ≡ b.gone → ((u : ℕ) → (u == c) ≡ false → b'.met u ≡ b.met u) →
          OwnAt x b' (ended_tasks answer b') d.tasks c (answered o.p answer teller.k) → Goal answer b'
      nothing_done answer b' events gone met own' = finish answer b' past d c (record {
        events = events ∙ append-nil b.events ∙ written_events;
        reached = inv.reached;
        goes_on = inv.runs;
        others = λ u p q. (refl, met u p);
        gone = λ t k. ap (λ (f : ℕ → Bool). f t) gone ∙ inv.gone t k;
        closed = λ t h. h;
        within = below;
        serves = λ t k p h. let n : t ≡ recorder x = served_once (w.tasks c) t (recorder x) h served in omega (arith, n, k);
        own' = own';
        seat = λ q. absurd (true≢false (sym (equal_self c) ∙ q));
      })

      -- ---- before a call, and at an end

      tells_call : (form : CallForm) (e : ℕ) (i : ℤ) → teller.k ≡ Based c l → o.p.ops.offer l ≡ Calls form e i → Goal false (recorded b (BeforeCall c))
      tells_call form e i q offer = nothing_done false (recorded b (BeforeCall c)) refl refl (λ u p. ap (λ f. if f then false else b.met u) p)
          (OwnCalling l form e i (ap (answered o.p false) q ∙ ap (λ f. told c f l) offer) offer here (ap (λ f. if f then false else b.met c) (equal_self c)))

      tells_end : teller.k ≡ Based c l → o.p.ops.offer l ≡ Ends → (c == 0) ≡ false → Goal false (recorded b (AtEnd c))
      tells_end q offer other = finish false (recorded b (AtEnd c)) (past ++ (X c ∷ [])) (moved o.p d (Happen (X c))) c
          (alone_done false (recorded b (AtEnd c)) (X c) (completed l) (both (ap not other) (offers_at o.p.ops is_end (d.tasks c) l here (ap is_end offer))) refl
          (ap (λ (z : Seat o.L). put d.tasks c (completed z.local)) here) (ap (λ es. es ++ (X c ∷ [])) written_events) (λ u. refl) gone
          (λ at. OwnLeaving l (ap (answered o.p false) q ∙ ap (λ f. told c f l) offer) offer (λ z. true≢false (sym (equal_self 0) ∙ ap (λ v. v == 0) (sym z) ∙ other)) at))
        where
          gone : (t : ℕ) → t < o.p.size → flagged b.gone c true t ≡ is_closed (put d.tasks c (completed l) t).standing
          gone t k = go (t == c)
            where
              go : (f : Bool) → (if f then true else b.gone t) ≡ is_closed (if f then completed l else d.tasks t).standing
              go true = refl
              go false = inv.gone t k

      -- ---- what it has done

      module _ (due : Due o.L) (q : teller.k ≡ Owing c due l) where
        -- it goes on as it has told
        goes : (answer : Bool) → answered o.p answer teller.k ≡ Based c (done_by o.p answer due l)
        goes answer = ap (answered o.p answer) q

      tells_else : teller.k ≡ Owing c TookElse l → waits_with is_else (o.p.ops.offer l) ≡ true → Goal false (recorded b (HasElse c))
      tells_else q h = free_done false (recorded b (HasElse c)) (S c) (o.p.ops.took_else l) (goes TookElse q false) (offers_at o.p.ops (waits_with is_else) (d.tasks c) l here h) refl
          (freed_is o.p.ops.took_else) refl refl refl

      tells_delay : (j : ℕ) → teller.k ≡ Owing c (TookDelay j) l → waits_with (is_delay j) (o.p.ops.offer l) ≡ true → Goal false (recorded b (HasDelay c j))
      tells_delay j q h = free_done false (recorded b (HasDelay c j)) (D c j) (o.p.ops.took_delay j l) (goes (TookDelay j) q false) (offers_at o.p.ops (waits_with (is_delay j)) (d.tasks c) l here h) refl
          (freed_is (o.p.ops.took_delay j)) refl refl refl

      -- a call that fails
      module _ (form : CallForm) (e : ℕ) (i : ℤ) (offer : o.p.ops.offer l ≡ Calls form e i) where
        calls_now : (test : CallForm → Bool) → test form ≡ true → calls_in test e i (o.p.ops.offer l) ≡ true
        calls_now test h = ap (calls_in test e i) offer ∙ both h (same_member-refl e i)

        can_fail : is_closed (d.tasks (o.p.owner e)).standing ≡ true → happens o.p d.tasks (F c e i) ≡ true
        can_fail h = both (offers_at o.p.ops (calls_in is_any_form e i) (d.tasks c) l here (calls_now is_any_form refl)) h

        task : IsOfTask o.p.size o.p.owner x.note x.owner e
        task = of_task x past (Writing c b note done []) d w inv c l e i here (calls_now is_any_form refl)

        owner_gone : b.gone (o.p.owner e) ≡ is_closed (d.tasks (o.p.owner e)).standing
        owner_gone = inv.gone (o.p.owner e) task.task

        tells_fail : teller.k ≡ Owing c Failed l → is_closed (d.tasks (o.p.owner e)).standing ≡ true → b.met c ≡ false → Goal false (recorded b (HasFailed c e i))
        tells_fail q closed met = go (b.met c) met
          where
            go : (f : Bool) → f ≡ false → Goal false (record { gone = b.gone; met = b.met; events = b.events ++ option_to_list (if f then None else Some (F c e i)) })
            go true k = absurd (true≢false k)
            go false k = free_done false (record { gone = b.gone; met = b.met; events = b.events ++ (F c e i ∷ []) }) (F c e i) (o.p.ops.raised l) (goes Failed q false) (can_fail closed) refl
                (freed_is o.p.ops.raised) refl refl refl

        -- the other part of the call: it is too late where the owner is gone
        other_done : (make : ℕ → ℕ → ℤ → Event) (test : CallForm → Bool) (m : o.L) → teller.k ≡ Owing c TookOther l → other_part o.p (Calls form e i) l ≡ m →
            (is_closed (d.tasks (o.p.owner e)).standing ≡ false → happens o.p d.tasks (make c e i) ≡ true) → is_last (make c e i) ≡ false → acted (numbered o.p) d.tasks (make c e i) ≡ put d.tasks c (live m) →
            (f : Bool) → is_closed (d.tasks (o.p.owner e)).standing ≡ f → Goal f (record { gone = b.gone; met = b.met; events = b.events ++ ((if f then F c e i else make c e i) ∷ []) })
        other_done make test m q other can more acts true h = free_done true (record { gone = b.gone; met = b.met; events = b.events ++ (F c e i ∷ []) }) (F c e i) (o.p.ops.raised l) (goes TookOther q true)
            (can_fail h) refl (freed_is o.p.ops.raised) refl refl refl
        other_done make test m q other can more acts false h = free_done false (record { gone = b.gone; met = b.met; events = b.events ++ (make c e i ∷ []) }) (make c e i) m
            (goes TookOther q false ∙ ap (Based c) (ap (λ f. other_part o.p f l) offer ∙ other)) (can h) more acts refl refl refl

      tells_call_else : (e : ℕ) (i : ℤ) → o.p.ops.offer l ≡ Calls Conditional e i → teller.k ≡ Owing c TookOther l →
          Goal (b.gone (o.p.owner e)) (recorded b (HasCallElse c e i (o.p.owner e)))
      tells_call_else e i offer q = other_done Conditional e i offer C is_conditional (o.p.ops.took_else l) q refl
          (λ h. both (offers_at o.p.ops (calls_in is_conditional e i) (d.tasks c) l here (calls_now Conditional e i offer is_conditional refl)) (ap not h)) refl
          (freed_is o.p.ops.took_else) (b.gone (o.p.owner e)) (sym (owner_gone Conditional e i offer))

      tells_expired : (e : ℕ) (i : ℤ) → o.p.ops.offer l ≡ Calls Timed e i → teller.k ≡ Owing c TookOther l → Goal (b.gone (o.p.owner e)) (recorded b (HasExpired c e i (o.p.owner e)))
      tells_expired e i offer q = other_done Timed e i offer T is_timed (o.p.ops.took_delay 1 l) q refl
          (λ h. both (offers_at o.p.ops (calls_in is_timed e i) (d.tasks c) l here (calls_now Timed e i offer is_timed refl)) (ap not h)) refl
          (freed_is (o.p.ops.took_delay 1)) (b.gone (o.p.owner e)) (sym (owner_gone Timed e i offer))

      -- TASKING_ERROR came from the accept body
      tells_upset : (e : ℕ) (i : ℤ) → teller.k ≡ Owing c (Upset e i) l → b.met c ≡ true → Goal false (recorded b (HasFailed c e i))
      tells_upset e i q met = go (b.met c) met
        where
          go : (f : Bool) → f ≡ true → Goal false (record { gone = b.gone; met = b.met; events = b.events ++ option_to_list (if f then None else Some (F c e i)) })
          go true k = nothing_done false (record { gone = b.gone; met = b.met; events = b.events ++ [] }) refl refl (λ u p. refl) (OwnBased l (goes (Upset e i) q false) here)
          go false k = absurd (true≢false (sym k))

      -- ---- an event of the teller and of a task that it serves

      module _ (s : ℕ) (serves_s : (w.tasks s).standing ≡ Served c false) (open_s : is_closed (d.tasks s).standing ≡ false) where
        within_s : s < o.p.size
        within_s = served_below x past (Writing c b note done []) d w inv runs s c serves_s

        apart_s : (s == c) ≡ false
        apart_s = ne_eqb s c (λ q.
            let n : c ≡ recorder x = served_once (w.tasks s) c (recorder x) serves_s (subst (λ u. (w.tasks u).standing ≡ Served (recorder x) false) (sym q) served) in
            let k : c < o.p.size = below in omega (arith, n, k))

        pair_done : (b' : Book) (e : Event) (y z : Seat o.L) → happens o.p d.tasks e ≡ true → is_last e ≡ false → acted (numbered o.p) d.tasks e ≡ put (put d.tasks c y) s z →
            is_closed y.standing ≡ false → is_closed z.standing ≡ false → b'.events ≡ b.events ++ (e ∷ []) → b'.gone ≡ b.gone → ((u : ℕ) → (u == s) ≡ false → b'.met u ≡ b.met u) →
            ((moved o.p d (Happen e)).tasks c ≡ y → (moved o.p d (Happen e)).tasks s ≡ z → OwnAt x b' (ended_tasks false b') (moved o.p d (Happen e)).tasks c (answered o.p false teller.k)) →
            ((moved o.p d (Happen e)).tasks s ≡ z → SeatAt x b' (ended_tasks false b') (moved o.p d (Happen e)).tasks (Noted c false b') s) → Goal false b'
        pair_done b' e y z can more acts open_y open_z events gone met own' seat = finish false b' (past ++ (e ∷ [])) (moved o.p d (Happen e)) s (record {
          events = events ∙ ap (λ es. es ++ (e ∷ [])) written_events;
          reached = reach_event o past d e inv.reached inv.runs can;
          goes_on = ap (λ f. f || d.ended) more ∙ inv.runs;
          others = λ u p q. (ap (λ (f : ℕ → Seat o.L). f u) acts ∙ put_other (put d.tasks c y) s u z q ∙ put_other d.tasks c u y p, met u q);
          gone = λ t k. ap (λ (f : ℕ → Bool). f t) gone ∙ inv.gone t k ∙ sym (same_closed t);
          closed = λ t h. same_closed t ∙ h;
          within = within_s;
          serves = λ t k p h. true≢false (sym (ap (λ u. u == c) (served_once (w.tasks s) t c h serves_s) ∙ equal_self c) ∙ p);
          own' = own' at_c at_s;
          seat = λ q. seat at_s;
        })
          where
            at_s : (moved o.p d (Happen e)).tasks s ≡ z
            at_s = ap (λ (f : ℕ → Seat o.L). f s) acts ∙ put_self (put d.tasks c y) s z

            at_c : (moved o.p d (Happen e)).tasks c ≡ y
            at_c = ap (λ (f : ℕ → Seat o.L). f c) acts ∙ put_other (put d.tasks c y) s c z (unequal_turned s c apart_s) ∙ put_self d.tasks c y

            same_closed : (t : ℕ) → is_closed ((moved o.p d (Happen e)).tasks t).standing ≡ is_closed (d.tasks t).standing
            same_closed t = ⊎_elim
                (λ q. at_one (λ v. is_closed ((moved o.p d (Happen e)).tasks v).standing ≡ is_closed (d.tasks v).standing) t s q (ap (λ (f : Seat o.L). is_closed f.standing) at_s ∙ open_z ∙ sym open_s))
                (λ p. ⊎_elim
                (λ q. at_one (λ v. is_closed ((moved o.p d (Happen e)).tasks v).standing ≡ is_closed (d.tasks v).standing) t c q (ap (λ (f : Seat o.L). is_closed f.standing) at_c ∙ open_y ∙ sym open_c))
                (λ q. ap (λ (f : ℕ → Seat o.L). is_closed (f t).standing) acts ∙ ap (λ (f : Seat o.L). is_closed f.standing) (put_other (put d.tasks c y) s t z p ∙ put_other d.tasks c t y q))
                (cases_Bool (t == c)))
                (cases_Bool (t == s))

      -- a rendezvous has begun
      tells_begun : (s e : ℕ) (i : ℤ) (v : o.L) → teller.k ≡ Owing c (Begun s e i v) l → DueAt x b w.tasks d.tasks c l (Begun s e i v) → Goal false (recorded b (HasBegun s e i))
      tells_begun s e i v q due =
          let y : Seat o.L = live (o.p.ops.accepted e i s v l) in
          let z : Seat o.L = record { local = v; standing = Served c false } in
          let b' : Book = recorded b (HasBegun s e i) in
          let serves_s : (w.tasks s).standing ≡ Served c false = ap (λ (f : Seat (Copy o.L)). f.standing) due.3.at in
          let open_s : is_closed (d.tasks s).standing ≡ false = ap (λ (f : Seat o.L). is_closed f.standing) due.3.free in
          let can : happens o.p d.tasks (R s e i) ≡ true = both (offers_at o.p.ops (calls_in is_any_form e i) (d.tasks s) v due.3.free due.0)
          (offers_at o.p.ops (waits_with (opens e i)) (d.tasks (o.p.owner e)) l (ap d.tasks due.2 ∙ here) due.1) in
          pair_done s serves_s open_s b' (R s e i) y z can refl (sym (start_is o.p d.tasks s c e i v l (o.p.ops.accepted e i s v l) due.2 due.3.free here refl (apart_s s serves_s open_s)))
          refl refl refl refl (λ u p. ap (λ f. if f then true else b.met u) p)
          (λ at at_s. OwnBased (o.p.ops.accepted e i s v l) (goes (Begun s e i v) q false) at)
          (λ at_s. Shared c v below (ended_same false b' s (within_s s serves_s open_s) ∙ due.3.at) at_s (ap (λ f. if f then true else b.met s) (equal_self s)))

      -- ---- the end of an accept body

      -- a task beside one that lives or is closed is served by nobody
      own_unserved : (a t : ℕ) (k : Copy o.L) → OwnAt x b w.tasks d.tasks t k → is_served_by a (d.tasks t).standing ≡ false
      own_unserved a t k (OwnBased m p at) = ap (λ (f : Seat o.L). is_served_by a f.standing) at
      own_unserved a t k (OwnCalling m form e i p offer at met) = ap (λ (f : Seat o.L). is_served_by a f.standing) at
      own_unserved a t k (OwnOwing m due p at h) = ap (λ (f : Seat o.L). is_served_by a f.standing) at
      own_unserved a t k (OwnEnding m v u outer p offer has at h together) = ap (λ (f : Seat o.L). is_served_by a f.standing) at
      own_unserved a t k (OwnLeaving m p offer other at) = ap (λ (f : Seat o.L). is_served_by a f.standing) at

      -- The task s is served by c in both.
      record SharedAt (s : ℕ) : Type 0 where
        v : o.L
        at : w.tasks s ≡ record { local = Calling s v; standing = Served c false }
        there : d.tasks s ≡ record { local = v; standing = Served c false }
        met : b.met s ≡ true

      shared_at : (s : ℕ) → s < o.p.size → is_served_by c (d.tasks s).standing ≡ true → SharedAt s
      shared_at s k h = go (inv.seats s k)
        where
          go : SeatAt x b w.tasks d.tasks (Writing c b note done []) s → SharedAt s
          go (Free j at own') = absurd (true≢false (sym h ∙ own_unserved c s j own'))
          go (Telling j at hears own' was) = absurd (true≢false (sym h ∙ own_unserved c s j own'))
          go (Shared a v m at there met) =
              let n : a ≡ c = eqb-true a c (ap (λ (f : Seat o.L). is_served_by c f.standing) (sym there) ∙ h) in
              record {
                v = v;
                at = at ∙ ap (λ u. record { local = Calling s v; standing = Served u false }) n;
                there = there ∙ ap (λ u. record { local = v; standing = Served u false }) n;
                met = met;
              }
          go (Apart a v m at free outs same) = absurd (true≢false (sym h ∙ ap (is_served_by c) free))
          go (Gone m at there) = absurd (true≢false (sym h ∙ ap (λ (f : Seat o.L). is_served_by c f.standing) there))

      module _ (s : ℕ) (v : o.L) (outer : List ℕ) (at : w.tasks s ≡ record { local = Calling s v; standing = Served c false }) (there : d.tasks s ≡ record { local = v; standing = Served c false })
          (met : b.met s ≡ true) (has : o.p.ops.callers l ≡ s ∷ outer) (proper : o.IsProper l) (q : teller.k ≡ Based c l) (offer : o.p.ops.offer l ≡ Finishes) where
        serves_s : (w.tasks s).standing ≡ Served c false
        serves_s = ap (λ (f : Seat (Copy o.L)). f.standing) at

        open_s : is_closed (d.tasks s).standing ≡ false
        open_s = ap (λ (f : Seat o.L). is_closed f.standing) there

        proper_s : o.IsProper v
        proper_s = subst (λ (f : Seat o.L). o.IsProper f.local) there (sound.proper s open_s)

        parted : acted (numbered o.p) d.tasks (E c) ≡ put (put d.tasks c (live (o.p.ops.finished l))) s (live (o.p.ops.resumed l v))
        parted = parted_is o.p d.tasks c l s outer here has (apart_s s serves_s open_s) ∙
            ap (λ f. put (put d.tasks c (live (o.p.ops.finished l))) s (let_go (o.p.ops.resumed l) c f)) there ∙
            ap (λ f. put (put d.tasks c (live (o.p.ops.finished l))) s f) (let_go_served (o.p.ops.resumed l) c (record { local = v; standing = Served c false }) (equal_self c))

        at_then : ended_tasks false (recorded b (AtFinish c)) s ≡ record { local = Calling s v; standing = Served c false }
        at_then = ended_same false (recorded b (AtFinish c)) s (within_s s serves_s open_s) ∙ at

        parts_done : Goal false (recorded b (AtFinish c))
        parts_done = pair_done s serves_s open_s (recorded b (AtFinish c)) (E c) (live (o.p.ops.finished l)) (live (o.p.ops.resumed l v))
            (offers_at o.p.ops is_finish (d.tasks c) l here (ap is_finish offer)) refl parted refl refl refl refl (λ u p. refl)
            (λ at_c at_s. OwnEnding l v s outer (ap (answered o.p false) q ∙ ap (λ f. told c f l) offer) offer has at_c (record { at = at_then; free = at_s; is_met = met })
            (record { d = d; come = reached_come o past d inv.reached; runs = inv.runs; acceptor = here; caller = there }))
            (λ at_s. Apart c v below at_then (ap (λ (f : Seat o.L). f.standing) at_s) (ap (λ (f : Seat o.L). o.out f.local) at_s ∙ x.silent.resumed l v)
            (ap (λ (f : Seat o.L). o.p.ops.callers f.local) at_s ∙ (o.lawful.resumed l v proper proper_s).1))

      tells_finish : teller.k ≡ Based c l → o.p.ops.offer l ≡ Finishes → Goal false (recorded b (AtFinish c))
      tells_finish q offer =
          let standing : (d.tasks c).standing ≡ Live = ap (λ (f : Seat o.L). f.standing) here in
          let local : (d.tasks c).local ≡ l = ap (λ (f : Seat o.L). f.local) here in
          let proper : o.IsProper l = subst o.IsProper local (sound.proper c open_c) in
          let (s, proper', has) = o.lawful.finished l proper offer in
          let served_s : is_served_by c (d.tasks s).standing ≡ true =
          first_served o.p o.IsProper o.lawful d.tasks c s sound standing (subst (λ m. o.IsProper (o.p.ops.finished m)) (sym local) proper')
          (subst (λ m. o.p.ops.callers m ≡ s ∷ o.p.ops.callers (o.p.ops.finished m)) (sym local) has) in
          let in_s : s < o.p.size = ⊎_elim (λ (m : s < o.p.size). m)
          (λ (m : o.p.size ≤ s). absurd (completed_unserved (d.tasks s).standing (reached_over o past d inv.reached s m) served_s)) (cases_lt s o.p.size) in
          let g : SharedAt s = shared_at s in_s served_s in
          parts_done s g.v (o.p.ops.callers (o.p.ops.finished l)) g.at g.there g.met has proper q offer
        where
          completed_unserved : (z : Standing) → is_completed z ≡ true → is_served_by c z ≡ true → ⊥
          completed_unserved (Served by abnormal) p r = true≢false (sym p)
          completed_unserved z p r = true≢false (sym r)

    -- ---- all ends of a line

    -- the note says which
    by_note : (m : Note) → note ≡ m → Goal (answer_of b m) (recorded b m) → Goal (answer_of b note) (recorded b note)
    by_note m q h = subst (λ n. Goal (answer_of b n) (recorded b n)) (sym q) h

    tells : copy_offer o.p x.note teller.k ≡ telling x.note
    tells = teller.hears.2

    says : (k : Copy o.L) → teller.k ≡ k → note ≡ note_of o.p k
    says k q = teller.hears.1 ∙ ap (note_of o.p) q

    tells_so : (k : Copy o.L) → teller.k ≡ k → copy_offer o.p x.note k ≡ telling x.note
    tells_so k q = ap (copy_offer o.p x.note) (sym q) ∙ tells

    based_ends : (l : o.L) → teller.k ≡ Based c l → d.tasks c ≡ live l → (offer : Offer) → o.p.ops.offer l ≡ offer → Goal (answer_of b note) (recorded b note)
    based_ends l q here Nothing h = absurd (nothing_tells x.note (ap (based_offer x.note c) (sym h) ∙ tells_so (Based c l) q))
    based_ends l q here (Calls form e i) h = by_note (BeforeCall c) (says (Based c l) q ∙ ap (based_note c) h) (tells_call l here form e i q h)
    based_ends l q here (Waits choices) h = absurd (waits_tell x.note (ap (based_offer x.note c) (sym h) ∙ tells_so (Based c l) q))
    based_ends l q here Finishes h = by_note (AtFinish c) (says (Based c l) q ∙ ap (based_note c) h) (tells_finish l here q h)
    based_ends l q here Ends h = by_note (AtEnd c) (says (Based c l) q ∙ ap (based_note c) h) (tells_end l here q h (end_other x.note c (ap (based_offer x.note c) (sym h) ∙ tells_so (Based c l) q)))
    based_ends l q here (Aborts v) h = absurd (abort_tells v x.note (ap (based_offer x.note c) (sym h) ∙ tells_so (Based c l) q))

    other_ends : (l : o.L) → teller.k ≡ Owing c TookOther l → d.tasks c ≡ live l → (form : CallForm) (e : ℕ) (i : ℤ) → o.p.ops.offer l ≡ Calls form e i →
        (is_conditional form || is_timed form) ≡ true →
        Goal (answer_of b note) (recorded b note)
    other_ends l q here Plain e i h f = absurd (true≢false (sym f))
    other_ends l q here Conditional e i h f = by_note (HasCallElse c e i (o.p.owner e)) (says (Owing c TookOther l) q ∙ ap (call_note c (λ form g j. other_note o.p c form g j)) h) (tells_call_else l here e i h q)
    other_ends l q here Timed e i h f = by_note (HasExpired c e i (o.p.owner e)) (says (Owing c TookOther l) q ∙ ap (call_note c (λ form g j. other_note o.p c form g j)) h) (tells_expired l here e i h q)

    due_ends : (l : o.L) (due : Due o.L) → teller.k ≡ Owing c due l → d.tasks c ≡ live l → DueAt x b w.tasks d.tasks c l due → Goal (answer_of b note) (recorded b note)
    due_ends l (Begun s e i v) q here h = by_note (HasBegun s e i) (says (Owing c (Begun s e i v) l) q) (tells_begun l here s e i v q h)
    due_ends l TookElse q here h = by_note (HasElse c) (says (Owing c TookElse l) q) (tells_else l here q h)
    due_ends l (TookDelay j) q here h = by_note (HasDelay c j) (says (Owing c (TookDelay j) l) q) (tells_delay l here j q h)
    due_ends l TookOther q here h = other_ends l q here h.0 h.1 h.2 h.3 h.4
    due_ends l Failed q here h = by_note (HasFailed c h.1 h.2) (says (Owing c Failed l) q ∙ ap (call_note c (λ form g j. HasFailed c g j)) h.3) (tells_fail l here h.0 h.1 h.2 h.3 q h.4 h.5)
    due_ends l (Upset e i) q here h = by_note (HasFailed c e i) (says (Owing c (Upset e i) l) q) (tells_upset l here e i q h)

    -- The original makes the event of the line, if the note has one.
    pub line_ends : Goal (answer_of b note) (recorded b note)
    line_ends = go own
      where
        go : OwnAt x b w.tasks d.tasks c teller.k → Goal (answer_of b note) (recorded b note)
        go (OwnBased l q here) = based_ends l q here (o.p.ops.offer l) refl
        go (OwnCalling l form e i q offer here met) =
            let calls : calls_in is_any_form x.note (pos 0) (o.p.ops.offer l) ≡ true = ap (calls_in is_any_form x.note (pos 0)) (tells_so (Calling c l) q) ∙ same_member-refl x.note (pos 0) in
            absurd (true≢false (sym (equal_self x.note) ∙ (of_task x past (Writing c b note done []) d w inv c l x.note (pos 0) here calls).other))
        go (OwnOwing l due q here h) = due_ends l due q here h
        go (OwnEnding l v u outer q offer has here h together) = absurd (finish_tells x.note (tells_so (Ending c l) q))
        go (OwnLeaving l q offer other here) = absurd (end_tells x.note (tells_so (Leaving c l) q))

  -- ---- all steps of the recorder

  module _ (d : World o.L) (w : World (Copy o.L)) (runs : w.ended ≡ false) where
    -- the world after its step
    step_is : (r : Copy o.L) → Inv x past r d w → record { tasks = put w.tasks (recorder x) (live (copy_stepped o.p r)); ended = w.ended } ≡ moved (twin x) w (Step (recorder x))
    step_is r inv = λ j. record { tasks = put w.tasks (recorder x) (live (copy_stepped o.p (sym inv.at j).local)); ended = w.ended }

    stepped_to : (r : Copy o.L) → Inv x past r d w → copy_steps o.p r ≡ true → IsBeside x (record { tasks = put w.tasks (recorder x) (live (copy_stepped o.p r)); ended = w.ended })
    stepped_to Opening inv can = record { past = past; r = Recording empty_book; d = d; inv = silent_step Opening (Recording empty_book) d w inv runs refl (λ t k h. absurd h) (sym inv.records) }
    stepped_to (Writing c b note done []) inv can = line_ends d w c b note done inv runs
    stepped_to (Writing c b note done (piece ∷ left)) inv can =
        let r : Copy o.L = Writing c b note done (piece ∷ left) in
        let r' : Copy o.L = Writing c b note (done ++ piece) left in
        record {
          past = past;
          r = r';
          d = d;
          inv = silent_step r r' d w inv runs refl (λ t k h. (h, refl))
              (inv.records.0, inv.records.1, step_served r r' d w inv runs c inv.records.1 inv.records.2, append_assoc done piece (concat left) ∙ inv.records.3);
        }
    stepped_to (Recording b) inv can = absurd (true≢false (sym can))
    stepped_to (Noted c answer b) inv can = absurd (true≢false (sym can))
    stepped_to r inv can = absurd inv.records

    pub recorder_steps : (r : Copy o.L) → Inv x past r d w → copy_steps o.p r ≡ true → IsBeside x (moved (twin x) w (Step (recorder x)))
    recorder_steps r inv can = subst (IsBeside x) (step_is r inv) (stepped_to r inv can)
