-- Each move of the original but the end of a rendezvous and an abort is had by moves of the copy, behind which each task is at the original's and has nothing
-- to tell.
use Rattle.std.proofs.Common.{◌≡◌, ℕ, ◌<◌, ◌≤◌, Bool, true, false, not, ◌||◌, ◌==◌, if◌then◌else◌, List, [], ◌∷◌, ◌++◌, Some, None, option_to_list, append-nil, refl, sym, ap, ◌∙◌, subst, ⊎_elim, true≢false}
use Rattle.std.specs.Prelude.{ℤ}
use Rattle.std.proofs.lemmas.Bool.{eqb-true, and_parts, cases_Bool, cases_lt, ne_eqb}
use Rattle.event_machine.specs.declared.CallForm.{CallForm}
use Rattle.event_machine.specs.declared.CallForm.TheVariants.{Plain, Conditional, Timed}
use Rattle.event_machine.specs.declared.Choice.{Choice}
use Rattle.event_machine.specs.declared.Standing.TheVariants.{Served}
use Rattle.event_machine.specs.declared.Event.{Event}
use Rattle.event_machine.specs.declared.Event.TheVariants.{R, E, S, D, C, T, F, X}
use Rattle.event_machine.specs.Offers.{Offer, Calls, Waits, Ends, calls_in, is_any_form, is_conditional, is_timed, waits_with, is_end, opens, is_else, is_delay}
use Rattle.event_machine.specs.States.{Seat, live, completed, is_live, is_closed, is_completed}
use Rattle.event_machine.specs.Programs.{numbered}
use Rattle.event_machine.specs.Worlds.{World, happens, acted, is_last, offers}
use Rattle.event_machine.proofs.Basics.{both, same_member-refl}
use Rattle.event_machine.proofs.Standings.{is-Live, completed_closed}
use Rattle.event_machine.proofs.Offering.{calls_is, end_is, calls_waits}
use Rattle.run_laws.specs.imitation.Imitations.{Original, IsComeTo}
use Rattle.run_laws.proofs.imitation.Following.{IsOver}
use Rattle.run_laws.proofs.replaying.Facts.{below_apart, put, put_self, put_other, offers_at, offers_live}
use Rattle.run_laws.specs.collecting.Copies.{telling, other_part}
use Rattle.run_laws.specs.collecting.Settings.{IsOfTask}
use Rattle.run_laws.proofs.collecting.Meetings.{start_is}
use Rattle.run_laws.proofs.collecting.Singles.{at_one}
use Rattle.run_laws.proofs.collecting.Telling.{going, Way, way_then, way_event, way_step}
use Rattle.run_laws.specs.aborts.Notes.{Note, BeforeCall, HasBegun, HasElse, HasDelay, HasCallElse, HasExpired, HasFailed, AtEnd, Book, numbered_so, recorded}
use Rattle.run_laws.specs.aborts.Copies.{Due, Begun, TookElse, TookDelay, TookOther, Failed, Copy, Based, Calling, Owing, Leaving, Recording, Noted, based_offer, based_note, call_note, told, wait_owes, call_owes, note_of, other_note, answered}
use Rattle.run_laws.specs.aborts.Settings.{Setting, recorder, twin}
use Rattle.run_laws.proofs.aborts.Telling.{given, given_at, given_recorder, given_other, Answers, tell}
use Rattle.common_lemmas.proofs.Numbers.{equal_self, unequal_turned}
use Rattle.common_lemmas.proofs.Truth.{not_true}

-- a task at a wait offers it as it is
pub waits_too : (note : ℕ) (test : Choice → Bool) (t : ℕ) (offer : Offer) → waits_with test offer ≡ true → waits_with test (based_offer note t offer) ≡ true
waits_too note test t (Waits choices) h = h
waits_too note test t offer h = absurd (true≢false (sym h))

module _ {o : Original} (x : Setting o) where
  module _ (b : Book) (tasks : ℕ → Seat (Copy o.L)) (d : ℕ → Seat o.L) where
    -- The task is at the original's, and has nothing to tell.
    pub data SettledAt (t : ℕ) : Type 0 where
      SetFree : (l : o.L) → d t ≡ live l → tasks t ≡ live (Based t l) → SettledAt t
      -- its rendezvous is told
      SetServed : (a : ℕ) (abnormal : Bool) (v : o.L) (form : CallForm) (e : ℕ) (i : ℤ) → o.p.ops.offer v ≡ Calls form e i → d t ≡ record { local = v; standing = Served a abnormal } →
          tasks t ≡ record { local = Calling t v; standing = Served a abnormal } → b.met t ≡ 1 → b.acceptor t ≡ a → SettledAt t
      SetGone : is_completed (d t).standing ≡ true → is_completed (tasks t).standing ≡ true → SettledAt t

    -- Each task is, and the recorder waits with this book.
    pub record Settled : Type 0 where
      pub at : tasks (recorder x) ≡ live (Recording b)
      pub gone : (t : ℕ) → t < o.p.size → b.gone t ≡ is_closed (d t).standing
      pub seats : (t : ℕ) → t < o.p.size → SettledAt t

  -- Moves of the copy behind which the recorder has written these events too, and each task is at the original's.
  pub record Settles (b : Book) (tasks : ℕ → Seat (Copy o.L)) (events : List Event) (d : ℕ → Seat o.L) : Type 0 where
    pub then' : ℕ → Seat (Copy o.L)
    pub way : Way (twin x) (going tasks) (going then')
    pub book : Book
    pub writes : book.events ≡ b.events ++ events
    pub settled : Settled book then' d

  -- a task is as it was, and what the recorder keeps of its call too
  abbrev pub IsAsWas : Book → Book → (tasks others : ℕ → Seat (Copy o.L)) → (d d' : ℕ → Seat o.L) → ℕ → Type 0
  IsAsWas b b' tasks others d d' u = (others u ≡ tasks u) × (d' u ≡ d u) × (b'.met u ≡ b.met u) × (b'.acceptor u ≡ b.acceptor u)

  pub settled_at_on : (b b' : Book) (tasks others : ℕ → Seat (Copy o.L)) (d d' : ℕ → Seat o.L) (t : ℕ) → IsAsWas b b' tasks others d d' t → SettledAt b tasks d t → SettledAt b' others d' t
  settled_at_on b b' tasks others d d' t s (SetFree l here there) = SetFree l (s.1 ∙ here) (s.0 ∙ there)
  settled_at_on b b' tasks others d d' t s (SetServed a abnormal v form e i offer here there met acceptor) = SetServed a abnormal v form e i offer (s.1 ∙ here) (s.0 ∙
      there) (s.2 ∙ met) (s.3 ∙ acceptor)
  settled_at_on b b' tasks others d d' t s (SetGone here there) = SetGone (ap (λ (y : Seat o.L). is_completed y.standing) s.1 ∙
      here) (ap (λ (y : Seat (Copy o.L)). is_completed y.standing) s.0 ∙ there)

  -- what is settled stays so but for two tasks
  pub settled_on : (b b' : Book) (tasks others : ℕ → Seat (Copy o.L)) (d d' : ℕ → Seat o.L) (a c : ℕ) → Settled b tasks d → others (recorder x) ≡ live (Recording b') →
      ((t : ℕ) → t < o.p.size → b'.gone t ≡ is_closed (d' t).standing) →
      ((u : ℕ) → u < o.p.size → (u == a) ≡ false → (u == c) ≡ false → IsAsWas b b' tasks others d d' u) →
      SettledAt b' others d' a → SettledAt b' others d' c → Settled b' others d'
  settled_on b b' tasks others d d' a c set at gone same at_a at_c = record {
    at = at;
    gone = gone;
    seats = λ t l. ⊎_elim (λ q. at_one (SettledAt b' others d') t a q at_a)
        (λ p. ⊎_elim (λ q. at_one (SettledAt b' others d') t c q at_c) (λ q. settled_at_on b b' tasks others d d' t (same t l p q) (set.seats t l)) (cases_Bool (t == c)))
        (cases_Bool (t == a));
  }

  module _ (d : World o.L) (come : IsComeTo o d) (over : IsOver o d) (runs : d.ended ≡ false) (b : Book) (tasks : ℕ → Seat (Copy o.L)) (set : Settled b tasks d.tasks) where
    -- Who offers is at the original's state.
    pub record Offered (test : Offer → Bool) (t : ℕ) : Type 0 where
      pub l : o.L
      pub below : t < o.p.size
      pub here : d.tasks t ≡ live l
      pub there : tasks t ≡ live (Based t l)
      pub passes : test (o.p.ops.offer l) ≡ true

    pub free_there : (t : ℕ) → is_live (d.tasks t).standing ≡ true → (l : o.L) × (t < o.p.size) × (d.tasks t ≡ live l) × (tasks t ≡ live (Based t l))
    free_there t h = ⊎_elim (λ (m : t < o.p.size). go m (set.seats t m)) (λ (m : o.p.size ≤ t). absurd (true≢false (sym (over t m) ∙
        ap is_completed (is-Live (d.tasks t).standing h)))) (cases_lt t o.p.size)
      where
        go : t < o.p.size → SettledAt b tasks d.tasks t → (l : o.L) × (t < o.p.size) × (d.tasks t ≡ live l) × (tasks t ≡ live (Based t l))
        go m (SetFree l here there) = (l, m, here, there)
        go m (SetServed a abnormal v form e i offer here there met acceptor) = absurd (true≢false (sym h ∙ ap (λ (y : Seat o.L). is_live y.standing) here))
        go m (SetGone here there) = absurd (true≢false (sym here ∙ ap is_completed (is-Live (d.tasks t).standing h)))

    pub offered : (test : Offer → Bool) (t : ℕ) → offers o.p.ops test (d.tasks t) ≡ true → Offered test t
    offered test t h =
        let k = offers_live o.p.ops test (d.tasks t) h in
        let (l, below, here, there) = free_there t k.0 in
        record { l = l; below = below; here = here; there = there; passes = ap (λ (y : Seat o.L). test (o.p.ops.offer y.local)) (sym here) ∙ k.1 }

    -- who is closed there is closed here
    closed_same : (t : ℕ) → t < o.p.size → is_closed (tasks t).standing ≡ is_closed (d.tasks t).standing
    closed_same t l = go (set.seats t l)
      where
        go : SettledAt b tasks d.tasks t → is_closed (tasks t).standing ≡ is_closed (d.tasks t).standing
        go (SetFree m here there) = ap (λ (y : Seat (Copy o.L)). is_closed y.standing) there ∙ sym (ap (λ (y : Seat o.L). is_closed y.standing) here)
        go (SetServed a abnormal v form e i offer here there met acceptor) = ap (λ (y : Seat (Copy o.L)). is_closed y.standing) there ∙ sym (ap (λ (y : Seat o.L). is_closed y.standing) here)
        go (SetGone here there) = completed_closed (tasks t).standing there ∙ sym (completed_closed (d.tasks t).standing here)

    of_task : (t : ℕ) (l : o.L) (e : ℕ) (i : ℤ) → d.tasks t ≡ live l → calls_in is_any_form e i (o.p.ops.offer l) ≡ true → IsOfTask o.p.size o.p.owner x.note x.owner e
    of_task t l e i at calls = x.calls_tasks d come runs t e i (ap (λ (y : Seat o.L). y.standing) at) (ap (λ (y : Seat o.L). calls_in is_any_form e i (o.p.ops.offer y.local)) at ∙ calls)

    -- ---- one task

    -- what the moves leave, where one task alone has gone on
    pub record Goes (a : ℕ) (others : ℕ → Seat (Copy o.L)) (b' : Book) (k : Copy o.L) : Type 0 where
      pub way : Way (twin x) (going tasks) (going others)
      pub at : others (recorder x) ≡ live (Recording b')
      pub there : others a ≡ live k
      pub same : (u : ℕ) → u < o.p.size → (u == a) ≡ false → others u ≡ tasks u

    single : (a : ℕ) (l m : o.L) (e : Event) (others : ℕ → Seat (Copy o.L)) (b' : Book) → a < o.p.size → d.tasks a ≡ live l → Goes a others b' (Based a m) →
        acted (numbered o.p) d.tasks e ≡ put d.tasks a (live m) →
        b'.events ≡ b.events ++ (e ∷ []) → b'.gone ≡ b.gone → ((u : ℕ) → (u == a) ≡ false → b'.met u ≡ b.met u) → b'.acceptor ≡ b.acceptor → Settles b tasks (e ∷ []) (acted (numbered o.p) d.tasks e)
    single a l m e others b' below here g acts events gone met acceptor = record {
      then' = others;
      way = g.way;
      book = b';
      writes = events;
      settled = subst (Settled b' others) (sym acts) (settled_on b b' tasks others d.tasks (put d.tasks a (live m)) a a set g.at
          (λ t k. ap (λ (f : ℕ → Bool). f t) gone ∙ set.gone t k ∙ closed t (t == a) refl)
          (λ u k p q. (g.same u k p, put_other d.tasks a u (live m) p, met u p, ap (λ (f : ℕ → ℕ). f u) acceptor)) seat seat);
    }
      where
        closed : (t : ℕ) (f : Bool) → (t == a) ≡ f → is_closed (d.tasks t).standing ≡ is_closed (if f then live m else d.tasks t).standing
        closed t true q = ap (λ v. is_closed (d.tasks v).standing) (eqb-true t a q) ∙ ap (λ (y : Seat o.L). is_closed y.standing) here
        closed t false q = refl

        seat : SettledAt b' others (put d.tasks a (live m)) a
        seat = SetFree m (put_self d.tasks a (live m)) g.there

    -- it acts, and tells of it
    acts_tells : (a : ℕ) (l : o.L) (due : Due o.L) (e : Event) (m : Note) (answer : Bool) (j : o.L) (b1 b2 : Book) (before : ℕ → Seat (Copy o.L)) (k : Copy o.L) → a < o.p.size → Goes a before b1 k →
        happens (twin x) before e ≡ true → is_last e ≡ false → acted (numbered (twin x)) before e ≡ put before a (live (Owing a due l)) → note_of o.p x.pends (Owing a due l) ≡ m →
        Answers x a b1 m answer b2 → answered o.p answer (Owing a due l) ≡ Based a j → Goes a (given x (put before a (live (Owing a due l))) a (Based a j) b2) b2 (Based a j)
    acts_tells a l due e m answer j b1 b2 before k below g can more acts says ends answers =
        let n : ℕ = recorder x in
        let mid : ℕ → Seat (Copy o.L) = put before a (live (Owing a due l)) in
        let last : ℕ → Seat (Copy o.L) = given x mid a (Based a j) b2 in
        let other : (a == n) ≡ false = below_apart a (recorder x) below in
        record {
          way = way_then (twin x) (going tasks) (going before) (going last) g.way
              (way_then (twin x) (going before) (going mid) (going last) (way_event (twin x) before mid e can more acts)
              (tell x mid b1 a (Owing a due l) m answer (Based a j) b2 (put_other before a n (live (Owing a due l)) (unequal_turned a n other) ∙
              g.at) (put_self before a (live (Owing a due l))) other refl says ends answers));
          at = given_recorder x mid a (Based a j) b2 other;
          there = given_at x mid a (Based a j) b2;
          same = λ u u_below p. given_other x mid a (Based a j) b2 u p (below_apart u (recorder x) u_below) ∙ put_other before a u (live (Owing a due l)) p ∙ g.same u u_below p;
        }

    -- nothing has moved
    here_already : (a : ℕ) (k : Copy o.L) → tasks a ≡ live k → Goes a tasks b k
    here_already a k at = record { way = record { moves = []; made = tt; ends = refl }; at = set.at; there = at; same = λ u l p. refl }

    -- it tells that it is before a call or at an end
    tells_first : (a : ℕ) (l : o.L) (m : Note) (j : Copy o.L) (b1 : Book) → a < o.p.size → tasks a ≡ live (Based a l) →
        based_offer x.note a (o.p.ops.offer l) ≡ telling x.note → based_note a (o.p.ops.offer l) ≡ m → Answers x a b m false b1 →
        told o.p a (o.p.ops.offer l) l ≡ j → Goes a (given x tasks a j b1) b1 j
    tells_first a l m j b1 below at tells says ends goes =
        let other : (a == recorder x) ≡ false = below_apart a (recorder x) below in
        record {
          way = tell x tasks b a (Based a l) m false j b1 set.at at other tells says ends goes;
          at = given_recorder x tasks a j b1 other;
          there = given_at x tasks a j b1;
          same = λ u k p. given_other x tasks a j b1 u p (below_apart u (recorder x) k);
        }

    -- ---- other parts of waits

    pub else_settles : (a : ℕ) → happens o.p d.tasks (S a) ≡ true → Settles b tasks (S a ∷ []) (acted (numbered o.p) d.tasks (S a))
    else_settles a h =
        let g : Offered (waits_with is_else) a = offered (waits_with is_else) a h in
        single a g.l (o.p.ops.took_else g.l) (S a) (given x (put tasks a (live (Owing a TookElse g.l))) a (Based a (o.p.ops.took_else g.l)) (recorded b (HasElse a)))
        (recorded b (HasElse a)) g.below g.here
        (acts_tells a g.l TookElse (S a) (HasElse a) false (o.p.ops.took_else g.l) b (recorded b (HasElse a)) tasks (Based a g.l) g.below (here_already a (Based a g.l) g.there)
        (offers_at (twin x).ops (waits_with is_else) (tasks a) (Based a g.l) g.there (waits_too x.note is_else a (o.p.ops.offer g.l) g.passes)) refl
        (ap (λ (y : Seat (Copy o.L)). put tasks a (live (wait_owes TookElse TookOther y.local))) g.there) refl refl refl)
        (ap (λ (y : Seat o.L). put d.tasks a (live (o.p.ops.took_else y.local))) g.here) refl refl (λ u p. refl) refl

    pub delay_settles : (a j : ℕ) → happens o.p d.tasks (D a j) ≡ true → Settles b tasks (D a j ∷ []) (acted (numbered o.p) d.tasks (D a j))
    delay_settles a j h =
        let g : Offered (waits_with (is_delay j)) a = offered (waits_with (is_delay j)) a h in
        single a g.l (o.p.ops.took_delay j g.l) (D a j) (given x (put tasks a (live (Owing a (TookDelay j) g.l))) a (Based a (o.p.ops.took_delay j g.l)) (recorded b
        (HasDelay a j))) (recorded b (HasDelay a j)) g.below g.here
        (acts_tells a g.l (TookDelay j) (D a j) (HasDelay a j) false (o.p.ops.took_delay j g.l) b (recorded b (HasDelay a j)) tasks (Based a g.l) g.below (here_already a (Based a g.l) g.there)
        (offers_at (twin x).ops (waits_with (is_delay j)) (tasks a) (Based a g.l) g.there (waits_too x.note (is_delay j) a (o.p.ops.offer g.l) g.passes)) refl
        (ap (λ (y : Seat (Copy o.L)). put tasks a (live (wait_owes (TookDelay j) TookOther y.local))) g.there) refl refl refl)
        (ap (λ (y : Seat o.L). put d.tasks a (live (o.p.ops.took_delay j y.local))) g.here) refl refl (λ u p. refl) refl

    -- ---- calls

    module _ (c e : ℕ) (i : ℤ) (form : CallForm) (l : o.L) (below : c < o.p.size) (here : d.tasks c ≡ live l) (there : tasks c ≡ live (Based c l)) (offer : o.p.ops.offer l ≡ Calls form e i) where
      abbrev called_book : Book
      called_book = recorded b (BeforeCall c)

      abbrev called_tasks : ℕ → Seat (Copy o.L)
      called_tasks = given x tasks c (Calling c l) called_book

      -- it has told that it is before its call
      called : Goes c called_tasks called_book (Calling c l)
      called = tells_first c l (BeforeCall c) (Calling c l) called_book below there (ap (based_offer x.note c) offer) (ap (based_note c) offer) refl (ap (λ f. told o.p c f l) offer)

      calls_now : (test : CallForm → Bool) → test form ≡ true → offers (twin x).ops (calls_in test e i) (called_tasks c) ≡ true
      calls_now test h = offers_at (twin x).ops (calls_in test e i) (called_tasks c) (Calling c l) called.there (ap (calls_in test e i) offer ∙ both h (same_member-refl e i))

      task : IsOfTask o.p.size o.p.owner x.note x.owner e
      task = of_task c l e i here (ap (calls_in is_any_form e i) offer ∙ same_member-refl e i)

      -- its owner is closed where the original's is
      owner_closed : is_closed (called_tasks (x.owner e)).standing ≡ is_closed (d.tasks (o.p.owner e)).standing
      owner_closed = ap (λ u. is_closed (called_tasks u).standing) task.same ∙ go (o.p.owner e == c) refl
        where
          go : (f : Bool) → (o.p.owner e == c) ≡ f → is_closed (called_tasks (o.p.owner e)).standing ≡ is_closed (d.tasks (o.p.owner e)).standing
          go true q =
              ap (λ v. is_closed (called_tasks v).standing) (eqb-true (o.p.owner e) c q) ∙ ap (λ (y : Seat (Copy o.L)). is_closed y.standing) called.there ∙
              sym (ap (λ v. is_closed (d.tasks v).standing) (eqb-true (o.p.owner e) c q) ∙ ap (λ (y : Seat o.L). is_closed y.standing) here)
          go false q = ap (λ (y : Seat (Copy o.L)). is_closed y.standing) (called.same (o.p.owner e) task.task q) ∙ closed_same (o.p.owner e) task.task

      owner_gone : called_book.gone (o.p.owner e) ≡ is_closed (d.tasks (o.p.owner e)).standing
      owner_gone = set.gone (o.p.owner e) task.task

      owes_is : (f : Copy o.L → Copy o.L) → put called_tasks c (live (f (called_tasks c).local)) ≡ put called_tasks c (live (f (Calling c l)))
      owes_is f = ap (λ (y : Seat (Copy o.L)). put called_tasks c (live (f y.local))) called.there

      met_other : (b' : Book) → b'.met ≡ called_book.met → (u : ℕ) → (u == c) ≡ false → b'.met u ≡ b.met u
      met_other b' q u p = ap (λ (f : ℕ → ℕ). f u) q ∙ ap (λ f. if f then 0 else b.met u) p

      -- its call is at none
      met_zero : called_book.met c ≡ 0
      met_zero = ap (λ f. if f then 0 else b.met c) (equal_self c)

      first_events : (ev : Event) → called_book.events ++ (ev ∷ []) ≡ b.events ++ (ev ∷ [])
      first_events ev = ap (λ es. es ++ (ev ∷ [])) (append-nil b.events)

      -- the event is written
      abbrev written_book : Event → Book
      written_book ev = record { gone = b.gone; met = called_book.met; acceptor = b.acceptor; events = called_book.events ++ (ev ∷ []) }

      -- the other part of the call is taken
      other_settles : (ev : Event) (m : Note) (j : o.L) → happens (twin x) called_tasks ev ≡ true → is_last ev ≡ false →
          acted (numbered (twin x)) called_tasks ev ≡ put called_tasks c (live (Owing c TookOther l)) →
          note_of o.p x.pends (Owing c TookOther l) ≡ m → Answers x c called_book m false (written_book ev) → answered o.p false (Owing c TookOther l) ≡ Based c j →
          acted (numbered o.p) d.tasks ev ≡ put d.tasks c (live j) → Settles b tasks (ev ∷ []) (acted (numbered o.p) d.tasks ev)
      other_settles ev m j can more acts says ends answers acts' =
          single c l j ev (given x (put called_tasks c (live (Owing c TookOther l))) c (Based c j) (written_book ev)) (written_book ev) below here
          (acts_tells c l TookOther ev m false j called_book (written_book ev) called_tasks (Calling c l) below called can more acts says ends answers) acts' (first_events ev) refl
          (met_other (written_book ev) refl) refl

      fail_settles' : is_closed (d.tasks (o.p.owner e)).standing ≡ true → Settles b tasks (F c e i ∷ []) (acted (numbered o.p) d.tasks (F c e i))
      fail_settles' closed =
          let m : Note = HasFailed c e i in
          single c l (o.p.ops.raised l) (F c e i) (given x (put called_tasks c (live (Owing c Failed l))) c (Based c (o.p.ops.raised l)) (written_book (F c e i))) (written_book (F c e i)) below here
          (acts_tells c l Failed (F c e i) m true (o.p.ops.raised l) called_book (written_book (F c e i)) called_tasks (Calling c l) below called
          (both (calls_now is_any_form refl) (owner_closed ∙ closed)) refl
          (owes_is (call_owes Failed)) (ap (call_note c (λ form g j. HasFailed c g j)) offer)
          (ap (λ g. Noted c ((g == 3) || (g == 0)) (record {
            gone = b.gone;
            met = if g == 1 then numbered_so called_book.met c 2 else called_book.met;
            acceptor = b.acceptor;
            events = called_book.events ++ option_to_list (if g == 1 then Some (E (b.acceptor c)) else (if g == 0 then Some (F c e i) else None));
          })) met_zero) refl)
          (ap (λ (y : Seat o.L). put d.tasks c (live (o.p.ops.raised y.local))) here) (first_events (F c e i)) refl (met_other (written_book (F c e i)) refl) refl

    module _ (c e : ℕ) (i : ℤ) (l : o.L) (below : c < o.p.size) (here : d.tasks c ≡ live l) (there : tasks c ≡ live (Based c l)) (open' : is_closed (d.tasks (o.p.owner e)).standing ≡ false) where
      call_else_settles' : o.p.ops.offer l ≡ Calls Conditional e i → Settles b tasks (C c e i ∷ []) (acted (numbered o.p) d.tasks (C c e i))
      call_else_settles' q =
          let early : b.gone (o.p.owner e) ≡ false = owner_gone c e i Conditional l below here there q ∙ open' in
          other_settles c e i Conditional l below here there q (C c e i) (HasCallElse c e i (o.p.owner e)) (o.p.ops.took_else l)
          (both (calls_now c e i Conditional l below here there q is_conditional refl) (ap not (owner_closed c e i Conditional l below here there q ∙ open'))) refl
          (owes_is c e i Conditional l below here there q (wait_owes TookElse TookOther)) (ap (call_note c (λ form g j. other_note o.p c form g j)) q)
          (ap (λ f. Noted c f (record {
            gone = b.gone;
            met = (called_book c e i Conditional l below here there q).met;
            acceptor = b.acceptor;
            events = (b.events ++ []) ++
                ((if f then F c e i else C c e i) ∷ []);
          })) early)
          (ap (λ f. Based c (other_part o.p f l)) q)
          (ap (λ (y : Seat o.L). put d.tasks c (live (o.p.ops.took_else y.local))) here)

      expire_settles' : o.p.ops.offer l ≡ Calls Timed e i → Settles b tasks (T c e i ∷ []) (acted (numbered o.p) d.tasks (T c e i))
      expire_settles' q =
          let early : b.gone (o.p.owner e) ≡ false = owner_gone c e i Timed l below here there q ∙ open' in
          other_settles c e i Timed l below here there q (T c e i) (HasExpired c e i (o.p.owner e)) (o.p.ops.took_delay 1 l)
          (both (calls_now c e i Timed l below here there q is_timed refl) (ap not (owner_closed c e i Timed l below here there q ∙ open'))) refl
          (owes_is c e i Timed l below here there q (wait_owes (TookDelay 1) TookOther)) (ap (call_note c (λ form g j. other_note o.p c form g j)) q)
          (ap (λ f. Noted c f (record {
            gone = b.gone;
            met = (called_book c e i Timed l below here there q).met;
            acceptor = b.acceptor;
            events = (b.events ++ []) ++
                ((if f then F c e i else T c e i) ∷ []);
          })) early)
          (ap (λ f. Based c (other_part o.p f l)) q)
          (ap (λ (y : Seat o.L). put d.tasks c (live (o.p.ops.took_delay 1 y.local))) here)

    pub call_else_settles : (c e : ℕ) (i : ℤ) → happens o.p d.tasks (C c e i) ≡ true → Settles b tasks (C c e i ∷ []) (acted (numbered o.p) d.tasks (C c e i))
    call_else_settles c e i h =
        let k = and_parts (offers o.p.ops (calls_in is_conditional e i) (d.tasks c)) (not (is_closed (d.tasks (o.p.owner e)).standing)) h in
        let g : Offered (calls_in is_conditional e i) c = offered (calls_in is_conditional e i) c k.0 in
        let (form, q, passes) = calls_is is_conditional e i (o.p.ops.offer g.l) g.passes in
        go g.l g.below g.here g.there (not_true (is_closed (d.tasks (o.p.owner e)).standing) k.1) form q passes
      where
        go : (l : o.L) → c < o.p.size → d.tasks c ≡ live l → tasks c ≡ live (Based c l) → is_closed (d.tasks (o.p.owner e)).standing ≡ false →
            (form : CallForm) → o.p.ops.offer l ≡ Calls form e i →
            is_conditional form ≡ true → Settles b tasks (C c e i ∷ []) (acted (numbered o.p) d.tasks (C c e i))
        go l below here there open' Plain q f = absurd (true≢false (sym f))
        go l below here there open' Conditional q f = call_else_settles' c e i l below here there open' q
        go l below here there open' Timed q f = absurd (true≢false (sym f))

    pub expire_settles : (c e : ℕ) (i : ℤ) → happens o.p d.tasks (T c e i) ≡ true → Settles b tasks (T c e i ∷ []) (acted (numbered o.p) d.tasks (T c e i))
    expire_settles c e i h =
        let k = and_parts (offers o.p.ops (calls_in is_timed e i) (d.tasks c)) (not (is_closed (d.tasks (o.p.owner e)).standing)) h in
        let g : Offered (calls_in is_timed e i) c = offered (calls_in is_timed e i) c k.0 in
        let (form, q, passes) = calls_is is_timed e i (o.p.ops.offer g.l) g.passes in
        go g.l g.below g.here g.there (not_true (is_closed (d.tasks (o.p.owner e)).standing) k.1) form q passes
      where
        go : (l : o.L) → c < o.p.size → d.tasks c ≡ live l → tasks c ≡ live (Based c l) → is_closed (d.tasks (o.p.owner e)).standing ≡ false →
            (form : CallForm) → o.p.ops.offer l ≡ Calls form e i →
            is_timed form ≡ true → Settles b tasks (T c e i ∷ []) (acted (numbered o.p) d.tasks (T c e i))
        go l below here there open' Plain q f = absurd (true≢false (sym f))
        go l below here there open' Conditional q f = absurd (true≢false (sym f))
        go l below here there open' Timed q f = expire_settles' c e i l below here there open' q

    pub fail_settles : (c e : ℕ) (i : ℤ) → happens o.p d.tasks (F c e i) ≡ true → Settles b tasks (F c e i ∷ []) (acted (numbered o.p) d.tasks (F c e i))
    fail_settles c e i h =
        let k = and_parts (offers o.p.ops (calls_in is_any_form e i) (d.tasks c)) (is_closed (d.tasks (o.p.owner e)).standing) h in
        let g : Offered (calls_in is_any_form e i) c = offered (calls_in is_any_form e i) c k.0 in
        let (form, q, passes) = calls_is is_any_form e i (o.p.ops.offer g.l) g.passes in
        fail_settles' c e i form g.l g.below g.here g.there q k.1

    -- ---- two tasks

    -- what two writes leave of who is closed
    pub pair_closed : (a c : ℕ) (y z : Seat o.L) → is_closed y.standing ≡ is_closed (d.tasks a).standing → is_closed z.standing ≡ is_closed (d.tasks c).standing → (t : ℕ) →
        is_closed (put (put d.tasks a y) c z t).standing ≡ is_closed (d.tasks t).standing
    pair_closed a c y z p q t = go (t == c) refl (t == a) refl
      where
        go : (f : Bool) → (t == c) ≡ f → (g : Bool) → (t == a) ≡ g → is_closed (if f then z else (if g then y else d.tasks t)).standing ≡ is_closed (d.tasks t).standing
        go true e g r = q ∙ ap (λ v. is_closed (d.tasks v).standing) (sym (eqb-true t c e))
        go false e true r = p ∙ ap (λ v. is_closed (d.tasks v).standing) (sym (eqb-true t a r))
        go false e false r = refl

    module _ (c e : ℕ) (i : ℤ) (form : CallForm) (l m : o.L) (below : c < o.p.size) (below' : o.p.owner e < o.p.size) (here : d.tasks c ≡ live l) (there : tasks c ≡ live (Based c l))
        (here' : d.tasks (o.p.owner e) ≡ live m) (there' : tasks (o.p.owner e) ≡ live (Based (o.p.owner e) m)) (q : o.p.ops.offer l ≡ Calls form e i)
        (waits : waits_with (opens e i) (o.p.ops.offer m) ≡ true) (other : (c == o.p.owner e) ≡ false) where
      abbrev a : ℕ
      a = o.p.owner e

      abbrev one_book : Book
      one_book = recorded b (BeforeCall c)

      abbrev one : ℕ → Seat (Copy o.L)
      one = given x tasks c (Calling c l) one_book

      one_calls : Goes c one one_book (Calling c l)
      one_calls = called c e i form l below here there q

      one_waits : one a ≡ live (Based a m)
      one_waits = one_calls.same a below' (unequal_turned c a other) ∙ there'

      owns : x.owner e ≡ a
      owns = (task c e i form l below here there q).same

      abbrev due : Copy o.L
      due = Owing a (Begun c e i l) m

      abbrev served : Seat (Copy o.L)
      served = record { local = Calling c l; standing = Served a false }

      abbrev two : ℕ → Seat (Copy o.L)
      two = put (put one a (live due)) c served

      starts : Way (twin x) (going one) (going two)
      starts = way_event (twin x) one two (R c e i)
          (both (calls_now c e i form l below here there q is_any_form refl)
          (offers_at (twin x).ops (waits_with (opens e i)) (one (x.owner e)) (Based a m) (ap one owns ∙ one_waits) (waits_too x.note (opens e i) a (o.p.ops.offer m) waits))) refl
          (sym (start_is (twin x) one c a e i (Calling c l) (Based a m) due owns one_calls.there one_waits refl other))

      abbrev next : o.L
      next = o.p.ops.accepted e i c l m

      abbrev three_book : Book
      three_book = record { gone = b.gone; met = numbered_so one_book.met c 1; acceptor = numbered_so b.acceptor c a; events = one_book.events ++ (R c e i ∷ []) }

      -- the caller is not gone
      early : b.gone c ≡ false
      early = set.gone c below ∙ ap (λ (s : Seat o.L). is_closed s.standing) here

      abbrev three : ℕ → Seat (Copy o.L)
      three = given x two a (Based a next) three_book

      tells_begun : Way (twin x) (going two) (going three)
      tells_begun = tell x two one_book a due (HasBegun c e i a) false (Based a next) three_book
          (put_other (put one a (live due)) c (recorder x) served (unequal_turned c (recorder x) (below_apart c (recorder x) below)) ∙
          put_other one a (recorder x) (live due) (unequal_turned a (recorder x) (below_apart a (recorder x) below')) ∙ one_calls.at)
          (put_other (put one a (live due)) c a served (unequal_turned c a other) ∙ put_self one a (live due)) (below_apart a (recorder x) below') refl refl
          (ap (λ f. Noted a f (record {
            gone = b.gone;
            met = if f then one_book.met else numbered_so one_book.met c 1;
            acceptor = if f then b.acceptor else numbered_so b.acceptor c a;
            events = one_book.events ++ option_to_list (if f then None else Some (R c e i));
          })) early) refl

      abbrev met_there : ℕ → Seat o.L
      met_there = put (put d.tasks a (live next)) c (record { local = l; standing = Served a false })

      -- what the three leave of another task
      three_other : (u : ℕ) → u < o.p.size → (u == a) ≡ false → (u == c) ≡ false → IsAsWas b three_book tasks three d.tasks met_there u
      three_other u k p r = (
        given_other x two a (Based a next) three_book u p (below_apart u (recorder x) k) ∙ put_other (put one a (live due)) c u served r ∙ put_other one a u (live due) p ∙ one_calls.same u k r,
        put_other (put d.tasks a (live next)) c u (record { local = l; standing = Served a false }) r ∙ put_other d.tasks a u (live next) p,
        ap (λ (v : Bool). if v then 1 else one_book.met u) r ∙ ap (λ (v : Bool). if v then 0 else b.met u) r,
        ap (λ (v : Bool). if v then a else b.acceptor u) r,
      )

      three_settled : Settled three_book three met_there
      three_settled = settled_on b three_book tasks three d.tasks met_there a c set (given_recorder x two a (Based a next) three_book (below_apart a (recorder x) below'))
          (λ t k. set.gone t k ∙ sym (pair_closed a c (live next) (record { local = l; standing = Served a false }) (sym (ap
          (λ (s : Seat o.L). is_closed s.standing) here')) (sym (ap (λ (s : Seat o.L). is_closed s.standing) here)) t))
          three_other
          (SetFree next (put_other (put d.tasks a (live next)) c a (record { local = l; standing = Served a false }) (unequal_turned c a other) ∙
          put_self d.tasks a (live next)) (given_at x two a (Based a next) three_book))
          (SetServed a false l form e i q (put_self (put d.tasks a (live next)) c (record { local = l; standing = Served a false }))
          (given_other x two a (Based a next) three_book c other (below_apart c (recorder x) below) ∙ put_self (put one a (live due)) c served)
          (ap (λ (v : Bool). if v then 1 else one_book.met c) (equal_self c)) (ap (λ (v : Bool). if v then a else b.acceptor c) (equal_self c)))

      both_meet : Settles b tasks (R c e i ∷ []) (acted (numbered o.p) d.tasks (R c e i))
      both_meet = record {
        then' = three;
        way = way_then (twin x) (going tasks) (going one) (going three) one_calls.way (way_then (twin x) (going one) (going two) (going three) starts tells_begun);
        book = three_book;
        writes = ap (λ es. es ++ (R c e i ∷ [])) (append-nil b.events);
        settled = subst (Settled three_book three) (start_is o.p d.tasks c a e i l m next refl here here' refl other) three_settled;
      }

    pub meet_settles : (c e : ℕ) (i : ℤ) → happens o.p d.tasks (R c e i) ≡ true → Settles b tasks (R c e i ∷ []) (acted (numbered o.p) d.tasks (R c e i))
    meet_settles c e i h =
        let k = and_parts (offers o.p.ops (calls_in is_any_form e i) (d.tasks c)) (offers o.p.ops (waits_with (opens e i)) (d.tasks (o.p.owner e))) h in
        let g : Offered (calls_in is_any_form e i) c = offered (calls_in is_any_form e i) c k.0 in
        let f : Offered (waits_with (opens e i)) (o.p.owner e) = offered (waits_with (opens e i)) (o.p.owner e) k.1 in
        let (form, q, passes) = calls_is is_any_form e i (o.p.ops.offer g.l) g.passes in
        both_meet c e i form g.l f.l g.below f.below g.here g.there f.here f.there q f.passes
        (ne_eqb c (o.p.owner e) (λ r. calls_waits is_any_form (opens e i) e i (o.p.ops.offer g.l) g.passes
        (ap (λ (s : Seat o.L). waits_with (opens e i) (o.p.ops.offer s.local)) (sym g.here ∙ ap d.tasks r ∙ f.here) ∙ f.passes)))

    -- ---- ends

    pub complete_settles : (a : ℕ) → happens o.p d.tasks (X a) ≡ true → Settles b tasks (X a ∷ []) (acted (numbered o.p) d.tasks (X a))
    complete_settles a h =
        let k = and_parts (not (a == 0)) (offers o.p.ops is_end (d.tasks a)) h in
        let g : Offered is_end a = offered is_end a k.1 in
        let q : o.p.ops.offer g.l ≡ Ends = end_is (o.p.ops.offer g.l) g.passes in
        let b1 : Book = recorded b (AtEnd a) in
        let one : ℕ → Seat (Copy o.L) = given x tasks a (Leaving a g.l) b1 in
        let tells : Goes a one b1 (Leaving a g.l) = tells_first a g.l (AtEnd a) (Leaving a g.l) b1 g.below g.there
        (ap (based_offer x.note a) q ∙ ap (λ f. if f then Ends else telling x.note) (not_true (a == 0) k.0)) (ap (based_note a) q) refl (ap (λ f. told o.p a f g.l) q) in
        let y : Seat (Copy o.L) = completed (Leaving a g.l) in
        let two : ℕ → Seat (Copy o.L) = put one a y in
        let can : happens (twin x) one (X a) ≡ true = both k.0 (offers_at (twin x).ops is_end (one a) (Leaving a g.l) tells.there refl) in
        let n : ℕ = recorder x in
        let other : (a == n) ≡ false = below_apart a (recorder x) g.below in
        let seat : SettledAt b1 two (put d.tasks a (completed g.l)) a = SetGone (ap (λ (s : Seat o.L). is_completed s.standing) (put_self d.tasks a (completed g.l))) (ap
        (λ (s : Seat (Copy o.L)). is_completed s.standing) (put_self one a y)) in
        record {
          then' = two;
          way = way_then (twin x) (going tasks) (going one) (going two) tells.way
              (way_event (twin x) one two (X a) can refl (ap (λ (s : Seat (Copy o.L)). put one a (completed s.local)) tells.there));
          book = b1;
          writes = refl;
          settled = subst (Settled b1 two) (sym (ap (λ (s : Seat o.L). put d.tasks a (completed s.local)) g.here))
              (settled_on b b1 tasks two d.tasks (put d.tasks a (completed g.l)) a a set (put_other one a n y (unequal_turned a n other) ∙ tells.at) (λ t l. gone a g.l t l (t == a))
              (λ u l p r. (put_other one a u y p ∙ tells.same u l p, put_other d.tasks a u (completed g.l) p, refl, refl)) seat seat);
        }
      where
        gone : (a : ℕ) (m : o.L) (t : ℕ) → t < o.p.size → (f : Bool) → (if f then true else b.gone t) ≡ is_closed (if f then completed m else d.tasks t).standing
        gone a m t l true = refl
        gone a m t l false = set.gone t l

    -- ---- a local step

    pub step_settles : (t : ℕ) → is_live (d.tasks t).standing ≡ true → o.p.ops.can_step (d.tasks t).local ≡ true →
        Settles b tasks [] (put d.tasks t (live (o.p.ops.stepped (d.tasks t).local)))
    step_settles t h can =
        let (l, below, here, there) = free_there t h in
        let m : o.L = o.p.ops.stepped l in
        let y : Seat (Copy o.L) = live (Based t m) in
        let seat : SettledAt b (put tasks t y) (put d.tasks t (live m)) t = SetFree m (put_self d.tasks t (live m)) (put_self tasks t y) in
        record {
          then' = put tasks t y;
          way = way_step (twin x) tasks t (Based t l) there (ap (λ (s : Seat o.L). o.p.ops.can_step s.local) (sym here) ∙ can);
          book = b;
          writes = sym (append-nil b.events);
          settled = subst (Settled b (put tasks t y)) (ap (λ (s : Seat o.L). put d.tasks t (live (o.p.ops.stepped s.local))) (sym here))
              (settled_on b b tasks (put tasks t y) d.tasks (put d.tasks t (live m)) t t set (put_other tasks t (recorder x) y (unequal_turned t (recorder x) (below_apart t (recorder x) below)) ∙ set.at)
              (λ u k. set.gone u k ∙ closed t l m here u (u == t) refl) (λ u k p r. (put_other tasks t u y p, put_other d.tasks t u (live m) p, refl, refl)) seat seat);
        }
      where
        closed : (t : ℕ) (l m : o.L) → d.tasks t ≡ live l → (u : ℕ) (f : Bool) → (u == t) ≡ f → is_closed (d.tasks u).standing ≡ is_closed (if f then live m else d.tasks u).standing
        closed t l m here u true q = ap (λ v. is_closed (d.tasks v).standing) (eqb-true u t q) ∙ ap (λ (s : Seat o.L). is_closed s.standing) here
        closed t l m here u false q = refl
