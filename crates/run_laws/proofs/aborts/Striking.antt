-- An abort in the original is had by moves of the copy: the recorder aborts, and each caller of the victim tells that TASKING_ERROR has been raised at its call.
use Rattle.std.proofs.Common.{◌≡◌, ℕ, zero, suc, ◌<◌, ◌≤◌, Bool, true, false, ◌||◌, ◌&&◌, ◌==◌, if◌then◌else◌, [], ◌∷◌, ◌++◌, Some, None, option_to_list, append-nil, refl, sym, ap, ◌∙◌, subst, ⊎_elim, true≢false, arith}
use Rattle.std.specs.Prelude.{ℤ}
use Rattle.std.proofs.lemmas.Bool.{eqb-true, cases_Bool, cases_lt, ne_eqb}
use Rattle.event_machine.specs.declared.CallForm.{CallForm}
use Rattle.event_machine.specs.declared.Standing.{Standing}
use Rattle.event_machine.specs.declared.Standing.TheVariants.{Served, Completed, Killed}
use Rattle.event_machine.specs.declared.Event.TheVariants.{E, F, B}
use Rattle.event_machine.specs.Offers.{Calls, Aborts, is_finish}
use Rattle.event_machine.specs.States.{Seat, live, completed, is_closed, is_completed, is_served_by}
use Rattle.event_machine.specs.Effects.{fallen}
use Rattle.event_machine.specs.Programs.{numbered}
use Rattle.event_machine.specs.Soundness.{IsSound}
use Rattle.event_machine.specs.Worlds.{World, happens, acted, aborts}
use Rattle.event_machine.proofs.Basics.{both}
use Rattle.event_machine.proofs.Offering.{aborts_is}
use Rattle.event_machine.proofs.Standings.{fallen_closed}
use Rattle.run_laws.specs.imitation.Imitations.{Original, IsComeTo}
use Rattle.run_laws.proofs.imitation.Following.{IsOver, come_after}
use Rattle.run_laws.proofs.replaying.Facts.{below_apart, put, put_self, put_other, offers_at, let_go, let_go_other, let_go_served}
use Rattle.run_laws.proofs.replaying.Parting.{parted_is}
use Rattle.run_laws.proofs.collecting.Singles.{at_one}
use Rattle.run_laws.proofs.collecting.Telling.{going, Way, way_none, way_then, way_event}
use Rattle.run_laws.specs.aborts.Notes.{HasFailed, ToAbort, Book, numbered_so, recorded}
use Rattle.run_laws.specs.aborts.Copies.{Failed, Copy, Based, Calling, Owing, Recording, Striking, Noted, based_offer, based_note, call_note, told, call_owes, answered}
use Rattle.run_laws.specs.aborts.Settings.{Setting, recorder, twin, IsProperCopy}
use Rattle.run_laws.proofs.aborts.Meetings.{completed_unserved}
use Rattle.run_laws.proofs.aborts.Moving.{copy_original}
use Rattle.run_laws.proofs.aborts.Struck.{fallen_seat, let_go_closed_same, struck_self, struck_victim, struck_other, own_self, own_other}
use Rattle.run_laws.proofs.aborts.Telling.{given, given_at, given_recorder, given_other, heard_as, hear, tell}
use Rattle.run_laws.proofs.aborts.Covering.{SettledAt, SetFree, SetServed, SetGone, Settled, Settles, IsAsWas, settled_at_on, Offered, offered}
use Rattle.common_lemmas.proofs.Numbers.{equal_self, unequal_turned}

-- who has completed stays so
fallen_completed : (s : Standing) → is_completed s ≡ true → is_completed (fallen Killed s) ≡ true
fallen_completed Completed h = refl
fallen_completed Killed h = refl
fallen_completed s h = absurd (true≢false (sym h))

module _ {o : Original} (x : Setting o) where
  -- ---- callers that have TASKING_ERROR to tell of

  module _ (b : Book) (tasks : ℕ → Seat (Copy o.L)) (d : ℕ → Seat o.L) where
    -- The task is settled, or is to tell that its acceptor was aborted.
    data LaggingAt (t : ℕ) : Type 0 where
      Told : SettledAt x b tasks d t → LaggingAt t
      Lost : (l : o.L) (form : CallForm) (e : ℕ) (i : ℤ) → o.p.ops.offer l ≡ Calls form e i → d t ≡ live (o.p.ops.raised l) → tasks t ≡ live (Owing t Failed l) → b.met t ≡ 3 → LaggingAt t

    -- Each task is so, and the recorder waits with this book.
    record Lagging : Type 0 where
      at : tasks (recorder x) ≡ live (Recording b)
      gone : (t : ℕ) → t < o.p.size → b.gone t ≡ is_closed (d t).standing
      seats : (t : ℕ) → t < o.p.size → LaggingAt t

  lagging_on : (b b' : Book) (tasks others : ℕ → Seat (Copy o.L)) (d : ℕ → Seat o.L) (t : ℕ) → IsAsWas x b b' tasks others d d t → LaggingAt b tasks d t → LaggingAt b' others d t
  lagging_on b b' tasks others d t s (Told h) = Told (settled_at_on x b b' tasks others d d t s h)
  lagging_on b b' tasks others d t s (Lost l form e i offer here there met) = Lost l form e i offer here (s.0 ∙ there) (s.2 ∙ met)

  module _ (b : Book) (tasks : ℕ → Seat (Copy o.L)) (d : ℕ → Seat o.L) (lag : Lagging b tasks d) where
    -- Moves behind which the first k tasks are settled, and no line is written.
    record Caught (k : ℕ) : Type 0 where
      then' : ℕ → Seat (Copy o.L)
      way : Way (twin x) (going tasks) (going then')
      book : Book
      writes : book.events ≡ b.events
      lagging : Lagging book then' d
      told' : (t : ℕ) → t < k → SettledAt x book then' d t

    caught : (k : ℕ) → k ≤ o.p.size → Caught k
    caught zero m = record { then' = tasks; way = way_none (twin x) (going tasks); book = b; writes = refl; lagging = lag; told' = λ t l. absurd (omega (arith, l)) }
    caught (suc k) m = next (caught k (omega (arith, m)))
      where
        within : k < o.p.size
        within = omega (arith, m)

        next : Caught k → Caught (suc k)
        next c = go (c.lagging.seats k within)
          where
            more : (book : Book) (then' : ℕ → Seat (Copy o.L)) → ((t : ℕ) → t < k → SettledAt x book then' d t) → SettledAt x book then' d k → (t : ℕ) → t < suc k → SettledAt x book then' d t
            more book then' below here t l = ⊎_elim (λ (q : t < k). below t q) (λ (q : k ≤ t). let e : k ≡ t = omega (arith, l, q) in subst (SettledAt x book then' d) e here) (cases_lt t k)

            go : LaggingAt c.book c.then' d k → Caught (suc k)
            go (Told h) = record { then' = c.then'; way = c.way; book = c.book; writes = c.writes; lagging = c.lagging; told' = more c.book c.then' c.told' h }
            go (Lost l form e i offer here there met) =
                let other : (k == recorder x) ≡ false = below_apart k (recorder x) within in
                let b' : Book = record { gone = c.book.gone; met = c.book.met; acceptor = c.book.acceptor; events = c.book.events ++ [] } in
                let j : Copy o.L = Based k (o.p.ops.raised l) in
                let others : ℕ → Seat (Copy o.L) = given x c.then' k j b' in
                let same : (t : ℕ) → t < o.p.size → (t == k) ≡ false → IsAsWas x c.book b' c.then' others d d t =
                (λ t p q. (given_other x c.then' k j b' t q (below_apart t (recorder x) p), refl, refl, refl)) in
                let now : SettledAt x b' others d k = SetFree (o.p.ops.raised l) here (given_at x c.then' k j b') in
                record {
                  then' = others;
                  way = way_then (twin x) (going tasks) (going c.then') (going others) c.way
                      (tell x c.then' c.book k (Owing k Failed l) (HasFailed k e i) true j b' c.lagging.at there other refl (ap (call_note k (λ form g j. HasFailed k g j)) offer)
                      (ap (λ g. Noted k ((g == 3) || (g == 0)) (record {
                        gone = c.book.gone;
                        met = if g == 1 then numbered_so c.book.met k 2 else c.book.met;
                        acceptor = c.book.acceptor;
                        events = c.book.events ++ option_to_list (if g == 1 then Some (E (c.book.acceptor k)) else (if g == 0 then Some (F k e i) else None));
                      })) met) refl);
                  book = b';
                  writes = append-nil c.book.events ∙ c.writes;
                  lagging = record {
                    at = given_recorder x c.then' k j b' other;
                    gone = c.lagging.gone;
                    seats = λ t p. ⊎_elim (λ q. at_one (LaggingAt b' others d) t k q (Told now)) (λ q. lagging_on c.book b' c.then' others d t (same t p q)
                        (c.lagging.seats t p)) (cases_Bool (t == k));
                  };
                  told' = more b' others (λ t p. settled_at_on x c.book b' c.then' others d d t (same t (omega (arith, p, within)) (ne_eqb t k (λ e. omega (arith, e, p)))) (c.told' t p)) now;
                }

    -- All tasks are settled.
    all_caught : (c : Caught o.p.size) → Settled x c.book c.then' d
    all_caught c = record { at = c.lagging.at; gone = c.lagging.gone; seats = c.told' }

  -- ---- the abort

  module _ (d : World o.L) (come : IsComeTo o d) (over : IsOver o d) (runs : d.ended ≡ false) (b : Book) (tasks : ℕ → Seat (Copy o.L)) (set : Settled x b tasks d.tasks)
      (come' : IsComeTo (copy_original x) (going tasks)) (t v : ℕ) (l : o.L) (below : t < o.p.size) (here : d.tasks t ≡ live l) (there : tasks t ≡ live (Based t l))
      (offer : o.p.ops.offer l ≡ Aborts v) where
    abbrev n : ℕ
    n = recorder x

    not_n : (t == n) ≡ false
    not_n = below_apart t (recorder x) below

    in_v : v < o.p.size
    in_v = x.aborts_tasks d come runs t v (ap (λ (y : Seat o.L). y.standing) here) (ap (λ (y : Seat o.L). aborts v (o.p.ops.offer y.local)) here ∙ ap (aborts v) offer ∙ equal_self v)

    v_not_n : (v == n) ≡ false
    v_not_n = below_apart v (recorder x) in_v

    abbrev raise : Copy o.L → Copy o.L
    raise = call_owes Failed

    -- the recorder has written the line
    abbrev r : Copy o.L
    r = Striking t b t v

    abbrev one : ℕ → Seat (Copy o.L)
    one = heard_as x tasks t (Based t l) r

    writes_it : Way (twin x) (going tasks) (going one)
    writes_it = hear x tasks b t (Based t l) (ToAbort t v) r set.at there not_n (ap (based_offer x.note t) offer) (ap (based_note t) offer) refl

    one_recorder : one n ≡ live r
    one_recorder = put_self (put (put tasks n (live r)) t (record { local = Based t l; standing = Served n false })) n (live r)

    one_teller : one t ≡ record { local = Based t l; standing = Served n false }
    one_teller = put_other (put (put tasks n (live r)) t (record { local = Based t l; standing = Served n false })) n t (live r) not_n ∙
        put_self (put tasks n (live r)) t (record { local = Based t l; standing = Served n false })

    one_other : (u : ℕ) → (u == n) ≡ false → (u == t) ≡ false → one u ≡ tasks u
    one_other u p q = put_other (put (put tasks n (live r)) t (record { local = Based t l; standing = Served n false })) n u (live r) p ∙
        put_other (put tasks n (live r)) t u (record { local = Based t l; standing = Served n false }) q ∙ put_other tasks n u (live r) p

    sound : IsSound (twin x).ops (IsProperCopy o) one
    sound = (subst (IsComeTo (copy_original x)) writes_it.ends (come_after (copy_original x) writes_it.moves (going tasks) come' writes_it.made)).sound

    -- it has aborted
    abbrev b2 : Book
    b2 = recorded b (ToAbort t v)

    abbrev two : ℕ → Seat (Copy o.L)
    two = acted (numbered (twin x)) one (B n v)

    strikes : Way (twin x) (going one) (going two)
    strikes = way_event (twin x) one two (B n v) (offers_at (twin x).ops (aborts v) (one n) r one_recorder (equal_self v)) refl refl

    two_recorder : two n ≡ live (Noted t false b2)
    two_recorder = struck_self (twin x) one sound n v r one_recorder v_not_n

    two_victim : two v ≡ fallen_seat (one v)
    two_victim = struck_victim (twin x) one sound n v r one_recorder v_not_n

    two_other : (u : ℕ) → (u == n) ≡ false → (u == v) ≡ false → two u ≡ let_go raise v (one u)
    two_other u p q = struck_other (twin x) one sound n v r one_recorder v_not_n u p q

    -- and the teller goes on
    module _ (y : Seat (Copy o.L)) (lets : let_go (answered o.p false) n (two t) ≡ y) where
      abbrev three : ℕ → Seat (Copy o.L)
      three = put (put two n (live (Recording b2))) t y

      answers : Way (twin x) (going two) (going three)
      answers = way_event (twin x) two three (E n) (offers_at (twin x).ops is_finish (two n) (Noted t false b2) two_recorder refl) refl
          (parted_is (twin x) two n (Noted t false b2) t [] two_recorder refl not_n ∙ ap (λ s. put (put two n (live (Recording b2))) t s) lets)

      three_recorder : three n ≡ live (Recording b2)
      three_recorder = put_other (put two n (live (Recording b2))) t n y (unequal_turned t n not_n) ∙ put_self two n (live (Recording b2))

      three_teller : three t ≡ y
      three_teller = put_self (put two n (live (Recording b2))) t y

      three_other : (u : ℕ) → (u == n) ≡ false → (u == t) ≡ false → three u ≡ two u
      three_other u p q = put_other (put two n (live (Recording b2))) t u y q ∙ put_other two n u (live (Recording b2)) p

      whole : Way (twin x) (going tasks) (going three)
      whole = way_then (twin x) (going tasks) (going one) (going three) writes_it (way_then (twin x) (going one) (going two) (going three) strikes answers)

    -- ---- in the original

    abbrev d2 : ℕ → Seat o.L
    d2 = acted (numbered o.p) d.tasks (B t v)

    here_other : (u : ℕ) → (u == t) ≡ false → (u == v) ≡ false → d2 u ≡ let_go o.p.ops.raised v (d.tasks u)
    here_other u p q = ⊎_elim (λ f. own_other o.p d.tasks come.sound t v l here f u q) (λ f. struck_other o.p d.tasks come.sound t v l here f u p q) (cases_Bool (v == t))

    victim_closed : is_closed (d2 v).standing ≡ true
    victim_closed = ⊎_elim (λ q. ap (λ (s : Seat o.L). is_closed s.standing) (own_self o.p d.tasks come.sound t v l here q))
        (λ q. ap (λ (s : Seat o.L). is_closed s.standing) (struck_victim o.p d.tasks come.sound t v l here q) ∙ fallen_closed Killed (d.tasks v).standing refl) (cases_Bool (v == t))

    gone_then : (u : ℕ) → u < o.p.size → b2.gone u ≡ is_closed (d2 u).standing
    gone_then u k = ⊎_elim
        (λ q. ap (λ f. if f then true else b.gone u) q ∙ sym (at_one (λ s. is_closed (d2 s).standing ≡ true) u v q victim_closed))
        (λ q. ap (λ f. if f then true else b.gone u) q ∙ set.gone u k ∙ sym (same q))
        (cases_Bool (u == v))
      where
        same : (u == v) ≡ false → is_closed (d2 u).standing ≡ is_closed (d.tasks u).standing
        same q = ⊎_elim
            (λ p.
            let not_v : (v == t) ≡ false = unequal_turned t v (at_one (λ s. (s == v) ≡ false → (t == v) ≡ false) u t p (λ h. h) q) in
            at_one (λ s. is_closed (d2 s).standing ≡ is_closed (d.tasks s).standing) u t p
            (ap (λ (s : Seat o.L). is_closed s.standing) (struck_self o.p d.tasks come.sound t v l here not_v) ∙ sym (ap (λ (s : Seat o.L). is_closed s.standing) here)))
            (λ p. ap (λ (s : Seat o.L). is_closed s.standing) (here_other u p q) ∙ let_go_closed_same o.p.ops.raised v (d.tasks u))
            (cases_Bool (u == t))

    -- what the recorder keeps of a call whose acceptor is not the victim
    met_same : (u a : ℕ) → b.acceptor u ≡ a → (a == v) ≡ false → b2.met u ≡ b.met u
    met_same u a is q = ap (λ f. if f then 3 else b.met u) (ap (λ c. (b.met u == 1) && (c == v)) is ∙ ap (λ f. (b.met u == 1) && f) q ∙ never (b.met u == 1))
      where
        never : (f : Bool) → (f && false) ≡ false
        never true = refl
        never false = refl

    -- ---- each task

    module _ (y : Seat (Copy o.L)) (lets : let_go (answered o.p false) n (two t) ≡ y) where
      -- a task that is neither the teller nor the victim
      other_then : (u : ℕ) → u < o.p.size → (u == t) ≡ false → (u == v) ≡ false → LaggingAt b2 (three y lets) d2 u
      other_then u k p q = go (set.seats u k)
        where
          now : three y lets u ≡ let_go raise v (tasks u)
          now = three_other y lets u (below_apart u (recorder x) k) p ∙ two_other u (below_apart u (recorder x) k) q ∙ ap (let_go raise v) (one_other u (below_apart u (recorder x) k) p)

          go : SettledAt x b tasks d.tasks u → LaggingAt b2 (three y lets) d2 u
          go (SetFree m here_u there_u) = Told (SetFree m (here_other u p q ∙ ap (let_go o.p.ops.raised v) here_u) (now ∙ ap (let_go raise v) there_u))
          go (SetServed a abnormal m form e i calls here_u there_u met acceptor) = served (a == v) refl abnormal refl
            where
              there_let : let_go raise v (tasks u) ≡ let_go raise v (record { local = Calling u m; standing = Served a abnormal })
              there_let = ap (let_go raise v) there_u

              here_let : let_go o.p.ops.raised v (d.tasks u) ≡ let_go o.p.ops.raised v (record { local = m; standing = Served a abnormal })
              here_let = ap (let_go o.p.ops.raised v) here_u

              served : (f : Bool) → (a == v) ≡ f → (g : Bool) → abnormal ≡ g → LaggingAt b2 (three y lets) d2 u
              served false h g j = Told (SetServed a abnormal m form e i calls (here_other u p q ∙ here_let ∙ let_go_other o.p.ops.raised v (record { local = m; standing = Served a abnormal }) h)
                  (now ∙ there_let ∙ let_go_other raise v (record { local = Calling u m; standing = Served a abnormal }) h) (met_same u a acceptor h ∙ met) acceptor)
              served true h true j = Told (SetGone
                  (ap (λ (s : Seat o.L). is_completed s.standing) (here_other u p q ∙ here_let ∙ let_go_served o.p.ops.raised v (record { local = m; standing = Served a abnormal }) h ∙
                  ap (λ f. if f then completed m else live (o.p.ops.raised m)) j))
                  (ap (λ (s : Seat (Copy o.L)). is_completed s.standing) (now ∙ there_let ∙ let_go_served raise v (record { local = Calling u m; standing = Served a abnormal }) h ∙
                  ap (λ f. if f then completed (Calling u m) else live (Owing u Failed m)) j)))
              served true h false j = Lost m form e i calls
                  (here_other u p q ∙ here_let ∙ let_go_served o.p.ops.raised v (record { local = m; standing = Served a abnormal }) h ∙ ap (λ f. if f then completed m else live (o.p.ops.raised m)) j)
                  (now ∙ there_let ∙ let_go_served raise v (record { local = Calling u m; standing = Served a abnormal }) h ∙
                  ap (λ f. if f then completed (Calling u m) else live (Owing u Failed m)) j)
                  (ap (λ f. if f then 3 else b.met u) (both (ap (λ c. c == 1) met) (ap (λ c. c == v) acceptor ∙ h)))
          go (SetGone here_u there_u) = Told (SetGone
              (ap (λ (s : Seat o.L). is_completed s.standing) (here_other u p q ∙ let_go_other o.p.ops.raised v (d.tasks u) (free (d.tasks u).standing here_u)) ∙ here_u)
              (ap (λ (s : Seat (Copy o.L)). is_completed s.standing) (now ∙ let_go_other raise v (tasks u) (free (tasks u).standing there_u)) ∙ there_u))
            where
              free : (s : Standing) → is_completed s ≡ true → is_served_by v s ≡ false
              free s h = ⊎_elim (λ f. absurd (completed_unserved v s h f)) (λ f. f) (cases_Bool (is_served_by v s))

      -- the victim, which is not the teller
      victim_then : (v == t) ≡ false → LaggingAt b2 (three y lets) d2 v
      victim_then not_t = Told (go (set.seats v in_v))
        where
          now : three y lets v ≡ fallen_seat (tasks v)
          now = three_other y lets v v_not_n not_t ∙ two_victim ∙ ap (λ (s : Seat (Copy o.L)). fallen_seat s) (one_other v v_not_n not_t)

          now' : d2 v ≡ fallen_seat (d.tasks v)
          now' = struck_victim o.p d.tasks come.sound t v l here not_t

          go : SettledAt x b tasks d.tasks v → SettledAt x b2 (three y lets) d2 v
          go (SetFree m here_v there_v) = SetGone (ap (λ (s : Seat o.L). is_completed s.standing) (now' ∙ ap (λ (s : Seat o.L). fallen_seat s) here_v))
              (ap (λ (s : Seat (Copy o.L)). is_completed s.standing) (now ∙ ap (λ (s : Seat (Copy o.L)). fallen_seat s) there_v))
          go (SetServed a abnormal m form e i calls here_v there_v met acceptor) =
              let apart : (a == v) ≡ false = sym (ap (λ (s : Seat o.L). is_served_by v s.standing) here_v) ∙ come.sound.itself v in
              SetServed a true m form e i calls (now' ∙ ap (λ (s : Seat o.L). fallen_seat s) here_v) (now ∙
              ap (λ (s : Seat (Copy o.L)). fallen_seat s) there_v) (met_same v a acceptor apart ∙ met) acceptor
          go (SetGone here_v there_v) = SetGone (ap (λ (s : Seat o.L). is_completed s.standing) now' ∙ fallen_completed (d.tasks v).standing here_v)
              (ap (λ (s : Seat (Copy o.L)). is_completed s.standing) now ∙ fallen_completed (tasks v).standing there_v)

      lagging_then : SettledAt x b2 (three y lets) d2 t → Lagging b2 (three y lets) d2
      lagging_then teller = record {
        at = three_recorder y lets;
        gone = gone_then;
        seats = λ u k. ⊎_elim
            (λ p. at_one (LaggingAt b2 (three y lets) d2) u t p (Told teller))
            (λ p. ⊎_elim
            (λ q. at_one (LaggingAt b2 (three y lets) d2) u v q (victim_then (at_one (λ s. (s == t) ≡ false → (v == t) ≡ false) u v q (λ h. h) p)))
            (λ q. other_then u k p q)
            (cases_Bool (u == v)))
            (cases_Bool (u == t));
      }

      settles_so : SettledAt x b2 (three y lets) d2 t → Settles x b tasks (B t v ∷ []) d2
      settles_so teller =
          let lag : Lagging b2 (three y lets) d2 = lagging_then teller in
          let c : Caught b2 (three y lets) d2 lag o.p.size = caught b2 (three y lets) d2 lag o.p.size (omega arith) in
          record {
            then' = c.then';
            way = way_then (twin x) (going tasks) (going (three y lets)) (going c.then') (whole y lets) c.way;
            book = c.book;
            writes = c.writes;
            settled = all_caught b2 (three y lets) d2 lag c;
          }

    -- it aborts another, or itself
    strike_settles : Settles x b tasks (B t v ∷ []) d2
    strike_settles = ⊎_elim itself another (cases_Bool (v == t))
      where
        itself : (v == t) ≡ true → Settles x b tasks (B t v ∷ []) d2
        itself q =
            let y : Seat (Copy o.L) = completed (Based t l) in
            let is : two t ≡ record { local = Based t l; standing = Served n true } = ap two (sym (eqb-true v t q)) ∙ two_victim ∙
            ap (λ s. fallen_seat (one s)) (eqb-true v t q) ∙ ap (λ (s : Seat (Copy o.L)). fallen_seat s) one_teller in
            let lets : let_go (answered o.p false) n (two t) ≡ y = ap (let_go (answered o.p false) n) is ∙
            let_go_served (answered o.p false) n (record { local = Based t l; standing = Served n true }) (equal_self n) in
            settles_so y lets (SetGone (ap (λ s. is_completed (d2 s).standing) (sym (eqb-true v t q)) ∙ ap (λ (s : Seat o.L). is_completed s.standing) (own_self o.p d.tasks come.sound t v l here q))
            (ap (λ (s : Seat (Copy o.L)). is_completed s.standing) (three_teller y lets)))

        another : (v == t) ≡ false → Settles x b tasks (B t v ∷ []) d2
        another q =
            let y : Seat (Copy o.L) = live (Based t (o.p.ops.passed l)) in
            let is : two t ≡ record { local = Based t l; standing = Served n false } = two_other t not_n (unequal_turned v t q) ∙ ap (let_go raise v) one_teller ∙
            let_go_other raise v (record { local = Based t l; standing = Served n false }) (unequal_turned v n v_not_n) in
            let lets : let_go (answered o.p false) n (two t) ≡ y = ap (let_go (answered o.p false) n) is ∙
            let_go_served (answered o.p false) n (record { local = Based t l; standing = Served n false }) (equal_self n) ∙
            ap (λ f. live (told o.p t f l)) offer in
            settles_so y lets (SetFree (o.p.ops.passed l) (struck_self o.p d.tasks come.sound t v l here q) (three_teller y lets))

  pub abort_settles : (d : World o.L) → IsComeTo o d → IsOver o d → d.ended ≡ false → (b : Book) (tasks : ℕ → Seat (Copy o.L)) → Settled x b tasks d.tasks →
      IsComeTo (copy_original x) (going tasks) → (t v : ℕ) → happens o.p d.tasks (B t v) ≡ true → Settles x b tasks (B t v ∷ []) (acted (numbered o.p) d.tasks (B t v))
  abort_settles d come over runs b tasks set come' t v h =
      let g : Offered x d come over runs b tasks set (aborts v) t = offered x d come over runs b tasks set (aborts v) t h in
      strike_settles d come over runs b tasks set come' t v g.l g.below g.here g.there (aborts_is v (o.p.ops.offer g.l) g.passes)
