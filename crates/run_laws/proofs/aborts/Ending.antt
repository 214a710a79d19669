-- The end of a rendezvous in the original is had by moves of the copy: both tell behind it.
use Rattle.std.proofs.Common.{◌≡◌, ℕ, ◌<◌, ◌≤◌, Bool, true, false, ◌||◌, ◌==◌, if◌then◌else◌, List, [], ◌∷◌, ◌++◌, Some, None, option_to_list, append-nil, refl, sym, ap, ◌∙◌, subst, ⊎_elim, true≢false}
use Rattle.std.specs.Prelude.{ℤ}
use Rattle.std.proofs.lemmas.Bool.{eqb-true, cases_lt, ne_eqb}
use Rattle.event_machine.specs.declared.CallForm.{CallForm}
use Rattle.event_machine.specs.declared.Standing.TheVariants.{Live, Served}
use Rattle.event_machine.specs.declared.Event.TheVariants.{E, F}
use Rattle.event_machine.specs.Offers.{Calls, Finishes, is_finish}
use Rattle.event_machine.specs.States.{Seat, live, completed, is_closed, is_completed, is_served_by}
use Rattle.event_machine.specs.Programs.{numbered}
use Rattle.event_machine.specs.Worlds.{World, happens, acted}
use Rattle.event_machine.proofs.Basics.{both}
use Rattle.event_machine.proofs.Offering.{finish_is}
use Rattle.event_machine.proofs.Sound.{first_served}
use Rattle.run_laws.specs.imitation.Imitations.{Original, IsComeTo}
use Rattle.run_laws.proofs.imitation.Following.{IsOver}
use Rattle.run_laws.proofs.replaying.Facts.{below_apart, put, put_self, put_other, offers_at, let_go, let_go_served}
use Rattle.run_laws.proofs.replaying.Parting.{parted_is}
use Rattle.run_laws.proofs.collecting.Telling.{going, Way, way_then, way_event}
use Rattle.run_laws.specs.aborts.Notes.{Note, HasFinished, HasFailed, HasReturned, Book, are_met, numbered_so}
use Rattle.run_laws.specs.aborts.Copies.{Returned, Over, Copy, Based, Calling, Owing, Recording, Noted, based_offer, call_note, first_caller, note_of}
use Rattle.run_laws.specs.aborts.Settings.{Setting, recorder, twin}
use Rattle.run_laws.proofs.aborts.Meetings.{completed_unserved}
use Rattle.run_laws.proofs.aborts.Telling.{given, given_at, given_recorder, given_other, Answers, tell}
use Rattle.run_laws.proofs.aborts.Covering.{SettledAt, SetFree, SetServed, SetGone, Settled, Settles, settled_on, Offered, offered, pair_closed}
use Rattle.common_lemmas.proofs.Numbers.{equal_self, unequal_turned}

module _ {o : Original} (x : Setting o) (d : World o.L) (come : IsComeTo o d) (over : IsOver o d) (runs : d.ended ≡ false) (b : Book) (tasks : ℕ →
    Seat (Copy o.L)) (set : Settled x b tasks d.tasks) where
  -- The task c is served by a in both.
  record ServedBy (a c : ℕ) : Type 0 where
    abnormal : Bool
    v : o.L
    form : CallForm
    e : ℕ
    i : ℤ
    below : c < o.p.size
    calls : o.p.ops.offer v ≡ Calls form e i
    here : d.tasks c ≡ record { local = v; standing = Served a abnormal }
    there : tasks c ≡ record { local = Calling c v; standing = Served a abnormal }
    met : b.met c ≡ 1
    acceptor : b.acceptor c ≡ a

  served_by : (a c : ℕ) → is_served_by a (d.tasks c).standing ≡ true → ServedBy a c
  served_by a c h = ⊎_elim (λ (l : c < o.p.size). go l (set.seats c l)) (λ (l : o.p.size ≤ c). absurd (completed_unserved a (d.tasks c).standing (over c l) h)) (cases_lt c o.p.size)
    where
      go : c < o.p.size → SettledAt x b tasks d.tasks c → ServedBy a c
      go l (SetFree m here there) = absurd (true≢false (sym h ∙ ap (λ (s : Seat o.L). is_served_by a s.standing) here))
      go l (SetServed u abnormal v form e i calls here there met acceptor) =
          let q : u ≡ a = eqb-true u a (ap (λ (s : Seat o.L). is_served_by a s.standing) (sym here) ∙ h) in
          record {
            abnormal = abnormal;
            v = v;
            form = form;
            e = e;
            i = i;
            below = l;
            calls = calls;
            here = here ∙ ap (λ t. record { local = v; standing = Served t abnormal }) q;
            there = there ∙ ap (λ t. record { local = Calling c v; standing = Served t abnormal }) q;
            met = met;
            acceptor = acceptor ∙ q;
          }
      go l (SetGone here there) = absurd (completed_unserved a (d.tasks c).standing here h)

  module _ (a c : ℕ) (l v : o.L) (outer : List ℕ) (form : CallForm) (e : ℕ) (i : ℤ) (below : a < o.p.size) (below' : c < o.p.size) (here : d.tasks a ≡ live l) (there : tasks a ≡ live (Based a l))
      (met : b.met c ≡ 1) (acceptor : b.acceptor c ≡ a) (calls : o.p.ops.offer v ≡ Calls form e i)
      (q : o.p.ops.offer l ≡ Finishes) (has : o.p.ops.callers l ≡ c ∷ outer) (other : (c == a) ≡ false) where
    abbrev n : ℕ
    n = recorder x

    abbrev over' : Copy o.L
    over' = Owing a (Over c) l

    other_a : (a == n) ≡ false
    other_a = below_apart a (recorder x) below

    other_c : (c == n) ≡ false
    other_c = below_apart c (recorder x) below'

    -- the two have parted, and the acceptor tells
    abbrev two_book : Book
    two_book = record { gone = b.gone; met = numbered_so b.met c 2; acceptor = b.acceptor; events = b.events ++ (E a ∷ []) }

    is_met : are_met b a c ≡ true
    is_met = both (ap (λ m. m == 1) met) (ap (λ u. u == a) acceptor ∙ equal_self a)

    module _ (y : Seat (Copy o.L)) (z : Seat o.L) (lets : let_go ((twin x).ops.resumed (Based a l)) a (tasks c) ≡ y) (lets' : let_go (o.p.ops.resumed l) a (d.tasks c) ≡ z)
        (same : is_closed z.standing ≡ is_closed (d.tasks c).standing) where
      abbrev one : ℕ → Seat (Copy o.L)
      one = put (put tasks a (live over')) c y

      parts : Way (twin x) (going tasks) (going one)
      parts = way_event (twin x) tasks one (E a) (offers_at (twin x).ops is_finish (tasks a) (Based a l) there (ap (λ f. is_finish (based_offer x.note a f)) q)) refl
          (parted_is (twin x) tasks a (Based a l) c outer there has other ∙
          ap (λ u. put (put tasks a (live (Owing a (Over u) l))) c (let_go ((twin x).ops.resumed (Based a l)) a (tasks c))) (ap first_caller has) ∙
          ap (λ s. put (put tasks a (live over')) c s) lets)

      one_recorder : one n ≡ live (Recording b)
      one_recorder = put_other (put tasks a (live over')) c n y (unequal_turned c n other_c) ∙ put_other tasks a n (live over') (unequal_turned a n other_a) ∙ set.at

      one_acceptor : one a ≡ live over'
      one_acceptor = put_other (put tasks a (live over')) c a y (unequal_turned c a other) ∙ put_self tasks a (live over')

      abbrev two : ℕ → Seat (Copy o.L)
      two = given x one a (Based a (o.p.ops.finished l)) two_book

      tells_over : Way (twin x) (going one) (going two)
      tells_over = tell x one b a over' (HasFinished a c) false (Based a (o.p.ops.finished l)) two_book one_recorder one_acceptor other_a refl refl
          (ap (λ f. Noted a false (record {
            gone = b.gone;
            met = if f then numbered_so b.met c 2 else b.met;
            acceptor = b.acceptor;
            events = b.events ++ option_to_list
                (if f then Some (E a) else None);
          })) is_met)
          refl

      two_caller : two c ≡ y
      two_caller = given_other x one a (Based a (o.p.ops.finished l)) two_book c other other_c ∙ put_self (put tasks a (live over')) c y

      two_other : (u : ℕ) → u < o.p.size → (u == a) ≡ false → (u == c) ≡ false → two u ≡ tasks u
      two_other u k p r = given_other x one a (Based a (o.p.ops.finished l)) two_book u p (below_apart u (recorder x) k) ∙ put_other (put tasks a (live over')) c u y r ∙ put_other tasks a u (live over') p

      abbrev then' : ℕ → Seat o.L
      then' = put (put d.tasks a (live (o.p.ops.finished l))) c z

      acts : acted (numbered o.p) d.tasks (E a) ≡ then'
      acts = parted_is o.p d.tasks a l c outer here has other ∙ ap (λ s. put (put d.tasks a (live (o.p.ops.finished l))) c s) lets'

      -- behind moves after which the caller too is settled
      parted_settles : (others : ℕ → Seat (Copy o.L)) (b' : Book) → Way (twin x) (going two) (going others) → others n ≡ live (Recording b') → others a ≡ two a →
          ((u : ℕ) → u < o.p.size → (u == a) ≡ false → (u == c) ≡ false → others u ≡ two u) → b'.events ≡ two_book.events → b'.gone ≡ b.gone → b'.met ≡ two_book.met → b'.acceptor ≡ b.acceptor →
          (then' c ≡ z → SettledAt x b' others then' c) → Settles x b tasks (E a ∷ []) (acted (numbered o.p) d.tasks (E a))
      parted_settles others b' way at at_a same' events gone met' acceptor' seat = record {
        then' = others;
        way = way_then (twin x) (going tasks) (going one) (going others) parts (way_then (twin x) (going one) (going two) (going others) tells_over way);
        book = b';
        writes = events;
        settled = subst (Settled x b' others) (sym acts)
            (settled_on x b b' tasks others d.tasks then' a c set at
            (λ t k. ap (λ (f : ℕ → Bool). f t) gone ∙ set.gone t k ∙
            sym (pair_closed x d come over runs b tasks set a c (live (o.p.ops.finished l)) z (sym (ap (λ (s : Seat o.L). is_closed s.standing) here)) same t))
            (λ u k p r. (
              same' u k p r ∙ two_other u k p r,
              put_other (put d.tasks a (live (o.p.ops.finished l))) c u z r ∙ put_other d.tasks a u (live (o.p.ops.finished l)) p,
              ap (λ (f : ℕ → ℕ). f u) met' ∙ ap (λ f. if f then 2 else b.met u) r,
              ap (λ (f : ℕ → ℕ). f u) acceptor',
            ))
            (SetFree (o.p.ops.finished l) (put_other (put d.tasks a (live (o.p.ops.finished l))) c a z (unequal_turned c a other) ∙ put_self d.tasks a (live (o.p.ops.finished l)))
            (at_a ∙ given_at x one a (Based a (o.p.ops.finished l)) two_book))
            (seat (put_self (put d.tasks a (live (o.p.ops.finished l))) c z)));
      }

    -- an abnormal caller completes
    abnormal_settles : d.tasks c ≡ record { local = v; standing = Served a true } → tasks c ≡ record { local = Calling c v; standing = Served a true } →
        Settles x b tasks (E a ∷ []) (acted (numbered o.p) d.tasks (E a))
    abnormal_settles here_c there_c =
        let y : Seat (Copy o.L) = completed (Calling c v) in
        let z : Seat o.L = completed v in
        let lets : let_go ((twin x).ops.resumed (Based a l)) a (tasks c) ≡ y = ap (let_go ((twin x).ops.resumed (Based a l)) a) there_c ∙
        let_go_served ((twin x).ops.resumed (Based a l)) a (record { local = Calling c v; standing = Served a true }) (equal_self a) in
        let lets' : let_go (o.p.ops.resumed l) a (d.tasks c) ≡ z = ap (let_go (o.p.ops.resumed l) a) here_c ∙
        let_go_served (o.p.ops.resumed l) a (record { local = v; standing = Served a true }) (equal_self a) in
        let same : is_closed z.standing ≡ is_closed (d.tasks c).standing = sym (ap (λ (s : Seat o.L). is_closed s.standing) here_c) in
        parted_settles y z lets lets' same (two y z lets lets' same) two_book (record { moves = []; made = tt; ends = refl })
        (given_recorder x (one y z lets lets' same) a (Based a (o.p.ops.finished l)) two_book other_a) refl (λ u k p r. refl) refl refl refl refl
        (λ at. SetGone (ap (λ (s : Seat o.L). is_completed s.standing) at) (ap (λ (s : Seat (Copy o.L)). is_completed s.standing) (two_caller y z lets lets' same)))

    -- another one tells too
    caller_settles : d.tasks c ≡ record { local = v; standing = Served a false } → tasks c ≡ record { local = Calling c v; standing = Served a false } →
        Settles x b tasks (E a ∷ []) (acted (numbered o.p) d.tasks (E a))
    caller_settles here_c there_c = go (x.pends l) refl
      where
        lets : let_go ((twin x).ops.resumed (Based a l)) a (tasks c) ≡ live (Owing c (Returned l) v)
        lets = ap (let_go ((twin x).ops.resumed (Based a l)) a) there_c ∙ let_go_served ((twin x).ops.resumed (Based a l)) a (record { local = Calling c v; standing = Served a false }) (equal_self a)

        lets' : let_go (o.p.ops.resumed l) a (d.tasks c) ≡ live (o.p.ops.resumed l v)
        lets' = ap (let_go (o.p.ops.resumed l) a) here_c ∙ let_go_served (o.p.ops.resumed l) a (record { local = v; standing = Served a false }) (equal_self a)

        same : false ≡ is_closed (d.tasks c).standing
        same = sym (ap (λ (s : Seat o.L). is_closed s.standing) here_c)

        met_two : two_book.met c ≡ 2
        met_two = ap (λ f. if f then 2 else b.met c) (equal_self c)

        tells : (m : Note) → note_of o.p x.pends (Owing c (Returned l) v) ≡ m →
            Answers x c two_book m false (record { gone = b.gone; met = two_book.met; acceptor = b.acceptor; events = two_book.events ++ [] }) →
            Settles x b tasks (E a ∷ []) (acted (numbered o.p) d.tasks (E a))
        tells m says ends =
            let y : Seat (Copy o.L) = live (Owing c (Returned l) v) in
            let z : Seat o.L = live (o.p.ops.resumed l v) in
            let b3 : Book = record { gone = b.gone; met = two_book.met; acceptor = b.acceptor; events = two_book.events ++ [] } in
            let before : ℕ → Seat (Copy o.L) = two y z lets lets' same in
            let k : Copy o.L = Based c (o.p.ops.resumed l v) in
            parted_settles y z lets lets' same (given x before c k b3) b3
            (tell x before two_book c (Owing c (Returned l) v) m false k b3 (given_recorder x (one y z lets lets' same) a (Based a (o.p.ops.finished l)) two_book other_a)
            (two_caller y z lets lets' same) other_c
            refl says ends refl)
            (given_recorder x before c k b3 other_c) (given_other x before c k b3 a (unequal_turned c a other) other_a)
            (λ u j p r. given_other x before c k b3 u r (below_apart u (recorder x) j)) (append-nil two_book.events) refl refl refl
            (λ at. SetFree (o.p.ops.resumed l v) at (given_at x before c k b3))

        go : (f : Bool) → x.pends l ≡ f → Settles x b tasks (E a ∷ []) (acted (numbered o.p) d.tasks (E a))
        go true p = tells (HasFailed c e i) (ap (λ f. if f then call_note c (λ form g j. HasFailed c g j) (o.p.ops.offer v) else HasReturned c) p ∙
            ap (call_note c (λ form g j. HasFailed c g j)) calls)
            (ap (λ g. Noted c ((g == 3) || (g == 0)) (record {
              gone = b.gone;
              met = if g == 1 then numbered_so two_book.met c 2 else two_book.met;
              acceptor = b.acceptor;
              events = two_book.events ++ option_to_list (if g == 1 then Some (E (b.acceptor c)) else (if g == 0 then Some (F c e i) else None));
            })) met_two)
        go false p = tells (HasReturned c) (ap (λ f. if f then call_note c (λ form g j. HasFailed c g j) (o.p.ops.offer v) else HasReturned c) p)
            (ap (λ g. Noted c (g == 3) (record {
              gone = b.gone;
              met = if g == 1 then numbered_so two_book.met c 2 else two_book.met;
              acceptor = b.acceptor;
              events = two_book.events ++ option_to_list (if g == 1 then Some (E (b.acceptor c)) else None);
            })) met_two)

  pub finish_settles : (a : ℕ) → happens o.p d.tasks (E a) ≡ true → Settles x b tasks (E a ∷ []) (acted (numbered o.p) d.tasks (E a))
  finish_settles a h =
      let g : Offered x d come over runs b tasks set is_finish a = offered x d come over runs b tasks set is_finish a h in
      let q : o.p.ops.offer g.l ≡ Finishes = finish_is (o.p.ops.offer g.l) g.passes in
      let standing : (d.tasks a).standing ≡ Live = ap (λ (s : Seat o.L). s.standing) g.here in
      let local : (d.tasks a).local ≡ g.l = ap (λ (s : Seat o.L). s.local) g.here in
      let proper : o.IsProper g.l = subst o.IsProper local (come.sound.proper a (ap is_closed standing)) in
      let (c, proper', has) = o.lawful.finished g.l proper q in
      let served : is_served_by a (d.tasks c).standing ≡ true = first_served o.p o.IsProper o.lawful d.tasks a c come.sound standing (subst (λ m. o.IsProper (o.p.ops.finished m)) (sym local) proper')
      (subst (λ m. o.p.ops.callers m ≡ c ∷ o.p.ops.callers (o.p.ops.finished m)) (sym local) has) in
      let other : (c == a) ≡ false = ne_eqb c a (λ e. true≢false (sym served ∙ ap (λ u. is_served_by a (d.tasks u).standing) e ∙ come.sound.itself a)) in
      go a c g.l g.below g.here g.there q has other (served_by a c served)
    where
      go : (a c : ℕ) (l : o.L) → a < o.p.size → d.tasks a ≡ live l → tasks a ≡ live (Based a l) → o.p.ops.offer l ≡ Finishes → o.p.ops.callers l ≡ c ∷ o.p.ops.callers (o.p.ops.finished l) →
          (c == a) ≡ false → ServedBy a c → Settles x b tasks (E a ∷ []) (acted (numbered o.p) d.tasks (E a))
      go a c l below here there q has other s = by_abnormal s.abnormal refl
        where
          by_abnormal : (f : Bool) → s.abnormal ≡ f → Settles x b tasks (E a ∷ []) (acted (numbered o.p) d.tasks (E a))
          by_abnormal true p = abnormal_settles a c l s.v (o.p.ops.callers (o.p.ops.finished l)) s.form s.e s.i below s.below here there s.met s.acceptor s.calls q has other
              (s.here ∙ ap (λ f. record { local = s.v; standing = Served a f }) p) (s.there ∙ ap (λ f. record { local = Calling c s.v; standing = Served a f }) p)
          by_abnormal false p = caller_settles a c l s.v (o.p.ops.callers (o.p.ops.finished l)) s.form s.e s.i below s.below here there s.met s.acceptor s.calls q has other
              (s.here ∙ ap (λ f. record { local = s.v; standing = Served a f }) p) (s.there ∙ ap (λ f. record { local = Calling c s.v; standing = Served a f }) p)
