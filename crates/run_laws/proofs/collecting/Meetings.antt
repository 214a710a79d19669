-- A rendezvous of the copy starts or ends: of two original tasks, or of one with the recorder. The original does nothing.
use Rattle.std.proofs.Common.{◌≡◌, ℕ, suc, ◌<◌, ◌≤◌, Bool, true, false, ◌||◌, ◌==◌, if◌then◌else◌, List, [], refl, sym, ap, ap₂, ◌∙◌, subst, ⊎_elim, true≢false, arith}
use Rattle.std.specs.Prelude.{ℤ}
use Rattle.std.proofs.lemmas.Bool.{eqb-true, and_parts, or_parts, or_cases, or_from, cases_lt, ne_eqb}
use Rattle.event_machine.specs.declared.Standing.TheVariants.{Live, Served}
use Rattle.event_machine.specs.declared.Event.{Event}
use Rattle.event_machine.specs.declared.Event.TheVariants.{R, E}
use Rattle.event_machine.specs.Offers.{Offer, Calls, calls_in, is_any_form, waits_with, is_finish, opens}
use Rattle.event_machine.specs.States.{Seat, live, completed, is_completed, is_served_by}
use Rattle.event_machine.specs.Programs.{Program, numbered}
use Rattle.event_machine.specs.Worlds.{World, Happen, moved, happens, acted, offers}
use Rattle.run_laws.specs.imitation.Imitations.{Original}
use Rattle.run_laws.proofs.replaying.Facts.{put, put_self, put_other, let_go, let_go_served}
use Rattle.run_laws.proofs.replaying.Silently.{met_is}
use Rattle.run_laws.proofs.replaying.Parting.{parted_is}
use Rattle.run_laws.specs.collecting.Notes.{Book, line_of, pieces}
use Rattle.run_laws.specs.collecting.Copies.{Begun, Upset, Copy, Based, Calling, Owing, Ending, Leaving, Recording, Writing, Noted, under, telling, upset, note_of, copy_offer, answered, returned}
use Rattle.run_laws.specs.collecting.Settings.{Setting, IsOfTask, recorder, twin}
use Rattle.run_laws.specs.collecting.inner.Beside.{CameFree, book_of, heard, Hears, StandsApart, OwnAt, OwnBased, OwnOwing, SeatAt, Free, Telling, Shared, Apart, Gone, RecorderAt, Inv, IsBeside}
use Rattle.run_laws.proofs.collecting.Frames.{AreSame, own_on, touch_inv}
use Rattle.run_laws.proofs.collecting.Offered.{BasedOn, waits_at, CallingOn, TellingOn, calls_at, EndingOn, finish_at, Offers, OffersOwn, OffersRecorder, offers_by, came_free}
use Rattle.run_laws.proofs.collecting.Singles.{live_unserved, at_one, records_on, RecorderOffers, IsRecording, IsNoted, recorder_offers, offers_own, of_task}
use Rattle.common_lemmas.proofs.Numbers.{equal_self, unequal_above, unequal_turned}

-- one task serves it
pub served_once : {L : Type 0} (seat : Seat L) (a b : ℕ) → seat.standing ≡ Served a false → seat.standing ≡ Served b false → a ≡ b
served_once seat a b p q = eqb-true a b (ap (is_served_by b) (sym p ∙ q) ∙ equal_self b)

-- what the start of a rendezvous makes of the tasks, where the two are in these states
pub start_is : {L : Type 0} (p : Program L) (tasks : ℕ → Seat L) (c a e : ℕ) (i : ℤ) (k m n : L) → p.owner e ≡ a → tasks c ≡ live k → tasks a ≡ live m →
    p.ops.accepted e i c k m ≡ n → (c == a) ≡ false →
    put (put tasks a (live n)) c (record { local = k; standing = Served a false }) ≡ acted (numbered p) tasks (R c e i)
start_is {L} p tasks c a e i k m n owns at at' makes other =
    let accepts : (u : ℕ) → L = λ u. p.ops.accepted e i c (tasks c).local (tasks u).local in
    let is : accepts a ≡ n = ap₂ (λ (s t : Seat L). p.ops.accepted e i c s.local t.local) at at' ∙ makes in
    sym (ap (λ u. put (put tasks u (live (accepts u))) c (record { local = (put tasks u (live (accepts u)) c).local; standing = Served u false })) owns ∙
    met_is tasks c a (accepts a) other ∙
    ap₂ (λ (j h : L). put (put tasks a (live j)) c (record { local = h; standing = Served a false })) is (ap (λ (s : Seat L). s.local) at))

calling_based : {L : Type 0} (c a : ℕ) (l m : L) → Calling c l ≡ Based a m → ⊥
calling_based {L} c a l m h = let p : ◌≡◌ {A = Copy L} (Calling c l) (Based a m) = h in cc

module _ {o : Original} (x : Setting o) (past : List Event) (r : Copy o.L) (d : World o.L) (w : World (Copy o.L)) (inv : Inv x past r d w) (runs : w.ended ≡ false) where
  -- the recorder is live
  recorder_live : (w.tasks (recorder x)).standing ≡ Live
  recorder_live = ap (λ (y : Seat (Copy o.L)). y.standing) inv.at

  -- who is served is an original task
  pub served_below : (c a : ℕ) → (w.tasks c).standing ≡ Served a false → c < o.p.size
  served_below c a h = ⊎_elim (λ (l : c < o.p.size). l) (λ (m : o.p.size ≤ c). ⊎_elim (at_end m) beyond (cases_lt c (suc o.p.size))) (cases_lt c o.p.size)
    where
      at_end : o.p.size ≤ c → c < suc o.p.size → c < o.p.size
      at_end m l =
          let e : recorder x ≡ c = omega (arith, m, l) in
          absurd (live_unserved (w.tasks c) a (subst (λ u. (w.tasks u).standing ≡ Live) e recorder_live) h)

      beyond : suc o.p.size ≤ c → c < o.p.size
      beyond m = absurd (true≢false (sym (inv.beyond c m) ∙ ap is_completed h))

  -- ---- two tasks act

  module _ (c a : ℕ) (other : (c == a) ≡ false) (within : c < suc o.p.size) (within' : a < suc o.p.size) (y z : Seat (Copy o.L)) where
    abbrev pub pair_tasks : ℕ → Seat (Copy o.L)
    pair_tasks = put (put w.tasks a z) c y

    pub pair_last : pair_tasks c ≡ y
    pair_last = put_self (put w.tasks a z) c y

    pub pair_first : pair_tasks a ≡ z
    pair_first = put_other (put w.tasks a z) c a y (unequal_turned c a other) ∙ put_self w.tasks a z

    pub pair_other : (u : ℕ) → (u == c) ≡ false → (u == a) ≡ false → pair_tasks u ≡ w.tasks u
    pair_other u p q = put_other (put w.tasks a z) c u y p ∙ put_other w.tasks a u z q

    -- no task but the two serves one of them
    abbrev Unserved : ℕ → Type 0
    Unserved u = (t : ℕ) → t < o.p.size → (t == c) ≡ false → (t == a) ≡ false → (w.tasks u).standing ≡ Served t false → ⊥

    -- those that a task serves are as they were, where neither of the two is one of them
    pub pair_same : (b' : Book) → ((u : ℕ) → b'.met u ≡ (book_of r).met u) → (t : ℕ) → ((w.tasks c).standing ≡ Served t false → ⊥) → ((w.tasks a).standing ≡ Served t false → ⊥) →
        AreSame x (book_of r) b' w.tasks pair_tasks d.tasks d.tasks t
    pair_same b' met t of_c of_a u h = record {
      there = pair_other u (ne_eqb u c (λ e. of_c (subst (λ v. (w.tasks v).standing ≡ Served t false) e h))) (ne_eqb u a (λ e. of_a (subst (λ v. (w.tasks v).standing ≡ Served t false) e h)));
      here = refl;
      met = met u;
    }

    pub pair_acts : (r' : Copy o.L) → book_of r' ≡ book_of r → Unserved c → Unserved a →
        ((t : ℕ) (k : Copy o.L) → (t == c) ≡ false → (t == a) ≡ false → Hears x r t k → Hears x r' t k × (heard x r k ≡ heard x r' k)) →
        (c < o.p.size → SeatAt x (book_of r') pair_tasks d.tasks r' c) → (a < o.p.size → SeatAt x (book_of r') pair_tasks d.tasks r' a) →
        pair_tasks (recorder x) ≡ live r' → RecorderAt x past pair_tasks r' → Inv x past r' d (record { tasks = pair_tasks; ended = w.ended })
    pair_acts r' same of_c of_a hears seat_c seat_a at records = touch_inv x past past r r' d d w (record { tasks = pair_tasks; ended = w.ended }) inv (record {
      touched = λ u. (u == c) || (u == a);
      same = λ u q. let k = or_parts (u == c) (u == a) q in record { there = pair_other u k.0 k.1; here = refl; met = ap (λ (b : Book). b.met u) same };
      alone = alone;
      closed = λ u h. h;
      hears = λ t k q. let g = or_parts (t == c) (t == a) q in hears t k g.0 g.1;
      seats = λ t l q. ⊎_elim
          (λ e. at_one (λ u. u < o.p.size → SeatAt x (book_of r') pair_tasks d.tasks r' u) t c e seat_c l)
          (λ e. at_one (λ u. u < o.p.size → SeatAt x (book_of r') pair_tasks d.tasks r' u) t a e seat_a l)
          (or_cases (t == c) (t == a) q);
      gone = λ t l. ap (λ (b : Book). b.gone t) same ∙ inv.gone t l;
      reached = inv.reached;
      runs = inv.runs;
      ends = λ h. absurd (true≢false (sym h ∙ runs));
      at = at;
      records = records;
      beyond = λ t l. or_from (t == c) (t == a) (unequal_above t c (omega (arith, l, within))) (unequal_above t a (omega (arith, l, within')));
    })
      where
        alone : (t u : ℕ) → t < o.p.size → ((t == c) || (t == a)) ≡ false → (w.tasks u).standing ≡ Served t false → ((u == c) || (u == a)) ≡ true → ⊥
        alone t u l q served h =
            let k = or_parts (t == c) (t == a) q in
            ⊎_elim
            (λ e. of_c t l k.0 k.1 (subst (λ v. (w.tasks v).standing ≡ Served t false) (eqb-true u c e) served))
            (λ e. of_a t l k.0 k.1 (subst (λ v. (w.tasks v).standing ≡ Served t false) (eqb-true u a e) served))
            (or_cases (u == c) (u == a) h)

  -- a live task is served by nobody
  free_unserved : (u : ℕ) → (w.tasks u).standing ≡ Live → (t : ℕ) → (w.tasks u).standing ≡ Served t false → ⊥
  free_unserved u free t served = live_unserved (w.tasks u) t free served

  live_at : (u : ℕ) (k : Copy o.L) → w.tasks u ≡ live k → (w.tasks u).standing ≡ Live
  live_at u k at = ap (λ (y : Seat (Copy o.L)). y.standing) at

  -- where the recorder serves a task still, it is as it was
  records_pair : (c a : ℕ) (other : (c == a) ≡ false) (within : c < suc o.p.size) (within' : a < suc o.p.size) (y z : Seat (Copy o.L)) →
      ((w.tasks c).standing ≡ Served (recorder x) false → ⊥) → ((w.tasks a).standing ≡ Served (recorder x) false → ⊥) → RecorderAt x past (pair_tasks c a other within within' y z) r
  records_pair c a other within within' y z of_c of_a = records_on x past r w.tasks (pair_tasks c a other within within' y z)
      (λ u h. ap (λ (s : Seat (Copy o.L)). s.standing) (pair_other c a other within within' y z u (apart u c of_c h) (apart u a of_a h)) ∙ h) inv.records
    where
      apart : (u v : ℕ) → ((w.tasks v).standing ≡ Served (recorder x) false → ⊥) → (w.tasks u).standing ≡ Served (recorder x) false → (u == v) ≡ false
      apart u v none h = ne_eqb u v (λ e. none (subst (λ t. (w.tasks t).standing ≡ Served (recorder x) false) e h))

  -- ---- the recorder hears a note

  module _ (b : Book) (q : r ≡ Recording b) (c : ℕ) (below : c < o.p.size) (k : Copy o.L) (at : w.tasks c ≡ live k) (own : OwnAt x (book_of r) w.tasks d.tasks c k)
      (tells : copy_offer o.p x.note k ≡ telling x.note) where
    abbrev pub hearing : Copy o.L
    hearing = Writing c b (note_of o.p k) [] (pieces x.lines (line_of b (note_of o.p k)))

    apart : (c == recorder x) ≡ false
    apart = ne_eqb c (recorder x) (λ e. omega (arith, e, below))

    abbrev heard_tasks : ℕ → Seat (Copy o.L)
    heard_tasks = pair_tasks c (recorder x) apart (omega (arith, below)) (omega arith) (record { local = k; standing = Served (recorder x) false }) (live hearing)

    pub hears_inv : Inv x past hearing d (record { tasks = put (put w.tasks (recorder x) (live hearing)) c (record { local = k; standing = Served (recorder x) false }); ended = w.ended })
    hears_inv =
        let y : Seat (Copy o.L) = record { local = k; standing = Served (recorder x) false } in
        let z : Seat (Copy o.L) = live hearing in
        let in_c : c < suc o.p.size = omega (arith, below) in
        let in_r : recorder x < suc o.p.size = omega arith in
        let of_c : (t : ℕ) → (w.tasks c).standing ≡ Served t false → ⊥ = free_unserved c (live_at c k at) in
        let of_r : (t : ℕ) → (w.tasks (recorder x)).standing ≡ Served t false → ⊥ = free_unserved (recorder x) recorder_live in
        pair_acts c (recorder x) apart in_c in_r y z hearing (ap book_of (sym q)) (λ t l p f. of_c t) (λ t l p f. of_r t)
        (λ t j p f h. absurd (subst (λ s. Hears x s t j) q h))
        (λ l. Telling k (pair_last c (recorder x) apart in_c in_r y z) (refl, refl, tells)
        (own_on x (book_of r) b w.tasks heard_tasks d.tasks d.tasks c k refl (ap (λ s. (book_of s).met c) (sym q))
        (pair_same c (recorder x) apart in_c in_r y z b (λ u. ap (λ s. (book_of s).met u) (sym q)) c (of_c c) (of_r c)) (λ u h. h) own)
        (came_free x past r d w inv c k own tells))
        (λ l. absurd (omega (arith, l)))
        (pair_first c (recorder x) apart in_c in_r y z)
        (subst (λ s. RecorderAt x past w.tasks s) q inv.records, below, ap (λ (s : Seat (Copy o.L)). s.standing) (pair_last c (recorder x) apart in_c in_r y z), refl)

  -- ---- an original task accepts another

  module _ (c a e : ℕ) (i : ℤ) (l m : o.L) (below : c < o.p.size) (below' : a < o.p.size) (at : w.tasks c ≡ live (Calling c l)) (at' : w.tasks a ≡ live (Based a m))
      (here : d.tasks c ≡ live l) (here' : d.tasks a ≡ live m) (met : (book_of r).met c ≡ false) (owns : o.p.owner e ≡ a)
      (calls : calls_in is_any_form e i (o.p.ops.offer l) ≡ true) (waits : waits_with (opens e i) (o.p.ops.offer m) ≡ true) (other : (c == a) ≡ false) where
    pub meets_inv : Inv x past r d (record { tasks = put (put w.tasks a (live (Owing a (Begun c e i l) m))) c (record { local = Calling c l; standing = Served a false }); ended = w.ended })
    meets_inv =
        let y : Seat (Copy o.L) = record { local = Calling c l; standing = Served a false } in
        let z : Seat (Copy o.L) = live (Owing a (Begun c e i l) m) in
        let in_c : c < suc o.p.size = omega (arith, below) in
        let in_a : a < suc o.p.size = omega (arith, below') in
        let of_c : (t : ℕ) → (w.tasks c).standing ≡ Served t false → ⊥ = free_unserved c (live_at c (Calling c l) at) in
        let of_a : (t : ℕ) → (w.tasks a).standing ≡ Served t false → ⊥ = free_unserved a (live_at a (Based a m) at') in
        pair_acts c a other in_c in_a y z r refl (λ t l p f. of_c t) (λ t l p f. of_a t) (λ t k p f h. (h, refl))
        (λ u. Apart a l below' (pair_last c a other in_c in_a y z) (ap (λ (s : Seat o.L). s.standing) here) (ap (λ (s : Seat o.L). o.out s.local) here) (ap (λ (s : Seat o.L). o.p.ops.callers s.local) here))
        (λ u. Free (Owing a (Begun c e i l) m) (pair_first c a other in_c in_a y z)
        (OwnOwing m (Begun c e i l) refl here' (calls, waits, owns, record { at = pair_last c a other in_c in_a y z; free = here; is_met = met })))
        (pair_other c a other in_c in_a y z (recorder x) (unequal_above (recorder x) c below) (unequal_above (recorder x) a below') ∙ inv.at)
        (records_pair c a other in_c in_a y z (of_c (recorder x)) (of_a (recorder x)))

  -- ---- all starts

  pub meet_moves : (c e : ℕ) (i : ℤ) → happens (twin x) w.tasks (R c e i) ≡ true → IsBeside x (moved (twin x) w (Happen (R c e i)))
  meet_moves c e i h =
      let halves = and_parts (offers (twin x).ops (calls_in is_any_form e i) (w.tasks c)) (offers (twin x).ops (waits_with (opens e i)) (w.tasks (x.owner e))) h in
      let (below, (k, at, own, passes)) = offers_own x past r d w inv (calls_in is_any_form e i) c refl refl refl halves.0 in
      let by : Offers x past r d w inv (waits_with (opens e i)) (x.owner e) = offers_by x past r d w inv (waits_with (opens e i)) (x.owner e) halves.1 in
      ⊎_elim (called c e i below k at own by) (told c e i below k at own by) (calls_at x (book_of r) w.tasks d.tasks c k own is_any_form e i passes)
    where
      called : (c e : ℕ) (i : ℤ) → c < o.p.size → (k : Copy o.L) → w.tasks c ≡ live k → (own : OwnAt x (book_of r) w.tasks d.tasks c k) →
          Offers x past r d w inv (waits_with (opens e i)) (x.owner e) →
          CallingOn x (book_of r) w.tasks d.tasks c k own is_any_form e i → IsBeside x (moved (twin x) w (Happen (R c e i)))
      called c e i below k at own by g = go by
        where
          task : IsOfTask o.p.size o.p.owner x.note x.owner e
          task = of_task x past r d w inv c g.l e i g.at g.calls

          go : Offers x past r d w inv (waits_with (opens e i)) (x.owner e) → IsBeside x (moved (twin x) w (Happen (R c e i)))
          go (OffersRecorder q passes) = absurd (let n : o.p.owner e ≡ recorder x = sym task.same ∙ q in let l : o.p.owner e < o.p.size = task.task in omega (arith, n, l))
          go (OffersOwn below' m at' own' passes) =
              let a : ℕ = x.owner e in
              let f : BasedOn x (book_of r) w.tasks d.tasks a m own' (waits_with (opens e i)) = waits_at x (book_of r) w.tasks d.tasks a m own' (opens e i) passes in
              let now : w.tasks c ≡ live (Calling c g.l) = at ∙ ap live g.is in
              let now' : w.tasks a ≡ live (Based a f.l) = at' ∙ ap live f.is in
              let other : (c == a) ≡ false = ne_eqb c a (λ q. calling_based c a g.l f.l (ap (λ (s : Seat (Copy o.L)). s.local) (sym now ∙ ap w.tasks q ∙ now'))) in
              let inv' : Inv x past r d (record { tasks = put (put w.tasks a (live (Owing a (Begun c e i g.l) f.l))) c (record { local = Calling c g.l; standing = Served a false }); ended = w.ended }) =
              meets_inv c a e i g.l f.l below below' now now' g.at f.at g.met (sym task.same) g.calls f.passes other in
              record {
                past = past;
                r = r;
                d = d;
                inv = subst (λ tasks. Inv x past r d (record { tasks = tasks; ended = w.ended })) (start_is (twin x) w.tasks c a e i (Calling c g.l) (Based a f.l) (Owing a (Begun c e i g.l) f.l) refl now now' refl other) inv';
              }

      told : (c e : ℕ) (i : ℤ) → c < o.p.size → (k : Copy o.L) → w.tasks c ≡ live k → (own : OwnAt x (book_of r) w.tasks d.tasks c k) →
          Offers x past r d w inv (waits_with (opens e i)) (x.owner e) →
          TellingOn x (book_of r) w.tasks d.tasks c k own is_any_form e → IsBeside x (moved (twin x) w (Happen (R c e i)))
      told c e i below k at own by g = go by
        where
          owns : x.owner e ≡ recorder x
          owns = ap x.owner g.entry ∙ x.noted

          go : Offers x past r d w inv (waits_with (opens e i)) (x.owner e) → IsBeside x (moved (twin x) w (Happen (R c e i)))
          go (OffersOwn below' m at' own' passes) = absurd (omega (arith, owns, below'))
          go (OffersRecorder q passes) = inner (recorder_offers x past w.tasks r (waits_with (opens e i)) refl inv.records passes)
            where
              inner : RecorderOffers x r (waits_with (opens e i)) → IsBeside x (moved (twin x) w (Happen (R c e i)))
              inner (IsNoted u answer b f p) = absurd (true≢false (sym p))
              inner (IsRecording b f p) =
                  let other : (c == recorder x) ≡ false = ne_eqb c (recorder x) (λ s. omega (arith, s, below)) in
                  record {
                    past = past;
                    r = hearing b f c below k at own g.tells;
                    d = d;
                    inv = subst (λ tasks. Inv x past (hearing b f c below k at own g.tells) d (record { tasks = tasks; ended = w.ended }))
                        (start_is (twin x) w.tasks c (recorder x) e i k (Recording b) (hearing b f c below k at own g.tells) owns at (inv.at ∙ ap live f) refl other)
                        (hears_inv b f c below k at own g.tells);
                  }

  -- ---- a rendezvous ends

  -- two original tasks part: the original has parted them already
  module _ (a : ℕ) (below : a < o.p.size) (at : (w.tasks a).standing ≡ Live) (l v : o.L) (c : ℕ) (is : (w.tasks a).local ≡ Ending a l) (here : d.tasks a ≡ live (o.p.ops.finished l))
      (apart : StandsApart x (book_of r) w.tasks d.tasks a c v (o.p.ops.resumed l v) true) where
    served : (w.tasks c).standing ≡ Served a false
    served = ap (λ (s : Seat (Copy o.L)). s.standing) apart.at

    below' : c < o.p.size
    below' = served_below c a served

    other : (c == a) ≡ false
    other = ne_eqb c a (λ q. live_unserved (w.tasks a) a at (subst (λ u. (w.tasks u).standing ≡ Served a false) q served))

    abbrev back : Copy o.L
    back = returned o.p x.pends l (Calling c v)

    -- its caller goes on, or is to tell that TASKING_ERROR has come
    own_back : (tasks : ℕ → Seat (Copy o.L)) → OwnAt x (book_of r) tasks d.tasks c back
    own_back tasks = go (x.pends l)
      where
        upsets : (offer : Offer) → OwnAt x (book_of r) tasks d.tasks c (upset c offer (o.p.ops.resumed l v))
        upsets (Calls form e i) = OwnOwing (o.p.ops.resumed l v) (Upset e i) refl apart.free apart.is_met
        upsets offer = OwnBased (o.p.ops.resumed l v) refl apart.free

        go : (b : Bool) → OwnAt x (book_of r) tasks d.tasks c (if b then upset c (o.p.ops.offer v) (o.p.ops.resumed l v) else Based c (o.p.ops.resumed l v))
        go true = upsets (o.p.ops.offer v)
        go false = OwnBased (o.p.ops.resumed l v) refl apart.free

    pub parts_inv : Inv x past r d (record { tasks = put (put w.tasks a (live (Based a (o.p.ops.finished l)))) c (live back); ended = w.ended })
    parts_inv =
        let y : Seat (Copy o.L) = live back in
        let z : Seat (Copy o.L) = live (Based a (o.p.ops.finished l)) in
        let in_c : c < suc o.p.size = omega (arith, below') in
        let in_a : a < suc o.p.size = omega (arith, below) in
        let of_a : (t : ℕ) → (w.tasks a).standing ≡ Served t false → ⊥ = free_unserved a at in
        pair_acts c a other in_c in_a y z r refl
        (λ t m p f h. true≢false (sym (ap (λ u. u == a) (served_once (w.tasks c) t a h served) ∙ equal_self a) ∙ f))
        (λ t m p f. of_a t) (λ t k p f h. (h, refl))
        (λ u. Free back (pair_last c a other in_c in_a y z) (own_back (pair_tasks c a other in_c in_a y z)))
        (λ u. Free (Based a (o.p.ops.finished l)) (pair_first c a other in_c in_a y z) (OwnBased (o.p.ops.finished l) refl here))
        (pair_other c a other in_c in_a y z (recorder x) (unequal_above (recorder x) c below') (unequal_above (recorder x) a below) ∙ inv.at)
        (records_pair c a other in_c in_a y z (λ h. let n : recorder x ≡ a = served_once (w.tasks c) (recorder x) a h served in omega (arith, n, below)) (of_a (recorder x)))

  -- who tells the recorder, which serves it
  pub record TellingAt (c : ℕ) : Type 0 where
    pub k : Copy o.L
    pub at : w.tasks c ≡ record { local = k; standing = Served (recorder x) false }
    pub hears : Hears x r c k
    pub own : OwnAt x (book_of r) w.tasks d.tasks c (heard x r k)
    pub was : CameFree o c (under o.p.ops.nobody k)

  pub telling_at : (c : ℕ) → c < o.p.size → (w.tasks c).standing ≡ Served (recorder x) false → TellingAt c
  telling_at c below h = go (inv.seats c below)
    where
      standing_of : (s : Seat (Copy o.L)) → w.tasks c ≡ s → s.standing ≡ Served (recorder x) false
      standing_of s at = ap (λ (y : Seat (Copy o.L)). y.standing) (sym at) ∙ h

      by_another : (a : ℕ) (v : o.L) → a < o.p.size → w.tasks c ≡ record { local = Calling c v; standing = Served a false } → TellingAt c
      by_another a v l at =
          let n : a ≡ recorder x = served_once (w.tasks c) a (recorder x) (ap (λ (y : Seat (Copy o.L)). y.standing) at) h in
          absurd (omega (arith, n, l))

      go : SeatAt x (book_of r) w.tasks d.tasks r c → TellingAt c
      go (Free k at own) = absurd (live_unserved (w.tasks c) (recorder x) (live_at c k at) h)
      go (Telling k at hears own was) = record { k = k; at = at; hears = hears; own = own; was = was }
      go (Shared a v l at here met) = by_another a v l at
      go (Apart a v l at free outs same) = by_another a v l at
      go (Gone l at here) = absurd (true≢false (ap is_completed (standing_of (completed (Leaving c l)) at)))

  -- the recorder answers
  module _ (c : ℕ) (answer : Bool) (b : Book) (q : r ≡ Noted c answer b) where
    noted_at : w.tasks (recorder x) ≡ live (Noted c answer b)
    noted_at = inv.at ∙ ap live q

    pub records : (b.events ≡ past) × (c < o.p.size) × ((w.tasks c).standing ≡ Served (recorder x) false)
    records = subst (RecorderAt x past w.tasks) q inv.records

    abbrev pub telling' : TellingAt c
    telling' = telling_at c records.1 records.2

    apart' : (c == recorder x) ≡ false
    apart' = let l : c < o.p.size = records.1 in ne_eqb c (recorder x) (λ e. omega (arith, e, l))

    pub answers_inv : Inv x past (Recording b) d (record { tasks = put (put w.tasks (recorder x) (live (Recording b))) c (live (answered o.p answer telling'.k)); ended = w.ended })
    answers_inv =
        let t : TellingAt c = telling' in
        let j : Copy o.L = answered o.p answer t.k in
        let y : Seat (Copy o.L) = live j in
        let z : Seat (Copy o.L) = live (Recording b) in
        let l : c < o.p.size = records.1 in
        let in_c : c < suc o.p.size = omega (arith, l) in
        let in_r : recorder x < suc o.p.size = omega arith in
        let of_c : (u : ℕ) → u < o.p.size → (w.tasks c).standing ≡ Served u false → ⊥ =
        (λ u m h. let n : u ≡ recorder x = served_once (w.tasks c) u (recorder x) h records.2 in omega (arith, n, m)) in
        let of_r : (u : ℕ) → (w.tasks (recorder x)).standing ≡ Served u false → ⊥ = free_unserved (recorder x) recorder_live in
        let same : (u : ℕ) → b.met u ≡ (book_of r).met u = (λ u. ap (λ s. (book_of s).met u) (sym q)) in
        pair_acts c (recorder x) apart' in_c in_r y z (Recording b) (ap book_of (sym q)) (λ u m p f. of_c u m) (λ u m p f. of_r u)
        (λ u k p f h. absurd (true≢false (sym (ap (λ v. v == c) (sym (subst (λ s. Hears x s u k) q h).0) ∙ equal_self c) ∙ p)))
        (λ m. Free j (pair_last c (recorder x) apart' in_c in_r y z)
        (own_on x (book_of r) b w.tasks (pair_tasks c (recorder x) apart' in_c in_r y z) d.tasks d.tasks c j refl (same c)
        (pair_same c (recorder x) apart' in_c in_r y z b same c (of_c c l) (of_r c)) (λ u h. h)
        (subst (λ s. OwnAt x (book_of r) w.tasks d.tasks c (heard x s t.k)) q t.own)))
        (λ m. absurd (omega (arith, m)))
        (pair_first c (recorder x) apart' in_c in_r y z) records.0

  pub finish_moves : (a : ℕ) → happens (twin x) w.tasks (E a) ≡ true → IsBeside x (moved (twin x) w (Happen (E a)))
  finish_moves a h = go (offers_by x past r d w inv is_finish a h)
    where
      go : Offers x past r d w inv is_finish a → IsBeside x (moved (twin x) w (Happen (E a)))
      go (OffersOwn below k at own passes) =
          let g : EndingOn x (book_of r) w.tasks d.tasks a k own = finish_at x (book_of r) w.tasks d.tasks a k own passes in
          let now : w.tasks a ≡ live (Ending a g.l) = at ∙ ap live g.is in
          let free : (w.tasks a).standing ≡ Live = live_at a (Ending a g.l) now in
          let local : (w.tasks a).local ≡ Ending a g.l = ap (λ (s : Seat (Copy o.L)). s.local) now in
          let acts : acted (numbered (twin x)) w.tasks (E a) ≡ put (put w.tasks a (live (Based a (o.p.ops.finished g.l)))) g.c (live (returned o.p x.pends g.l (Calling g.c g.v))) =
          parted_is (twin x) w.tasks a (Ending a g.l) g.c g.outer now g.has (other a below free g.l g.v g.c local g.at g.apart) ∙
          ap (λ (s : Seat (Copy o.L)). put (put w.tasks a (live (Based a (o.p.ops.finished g.l)))) g.c (let_go (returned o.p x.pends g.l) a s)) g.apart.at ∙
          ap (λ s. put (put w.tasks a (live (Based a (o.p.ops.finished g.l)))) g.c s)
          (let_go_served (returned o.p x.pends g.l) a (record { local = Calling g.c g.v; standing = Served a false }) (equal_self a)) in
          record {
            past = past;
            r = r;
            d = d;
            inv = subst (λ tasks. Inv x past r d (record { tasks = tasks; ended = w.ended })) (sym acts) (parts_inv a below free g.l g.v g.c local g.at g.apart);
          }
      go (OffersRecorder e passes) = inner (recorder_offers x past w.tasks r is_finish refl inv.records passes)
        where
          inner : RecorderOffers x r is_finish → IsBeside x (moved (twin x) w (Happen (E a)))
          inner (IsRecording b q p) = absurd (true≢false (sym p))
          inner (IsNoted c answer b q p) =
              let t : TellingAt c = telling' c answer b q in
              let n : ℕ = recorder x in
              let acts : acted (numbered (twin x)) w.tasks (E n) ≡ put (put w.tasks n (live (Recording b))) c (live (answered o.p answer t.k)) =
              parted_is (twin x) w.tasks n (Noted c answer b) c [] (noted_at c answer b q) refl (apart' c answer b q) ∙
              ap (λ (s : Seat (Copy o.L)). put (put w.tasks n (live (Recording b))) c (let_go (answered o.p answer) n s)) t.at ∙
              ap (λ s. put (put w.tasks n (live (Recording b))) c s) (let_go_served (answered o.p answer) n (record { local = t.k; standing = Served n false }) (equal_self n)) in
              let b' : IsBeside x (moved (twin x) w (Happen (E n))) = record {
                past = past;
                r = Recording b;
                d = d;
                inv = subst (λ tasks. Inv x past (Recording b) d (record { tasks = tasks; ended = w.ended })) (sym acts) (answers_inv c answer b q);
              } in
              subst (λ u. IsBeside x (moved (twin x) w (Happen (E u)))) (sym e) b'
