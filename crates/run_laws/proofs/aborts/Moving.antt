-- Whatever move the copy makes, the original is beside it: the copy is an original of its own, of whose worlds this is known.
use Rattle.std.proofs.Common.{◌≡◌, ℕ, zero, suc, pred, ◌<◌, ◌≤◌, Bool, true, false, not, ◌&&◌, ◌||◌, ◌==◌, if◌then◌else◌, List, [], refl, sym, ap, ◌∙◌, subst, inl, inr, ◌⊎◌, ⊎_elim, true≢false, arith}
use Rattle.std.specs.Prelude.{nat_lt}
use Rattle.std.proofs.lemmas.Bool.{and_parts, or_cases, or_left, or_right, cases_Bool, cases_lt}
use Rattle.event_machine.specs.declared.Standing.TheVariants.{Live, Waiting, Queued, Served, Completed, Killed}
use Rattle.event_machine.specs.declared.Event.{Event}
use Rattle.event_machine.specs.declared.Event.TheVariants.{R, E, S, D, C, T, F, X, B, Z}
use Rattle.event_machine.specs.Offers.{waits_with, is_end, is_terminate}
use Rattle.event_machine.specs.States.{Seat, live, completed, is_live, is_closed, is_completed, is_served_by}
use Rattle.event_machine.specs.Programs.{numbered, IsOpening}
use Rattle.event_machine.specs.Worlds.{World, Move, Step, Happen, still, still_seat, world_of, can_move, moved, happens, offers, others_end}
use Rattle.event_machine.specs.Soundness.{IsSound, times}
use Rattle.event_machine.proofs.Basics.{both}
use Rattle.event_machine.proofs.Standings.{completed_closed}
use Rattle.event_machine.proofs.Extending.{served_caller}
use Rattle.run_laws.proofs.aborts.Reading.{is_owing, differ}
use Rattle.common_lemmas.proofs.Numbers.{equal_self}
use Rattle.event_machine.specs.declared.Standing.{Standing}
use Rattle.run_laws.specs.imitation.Imitations.{Original}
use Rattle.run_laws.proofs.replaying.Facts.{offers_at}
use Rattle.run_laws.specs.aborts.Notes.{Book}
use Rattle.run_laws.specs.aborts.Copies.{Due, Begun, Returned, Copy, Based, Owing, Recording, Opening, copy_steps, copy_callers}
use Rattle.run_laws.specs.aborts.Settings.{Setting, recorder, twin, out_of, start_copy, opening_copy, IsProperCopy}
use Rattle.run_laws.specs.aborts.inner.Beside.{book_of, OwnBased, Free, Inv, IsBeside}
use Rattle.run_laws.proofs.aborts.Lawful.{copy_lawful}
use Rattle.run_laws.proofs.aborts.Instances.{start_own, start_recorder, start_past, start_live}
use Rattle.run_laws.proofs.collecting.Reaching.{reach_start, reached_come, reached_over}
use Rattle.run_laws.proofs.aborts.Offered.{MainOn, LeavingOn, end_at, BasedOn, waits_at, Offers, OffersOwn, OffersRecorder, offers_by, IsFree, FreeOwn, FreeRecorder, free_task}
use Rattle.run_laws.proofs.aborts.Singles.{RecorderOffers, IsRecording, IsNoted, IsStriking, recorder_offers, closed_too, offers_own, else_moves, delay_moves, call_else_moves, expire_moves, fail_moves, complete_moves, own_steps}
use Rattle.run_laws.proofs.aborts.Meetings.{completed_unserved, meet_moves}
use Rattle.run_laws.proofs.aborts.Partings.{finish_moves}
use Rattle.run_laws.proofs.aborts.Aborts.{abort_moves}
use Rattle.run_laws.proofs.aborts.Steps.{recorder_steps}
use Rattle.common_lemmas.proofs.Truth.{not_true}
use Rattle.run_laws.proofs.collecting.Covered.{other_at}

module _ {o : Original} (x : Setting o) where
  module _ (past : List Event) (r : Copy o.L) (d : World o.L) (w : World (Copy o.L)) (inv : Inv x past r d w) where
    -- ---- the end of the program

    below_sound : IsSound o.p.ops o.IsProper d.tasks
    below_sound = (reached_come o past d inv.reached).sound

    -- Who can end, and the main program at its end, is in the original where it is here, with the same callers; or it has completed.
    data Still (t : ℕ) : Type 0 where
      StillBased : (l : o.L) → w.tasks t ≡ live (Based t l) → d.tasks t ≡ live l → Still t
      StillGone : is_completed (w.tasks t).standing ≡ true → Still t

    main_still : offers (twin x).ops is_end (w.tasks 0) ≡ true → Still 0
    main_still h =
        let (below, (j, at, own, passes)) = offers_own x past r d w inv is_end 0 refl refl refl (λ v. refl) h in
        ⊎_elim (λ (g : MainOn x (book_of r) d.tasks 0 j own). StillBased g.l (at ∙ ap live g.is) g.at)
        (λ (g : LeavingOn x (book_of r) d.tasks 0 j own). absurd (g.other refl)) (end_at x (book_of r) d.tasks 0 j own passes)

    other_still : (t : ℕ) → t < o.p.size → (is_completed (w.tasks t).standing || offers (twin x).ops (waits_with is_terminate) (w.tasks t)) ≡ true → Still t
    other_still t l h = ⊎_elim StillGone waits (or_cases (is_completed (w.tasks t).standing) (offers (twin x).ops (waits_with is_terminate) (w.tasks t)) h)
      where
        waits : offers (twin x).ops (waits_with is_terminate) (w.tasks t) ≡ true → Still t
        waits k = go (offers_by x past r d w inv (waits_with is_terminate) t k)
          where
            go : Offers x past r d w inv (waits_with is_terminate) t → Still t
            go (OffersRecorder e passes) = absurd (omega (arith, e, l))
            go (OffersOwn m j at own passes) =
                let g : BasedOn x (book_of r) d.tasks t j own (waits_with is_terminate) = waits_at x (book_of r) d.tasks t j own is_terminate passes in
                StillBased g.l (at ∙ ap live g.is) g.at

    -- who is closed has completed or is abnormal
    closed_is : (s : Standing) → is_closed s ≡ true → (is_completed s ≡ true) ⊎ ((a : ℕ) × (is_served_by a s ≡ true))
    closed_is (Served by abnormal) h = inr (by, equal_self by)
    closed_is Live h = absurd (true≢false (sym h))
    closed_is Waiting h = absurd (true≢false (sym h))
    closed_is Queued h = absurd (true≢false (sym h))
    closed_is Completed h = inl refl
    closed_is Killed h = inl refl

    module _ (sound : IsSound (twin x).ops (IsProperCopy o) w.tasks) (still' : (t : ℕ) → t < o.p.size → Still t) where
      -- a task that has completed has completed in the original: nobody serves it there
      gone_too : (t : ℕ) → t < o.p.size → is_completed (w.tasks t).standing ≡ true → is_completed (d.tasks t).standing ≡ true
      gone_too t l h = ⊎_elim (λ q. q) (λ q. absurd (served q.0 q.1)) (closed_is (d.tasks t).standing (closed_too x past r d w inv t l (completed_closed (w.tasks t).standing h)))
        where
          served : (a : ℕ) → is_served_by a (d.tasks t).standing ≡ true → ⊥
          served a s = go (still' a in_a)
            where
              parts : (is_closed (d.tasks a).standing ≡ false) × (times t (o.p.ops.callers (d.tasks a).local) ≡ 1)
              parts = served_caller below_sound a t s

              in_a : a < o.p.size
              in_a = ⊎_elim (λ (k : a < o.p.size). k)
                  (λ (m : o.p.size ≤ a). absurd (true≢false (sym (completed_closed (d.tasks a).standing (reached_over o past d inv.reached a m)) ∙ parts.0))) (cases_lt a o.p.size)

              go : Still a → ⊥
              go (StillGone g) = true≢false (sym (closed_too x past r d w inv a in_a (completed_closed (w.tasks a).standing g)) ∙ parts.0)
              go (StillBased m at here) =
                  let one : times t (copy_callers o.p (w.tasks a).local) ≡ 1 =
                  ap (λ (y : Seat (Copy o.L)). times t (copy_callers o.p y.local)) at ∙ ap (λ (y : Seat o.L). times t (o.p.ops.callers y.local)) (sym here) ∙ parts.1 in
                  let two : times t (copy_callers o.p (w.tasks a).local) ≡ 0 = sound.callers a t (ap (λ (y : Seat (Copy o.L)). is_closed y.standing) at) ∙
                  ap (λ f. if f then 1 else 0) (⊎_elim (λ f. absurd (completed_unserved a (w.tasks t).standing h f)) (λ f. f) (cases_Bool (is_served_by a (w.tasks t).standing))) in
                  omega (arith, one, two)

      -- a task that can end can end in the original
      other_ends : (t : ℕ) → t < o.p.size → (is_completed (w.tasks t).standing || offers (twin x).ops (waits_with is_terminate) (w.tasks t)) ≡ true →
          (is_completed (d.tasks t).standing || offers o.p.ops (waits_with is_terminate) (d.tasks t)) ≡ true
      other_ends t l h = ⊎_elim
          (λ k. or_left (is_completed (d.tasks t).standing) (offers o.p.ops (waits_with is_terminate) (d.tasks t)) (gone_too t l k))
          (λ k. or_right (is_completed (d.tasks t).standing) (offers o.p.ops (waits_with is_terminate) (d.tasks t)) (waits k))
          (or_cases (is_completed (w.tasks t).standing) (offers (twin x).ops (waits_with is_terminate) (w.tasks t)) h)
        where
          waits : offers (twin x).ops (waits_with is_terminate) (w.tasks t) ≡ true → offers o.p.ops (waits_with is_terminate) (d.tasks t) ≡ true
          waits k = go (offers_by x past r d w inv (waits_with is_terminate) t k)
            where
              go : Offers x past r d w inv (waits_with is_terminate) t → offers o.p.ops (waits_with is_terminate) (d.tasks t) ≡ true
              go (OffersRecorder e passes) = absurd (omega (arith, e, l))
              go (OffersOwn m j at own passes) =
                  let g : BasedOn x (book_of r) d.tasks t j own (waits_with is_terminate) = waits_at x (book_of r) d.tasks t j own is_terminate passes in
                  offers_at o.p.ops (waits_with is_terminate) (d.tasks t) g.l g.at g.passes

      others_end' : (n : ℕ) → n < o.p.size → others_end (twin x).ops w.tasks n ≡ true → others_end o.p.ops d.tasks n ≡ true
      others_end' zero l h = refl
      others_end' (suc n) l h =
          let k = and_parts (others_end (twin x).ops w.tasks n) (is_completed (w.tasks (suc n)).standing || offers (twin x).ops (waits_with is_terminate) (w.tasks (suc n))) h in
          both (others_end' n (omega (arith, l)) k.0) (other_ends (suc n) l k.1)

    last_moves : IsSound (twin x).ops (IsProperCopy o) w.tasks → happens (twin x) w.tasks Z ≡ true → IsBeside x (moved (twin x) w (Happen Z))
    last_moves sound h =
        let k = and_parts (offers (twin x).ops is_end (w.tasks 0)) (others_end (twin x).ops w.tasks (pred (suc o.p.size))) h in
        let (below, (j, at, own, passes)) = offers_own x past r d w inv is_end 0 refl refl refl (λ v. refl) k.0 in
        let still' : (t : ℕ) → t < o.p.size → Still t = each (main_still k.0) k.1 in
        ⊎_elim
        (λ (g : MainOn x (book_of r) d.tasks 0 j own).
        let main : offers o.p.ops is_end (d.tasks 0) ≡ true = offers_at o.p.ops is_end (d.tasks 0) g.l g.at (ap is_end g.ends) in
        let all : others_end o.p.ops d.tasks (pred o.p.size) ≡ true = others_end' sound still' (pred o.p.size) (omega (arith, below)) (fewer (pred (suc o.p.size)) (pred o.p.size) (omega arith) k.1) in
        record {
          past = past;
          r = r;
          d = d;
          inv = record {
            reached = inv.reached;
            runs = inv.runs;
            ends = λ e. (both main all, waits_there below k.1);
            at = inv.at;
            records = inv.records;
            gone = inv.gone;
            serves = inv.serves;
            seats = inv.seats;
            begun = inv.begun;
            over = inv.over;
            beyond = inv.beyond;
          };
        })
        (λ (g : LeavingOn x (book_of r) d.tasks 0 j own). absurd (g.other refl))
        (end_at x (book_of r) d.tasks 0 j own passes)
      where
        -- the recorder waits
        waits_there : 0 < o.p.size → others_end (twin x).ops w.tasks (pred (suc o.p.size)) ≡ true → (b : Book) × (r ≡ Recording b)
        waits_there some all =
            let e : suc (pred o.p.size) ≡ recorder x = omega (arith, some) in
            let g : (is_completed (w.tasks (recorder x)).standing || offers (twin x).ops (waits_with is_terminate) (w.tasks (recorder x))) ≡ true =
            subst (λ u. (is_completed (w.tasks u).standing || offers (twin x).ops (waits_with is_terminate) (w.tasks u)) ≡ true) e (other_at (twin x).ops w.tasks (pred (suc o.p.size)) all
            (pred o.p.size) (omega (arith, some))) in
            inner (recorder_offers x past w.tasks r (waits_with is_terminate) refl inv.records
            (ap (λ (y : Seat (Copy o.L)). is_completed y.standing || offers (twin x).ops (waits_with is_terminate) y) (sym inv.at) ∙ g))
          where
            inner : RecorderOffers x r (waits_with is_terminate) → (b : Book) × (r ≡ Recording b)
            inner (IsRecording b q p) = (b, q)
            inner (IsNoted c answer b q p) = absurd (true≢false (sym p))
            inner (IsStriking c b t v q p) = absurd (true≢false (sym p))

        each : Still 0 → others_end (twin x).ops w.tasks (pred (suc o.p.size)) ≡ true → (t : ℕ) → t < o.p.size → Still t
        each first all zero l = first
        each first all (suc t) l = other_still (suc t) l (other_at (twin x).ops w.tasks (pred (suc o.p.size)) all t (omega (arith, l)))

        fewer : (m n : ℕ) → n ≤ m → others_end (twin x).ops w.tasks m ≡ true → others_end (twin x).ops w.tasks n ≡ true
        fewer zero n l e = subst (λ v. others_end (twin x).ops w.tasks v ≡ true) (let q : zero ≡ n = omega (arith, l) in q) e
        fewer (suc m) n l e = ⊎_elim
            (λ (q : m < n). subst (λ v. others_end (twin x).ops w.tasks v ≡ true) (let s : suc m ≡ n = omega (arith, l, q) in s) e)
            (λ (q : n ≤ m). fewer m n q (and_parts (others_end (twin x).ops w.tasks m) (is_completed (w.tasks (suc m)).standing || offers (twin x).ops
            (waits_with is_terminate) (w.tasks (suc m))) e).0)
            (cases_lt m n)

    -- ---- all moves

    event_moves : IsSound (twin x).ops (IsProperCopy o) w.tasks → w.ended ≡ false → (e : Event) → happens (twin x) w.tasks e ≡ true → IsBeside x (moved (twin x) w (Happen e))
    event_moves sound runs (R c e i) h = meet_moves x past r d w inv runs sound c e i h
    event_moves sound runs (E a) h = finish_moves x past r d w inv runs sound a h
    event_moves sound runs (S a) h = else_moves x past r d w inv runs a h
    event_moves sound runs (D a k) h = delay_moves x past r d w inv runs a k h
    event_moves sound runs (C c e i) h = call_else_moves x past r d w inv runs c e i h
    event_moves sound runs (T c e i) h = expire_moves x past r d w inv runs c e i h
    event_moves sound runs (F c e i) h = fail_moves x past r d w inv runs c e i h
    event_moves sound runs (X a) h = complete_moves x past r d w inv runs a h
    event_moves sound runs (B t v) h = abort_moves x past r d w inv runs sound t v h
    event_moves sound runs Z h = last_moves sound h

    step_moves : IsSound (twin x).ops (IsProperCopy o) w.tasks → w.ended ≡ false → (t : ℕ) → is_live (w.tasks t).standing ≡ true →
        copy_steps o.p (w.tasks t).local ≡ true → IsBeside x (moved (twin x) w (Step t))
    step_moves sound runs t h can = go (free_task x past r d w inv t h)
      where
        steps : (k : Copy o.L) → w.tasks t ≡ live k → copy_steps o.p k ≡ true
        steps k at = ap (λ (y : Seat (Copy o.L)). copy_steps o.p y.local) (sym at) ∙ can

        go : IsFree x past r d w inv t → IsBeside x (moved (twin x) w (Step t))
        go (FreeOwn l k at own) = own_steps x past r d w inv runs t l k at own (steps k at)
        go (FreeRecorder e) = subst (λ u. IsBeside x (moved (twin x) w (Step u))) (sym e)
            (recorder_steps x past d w runs sound r inv (ap (λ (y : Seat (Copy o.L)). copy_steps o.p y.local) (sym (ap w.tasks e ∙ inv.at)) ∙ can))

  -- The original stays beside the copy.
  pub beside_on : (w : World (Copy o.L)) (move : Move) → IsBeside x w → IsSound (twin x).ops (IsProperCopy o) w.tasks → can_move (twin x) w move ≡ true → IsBeside x (moved (twin x) w move)
  beside_on w (Step t) b sound h =
      let k = and_parts (not w.ended) (is_live (w.tasks t).standing && copy_steps o.p (w.tasks t).local) h in
      let j = and_parts (is_live (w.tasks t).standing) (copy_steps o.p (w.tasks t).local) k.1 in
      step_moves b.past b.r b.d w b.inv sound (not_true w.ended k.0) t j.0 j.1
  beside_on w (Happen e) b sound h =
      let k = and_parts (not w.ended) (happens (twin x) w.tasks e) h in
      event_moves b.past b.r b.d w b.inv sound (not_true w.ended k.0) e k.1

  -- ---- the start

  start_inv : Inv x [] Opening (world_of o.opening) (world_of (opening_copy x))
  start_inv = record {
    reached = reach_start o;
    runs = o.opens_so.ended;
    ends = λ h. absurd (true≢false (sym h));
    at = still_live start_recorder';
    records = refl;
    gone = λ t l. sym (ap (λ s. is_closed (still s)) (o.opens_so.live t l));
    serves = λ a t l. sym (ap (λ s. is_served_by a (still s)) (o.opens_so.live t l));
    seats = λ t l. Free (Based t (o.opening.seats t).local) (still_live (start_own x t l)) (OwnBased (o.opening.seats t).local refl
        (λ i. record { local = (o.opening.seats t).local; standing = still (o.opens_so.live t l i) }));
    begun = λ t c e i l v h s. absurd (none_begun t (Begun c e i v) l h);
    over = λ a c m v h open' s. absurd (none_begun c (Returned m) v h);
    beyond = λ t l. ap (λ (y : Seat (Copy o.L)). is_completed (still y.standing)) (start_past x t l);
  }
    where
      start_recorder' : start_copy x (recorder x) ≡ live Opening
      start_recorder' = start_recorder x

      -- nobody is to tell anything
      none_begun : (t : ℕ) (due : Due o.L) (l : o.L) → (start_copy x t).local ≡ Owing t due l → ⊥
      none_begun t due l h = differ is_owing (Owing t due l) (start_copy x t).local refl (go (nat_lt t o.p.size) (t == recorder x)) (sym h)
        where
          go : (f g : Bool) → is_owing (if f then live (Based t (o.opening.seats t).local) else (if g then live Opening else completed Opening)).local ≡ false
          go true g = refl
          go false true = refl
          go false false = refl

      still_live : {k : Copy o.L} {y : Seat (Copy o.L)} → y ≡ live k → still_seat y ≡ live k
      still_live {k} {y} h = ap still_seat h

  pub beside_first : IsBeside x (world_of (opening_copy x))
  beside_first = record { past = []; r = Opening; d = world_of o.opening; inv = start_inv }

  -- each task of the copy is proper at its start, and has no callers
  each_start : (P : Seat (Copy o.L) → Type 0) → ((t : ℕ) → t < o.p.size → P (live (Based t (o.opening.seats t).local))) → P (live Opening) → (t : ℕ) →
      t < suc o.p.size → P (start_copy x t)
  each_start P own records t l = ⊎_elim
      (λ (m : t < o.p.size). subst P (sym (start_own x t m)) (own t m))
      (λ (m : o.p.size ≤ t). let e : recorder x ≡ t = omega (arith, l, m) in subst (λ u. P (start_copy x u)) e (subst P (sym (start_recorder x)) records))
      (cases_lt t o.p.size)

  pub copy_opens_so : IsOpening (numbered (twin x)) (opening_copy x)
  copy_opens_so = record {
    line = refl;
    ended = refl;
    live = start_live x;
    callers = each_start (λ y. copy_callers o.p y.local ≡ []) (λ t l. o.opens_so.callers t l) refl;
    beyond = λ t l. ap (λ (y : Seat (Copy o.L)). y.standing) (start_past x t l);
  }

  pub copy_proper : (t : ℕ) → t < suc o.p.size → IsProperCopy o (start_copy x t).local
  copy_proper = each_start (λ y. IsProperCopy o y.local) (λ t l. o.proper t l) tt

  -- The copy as an original.
  abbrev pub copy_original : Original
  copy_original = record {
    L = Copy o.L;
    p = twin x;
    out = out_of x;
    IsProper = IsProperCopy o;
    lawful = copy_lawful x;
    opening = opening_copy x;
    opens_so = copy_opens_so;
    proper = copy_proper;
    Known = IsBeside x;
    known_first = beside_first;
    known_on = λ w move known sound can. beside_on w move known sound can;
  }
