-- Whatever move the copy makes, the original is beside it: the copy is an original of its own, of whose worlds this is known.
use Rattle.std.proofs.Common.{◌≡◌, ℕ, zero, suc, pred, ◌<◌, ◌≤◌, true, false, not, ◌&&◌, ◌||◌, List, [], refl, sym, ap, ◌∙◌, subst, ⊎_elim, true≢false, arith}
use Rattle.std.proofs.lemmas.Bool.{and_parts, or_cases, or_left, or_right, cases_lt}
use Rattle.event_machine.specs.declared.Standing.TheVariants.{Served}
use Rattle.event_machine.specs.declared.Event.{Event}
use Rattle.event_machine.specs.declared.Event.TheVariants.{R, E, S, D, C, T, F, X, B, Z}
use Rattle.event_machine.specs.Offers.{waits_with, is_end, is_terminate}
use Rattle.event_machine.specs.States.{Seat, live, is_live, is_closed, is_completed}
use Rattle.event_machine.specs.Programs.{numbered, IsOpening}
use Rattle.event_machine.specs.Worlds.{World, Move, Step, Happen, still, still_seat, world_of, can_move, moved, happens, offers, others_end}
use Rattle.event_machine.proofs.Basics.{both}
use Rattle.run_laws.specs.imitation.Imitations.{Original}
use Rattle.run_laws.proofs.replaying.Facts.{offers_at}
use Rattle.run_laws.specs.collecting.Copies.{Copy, Based, Calling, Opening, copy_steps, copy_callers}
use Rattle.run_laws.specs.collecting.Settings.{Setting, recorder, twin, out_of, start_copy, opening_copy, IsProperCopy}
use Rattle.run_laws.specs.collecting.inner.Beside.{book_of, OwnBased, SeatAt, Free, Telling, Shared, Apart, Gone, Inv, IsBeside}
use Rattle.run_laws.proofs.collecting.Lawful.{copy_lawful}
use Rattle.run_laws.proofs.collecting.Instances.{start_own, start_recorder, start_past, start_live}
use Rattle.run_laws.proofs.collecting.Reaching.{reach_start}
use Rattle.run_laws.proofs.collecting.Offered.{MainOn, LeavingOn, end_at, BasedOn, waits_at, IsFree, FreeOwn, FreeRecorder, free_task}
use Rattle.run_laws.proofs.collecting.Singles.{offers_own, else_moves, delay_moves, call_else_moves, expire_moves, fail_moves, complete_moves, abort_moves, own_steps}
use Rattle.run_laws.proofs.collecting.Meetings.{meet_moves, finish_moves}
use Rattle.run_laws.proofs.collecting.Lines.{recorder_steps}
use Rattle.common_lemmas.proofs.Truth.{not_true}

module _ {o : Original} (x : Setting o) where
  module _ (past : List Event) (r : Copy o.L) (d : World o.L) (w : World (Copy o.L)) (inv : Inv x past r d w) where
    -- ---- the end of the program

    -- a task that can end can end in the original
    other_ends : (t : ℕ) → t < o.p.size → (is_completed (w.tasks t).standing || offers (twin x).ops (waits_with is_terminate) (w.tasks t)) ≡ true →
        (is_completed (d.tasks t).standing || offers o.p.ops (waits_with is_terminate) (d.tasks t)) ≡ true
    other_ends t l h = ⊎_elim
        (λ k. or_left (is_completed (d.tasks t).standing) (offers o.p.ops (waits_with is_terminate) (d.tasks t)) (gone k (inv.seats t l)))
        (λ k. or_right (is_completed (d.tasks t).standing) (offers o.p.ops (waits_with is_terminate) (d.tasks t)) (waits k))
        (or_cases (is_completed (w.tasks t).standing) (offers (twin x).ops (waits_with is_terminate) (w.tasks t)) h)
      where
        gone : is_completed (w.tasks t).standing ≡ true → SeatAt x (book_of r) w.tasks d.tasks r t → is_completed (d.tasks t).standing ≡ true
        gone k s = go s
          where
            clash : (y : Seat (Copy o.L)) → w.tasks t ≡ y → is_completed y.standing ≡ false → is_completed (d.tasks t).standing ≡ true
            clash y at q = absurd (true≢false (sym k ∙ ap (λ (z : Seat (Copy o.L)). is_completed z.standing) at ∙ q))

            go : SeatAt x (book_of r) w.tasks d.tasks r t → is_completed (d.tasks t).standing ≡ true
            go (Free j at own) = clash (live j) at refl
            go (Telling j at hears own was) = clash (record { local = j; standing = Served (recorder x) false }) at refl
            go (Shared a v m at here met) = clash (record { local = Calling t v; standing = Served a false }) at refl
            go (Apart a v m at free outs same) = clash (record { local = Calling t v; standing = Served a false }) at refl
            go (Gone v at here) = ap (λ (z : Seat o.L). is_completed z.standing) here

        waits : offers (twin x).ops (waits_with is_terminate) (w.tasks t) ≡ true → offers o.p.ops (waits_with is_terminate) (d.tasks t) ≡ true
        waits k = go (free_task x past r d w inv t parts.0)
          where
            parts : (is_live (w.tasks t).standing ≡ true) × (waits_with is_terminate ((twin x).ops.offer (w.tasks t).local) ≡ true)
            parts = and_parts (is_live (w.tasks t).standing) (waits_with is_terminate ((twin x).ops.offer (w.tasks t).local)) k

            go : IsFree x past r d w inv t → offers o.p.ops (waits_with is_terminate) (d.tasks t) ≡ true
            go (FreeRecorder e) = absurd (omega (arith, e, l))
            go (FreeOwn m j at own) =
                let g : BasedOn x (book_of r) w.tasks d.tasks t j own (waits_with is_terminate) = waits_at x (book_of r) w.tasks d.tasks t j own is_terminate
                (ap (λ (y : Seat (Copy o.L)). waits_with is_terminate ((twin x).ops.offer y.local)) (sym at) ∙ parts.1) in
                offers_at o.p.ops (waits_with is_terminate) (d.tasks t) g.l g.at g.passes

    others_end' : (n : ℕ) → n < o.p.size → others_end (twin x).ops w.tasks n ≡ true → others_end o.p.ops d.tasks n ≡ true
    others_end' zero l h = refl
    others_end' (suc n) l h =
        let k = and_parts (others_end (twin x).ops w.tasks n) (is_completed (w.tasks (suc n)).standing || offers (twin x).ops (waits_with is_terminate) (w.tasks (suc n))) h in
        both (others_end' n (omega (arith, l)) k.0) (other_ends (suc n) l k.1)

    last_moves : happens (twin x) w.tasks Z ≡ true → IsBeside x (moved (twin x) w (Happen Z))
    last_moves h =
        let k = and_parts (offers (twin x).ops is_end (w.tasks 0)) (others_end (twin x).ops w.tasks (pred (suc o.p.size))) h in
        let (below, (j, at, own, passes)) = offers_own x past r d w inv is_end 0 refl refl refl k.0 in
        ⊎_elim
        (λ (g : MainOn x (book_of r) w.tasks d.tasks 0 j own).
        let main : offers o.p.ops is_end (d.tasks 0) ≡ true = offers_at o.p.ops is_end (d.tasks 0) g.l g.at (ap is_end g.ends) in
        let all : others_end o.p.ops d.tasks (pred o.p.size) ≡ true = others_end' (pred o.p.size) (omega (arith, below)) (fewer (pred (suc o.p.size)) (pred o.p.size) (omega arith) k.1) in
        record {
          past = past;
          r = r;
          d = d;
          inv = record {
            reached = inv.reached;
            runs = inv.runs;
            ends = λ e. both main all;
            at = inv.at;
            records = inv.records;
            gone = inv.gone;
            seats = inv.seats;
            beyond = inv.beyond;
          };
        })
        (λ (g : LeavingOn x (book_of r) w.tasks d.tasks 0 j own). absurd (g.other refl))
        (end_at x (book_of r) w.tasks d.tasks 0 j own passes)
      where
        fewer : (m n : ℕ) → n ≤ m → others_end (twin x).ops w.tasks m ≡ true → others_end (twin x).ops w.tasks n ≡ true
        fewer zero n l e = subst (λ v. others_end (twin x).ops w.tasks v ≡ true) (let q : zero ≡ n = omega (arith, l) in q) e
        fewer (suc m) n l e = ⊎_elim
            (λ (q : m < n). subst (λ v. others_end (twin x).ops w.tasks v ≡ true) (let s : suc m ≡ n = omega (arith, l, q) in s) e)
            (λ (q : n ≤ m). fewer m n q (and_parts (others_end (twin x).ops w.tasks m) (is_completed (w.tasks (suc m)).standing || offers (twin x).ops (waits_with is_terminate) (w.tasks (suc m))) e).0)
            (cases_lt m n)

    -- ---- all moves

    event_moves : w.ended ≡ false → (e : Event) → happens (twin x) w.tasks e ≡ true → IsBeside x (moved (twin x) w (Happen e))
    event_moves runs (R c e i) h = meet_moves x past r d w inv runs c e i h
    event_moves runs (E a) h = finish_moves x past r d w inv runs a h
    event_moves runs (S a) h = else_moves x past r d w inv runs a h
    event_moves runs (D a k) h = delay_moves x past r d w inv runs a k h
    event_moves runs (C c e i) h = call_else_moves x past r d w inv runs c e i h
    event_moves runs (T c e i) h = expire_moves x past r d w inv runs c e i h
    event_moves runs (F c e i) h = fail_moves x past r d w inv runs c e i h
    event_moves runs (X a) h = complete_moves x past r d w inv runs a h
    event_moves runs (B t v) h = absurd (abort_moves x past r d w inv runs t v h)
    event_moves runs Z h = last_moves h

    step_moves : w.ended ≡ false → (t : ℕ) → is_live (w.tasks t).standing ≡ true → copy_steps o.p (w.tasks t).local ≡ true → IsBeside x (moved (twin x) w (Step t))
    step_moves runs t h can = go (free_task x past r d w inv t h)
      where
        steps : (k : Copy o.L) → w.tasks t ≡ live k → copy_steps o.p k ≡ true
        steps k at = ap (λ (y : Seat (Copy o.L)). copy_steps o.p y.local) (sym at) ∙ can

        go : IsFree x past r d w inv t → IsBeside x (moved (twin x) w (Step t))
        go (FreeOwn l k at own) = own_steps x past r d w inv runs t l k at own (steps k at)
        go (FreeRecorder e) = subst (λ u. IsBeside x (moved (twin x) w (Step u))) (sym e)
            (recorder_steps x past d w runs r inv (ap (λ (y : Seat (Copy o.L)). copy_steps o.p y.local) (sym (ap w.tasks e ∙ inv.at)) ∙ can))

  -- The original stays beside the copy.
  pub beside_on : (w : World (Copy o.L)) (move : Move) → IsBeside x w → can_move (twin x) w move ≡ true → IsBeside x (moved (twin x) w move)
  beside_on w (Step t) b h =
      let k = and_parts (not w.ended) (is_live (w.tasks t).standing && copy_steps o.p (w.tasks t).local) h in
      let j = and_parts (is_live (w.tasks t).standing) (copy_steps o.p (w.tasks t).local) k.1 in
      step_moves b.past b.r b.d w b.inv (not_true w.ended k.0) t j.0 j.1
  beside_on w (Happen e) b h =
      let k = and_parts (not w.ended) (happens (twin x) w.tasks e) h in
      event_moves b.past b.r b.d w b.inv (not_true w.ended k.0) e k.1

  -- ---- the start

  start_inv : Inv x [] Opening (world_of o.opening) (world_of (opening_copy x))
  start_inv = record {
    reached = reach_start o;
    runs = o.opens_so.ended;
    ends = λ h. absurd (true≢false (sym h));
    at = still_live start_recorder';
    records = refl;
    gone = λ t l. sym (ap (λ s. is_closed (still s)) (o.opens_so.live t l));
    seats = λ t l. Free (Based t (o.opening.seats t).local) (still_live (start_own x t l)) (OwnBased (o.opening.seats t).local refl (λ i. record { local = (o.opening.seats t).local; standing = still (o.opens_so.live t l i) }));
    beyond = λ t l. ap (λ (y : Seat (Copy o.L)). is_completed (still y.standing)) (start_past x t l);
  }
    where
      start_recorder' : start_copy x (recorder x) ≡ live Opening
      start_recorder' = start_recorder x

      still_live : {k : Copy o.L} {y : Seat (Copy o.L)} → y ≡ live k → still_seat y ≡ live k
      still_live {k} {y} h = ap still_seat h

  pub beside_first : IsBeside x (world_of (opening_copy x))
  beside_first = record { past = []; r = Opening; d = world_of o.opening; inv = start_inv }

  -- each task of the copy is proper at its start, and has no callers
  each_start : (P : Seat (Copy o.L) → Type 0) → ((t : ℕ) → t < o.p.size → P (live (Based t (o.opening.seats t).local))) → P (live Opening) → (t : ℕ) →
      t < suc o.p.size → P (start_copy x t)
  each_start P own records t l = ⊎_elim
      (λ (m : t < o.p.size). subst P (sym (start_own x t m)) (own t m))
      (λ (m : o.p.size ≤ t). let e : recorder x ≡ t = omega (arith, l, m) in subst (λ u. P (start_copy x u)) e (subst P (sym (start_recorder x)) records))
      (cases_lt t o.p.size)

  pub copy_opens_so : IsOpening (numbered (twin x)) (opening_copy x)
  copy_opens_so = record {
    line = refl;
    ended = refl;
    live = start_live x;
    callers = each_start (λ y. copy_callers o.p y.local ≡ []) (λ t l. o.opens_so.callers t l) refl;
    beyond = λ t l. ap (λ (y : Seat (Copy o.L)). y.standing) (start_past x t l);
  }

  pub copy_proper : (t : ℕ) → t < suc o.p.size → IsProperCopy o (start_copy x t).local
  copy_proper = each_start (λ y. IsProperCopy o y.local) (λ t l. o.proper t l) tt

  -- The copy as an original.
  abbrev pub copy_original : Original
  copy_original = record {
    L = Copy o.L;
    p = twin x;
    out = out_of x;
    IsProper = IsProperCopy o;
    lawful = copy_lawful x;
    opening = opening_copy x;
    opens_so = copy_opens_so;
    proper = copy_proper;
    Known = IsBeside x;
    known_first = beside_first;
    known_on = λ w move known sound can. beside_on w move known can;
  }
