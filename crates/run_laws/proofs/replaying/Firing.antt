-- Where all permits of an event are given, and it can happen in the original, it happens in the copy.
use Rattle.std.proofs.Common.{◌≡◌, ℕ, zero, suc, pred, ◌<◌, ◌≤◌, Bool, true, false, not, ◌&&◌, ◌||◌, ◌==◌, if◌then◌else◌, List, [], ◌∷◌, Option, Some, None, refl, sym, ap, ap₂, ◌∙◌, subst, inr, ⊎_elim, true≢false, arith}
use Rattle.std.specs.Prelude.{ℤ, pos}
use Rattle.std.specs.List.{cons_option}
use Rattle.std.proofs.lemmas.Bool.{and_parts, or_cases, or_left, or_right, cases_lt, false_from_ne_true}
use Rattle.event_machine.specs.declared.CallForm.TheVariants.{Plain}
use Rattle.event_machine.specs.declared.Choice.TheVariants.{Accept, Terminate}
use Rattle.event_machine.specs.declared.Standing.{Standing}
use Rattle.event_machine.specs.declared.Standing.TheVariants.{Live, Waiting, Queued, Served, Completed, Killed}
use Rattle.event_machine.specs.declared.Event.{Event}
use Rattle.event_machine.specs.declared.Event.TheVariants.{R, E, S, D, C, T, F, X, B, Z}
use Rattle.event_machine.specs.Offers.{Offer, Calls, Waits, Ends, calls_in, is_any_form, is_conditional, is_timed, waits_with, is_finish, is_end, opens, is_else, is_delay, is_terminate, same_member}
use Rattle.event_machine.specs.States.{Seat, live, is_live, is_closed, is_completed}
use Rattle.event_machine.specs.Worlds.{World, Move, Happen, can_move, moved, happens, happened, offers, others_end, aborts, AreMoves}
use Rattle.event_machine.proofs.Basics.{both, same_member-refl, false_not}
use Rattle.event_machine.proofs.Standings.{is-Live}
use Rattle.event_machine.proofs.Offering.{calls_waits}
use Rattle.run_laws.specs.replaying.Permits.{Permit, permit_of, wants}
use Rattle.run_laws.specs.replaying.Scripts.{takers}
use Rattle.run_laws.specs.replaying.Copies.{Copy, Holding, Controlling, Idling, shows, held_offer}
use Rattle.run_laws.specs.replaying.Rewritings.{Setting, control, idle, twin}
use Rattle.run_laws.specs.replaying.Laws.{back, backs, at_entry, stands_for}
use Rattle.run_laws.specs.replaying.inner.Stages.{image, image_world, free_of, Giving, Away, Holds, place, member, SeatAt, Inv}
use Rattle.run_laws.proofs.replaying.Facts.{put, put_other, put_self, offers_at, below_apart}
use Rattle.run_laws.proofs.replaying.Images.{image_at, image_beyond}
use Rattle.run_laws.proofs.replaying.Reached.{after_all, reached_sound, reached_fine}
use Rattle.run_laws.proofs.replaying.Silently.{unseen}
use Rattle.run_laws.proofs.replaying.Singles.{image_live}
use Rattle.run_laws.proofs.replaying.Failing.{live_below, first_member}
use Rattle.run_laws.proofs.replaying.Standing.{image_closed, order_member, member_append, taken_last}
use Rattle.run_laws.proofs.replaying.Steering.{Unseen}
use Rattle.run_laws.proofs.replaying.Granting.{taker_free}
use Rattle.common_lemmas.proofs.Numbers.{equal_self, lt_false, lt_true, unequal_above}
use Rattle.run_laws.proofs.collecting.Singles.{calls_any}

module _ (x : Setting) where
  held_shows : (test : Offer → Bool) (t : ℕ) (permit : Permit) (o : Offer) → wants t permit o ≡ true → test (shows x.n t permit o) ≡ true → test (held_offer x.n t permit o) ≡ true
  held_shows test t permit o w s = ap (λ b. test (if b then shows x.n t permit o else Calls Plain x.n.stop (pos 0))) w ∙ s

  -- The event happens in the copy.
  pub record Fired (w : World (Copy x.L)) (e : Event) : Type 0 where
    pub event : Event
    pub can : can_move (twin x) w (Happen event) ≡ true
    pub stands : back x event ≡ Some e

  over_free : (s : Standing) → is_completed (free_of x s) ≡ true → is_completed s ≡ true
  over_free Live h = h
  over_free Waiting h = h
  over_free Queued h = h
  over_free (Served by abnormal) h = absurd (go (by == control x) h)
    where
      go : (b : Bool) → is_completed (if b then Live else Served by abnormal) ≡ true → ⊥
      go true k = true≢false (sym k)
      go false k = true≢false (sym k)
  over_free Completed h = h
  over_free Killed h = h

  module _ (past rest : List Event) (e : Event) (tail : List Event) (given : List ℕ) (w : World (Copy x.L)) (inv : Inv x past rest (Giving e tail given []) w) (runs : w.ended ≡ false)
      (holds : happens x.p (image x w.tasks) e ≡ true) where
    -- a task that has its permit
    record Holder (t : ℕ) : Type 0 where
      l : x.L
      below : t < x.p.size
      at : w.tasks t ≡ live (Holding t (permit_of e) l)
      seen : image x w.tasks t ≡ live l

    holder : (t : ℕ) → member t (takers x.progress x.p.owner (after_all x past) e) ≡ true → Holder t
    holder t h = record { l = k.0; below = m; at = k.1; seen = image_live x w.tasks t (Holding t (permit_of e) k.0) m k.1 }
      where
        m : t < x.p.size
        m = live_below x w t (taker_free x past w inv.reached runs e inv.fits.2 holds t h).0

        has : member t given ≡ true
        has = ⊎_elim (λ r. r) (λ r. absurd (true≢false (sym r))) (order_member x t given [] (ap (member t) inv.fits.3 ∙ h))

        k : (l : x.L) × (w.tasks t ≡ live (Holding t (permit_of e) l)) × (x.p.ops.can_step l ≡ false)
        k = subst (λ b. SeatAt x (if b then Holds (permit_of e) else Away) t (w.tasks t)) has (inv.seats t m)

    -- what it offers
    shows_here : (t : ℕ) (k : Holder t) (test : Offer → Bool) → wants t (permit_of e) (x.p.ops.offer k.l) ≡ true → test (shows x.n t (permit_of e) (x.p.ops.offer k.l)) ≡ true →
        offers (twin x).ops test (w.tasks t) ≡ true
    shows_here t k test wanted shown = offers_at (twin x).ops test (w.tasks t) (Holding t (permit_of e) k.l) k.at (held_shows test t (permit_of e) (x.p.ops.offer k.l) wanted shown)

    -- what the original offers
    offered : (t : ℕ) (k : Holder t) (test : Offer → Bool) → offers x.p.ops test (image x w.tasks t) ≡ true → test (x.p.ops.offer k.l) ≡ true
    offered t k test h = sym (ap (λ (y : Seat x.L). test (x.p.ops.offer y.local)) k.seen) ∙ (and_parts (is_live (image x w.tasks t).standing) (test (x.p.ops.offer (image x w.tasks t).local)) h).1

    proper : (t : ℕ) (k : Holder t) → x.IsProper k.l
    proper t k = subst (λ (y : Seat x.L). x.IsProper y.local) k.seen ((reached_sound x past (image_world x w) inv.reached).proper t (ap (λ (y : Seat x.L). is_closed y.standing) k.seen))

    fine : (t : ℕ) (k : Holder t) → x.Fine k.l
    fine t k = subst (λ (y : Seat x.L). x.Fine y.local) k.seen (reached_fine x past (image_world x w) inv.reached runs t k.below (ap (λ (y : Seat x.L). y.standing) k.seen))

    -- the owner of a called entry is as closed as in the original
    owner_closed : (t : ℕ) (k : Holder t) (f : ℕ) (i : ℤ) → calls_in is_any_form f i (x.p.ops.offer k.l) ≡ true → is_closed (w.tasks (x.owner (x.n.shadow f))).standing ≡ is_closed (image x w.tasks (x.p.owner f)).standing
    owner_closed t k f i calls = ap (λ v. is_closed (w.tasks v).standing) (x.owners.shadow f) ∙
        sym (image_closed x past rest (Giving e tail given []) w (x.p.owner f) inv runs (x.calls_tasks k.l f i (proper t k) (fine t k) calls))

  -- ---- the end of the program

  module _ (past rest : List Event) (tail : List Event) (given : List ℕ) (w : World (Copy x.L)) (inv : Inv x past rest (Giving Z tail given []) w) (runs : w.ended ≡ false)
      (holds : happens x.p (image x w.tasks) Z ≡ true) where
    parts : (offers x.p.ops is_end (image x w.tasks 0) ≡ true) × (others_end x.p.ops (image x w.tasks) (pred x.p.size) ≡ true)
    parts = and_parts (offers x.p.ops is_end (image x w.tasks 0)) (others_end x.p.ops (image x w.tasks) (pred x.p.size)) holds

    -- one of those that end
    one_end : (n t : ℕ) → others_end x.p.ops (image x w.tasks) n ≡ true → suc t ≤ n → (is_completed (image x w.tasks (suc t)).standing || offers x.p.ops (waits_with is_terminate) (image x w.tasks (suc t))) ≡ true
    one_end zero t h l = absurd (omega (arith, l))
    one_end (suc n) t h l =
        let k = and_parts (others_end x.p.ops (image x w.tasks) n) (is_completed (image x w.tasks (suc n)).standing || offers x.p.ops (waits_with is_terminate) (image x w.tasks (suc n))) h in
        ⊎_elim (λ (q : t < n). one_end n t k.0 q)
        (λ (q : n ≤ t). let e : n ≡ t = omega (arith, l, q) in
        subst (λ v. (is_completed (image x w.tasks (suc v)).standing || offers x.p.ops (waits_with is_terminate) (image x w.tasks (suc v))) ≡ true) e k.1)
        (cases_lt t n)

    terminates : (t : ℕ) → suc t < x.p.size → (is_completed (w.tasks (suc t)).standing || offers (twin x).ops (waits_with is_terminate) (w.tasks (suc t))) ≡ true
    terminates t m = ⊎_elim
        (λ c. or_left (is_completed (w.tasks (suc t)).standing) (offers (twin x).ops (waits_with is_terminate) (w.tasks (suc t)))
        (over_free (w.tasks (suc t)).standing (ap (λ (y : Seat x.L). is_completed y.standing) (sym (image_at x (suc t) (w.tasks (suc t)) m)) ∙ c)))
        (λ c. or_right (is_completed (w.tasks (suc t)).standing) (offers (twin x).ops (waits_with is_terminate) (w.tasks (suc t))) (here c))
        (or_cases (is_completed (image x w.tasks (suc t)).standing) (offers x.p.ops (waits_with is_terminate) (image x w.tasks (suc t))) (one_end (pred x.p.size) t parts.1 (omega (arith, m))))
      where
        not_main : (suc t == 0) ≡ false
        not_main = unequal_above (suc t) 0 (omega arith)

        here : offers x.p.ops (waits_with is_terminate) (image x w.tasks (suc t)) ≡ true → offers (twin x).ops (waits_with is_terminate) (w.tasks (suc t)) ≡ true
        here c =
            let free : (image x w.tasks (suc t)).standing ≡ Live = is-Live (image x w.tasks (suc t)).standing
            (and_parts (is_live (image x w.tasks (suc t)).standing) (waits_with is_terminate (x.p.ops.offer (image x w.tasks (suc t)).local)) c).0 in
            let k : Holder past rest Z tail given w inv runs holds (suc t) =
            holder past rest Z tail given w inv runs holds (suc t) (taken_last x past w (suc t) inv.reached runs inv.fits.2 m free) in
            shows_here past rest Z tail given w inv runs holds (suc t) k (waits_with is_terminate)
            (ap (λ b. if b then is_end (x.p.ops.offer k.l) else waits_with is_terminate (x.p.ops.offer k.l)) not_main ∙ offered past rest Z tail given w inv runs holds (suc t) k (waits_with is_terminate) c)
            (ap (λ b. waits_with is_terminate (if b then Ends else Waits (Accept (x.n.never (suc t)) (pos 0) ∷ Terminate ∷ []))) not_main)

    module _ (over : is_completed (w.tasks (control x)).standing ≡ true) where
      all_end : (n : ℕ) → n ≤ suc x.p.size → others_end (twin x).ops w.tasks n ≡ true
      all_end zero l = refl
      all_end (suc n) l = both (all_end n (omega (arith, l))) (⊎_elim
          (λ (m : suc n < x.p.size). terminates n m)
          (λ (m : x.p.size ≤ suc n). ⊎_elim
          (λ (k : suc n < suc x.p.size). let e : control x ≡ suc n = omega (arith, m, k) in
          or_left (is_completed (w.tasks (suc n)).standing) (offers (twin x).ops (waits_with is_terminate) (w.tasks (suc n))) (ap (λ v. is_completed (w.tasks v).standing) (sym e) ∙ over))
          (λ (k : suc x.p.size ≤ suc n). let e : idle x ≡ suc n = omega (arith, k, l) in
          or_right (is_completed (w.tasks (suc n)).standing) (offers (twin x).ops (waits_with is_terminate) (w.tasks (suc n)))
          (ap (λ v. offers (twin x).ops (waits_with is_terminate) (w.tasks v)) (sym e) ∙ offers_at (twin x).ops (waits_with is_terminate) (w.tasks (idle x)) Idling inv.idles refl))
          (cases_lt (suc n) (suc x.p.size)))
          (cases_lt (suc n) x.p.size))

      fire_last : Fired w Z
      fire_last = record {
        event = Z;
        can = both (ap not runs) (both (shows_here past rest Z tail given w inv runs holds 0 k is_end
            (ap (λ b. if b then is_end (x.p.ops.offer k.l) else waits_with is_terminate (x.p.ops.offer k.l)) (equal_self 0) ∙ offered past rest Z tail given w inv runs holds 0 k is_end parts.0)
            (ap (λ b. is_end (if b then Ends else Waits (Accept (x.n.never 0) (pos 0) ∷ Terminate ∷ []))) (equal_self 0)))
            (all_end (suc x.p.size) (omega arith)));
        stands = refl;
      }
        where
          k : Holder past rest Z tail given w inv runs holds 0
          k = holder past rest Z tail given w inv runs holds 0 (member_append x 0 (x.progress.others (after_all x past)) (0 ∷ []) (inr refl))

    -- the controller completes
    pub closes : w.tasks (control x) ≡ live (Controlling []) → Unseen x past rest (Giving Z tail given []) w (X (control x))
    closes h = record {
      can = both (ap not runs) (both (false_not (unequal_above (control x) 0 x.main)) (offers_at (twin x).ops is_end (w.tasks (control x)) (Controlling []) h refl));
      inv = unseen x past rest (Giving Z tail given []) (Giving Z tail given []) w (put w.tasks (control x) gone) inv unchanged
          (put_other w.tasks (control x) (idle x) gone (unequal_above (idle x) (control x) (omega arith)))
          (λ t m. put_other w.tasks (control x) t gone (unequal_above t (control x) (omega (arith, m))))
          inv.fits
          (inr (refl, ap (λ (y : Seat (Copy x.L)). y.standing) (put_self w.tasks (control x) gone)))
          (λ u m. subst (SeatAt x (place (Giving Z tail given []) u) u) (sym (put_other w.tasks (control x) u gone (below_apart u (control x) m))) (inv.seats u m));
      same = unchanged;
      none = ap (λ c. if c then Some (X (control x)) else None) (lt_false (control x) x.p.size (omega arith));
      more = refl;
    }
      where
        gone : Seat (Copy x.L)
        gone = record { local = (w.tasks (control x)).local; standing = Completed }

        unchanged : image x (put w.tasks (control x) gone) ≡ image x w.tasks
        unchanged = image_beyond x w.tasks (control x) gone (omega arith)

  -- ---- every event

  -- some moves of the copy stand for the event alone
  pub record Shown (w : World (Copy x.L)) (e : Event) : Type 0 where
    pub moves : List Move
    pub made : AreMoves (twin x) w moves
    pub shows' : backs x (happened moves) ≡ e ∷ []

  pub shown_by : (w : World (Copy x.L)) (e : Event) → Fired w e → Shown w e
  shown_by w e f = record { moves = Happen f.event ∷ []; made = (f.can, tt); shows' = ap (λ (o : Option Event). cons_option o []) f.stands }

  last_shown : (past rest : List Event) (tail : List Event) (given : List ℕ) (w : World (Copy x.L)) → Inv x past rest (Giving Z tail given []) w → w.ended ≡ false →
      happens x.p (image x w.tasks) Z ≡ true → Shown w Z
  last_shown past rest tail given w inv runs holds = ⊎_elim
      (λ q.
      let u = closes past rest tail given w inv runs holds q in
      let w1 : World (Copy x.L) = moved (twin x) w (Happen (X (control x))) in
      let f : Fired w1 Z = fire_last past rest tail given w1 u.inv runs (ap (λ g. happens x.p g Z) u.same ∙ holds)
      (ap (λ (y : Seat (Copy x.L)). is_completed y.standing) (put_self w.tasks (control x) (record { local = (w.tasks (control x)).local; standing = Completed }))) in
      record {
        moves = Happen (X (control x)) ∷ Happen f.event ∷ [];
        made = (u.can, (f.can, tt));
        shows' = ap₂ (λ (a b : Option Event). cons_option a (cons_option b [])) u.none f.stands;
      })
      (λ q. shown_by w Z (fire_last past rest tail given w inv runs holds (ap is_completed q.1)))
      inv.controls

  pub fire : (past rest : List Event) (e : Event) (tail : List Event) (given : List ℕ) (w : World (Copy x.L)) → Inv x past rest (Giving e tail given []) w → w.ended ≡ false →
      happens x.p (image x w.tasks) e ≡ true → Shown w e
  fire past rest (R c f i) tail given w inv runs holds = shown_by w (R c f i) (record {
    event = R c (x.n.original f) i;
    can = both (ap not runs) (both
        (shows_here past rest (R c f i) tail given w inv runs holds c k (calls_in is_any_form (x.n.original f) i) (or_left (calls_in is_any_form f i (x.p.ops.offer k.l)) (waits_with (opens f i) (x.p.ops.offer k.l)) calls)
        (ap (λ b. calls_in is_any_form (x.n.original f) i (if b then Calls Plain (x.n.original f) i else Waits (Accept (x.n.original f) i ∷ []))) calls ∙ same_member-refl (x.n.original f) i))
        (ap (λ v. offers (twin x).ops (waits_with (opens (x.n.original f) i)) (w.tasks v)) (x.owners.original f) ∙
        shows_here past rest (R c f i) tail given w inv runs holds (x.p.owner f) j (waits_with (opens (x.n.original f) i)) (or_right (calls_in is_any_form f i (x.p.ops.offer j.l)) (waits_with (opens f i) (x.p.ops.offer j.l)) waits)
        (ap (λ b. waits_with (opens (x.n.original f) i) (if b then Calls Plain (x.n.original f) i else Waits (Accept (x.n.original f) i ∷ [])))
        (false_from_ne_true (calls_in is_any_form f i (x.p.ops.offer j.l)) (λ q. calls_waits is_any_form (opens f i) f i (x.p.ops.offer j.l) q waits)) ∙
        or_left (same_member (x.n.original f) i (x.n.original f) i) false (same_member-refl (x.n.original f) i))));
    stands = ap (λ s. at_entry (λ v. R c v i) (stands_for s)) (x.numbers.original f);
  })
    where
      parts' : (offers x.p.ops (calls_in is_any_form f i) (image x w.tasks c) ≡ true) × (offers x.p.ops (waits_with (opens f i)) (image x w.tasks (x.p.owner f)) ≡ true)
      parts' = and_parts (offers x.p.ops (calls_in is_any_form f i) (image x w.tasks c)) (offers x.p.ops (waits_with (opens f i)) (image x w.tasks (x.p.owner f))) holds

      k : Holder past rest (R c f i) tail given w inv runs holds c
      k = holder past rest (R c f i) tail given w inv runs holds c (or_left (c == c) (member c (x.p.owner f ∷ [])) (equal_self c))

      j : Holder past rest (R c f i) tail given w inv runs holds (x.p.owner f)
      j = holder past rest (R c f i) tail given w inv runs holds (x.p.owner f) (or_right (x.p.owner f == c) (member (x.p.owner f) (x.p.owner f ∷ [])) (first_member x (x.p.owner f)))

      calls : calls_in is_any_form f i (x.p.ops.offer k.l) ≡ true
      calls = offered past rest (R c f i) tail given w inv runs holds c k (calls_in is_any_form f i) parts'.0

      waits : waits_with (opens f i) (x.p.ops.offer j.l) ≡ true
      waits = offered past rest (R c f i) tail given w inv runs holds (x.p.owner f) j (waits_with (opens f i)) parts'.1
  fire past rest (E a) tail given w inv runs holds =
      let k = holder past rest (E a) tail given w inv runs holds a (first_member x a) in
      shown_by w (E a) (record {
        event = E a;
        can = both (ap not runs) (shows_here past rest (E a) tail given w inv runs holds a k is_finish (offered past rest (E a) tail given w inv runs holds a k is_finish holds) refl);
        stands = ap (λ b. if b then Some (E a) else None) (lt_true a x.p.size k.below);
      })
  fire past rest (S a) tail given w inv runs holds =
      let k = holder past rest (S a) tail given w inv runs holds a (first_member x a) in
      shown_by w (S a) (record {
        event = S a;
        can = both (ap not runs) (shows_here past rest (S a) tail given w inv runs holds a k (waits_with is_else) (offered past rest (S a) tail given w inv runs holds a k (waits_with is_else) holds) refl);
        stands = ap (λ b. if b then Some (S a) else None) (lt_true a x.p.size k.below);
      })
  fire past rest (D a d) tail given w inv runs holds =
      let k = holder past rest (D a d) tail given w inv runs holds a (first_member x a) in
      shown_by w (D a d) (record {
        event = D a d;
        can = both (ap not runs) (shows_here past rest (D a d) tail given w inv runs holds a k (waits_with (is_delay d)) (offered past rest (D a d) tail given w inv runs holds a k (waits_with (is_delay d)) holds)
            (ap (λ b. b || false) (equal_self d)));
        stands = ap (λ b. if b then Some (D a d) else None) (lt_true a x.p.size k.below);
      })
  fire past rest (C c f i) tail given w inv runs holds =
      let k = holder past rest (C c f i) tail given w inv runs holds c (first_member x c) in
      let h = and_parts (offers x.p.ops (calls_in is_conditional f i) (image x w.tasks c)) (not (is_closed (image x w.tasks (x.p.owner f)).standing)) holds in
      let calls : calls_in is_conditional f i (x.p.ops.offer k.l) ≡ true = offered past rest (C c f i) tail given w inv runs holds c k (calls_in is_conditional f i) h.0 in
      shown_by w (C c f i) (record {
        event = C c (x.n.shadow f) i;
        can = both (ap not runs) (both (shows_here past rest (C c f i) tail given w inv runs holds c k (calls_in is_conditional (x.n.shadow f) i) calls (same_member-refl (x.n.shadow f) i))
            (ap not (owner_closed past rest (C c f i) tail given w inv runs holds c k f i (calls_any is_conditional f i (x.p.ops.offer k.l) calls)) ∙ h.1));
        stands = ap (λ s. at_entry (λ v. C c v i) (stands_for s)) (x.numbers.shadow f);
      })
  fire past rest (T c f i) tail given w inv runs holds =
      let k = holder past rest (T c f i) tail given w inv runs holds c (first_member x c) in
      let h = and_parts (offers x.p.ops (calls_in is_timed f i) (image x w.tasks c)) (not (is_closed (image x w.tasks (x.p.owner f)).standing)) holds in
      let calls : calls_in is_timed f i (x.p.ops.offer k.l) ≡ true = offered past rest (T c f i) tail given w inv runs holds c k (calls_in is_timed f i) h.0 in
      shown_by w (T c f i) (record {
        event = T c (x.n.shadow f) i;
        can = both (ap not runs) (both (shows_here past rest (T c f i) tail given w inv runs holds c k (calls_in is_timed (x.n.shadow f) i) calls (same_member-refl (x.n.shadow f) i))
            (ap not (owner_closed past rest (T c f i) tail given w inv runs holds c k f i (calls_any is_timed f i (x.p.ops.offer k.l) calls)) ∙ h.1));
        stands = ap (λ s. at_entry (λ v. T c v i) (stands_for s)) (x.numbers.shadow f);
      })
  fire past rest (F c f i) tail given w inv runs holds =
      let k = holder past rest (F c f i) tail given w inv runs holds c (first_member x c) in
      let h = and_parts (offers x.p.ops (calls_in is_any_form f i) (image x w.tasks c)) (is_closed (image x w.tasks (x.p.owner f)).standing) holds in
      let calls : calls_in is_any_form f i (x.p.ops.offer k.l) ≡ true = offered past rest (F c f i) tail given w inv runs holds c k (calls_in is_any_form f i) h.0 in
      shown_by w (F c f i) (record {
        event = F c (x.n.shadow f) i;
        can = both (ap not runs) (both (shows_here past rest (F c f i) tail given w inv runs holds c k (calls_in is_any_form (x.n.shadow f) i) calls (same_member-refl (x.n.shadow f) i))
            (owner_closed past rest (F c f i) tail given w inv runs holds c k f i calls ∙ h.1));
        stands = ap (λ s. at_entry (λ v. F c v i) (stands_for s)) (x.numbers.shadow f);
      })
  fire past rest (X a) tail given w inv runs holds =
      let k = holder past rest (X a) tail given w inv runs holds a (first_member x a) in
      let h = and_parts (not (a == 0)) (offers x.p.ops is_end (image x w.tasks a)) holds in
      shown_by w (X a) (record {
        event = X a;
        can = both (ap not runs) (both h.0 (shows_here past rest (X a) tail given w inv runs holds a k is_end (both h.0 (offered past rest (X a) tail given w inv runs holds a k is_end h.1)) refl));
        stands = ap (λ b. if b then Some (X a) else None) (lt_true a x.p.size k.below);
      })
  fire past rest (B t v) tail given w inv runs holds =
      let k = holder past rest (B t v) tail given w inv runs holds t (first_member x t) in
      let names : aborts v (x.p.ops.offer k.l) ≡ true = offered past rest (B t v) tail given w inv runs holds t k (aborts v) holds in
      shown_by w (B t v) (record {
        event = B t v;
        can = both (ap not runs) (shows_here past rest (B t v) tail given w inv runs holds t k (aborts v) names (equal_self v));
        stands = ap₂ (λ a b. if a && b then Some (B t v) else None) (lt_true t x.p.size k.below)
            (lt_true v x.p.size (x.aborts_tasks k.l v (proper past rest (B t v) tail given w inv runs holds t k) (fine past rest (B t v) tail given w inv runs holds t k) names));
      })
  fire past rest Z tail given w inv runs holds = last_shown past rest tail given w inv runs holds
