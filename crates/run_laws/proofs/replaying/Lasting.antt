-- The program ends.
use Rattle.std.proofs.Common.{◌≡◌, ℕ, zero, suc, pred, ◌<◌, ◌≤◌, Bool, true, false, ◌||◌, if◌then◌else◌, List, [], ◌∷◌, ◌++◌, append_assoc, refl, sym, ap, ◌∙◌, subst, ⊎_elim, true≢false, arith}
use Rattle.std.proofs.lemmas.Bool.{and_parts, or_cases, or_left, or_right, cases_lt}
use Rattle.event_machine.specs.declared.Standing.{Standing}
use Rattle.event_machine.specs.declared.Standing.TheVariants.{Live, Waiting, Queued, Served, Completed, Killed}
use Rattle.event_machine.specs.declared.Event.{Event}
use Rattle.event_machine.specs.declared.Event.TheVariants.{Z}
use Rattle.event_machine.specs.Offers.{is_end, is_terminate, waits_with}
use Rattle.event_machine.specs.States.{Seat, live, is_completed}
use Rattle.event_machine.specs.Worlds.{World, Happen, happens, moved, offers, others_end}
use Rattle.event_machine.proofs.Basics.{both}
use Rattle.run_laws.specs.replaying.Permits.{Permit, ToClose, permit_of}
use Rattle.run_laws.specs.replaying.Copies.{Copy, Holding, copy_ops}
use Rattle.run_laws.specs.replaying.Rewritings.{Setting, control, twin}
use Rattle.run_laws.specs.replaying.inner.Stages.{image, image_world, free_of, Stage, Held, Giving, Asked, Acted, Told, Parted, Over, Away, Holds, place, member, ControlAt, behind_event, Fits, Inv}
use Rattle.run_laws.proofs.replaying.Facts.{offers_at}
use Rattle.run_laws.proofs.replaying.Images.{image_at}
use Rattle.run_laws.proofs.replaying.Voices.{ends_by, terminates_by}
use Rattle.run_laws.proofs.replaying.Reached.{after_all, reach_event}
use Rattle.run_laws.proofs.replaying.Telling.{of_close}
use Rattle.run_laws.proofs.replaying.Speaking.{Speaks, Asking, Using, Refused, Reporting, Commanding, Serving, Resting, speaks}
use Rattle.run_laws.proofs.replaying.Singles.{Moves, matched_event, image_live, no_wait}
use Rattle.run_laws.proofs.replaying.Standing.{seat_own, grants_nothing}
use Rattle.common_lemmas.proofs.Numbers.{equal_self}

module _ (x : Setting) where
  over_free : (s : Standing) → is_completed s ≡ true → is_completed (free_of x s) ≡ true
  over_free Live h = h
  over_free Waiting h = h
  over_free Queued h = h
  over_free (Served by abnormal) h = absurd (true≢false (sym h))
  over_free Completed h = h
  over_free Killed h = h

  module _ (past rest : List Event) (w : World (Copy x.L)) (runs : w.ended ≡ false) where
    -- one of the others can end
    other_ends : (stage : Stage) (inv : Inv x past rest stage w) (t : ℕ) → t < x.p.size →
        (is_completed (w.tasks t).standing || offers (copy_ops x.p.ops x.n) (waits_with is_terminate) (w.tasks t)) ≡ true →
        (is_completed (image x w.tasks t).standing || offers x.p.ops (waits_with is_terminate) (image x w.tasks t)) ≡ true
    other_ends stage inv t m h = ⊎_elim
        (λ k. or_left (is_completed (image x w.tasks t).standing) (offers x.p.ops (waits_with is_terminate) (image x w.tasks t))
        (ap (λ (y : Seat x.L). is_completed y.standing) (image_at x t (w.tasks t) m) ∙ over_free (w.tasks t).standing k))
        (λ k. or_right (is_completed (image x w.tasks t).standing) (offers x.p.ops (waits_with is_terminate) (image x w.tasks t))
        (go (speaks x stage w (waits_with is_terminate) past rest inv runs refl t k)))
        (or_cases (is_completed (w.tasks t).standing) (offers (copy_ops x.p.ops x.n) (waits_with is_terminate) (w.tasks t)) h)
      where
        go : Speaks x stage w (waits_with is_terminate) t → offers x.p.ops (waits_with is_terminate) (image x w.tasks t) ≡ true
        go (Asking l m' at r pl k) = absurd (true≢false (sym k))
        go (Using permit l m' at r pl wanted shown) =
            offers_at x.p.ops (waits_with is_terminate) (image x w.tasks t) l (image_live x w.tasks t (Holding t permit l) m at)
            (terminates_by x.n t (x.p.ops.offer l) permit wanted shown).2
        go (Refused permit l m' at k) = absurd (true≢false (sym k))
        go (Reporting l m' at pl k) = absurd (true≢false (sym k))
        go (Commanding ops at q k) = absurd (no_wait x is_terminate (λ e i. refl) ops k)
        go (Serving op ops at q k) = absurd (true≢false (sym k))
        go (Resting at k) = absurd (omega (arith, at, m))

    others_ends : (stage : Stage) (inv : Inv x past rest stage w) (n : ℕ) → n < x.p.size → others_end (copy_ops x.p.ops x.n) w.tasks n ≡ true → others_end x.p.ops (image x w.tasks) n ≡ true
    others_ends stage inv zero m h = refl
    others_ends stage inv (suc n) m h =
        let k = and_parts (others_end (copy_ops x.p.ops x.n) w.tasks n) (is_completed (w.tasks (suc n)).standing || offers (copy_ops x.p.ops x.n) (waits_with is_terminate) (w.tasks (suc n))) h in
        both (others_ends stage inv n (omega (arith, m)) k.0) (other_ends stage inv (suc n) m k.1)

    -- those below are among those that end
    fewer_end : (n m : ℕ) → m ≤ n → others_end (copy_ops x.p.ops x.n) w.tasks n ≡ true → others_end (copy_ops x.p.ops x.n) w.tasks m ≡ true
    fewer_end zero m l h = let e : 0 ≡ m = omega (arith, l) in subst (λ v. others_end (copy_ops x.p.ops x.n) w.tasks v ≡ true) e h
    fewer_end (suc n) m l h = ⊎_elim
        (λ (k : m < suc n). fewer_end n m (omega (arith, k))
        (and_parts (others_end (copy_ops x.p.ops x.n) w.tasks n) (is_completed (w.tasks (suc n)).standing || offers (copy_ops x.p.ops x.n) (waits_with is_terminate) (w.tasks (suc n))) h).0)
        (λ (k : suc n ≤ m). let e : suc n ≡ m = omega (arith, l, k) in subst (λ v. others_end (copy_ops x.p.ops x.n) w.tasks v ≡ true) e h)
        (cases_lt m (suc n))

    one_ends : (n : ℕ) → others_end (copy_ops x.p.ops x.n) w.tasks (suc n) ≡ true →
        (is_completed (w.tasks (suc n)).standing || offers (copy_ops x.p.ops x.n) (waits_with is_terminate) (w.tasks (suc n))) ≡ true
    one_ends n h = (and_parts (others_end (copy_ops x.p.ops x.n) w.tasks n) (is_completed (w.tasks (suc n)).standing || offers (copy_ops x.p.ops x.n) (waits_with is_terminate) (w.tasks (suc n))) h).1

    -- the controller has completed
    controller_over : (stage : Stage) (inv : Inv x past rest stage w) → others_end (copy_ops x.p.ops x.n) w.tasks (suc (pred x.p.size)) ≡ true → is_completed (w.tasks (control x)).standing ≡ true
    controller_over stage inv h = ⊎_elim (λ k. ap (λ v. is_completed (w.tasks v).standing) (sym is) ∙ k)
        (λ k. absurd (go (speaks x stage w (waits_with is_terminate) past rest inv runs refl (suc (pred x.p.size)) k)))
        (or_cases (is_completed (w.tasks (suc (pred x.p.size))).standing) (offers (copy_ops x.p.ops x.n) (waits_with is_terminate) (w.tasks (suc (pred x.p.size)))) (one_ends (pred x.p.size) h))
      where
        is : suc (pred x.p.size) ≡ control x
        is = let m = x.main in omega (arith, m)

        go : Speaks x stage w (waits_with is_terminate) (suc (pred x.p.size)) → ⊥
        go (Asking l m at r pl k) = true≢false (sym k)
        go (Using permit l m at r pl wanted shown) = omega (arith, m, is)
        go (Refused permit l m at k) = true≢false (sym k)
        go (Reporting l m at pl k) = true≢false (sym k)
        go (Commanding ops at q k) = no_wait x is_terminate (λ e i. refl) ops k
        go (Serving op ops at q k) = true≢false (sym k)
        go (Resting at k) = omega (arith, at, is)

    -- a stage with a permit where the controller has completed: all have theirs
    all_given : (stage : Stage) → Fits x (after_all x past) rest stage w → ControlAt x (after_all x past) rest stage (w.tasks (control x)) → is_completed (w.tasks (control x)).standing ≡ true →
        (e : Event) × (tail : List Event) × (given : List ℕ) × (stage ≡ Giving e tail given [])
    all_given Held f c over = absurd (true≢false (sym over ∙ ap (λ (y : Seat (Copy x.L)). is_completed y.standing) c))
    all_given (Giving e tail given more) f c over = ⊎_elim
        (λ q. absurd (true≢false (sym over ∙ ap (λ (y : Seat (Copy x.L)). is_completed y.standing) q)))
        (λ q. (e, tail, given, ap (Giving e tail given) (grants_nothing x (permit_of e) more (behind_event x (after_all x past) e tail) q.0).0)) c
    all_given (Asked e tail given b more) f c over = absurd (true≢false (sym over ∙ ap (λ (y : Seat (Copy x.L)). is_completed y.standing) c))
    all_given (Acted b) f c over = absurd (true≢false (sym over ∙ ap (λ (y : Seat (Copy x.L)). is_completed y.standing) c))
    all_given (Told b) f c over = absurd (true≢false (sym over ∙ ap (λ (y : Seat (Copy x.L)). is_completed y.standing) c))
    all_given (Parted b) f c over = absurd (true≢false (sym over ∙ ap (λ (y : Seat (Copy x.L)). is_completed y.standing) c))
    all_given Over f c over = absurd (true≢false (sym f ∙ runs))

    -- the program ends at this stage
    lasts : (tail : List Event) (given : List ℕ) → Inv x past rest (Giving Z tail given []) w → happens x.p (image x w.tasks) Z ≡ true →
        Inv x (past ++ (Z ∷ [])) tail Over (moved (twin x) w (Happen Z))
    lasts tail given inv holds = record {
      splits = append_assoc past (Z ∷ []) tail ∙ ap (λ es. past ++ es) (sym inv.fits.1) ∙ inv.splits;
      reached = reach_event x past (image_world x w) Z inv.reached runs holds;
      fits = refl;
      controls = tt;
      idles = inv.idles;
      seats = λ t m. seat_own x (place (Giving Z tail given []) t) t (w.tasks t) (inv.seats t m);
      beyond = inv.beyond;
    }

    pub last_moves : (stage : Stage) (inv : Inv x past rest stage w) → happens (twin x) w.tasks Z ≡ true → Moves x past w Z
    last_moves stage inv h = matched_event x past w Z Z refl tt
        (record {
          rest = given.1;
          stage = Over;
          inv = lasts given.1 given.2 (subst (λ z. Inv x past rest z w) (given.3 ∙ ap (λ v. Giving v given.1 given.2 []) last) inv) holds;
        })
      where
        parts : (offers (twin x).ops is_end (w.tasks 0) ≡ true) × (others_end (twin x).ops w.tasks (suc x.p.size) ≡ true)
        parts = and_parts (offers (twin x).ops is_end (w.tasks 0)) (others_end (twin x).ops w.tasks (suc x.p.size)) h

        main : Speaks x stage w is_end 0
        main = speaks x stage w is_end past rest inv runs refl 0 parts.0

        ended : (l : x.L) × (permit : Permit) × (w.tasks 0 ≡ live (Holding 0 permit l)) × (permit ≡ ToClose) × (is_end (x.p.ops.offer l) ≡ true) × (place stage 0 ≡ Holds permit)
        ended = go main
          where
            go : Speaks x stage w is_end 0 →
                (l : x.L) × (permit : Permit) × (w.tasks 0 ≡ live (Holding 0 permit l)) × (permit ≡ ToClose) × (is_end (x.p.ops.offer l) ≡ true) × (place stage 0 ≡ Holds permit)
            go (Asking l m at r pl k) = absurd (true≢false (sym k))
            go (Using permit l m at r pl wanted shown) = ⊎_elim
                (λ v. absurd (true≢false (sym (equal_self 0) ∙ v.1)))
                (λ v. (l, permit, at, v.0, v.2, pl))
                (ends_by x.n 0 (x.p.ops.offer l) permit wanted shown)
            go (Refused permit l m at k) = absurd (true≢false (sym k))
            go (Reporting l m at pl k) = absurd (true≢false (sym k))
            go (Commanding ops at q k) = absurd (let m = x.main in omega (arith, at, m))
            go (Serving op ops at q k) = absurd (true≢false (sym k))
            go (Resting at k) = absurd (true≢false (sym k))

        holds : happens x.p (image x w.tasks) Z ≡ true
        holds = both
            (offers_at x.p.ops is_end (image x w.tasks 0) ended.0 (image_live x w.tasks 0 (Holding 0 ended.1 ended.0) x.main ended.2) ended.4)
            (others_ends stage inv (pred x.p.size) (let m = x.main in omega (arith, m)) (fewer_end (suc x.p.size) (pred x.p.size) (omega arith) parts.1))

        given : (e : Event) × (tail : List Event) × (given : List ℕ) × (stage ≡ Giving e tail given [])
        given = all_given stage inv.fits inv.controls
            (controller_over stage inv (fewer_end (suc x.p.size) (suc (pred x.p.size)) (let m = x.main in omega (arith, m)) parts.1))

        last : given.0 ≡ Z
        last = of_close given.0 (sym ended.3 ∙ is given.0 given.2 (ap (λ z. place z 0) (sym given.3) ∙ ended.5))
          where
            is : (e : Event) (had : List ℕ) → (if member 0 had then Holds (permit_of e) else Away) ≡ Holds ended.1 → ended.1 ≡ permit_of e
            is e had q = go (member 0 had) q
              where
                go : (b : Bool) → (if b then Holds (permit_of e) else Away) ≡ Holds ended.1 → ended.1 ≡ permit_of e
                go true r = let k : Holds (permit_of e) ≡ Holds ended.1 = r in cc
                go false r = absurd (let k : Away ≡ Holds ended.1 = r in cc)
