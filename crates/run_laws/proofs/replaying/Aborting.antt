-- A task aborts a task.
use Rattle.std.proofs.Common.{◌≡◌, ℕ, suc, ◌<◌, ◌≤◌, Bool, true, false, ◌&&◌, ◌==◌, if◌then◌else◌, List, [], ◌∷◌, ◌++◌, Some, None, refl, sym, ap, ap₂, ◌∙◌, subst, ⊎_elim, true≢false, arith}
use Rattle.std.proofs.lemmas.Bool.{eqb-true, cases_lt, cases_Bool, ne_eqb}
use Rattle.event_machine.specs.declared.Standing.{Standing}
use Rattle.event_machine.specs.declared.Standing.TheVariants.{Live, Waiting, Queued, Served, Completed, Killed}
use Rattle.event_machine.specs.declared.Event.{Event}
use Rattle.event_machine.specs.declared.Event.TheVariants.{B}
use Rattle.event_machine.specs.States.{Seat, live, completed, is_closed, is_completed, is_served_by}
use Rattle.event_machine.specs.Effects.{fallen, went_on, aborted, abort_seats}
use Rattle.event_machine.specs.Programs.{Program, numbered}
use Rattle.event_machine.specs.Worlds.{World, Happen, happens, acted, moved, aborts}
use Rattle.run_laws.specs.replaying.Permits.{ToAbort, Op, Go, Done, Join, Hold}
use Rattle.run_laws.specs.replaying.Copies.{Copy, Holding, Saying, copy_raised, copy_did, ops_offer, under, is_own}
use Rattle.run_laws.specs.replaying.Rewritings.{Setting, control, idle, twin}
use Rattle.run_laws.specs.replaying.inner.Stages.{image, image_of, image_world, free_of, Stage, Giving, Acted, Parted, Away, Says, place, AwayAt, SeatAt, Inv}
use Rattle.run_laws.proofs.replaying.Facts.{put, put_each, put_other, put_self, offers_at, let_go, let_go_other}
use Rattle.run_laws.proofs.replaying.Images.{image_at, image_put, image_freed, image_let_go}
use Rattle.run_laws.proofs.replaying.Voices.{aborts_by}
use Rattle.run_laws.proofs.replaying.Reached.{reached_sound, reached_fine}
use Rattle.run_laws.proofs.replaying.Telling.{of_abort}
use Rattle.run_laws.proofs.replaying.Speaking.{Speaks, Asking, Using, Refused, Reporting, Commanding, Serving, Resting, speaks}
use Rattle.run_laws.proofs.replaying.Afterwards.{Matched, permitted_in, after_event}
use Rattle.run_laws.proofs.replaying.Situations.{IsCalling}
use Rattle.run_laws.proofs.replaying.Singles.{Moves, matched_event, image_live, sole, away_then, one_acts}
use Rattle.run_laws.proofs.replaying.Standing.{image_closed, away_free}
use Rattle.common_lemmas.proofs.Numbers.{lt_true, unequal_above}

-- ---- what an abort makes of the tasks

-- the callers of v are let go, and v stands otherwise
abbrev pub fell : {L : Type 0} → (L → L) → (ℕ → Seat L) → ℕ → Standing → ℕ → Seat L
fell f tasks v closing = put (λ u. let_go f v (tasks u)) v (record { local = (let_go f v (tasks v)).local; standing = fallen closing (let_go f v (tasks v)).standing })

module _ {L : Type 0} (p : Program L) (tasks : ℕ → Seat L) (t v : ℕ) where
  pub abort_closed : is_closed (tasks v).standing ≡ true → (v == t) ≡ false → abort_seats (numbered p) tasks t v ≡ put tasks t (live (p.ops.passed (tasks t).local))
  abort_closed h q =
      ap (λ b. if b then went_on (numbered p) tasks t v else aborted (numbered p) (went_on (numbered p) tasks t v) v (if v == t then Completed else Killed)) h ∙
      ap (λ b. if b then tasks else put tasks t (live (p.ops.passed (tasks t).local))) q

  pub abort_open : is_closed (tasks v).standing ≡ false → (v == t) ≡ false →
      abort_seats (numbered p) tasks t v ≡ fell p.ops.raised (put tasks t (live (p.ops.passed (tasks t).local))) v Killed
  abort_open h q =
      ap (λ b. if b then went_on (numbered p) tasks t v else aborted (numbered p) (went_on (numbered p) tasks t v) v (if v == t then Completed else Killed)) h ∙
      ap (λ b. aborted (numbered p) (if b then tasks else put tasks t (live (p.ops.passed (tasks t).local))) v (if b then Completed else Killed)) q

  pub abort_self : is_closed (tasks v).standing ≡ false → (v == t) ≡ true → abort_seats (numbered p) tasks t v ≡ fell p.ops.raised tasks v Completed
  abort_self h q =
      ap (λ b. if b then went_on (numbered p) tasks t v else aborted (numbered p) (went_on (numbered p) tasks t v) v (if v == t then Completed else Killed)) h ∙
      ap (λ b. aborted (numbered p) (if b then tasks else put tasks t (live (p.ops.passed (tasks t).local))) v (if b then Completed else Killed)) q

module _ (x : Setting) where
  abbrev raise : Copy x.L → Copy x.L
  raise k = copy_raised x.p.ops x.n k

  -- what it makes of the original ones
  image_fell : (tasks : ℕ → Seat (Copy x.L)) (v : ℕ) (closing : Standing) → v < x.p.size →
      ((u : ℕ) → is_served_by v (tasks u).standing ≡ true → (u < x.p.size) × (under x.p.ops.nobody (raise (tasks u).local) ≡ x.p.ops.raised (under x.p.ops.nobody (tasks u).local))) →
      free_of x (fallen closing (let_go raise v (tasks v)).standing) ≡ fallen closing (free_of x (let_go raise v (tasks v)).standing) →
      image x (fell raise tasks v closing) ≡ fell x.p.ops.raised (image x tasks) v closing
  image_fell tasks v closing m served falls =
      image_put x (λ u. let_go raise v (tasks u)) v (record { local = (let_go raise v (tasks v)).local; standing = fallen closing (let_go raise v (tasks v)).standing }) m ∙
      ap (λ z. put (image x (λ u. let_go raise v (tasks u))) v (record { local = under x.p.ops.nobody (let_go raise v (tasks v)).local; standing = z })) falls ∙
      ap (λ (y : Seat x.L). put (image x (λ u. let_go raise v (tasks u))) v (record { local = y.local; standing = fallen closing y.standing }))
      (sym (image_at x v (let_go raise v (tasks v)) m) ∙ each v) ∙
      ap (λ (g : ℕ → Seat x.L). put g v (record { local = (let_go x.p.ops.raised v (image x tasks v)).local; standing = fallen closing (let_go x.p.ops.raised v (image x tasks v)).standing }))
      (λ i u. each u i)
    where
      each : (u : ℕ) → image_of x u (let_go raise v (tasks u)) ≡ let_go x.p.ops.raised v (image x tasks u)
      each u = image_let_go x raise x.p.ops.raised v u (tasks u) m (served u)

  -- a task that is away is so still
  away_goes : (v u : ℕ) (s : Standing) (k : Copy x.L) → AwayAt x u s k → SeatAt x Away u (let_go raise v (record { local = k; standing = s }))
  away_goes v u Live k h = h
  away_goes v u Waiting k h = h
  away_goes v u Queued k h = h
  away_goes v u (Served by abnormal) k h = go (by == v) abnormal refl
    where
      go : (b c : Bool) → abnormal ≡ c → SeatAt x Away u (if b then (if c then completed k else live (raise k)) else record { local = k; standing = Served by abnormal })
      go true true q = ap (λ z. is_own z) h.3
      go true false q = (x.p.ops.raised h.2, ap (λ z. raise z) h.3)
      go false c q = h
  away_goes v u Completed k h = h
  away_goes v u Killed k h = h

  away_falls : (u : ℕ) (closing s : Standing) (k : Copy x.L) → ((z : Copy x.L) → is_own z ≡ true → AwayAt x u closing z) → AwayAt x u s k → AwayAt x u (fallen closing s) k
  away_falls u closing Live k own h = own k (ap (λ z. is_own z) h.1)
  away_falls u closing Waiting k own h = absurd h
  away_falls u closing Queued k own h = absurd h
  away_falls u closing (Served by abnormal) k own h = h
  away_falls u closing Completed k own h = h
  away_falls u closing Killed k own h = h

  module _ (past rest : List Event) (w : World (Copy x.L)) (t v : ℕ) (tail : List Event) (inv : Inv x past rest (Giving (B t v) tail (t ∷ []) []) w) (l : x.L) (below : t < x.p.size)
      (at : w.tasks t ≡ live (Holding t (ToAbort v) l)) (names : aborts v (x.p.ops.offer l) ≡ true) where
    image_t : image x w.tasks t ≡ live l
    image_t = image_live x w.tasks t (Holding t (ToAbort v) l) below at

    victim_below : v < x.p.size
    victim_below = x.aborts_tasks l v proper fine names
      where
        proper : x.IsProper l
        proper = subst (λ (y : Seat x.L). x.IsProper y.local) image_t
            ((reached_sound x past (image_world x w) inv.reached).proper t (ap (λ (y : Seat x.L). is_closed y.standing) image_t))

        fine : x.Fine l
        fine = subst (λ (y : Seat x.L). x.Fine y.local) image_t (reached_fine x past (image_world x w) inv.reached inv.fits.0 t below (ap (λ (y : Seat x.L). y.standing) image_t))

    holds : happens x.p (image x w.tasks) (B t v) ≡ true
    holds = offers_at x.p.ops (aborts v) (image x w.tasks t) l image_t names

    -- who is not an original task is not served
    outside_unserved : (u : ℕ) → x.p.size ≤ u → is_served_by v (w.tasks u).standing ≡ false
    outside_unserved u m = ⊎_elim
        (λ (k : u < suc x.p.size). let e : control x ≡ u = omega (arith, m, k) in subst (λ z. is_served_by v (w.tasks z).standing ≡ false) e controller)
        (λ (k : suc x.p.size ≤ u). ⊎_elim
        (λ (j : u < suc (suc x.p.size)). let e : idle x ≡ u = omega (arith, k, j) in
        subst (λ z. is_served_by v (w.tasks z).standing ≡ false) e (ap (λ (y : Seat (Copy x.L)). is_served_by v y.standing) inv.idles))
        (λ (j : suc (suc x.p.size) ≤ u). over (w.tasks u).standing (inv.beyond u j))
        (cases_lt u (suc (suc x.p.size))))
        (cases_lt u (suc x.p.size))
      where
        over : (s : Standing) → is_completed s ≡ true → is_served_by v s ≡ false
        over Live h = refl
        over Waiting h = refl
        over Queued h = refl
        over (Served by abnormal) h = absurd (true≢false (sym h))
        over Completed h = refl
        over Killed h = refl

        controller : is_served_by v (w.tasks (control x)).standing ≡ false
        controller = ⊎_elim (λ q. ap (λ (y : Seat (Copy x.L)). is_served_by v y.standing) q) (λ q. ap (is_served_by v) q.1) inv.controls

    away : (u : ℕ) → u < x.p.size → (u == t) ≡ false → SeatAt x Away u (w.tasks u)
    away u m q = away_then x past rest w (B t v) tail t inv u m q

    raises : (u : ℕ) (s : Standing) (k : Copy x.L) → AwayAt x u s k → is_served_by v s ≡ true → under x.p.ops.nobody (raise k) ≡ x.p.ops.raised (under x.p.ops.nobody k)
    raises u Live k h q = absurd (true≢false (sym q))
    raises u Waiting k h q = absurd h
    raises u Queued k h q = absurd h
    raises u (Served by abnormal) k h q = ap (λ z. under x.p.ops.nobody (raise z)) h.3 ∙ ap (λ z. x.p.ops.raised (under x.p.ops.nobody z)) (sym h.3)
    raises u Completed k h q = absurd (true≢false (sym q))
    raises u Killed k h q = absurd (true≢false (sym q))

    -- who is served by the victim
    served : (u : ℕ) → is_served_by v (w.tasks u).standing ≡ true → (u < x.p.size) × (under x.p.ops.nobody (raise (w.tasks u).local) ≡ x.p.ops.raised (under x.p.ops.nobody (w.tasks u).local))
    served u q = (small, raises u (w.tasks u).standing (w.tasks u).local (away u small other) q)
      where
        small : u < x.p.size
        small = ⊎_elim (λ m. m) (λ (m : x.p.size ≤ u). absurd (true≢false (sym q ∙ outside_unserved u m))) (cases_lt u x.p.size)

        other : (u == t) ≡ false
        other = ne_eqb u t (λ e. true≢false (sym q ∙ ap (λ z. is_served_by v (w.tasks z).standing) e ∙ ap (λ (y : Seat (Copy x.L)). is_served_by v y.standing) at))

    -- it is at a call
    pub calling : (u : ℕ) → is_served_by v (w.tasks u).standing ≡ true → IsCalling x u (w.tasks u).local
    calling u q = go (w.tasks u).standing (w.tasks u).local (away u (served u q).0 other) q
      where
        other : (u == t) ≡ false
        other = ne_eqb u t (λ e. true≢false (sym q ∙ ap (λ z. is_served_by v (w.tasks z).standing) e ∙ ap (λ (y : Seat (Copy x.L)). is_served_by v y.standing) at))

        go : (s : Standing) (k : Copy x.L) → AwayAt x u s k → is_served_by v s ≡ true → IsCalling x u k
        go Live k h r = absurd (true≢false (sym r))
        go Waiting k h r = absurd h
        go Queued k h r = absurd h
        go (Served by abnormal) k h r = (h.2, h.0, h.1, h.3, h.4)
        go Completed k h r = absurd (true≢false (sym r))
        go Killed k h r = absurd (true≢false (sym r))

    -- the victim is closed already
    of_closed : (v == t) ≡ false → is_closed (w.tasks v).standing ≡ true → Matched x (past ++ (B t v ∷ [])) (moved (twin x) w (Happen (B t v)))
    of_closed other closed = subst (Matched x (past ++ (B t v ∷ []))) (λ j. record { tasks = sym (abort_closed (twin x) w.tasks t v closed other) j; ended = w.ended })
        (one_acts x past rest w (B t v) tail t inv (ToAbort v) l below at x.p.ops.passed (λ k. copy_did x.p.ops x.n x.p.ops.passed k) refl
        (ap (λ b. (if b then Join t else Done t) ∷ []) other) refl holds
        (abort_closed x.p (image x w.tasks) t v (image_closed x past rest (Giving (B t v) tail (t ∷ []) []) w v inv inv.fits.0 victim_below ∙ closed) other))

    -- it aborts itself
    of_itself : (v == t) ≡ true → Matched x (past ++ (B t v ∷ [])) (moved (twin x) w (Happen (B t v)))
    of_itself self = record {
      rest = tail;
      stage = Parted t;
      inv = subst (Inv x (past ++ (B t v ∷ [])) tail (Parted t)) (λ j. record { tasks = sym twin_acts j; ended = w.ended })
          (after_event x past rest (B t v) tail (t ∷ []) w inv (Join t) (Parted t) tasks' (ap (λ b. (if b then Join t else Done t) ∷ []) self) refl holds acts outside
          (inv.fits.0, below, fallen_t) (λ seat h. h) seats);
    }
      where
        same : v ≡ t
        same = eqb-true v t self

        victim : w.tasks v ≡ live (Holding t (ToAbort v) l)
        victim = ap w.tasks same ∙ at

        still' : let_go raise v (w.tasks v) ≡ live (Holding t (ToAbort v) l)
        still' = ap (let_go raise v) victim

        tasks' : ℕ → Seat (Copy x.L)
        tasks' = fell raise w.tasks v Completed

        twin_acts : acted (numbered (twin x)) w.tasks (B t v) ≡ tasks'
        twin_acts = abort_self (twin x) w.tasks t v (ap (λ (y : Seat (Copy x.L)). is_closed y.standing) victim) self

        acts : acted (numbered x.p) (image x w.tasks) (B t v) ≡ image x tasks'
        acts = abort_self x.p (image x w.tasks) t v (ap (λ z. is_closed (image x w.tasks z).standing) same ∙ ap (λ (y : Seat x.L). is_closed y.standing) image_t) self ∙
            sym (image_fell w.tasks v Completed victim_below served
            (ap (λ (y : Seat (Copy x.L)). free_of x (fallen Completed y.standing)) still' ∙ ap (λ (y : Seat (Copy x.L)). fallen Completed (free_of x y.standing)) (sym still')))

        outside : (u : ℕ) → x.p.size ≤ u → tasks' u ≡ w.tasks u
        outside u m = put_other (λ z. let_go raise v (w.tasks z)) v u (record { local = (let_go raise v (w.tasks v)).local; standing = fallen Completed (let_go raise v (w.tasks v)).standing })
            (unequal_above u v (omega (arith, m, victim_below))) ∙ let_go_other raise v (w.tasks u) (outside_unserved u m)

        at_v : tasks' v ≡ record { local = Holding t (ToAbort v) l; standing = Completed }
        at_v = put_self (λ z. let_go raise v (w.tasks z)) v (record { local = (let_go raise v (w.tasks v)).local; standing = fallen Completed (let_go raise v (w.tasks v)).standing }) ∙
            ap (λ (y : Seat (Copy x.L)). record { local = y.local; standing = fallen Completed y.standing }) still'

        fallen_t : is_completed (tasks' t).standing ≡ true
        fallen_t = ap (λ z. is_completed (tasks' z).standing) (sym same) ∙ ap (λ (y : Seat (Copy x.L)). is_completed y.standing) at_v

        seats : (u : ℕ) → u < x.p.size → SeatAt x Away u (tasks' u)
        seats u m = put_each (λ z seat. SeatAt x Away z seat) (λ z. let_go raise v (w.tasks z)) v
            (record { local = (let_go raise v (w.tasks v)).local; standing = fallen Completed (let_go raise v (w.tasks v)).standing }) u
            (λ q. subst (λ (y : Seat (Copy x.L)). AwayAt x u (fallen Completed y.standing) y.local) (sym still') refl)
            (λ q. away_goes v u (w.tasks u).standing (w.tasks u).local (away u m (ap (λ z. u == z) (sym same) ∙ q)))

    -- it aborts another
    of_other : (v == t) ≡ false → is_closed (w.tasks v).standing ≡ false → Matched x (past ++ (B t v ∷ [])) (moved (twin x) w (Happen (B t v)))
    of_other other open' = record {
      rest = tail;
      stage = Acted t;
      inv = subst (Inv x (past ++ (B t v ∷ [])) tail (Acted t)) (λ j. record { tasks = sym twin_acts j; ended = w.ended })
          (after_event x past rest (B t v) tail (t ∷ []) w inv (Done t) (Acted t) tasks' (ap (λ b. (if b then Join t else Done t) ∷ []) other) refl holds acts outside
          (inv.fits.0, below) (λ seat h. h) seats);
    }
      where
        on : ℕ → Seat (Copy x.L)
        on = put w.tasks t (live (Saying t (x.p.ops.passed l)))

        tasks' : ℕ → Seat (Copy x.L)
        tasks' = fell raise on v Killed

        on_v : on v ≡ w.tasks v
        on_v = put_other w.tasks t v (live (Saying t (x.p.ops.passed l))) other

        passes : copy_did x.p.ops x.n x.p.ops.passed (w.tasks t).local ≡ Saying t (x.p.ops.passed l)
        passes = ap (λ (y : Seat (Copy x.L)). copy_did x.p.ops x.n x.p.ops.passed y.local) at

        twin_acts : acted (numbered (twin x)) w.tasks (B t v) ≡ tasks'
        twin_acts = abort_open (twin x) w.tasks t v open' other ∙ ap (λ k. fell raise (put w.tasks t (live k)) v Killed) passes

        image_on : image x on ≡ put (image x w.tasks) t (live (x.p.ops.passed (image x w.tasks t).local))
        image_on = image_freed x w.tasks t (Saying t (x.p.ops.passed l)) x.p.ops.passed below (ap (λ (y : Seat (Copy x.L)). x.p.ops.passed (under x.p.ops.nobody y.local)) (sym at))

        served_on : (u : ℕ) → is_served_by v (on u).standing ≡ true → (u < x.p.size) × (under x.p.ops.nobody (raise (on u).local) ≡ x.p.ops.raised (under x.p.ops.nobody (on u).local))
        served_on u = put_each (λ z (seat : Seat (Copy x.L)). is_served_by v seat.standing ≡ true → (z < x.p.size) × (under x.p.ops.nobody (raise seat.local) ≡ x.p.ops.raised (under x.p.ops.nobody seat.local)))
            w.tasks t (live (Saying t (x.p.ops.passed l))) u
            (λ q h. absurd (true≢false (sym h)))
            (λ q h. served u h)

        victim_away : SeatAt x Away v (let_go raise v (on v))
        victim_away = subst (λ y. SeatAt x Away v (let_go raise v y)) (sym on_v) (away_goes v v (w.tasks v).standing (w.tasks v).local (away v victim_below other))

        falls : free_of x (fallen Killed (let_go raise v (on v)).standing) ≡ fallen Killed (free_of x (let_go raise v (on v)).standing)
        falls = away_free x v (fallen Killed (let_go raise v (on v)).standing) (let_go raise v (on v)).local
            (away_falls v Killed (let_go raise v (on v)).standing (let_go raise v (on v)).local (λ z h. h) victim_away) ∙
            ap (fallen Killed) (sym (away_free x v (let_go raise v (on v)).standing (let_go raise v (on v)).local victim_away))

        acts : acted (numbered x.p) (image x w.tasks) (B t v) ≡ image x tasks'
        acts = abort_open x.p (image x w.tasks) t v (image_closed x past rest (Giving (B t v) tail (t ∷ []) []) w v inv inv.fits.0 victim_below ∙ open') other ∙
            ap (λ (g : ℕ → Seat x.L). fell x.p.ops.raised g v Killed) (sym image_on) ∙
            sym (image_fell on v Killed victim_below served_on falls)

        outside : (u : ℕ) → x.p.size ≤ u → tasks' u ≡ w.tasks u
        outside u m =
            let same : on u ≡ w.tasks u = put_other w.tasks t u (live (Saying t (x.p.ops.passed l))) (unequal_above u t (omega (arith, m, below))) in
            put_other (λ z. let_go raise v (on z)) v u (record { local = (let_go raise v (on v)).local; standing = fallen Killed (let_go raise v (on v)).standing })
            (unequal_above u v (omega (arith, m, victim_below))) ∙ ap (let_go raise v) same ∙ let_go_other raise v (w.tasks u) (outside_unserved u m)

        seats : (u : ℕ) → u < x.p.size → SeatAt x (place (Acted t) u) u (tasks' u)
        seats u m = put_each (λ z seat. SeatAt x (place (Acted t) z) z seat) (λ z. let_go raise v (on z)) v
            (record { local = (let_go raise v (on v)).local; standing = fallen Killed (let_go raise v (on v)).standing }) u
            (λ q. subst (λ b. AwayHere b) (sym (ap (λ z. z == t) (eqb-true u v q) ∙ other))
            (subst (λ z. AwayAt x z (fallen Killed (let_go raise v (on v)).standing) (let_go raise v (on v)).local) (sym (eqb-true u v q))
            (away_falls v Killed (let_go raise v (on v)).standing (let_go raise v (on v)).local (λ z h. h) victim_away)))
            (λ q. put_each (λ z seat. SeatAt x (place (Acted t) z) z (let_go raise v seat)) w.tasks t (live (Saying t (x.p.ops.passed l))) u
            (λ r. subst (λ b. SeatAt x (if b then Says else Away) u (live (Saying t (x.p.ops.passed l)))) (sym r)
            (x.p.ops.passed l, ap (λ z. live (Saying z (x.p.ops.passed l))) (sym (eqb-true u t r))))
            (λ r. subst (λ b. SeatAt x (if b then Says else Away) u (let_go raise v (w.tasks u))) (sym r) (away_goes v u (w.tasks u).standing (w.tasks u).local (away u m r))))
          where
            AwayHere : Bool → Type 0
            AwayHere b = SeatAt x (if b then Says else Away) u (record { local = (let_go raise v (on v)).local; standing = fallen Killed (let_go raise v (on v)).standing })

    pub abort_acts : Matched x (past ++ (B t v ∷ [])) (moved (twin x) w (Happen (B t v)))
    abort_acts = ⊎_elim of_itself (λ other. ⊎_elim (of_closed other) (of_other other) (cases_Bool (is_closed (w.tasks v).standing))) (cases_Bool (v == t))

  -- ---- all aborts

  no_abort : (v : ℕ) (ops : List Op) → aborts v (ops_offer x.n ops) ≡ true → ⊥
  no_abort v [] h = true≢false (sym h)
  no_abort v (Go t permit ∷ ops) h = true≢false (sym h)
  no_abort v (Done t ∷ ops) h = true≢false (sym h)
  no_abort v (Join t ∷ ops) h = true≢false (sym h)
  no_abort v (Hold ∷ ops) h = true≢false (sym h)

  module _ (past rest : List Event) (stage : Stage) (w : World (Copy x.L)) (inv : Inv x past rest stage w) (runs : w.ended ≡ false) where
    pub abort_moves : (t v : ℕ) → happens (twin x) w.tasks (B t v) ≡ true → Moves x past w (B t v)
    abort_moves t v h = go (speaks x stage w (aborts v) past rest inv runs refl t h)
      where
        go : Speaks x stage w (aborts v) t → Moves x past w (B t v)
        go (Asking l m at r pl k) = absurd (true≢false (sym k))
        go (Using permit l m at r pl wanted shown) =
            let s = aborts_by x.n t (x.p.ops.offer l) v permit wanted shown in
            let k = permitted_in x past rest stage w t permit inv.fits pl in
            let o = of_abort v k.e (sym s.0 ∙ k.is) in
            let st : stage ≡ Giving (B t v) k.tail (t ∷ []) [] = sole x past rest stage w t permit k (λ u. B u v) o.0 o.1 (λ u. refl) in
            let here : Inv x past rest (Giving (B t v) k.tail (t ∷ []) []) w = subst (λ z. Inv x past rest z w) st inv in
            let now : w.tasks t ≡ live (Holding t (ToAbort v) l) = at ∙ ap (λ z. live (Holding t z l)) s.0 in
            matched_event x past w (B t v) (B t v)
            (ap₂ (λ a b. if a && b then Some (B t v) else None) (lt_true t x.p.size m) (lt_true v x.p.size (victim_below past rest w t v k.tail here l m now s.1)))
            (l, now, s.1, calling past rest w t v k.tail here l m now s.1)
            (abort_acts past rest w t v k.tail here l m now s.1)
        go (Refused permit l m at k) = absurd (true≢false (sym k))
        go (Reporting l m at pl k) = absurd (true≢false (sym k))
        go (Commanding ops at q k) = absurd (no_abort v ops k)
        go (Serving op ops at q k) = absurd (true≢false (sym k))
        go (Resting at k) = absurd (true≢false (sym k))
