-- Each move of the copy is nothing, the same local step or the same event of the original, and the invariant holds behind it.
use Rattle.std.proofs.Common.{◌≡◌, ℕ, suc, ◌<◌, ◌≤◌, true, false, not, ◌&&◌, List, [], ◌∷◌, ◌++◌, append-nil, refl, sym, ap, ◌∙◌, subst, ⊎_elim, true≢false, arith}
use Rattle.std.proofs.lemmas.Bool.{eqb-true, and_parts, cases_lt}
use Rattle.event_machine.specs.declared.Standing.{Standing}
use Rattle.event_machine.specs.declared.Standing.TheVariants.{Live, Waiting, Queued, Served, Completed, Killed}
use Rattle.event_machine.specs.declared.Event.{Event}
use Rattle.event_machine.specs.declared.Event.TheVariants.{R, E, S, D, C, T, F, X, B, Z}
use Rattle.event_machine.specs.States.{Seat, live, is_live, is_completed}
use Rattle.event_machine.specs.Worlds.{World, Move, Step, Happen, can_move, moved, happens, happened}
use Rattle.event_machine.proofs.Basics.{both, seat_path}
use Rattle.event_machine.proofs.Standings.{is-Live}
use Rattle.event_machine.proofs.Updates.{freed_standing}
use Rattle.run_laws.specs.replaying.Copies.{Copy, Based, copy_steps, copy_stepped, under}
use Rattle.run_laws.specs.replaying.Rewritings.{Setting, control, idle, twin, IsFine}
use Rattle.run_laws.specs.replaying.Laws.{backs}
use Rattle.run_laws.specs.replaying.inner.Stages.{IsReached, image, image_world, Stage, Held, Giving, Asked, Acted, Told, Parted, Over, Place, Away, Asks, Holds, Says, Hears, Gone, place, AwayAt, SeatAt, ControlAt, Fits, Inv}
use Rattle.run_laws.proofs.replaying.Facts.{put, put_each, put_other}
use Rattle.run_laws.proofs.replaying.Images.{image_freed}
use Rattle.run_laws.proofs.replaying.Reached.{after_all, reach_step, reached_fine}
use Rattle.run_laws.proofs.replaying.Afterwards.{Matched}
use Rattle.run_laws.proofs.replaying.Singles.{Moves, image_live, else_moves, delay_moves, call_else_moves, expire_moves}
use Rattle.run_laws.proofs.replaying.Meeting.{meet_moves}
use Rattle.run_laws.proofs.replaying.Parting.{finish_moves}
use Rattle.run_laws.proofs.replaying.Failing.{fail_moves}
use Rattle.run_laws.proofs.replaying.Completing.{complete_moves}
use Rattle.run_laws.proofs.replaying.Aborting.{abort_moves}
use Rattle.run_laws.proofs.replaying.Lasting.{last_moves}
use Rattle.run_laws.proofs.replaying.Standing.{not_gone}
use Rattle.common_lemmas.proofs.Numbers.{unequal_above}
use Rattle.common_lemmas.proofs.Truth.{not_true}

module _ (x : Setting) where
  module _ (past rest : List Event) (stage : Stage) (w : World (Copy x.L)) (inv : Inv x past rest stage w) (runs : w.ended ≡ false) where
    -- ---- local steps

    -- who has a local step is away, at the state of the original
    pub record Steps (t : ℕ) : Type 0 where
      pub l : x.L
      pub below : t < x.p.size
      pub at : w.tasks t ≡ live (Based t l)
      pub away : place stage t ≡ Away
      pub can : x.p.ops.can_step l ≡ true

    module _ (t : ℕ) (free : (w.tasks t).standing ≡ Live) (can : copy_steps x.p.ops x.n (w.tasks t).local ≡ true) where
      no_step : {k : Copy x.L} → (w.tasks t).local ≡ k → copy_steps x.p.ops x.n k ≡ false → Steps t
      no_step {k} e h = absurd (true≢false (sym can ∙ ap (λ v. copy_steps x.p.ops x.n v) e ∙ h))

      not_live : {s : Standing} → (w.tasks t).standing ≡ s → is_live s ≡ false → Steps t
      not_live {s} e h = absurd (true≢false (ap is_live (sym free ∙ e) ∙ h))

      away_steps : (s : Standing) → (w.tasks t).standing ≡ s → t < x.p.size → place stage t ≡ Away → AwayAt x t s (w.tasks t).local → Steps t
      away_steps Live e m pl h = record { l = h.0; below = m; at = seat_path h.1 free; away = pl; can = ap (λ v. copy_steps x.p.ops x.n v) (sym h.1) ∙ can }
      away_steps Waiting e m pl h = absurd h
      away_steps Queued e m pl h = absurd h
      away_steps (Served by abnormal) e m pl h = not_live e refl
      away_steps Completed e m pl h = not_live e refl
      away_steps Killed e m pl h = not_live e refl

      own_steps : (pl : Place) → place stage t ≡ pl → t < x.p.size → SeatAt x pl t (w.tasks t) → Steps t
      own_steps Away q m h = away_steps (w.tasks t).standing refl m q h
      own_steps Asks q m h = not_live (ap (λ (y : Seat (Copy x.L)). y.standing) h.1) refl
      own_steps (Holds permit) q m h = no_step (ap (λ (y : Seat (Copy x.L)). y.local) h.1) refl
      own_steps Says q m h = no_step (ap (λ (y : Seat (Copy x.L)). y.local) h.1) refl
      own_steps Hears q m h = not_live (ap (λ (y : Seat (Copy x.L)). y.standing) h.1) refl
      own_steps Gone q m h = absurd (not_gone x (after_all x past) rest stage w t inv.fits runs q)

      controller_steps : (st : Stage) → Fits x (after_all x past) rest st w → t ≡ control x → ControlAt x (after_all x past) rest st (w.tasks (control x)) → Steps t
      controller_steps Held f e h = no_step (ap (λ v. (w.tasks v).local) e ∙ ap (λ (y : Seat (Copy x.L)). y.local) h) refl
      controller_steps (Giving ev tail given more) f e h = ⊎_elim
          (λ q. no_step (ap (λ v. (w.tasks v).local) e ∙ ap (λ (y : Seat (Copy x.L)). y.local) q) refl)
          (λ q. not_live (ap (λ v. (w.tasks v).standing) e ∙ q.1) refl) h
      controller_steps (Asked ev tail given b more) f e h = no_step (ap (λ v. (w.tasks v).local) e ∙ ap (λ (y : Seat (Copy x.L)). y.local) h) refl
      controller_steps (Acted b) f e h = no_step (ap (λ v. (w.tasks v).local) e ∙ ap (λ (y : Seat (Copy x.L)). y.local) h) refl
      controller_steps (Told b) f e h = no_step (ap (λ v. (w.tasks v).local) e ∙ ap (λ (y : Seat (Copy x.L)). y.local) h) refl
      controller_steps (Parted b) f e h = no_step (ap (λ v. (w.tasks v).local) e ∙ ap (λ (y : Seat (Copy x.L)). y.local) h) refl
      controller_steps Over f e h = absurd (true≢false (sym f ∙ runs))

      over_live : (s : Standing) → is_completed s ≡ true → is_live s ≡ false
      over_live Live h = absurd (true≢false (sym h))
      over_live Waiting h = refl
      over_live Queued h = refl
      over_live (Served by abnormal) h = refl
      over_live Completed h = refl
      over_live Killed h = refl

      pub who_steps : Steps t
      who_steps = ⊎_elim
          (λ (m : t < x.p.size). own_steps (place stage t) refl m (inv.seats t m))
          (λ (m : x.p.size ≤ t). ⊎_elim
          (λ (k : t < suc x.p.size). controller_steps stage inv.fits (omega (arith, m, k)) inv.controls)
          (λ (k : suc x.p.size ≤ t). ⊎_elim
          (λ (j : t < suc (suc x.p.size)). let e : t ≡ idle x = omega (arith, k, j) in
          no_step (ap (λ v. (w.tasks v).local) e ∙ ap (λ (y : Seat (Copy x.L)). y.local) inv.idles) refl)
          (λ (j : suc (suc x.p.size) ≤ t). not_live refl (over_live (w.tasks t).standing (inv.beyond t j)))
          (cases_lt t (suc (suc x.p.size))))
          (cases_lt t (suc x.p.size)))
          (cases_lt t x.p.size)

    -- the state of the original under it is fine
    pub steps_fine : (t : ℕ) → (w.tasks t).standing ≡ Live → copy_steps x.p.ops x.n (w.tasks t).local ≡ true → IsFine x (w.tasks t).local
    steps_fine t free can =
        let k = who_steps t free can in
        let image_t : image x w.tasks t ≡ live k.l = image_live x w.tasks t (Based t k.l) k.below k.at in
        subst (λ (y : Seat (Copy x.L)). IsFine x y.local) (sym k.at)
        (subst (λ (y : Seat x.L). x.Fine y.local) image_t (reached_fine x past (image_world x w) inv.reached runs t k.below (ap (λ (y : Seat x.L). y.standing) image_t)))

    -- it is one of the original
    pub step_image : (t : ℕ) (k : Steps t) → image x (put w.tasks t (live (copy_stepped x.p.ops x.n (w.tasks t).local))) ≡ put (image x w.tasks) t (live (x.p.ops.stepped (image x w.tasks t).local))
    step_image t k = image_freed x w.tasks t (copy_stepped x.p.ops x.n (w.tasks t).local) x.p.ops.stepped k.below
        (ap (λ (y : Seat (Copy x.L)). under x.p.ops.nobody (copy_stepped x.p.ops x.n y.local)) k.at ∙ ap (λ (y : Seat (Copy x.L)). x.p.ops.stepped (under x.p.ops.nobody y.local)) (sym k.at))

    -- the original makes the same local step
    pub step_inv : (t : ℕ) → Steps t → Inv x past rest stage (moved (twin x) w (Step t))
    step_inv t k = record {
      splits = inv.splits;
      reached = subst (IsReached x past) (λ i. record { tasks = sym is i; ended = w.ended })
          (reach_step x past (image_world x w) t inv.reached (both (ap not runs) (both (ap (λ (y : Seat x.L). is_live y.standing) image_t) (ap (λ (y : Seat x.L). x.p.ops.can_step y.local) image_t ∙ k.can))));
      fits = fits stage inv.fits;
      controls = subst (ControlAt x (after_all x past) rest stage) (sym (put_other w.tasks t (control x) (live next) (unequal_above (control x) t k.below))) inv.controls;
      idles = put_other w.tasks t (idle x) (live next) (unequal_above (idle x) t (let m = k.below in omega (arith, m))) ∙ inv.idles;
      seats = λ u m. put_each (λ v seat. SeatAt x (place stage v) v seat) w.tasks t (live next) u
          (λ q. subst (λ pl. SeatAt x pl u (live next)) (sym (ap (λ v. place stage v) (eqb-true u t q) ∙ k.away))
          (x.p.ops.stepped k.l, stepped ∙ ap (λ v. Based v (x.p.ops.stepped k.l)) (sym (eqb-true u t q))))
          (λ q. inv.seats u m);
      beyond = λ u m. ap (λ (y : Seat (Copy x.L)). is_completed y.standing) (put_other w.tasks t u (live next) (unequal_above u t (let n = k.below in omega (arith, m, n)))) ∙ inv.beyond u m;
    }
      where
        next : Copy x.L
        next = copy_stepped x.p.ops x.n (w.tasks t).local

        stepped : next ≡ Based t (x.p.ops.stepped k.l)
        stepped = ap (λ (y : Seat (Copy x.L)). copy_stepped x.p.ops x.n y.local) k.at

        image_t : image x w.tasks t ≡ live k.l
        image_t = image_live x w.tasks t (Based t k.l) k.below k.at

        is : image x (put w.tasks t (live next)) ≡ put (image x w.tasks) t (live (x.p.ops.stepped (image x w.tasks t).local))
        is = step_image t k

        fits : (st : Stage) → Fits x (after_all x past) rest st w → Fits x (after_all x past) rest st (record { tasks = put w.tasks t (live next); ended = w.ended })
        fits Held f = f
        fits (Giving e tail given more) f = f
        fits (Asked e tail given b more) f = f
        fits (Acted b) f = f
        fits (Told b) f = f
        fits (Parted b) f = (f.0, f.1, ap is_completed (freed_standing (twin x) w.tasks t (λ v. copy_stepped x.p.ops x.n v) (ap (λ (y : Seat (Copy x.L)). y.standing) k.at) b) ∙ f.2)
        fits Over f = f

    -- ---- all moves

    pub event_moves : (e : Event) → happens (twin x) w.tasks e ≡ true → Moves x past w e
    event_moves (R c e i) h = meet_moves x past rest stage w inv runs c e i h
    event_moves (E a) h = finish_moves x past rest stage w inv runs a h
    event_moves (S a) h = else_moves x past rest stage w inv runs a h
    event_moves (D a k) h = delay_moves x past rest stage w inv runs a k h
    event_moves (C c e i) h = call_else_moves x past rest stage w inv runs c e i h
    event_moves (T c e i) h = expire_moves x past rest stage w inv runs c e i h
    event_moves (F c e i) h = fail_moves x past rest stage w inv runs c e i h
    event_moves (X a) h = complete_moves x past rest stage w inv runs a h
    event_moves (B t v) h = abort_moves x past rest stage w inv runs t v h
    event_moves Z h = last_moves x past rest w runs stage inv h

  -- A move of the copy.
  pub match_move : (past rest : List Event) (stage : Stage) (w : World (Copy x.L)) → Inv x past rest stage w → (move : Move) → can_move (twin x) w move ≡ true →
      Matched x (past ++ backs x (happened (move ∷ []))) (moved (twin x) w move)
  match_move past rest stage w inv (Step t) h =
      let k = and_parts (not w.ended) (is_live (w.tasks t).standing && copy_steps x.p.ops x.n (w.tasks t).local) h in
      let l = and_parts (is_live (w.tasks t).standing) (copy_steps x.p.ops x.n (w.tasks t).local) k.1 in
      let runs : w.ended ≡ false = not_true w.ended k.0 in
      record {
        rest = rest;
        stage = stage;
        inv = subst (λ es. Inv x es rest stage (moved (twin x) w (Step t))) (sym (append-nil past))
            (step_inv past rest stage w inv runs t (who_steps past rest stage w inv runs t (is-Live (w.tasks t).standing l.0) l.1));
      }
  match_move past rest stage w inv (Happen e) h =
      let k = and_parts (not w.ended) (happens (twin x) w.tasks e) h in
      (event_moves past rest stage w inv (not_true w.ended k.0) e k.1).1
