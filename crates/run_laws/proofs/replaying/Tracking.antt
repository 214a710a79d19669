-- A run of a rewritten program is tracked by its copy from the start on: what it shows is a prefix of the sequence, and a run of the original.
use Rattle.std.proofs.Common.{◌≡◌, ℕ, zero, suc, ◌<◌, ◌≤◌, Bool, true, false, not, ◌&&◌, ◌||◌, ◌==◌, if◌then◌else◌, List, [], ◌∷◌, ◌++◌, append-nil, append_assoc, Option, Some, None, refl, sym, ap, ◌∙◌, subst, ⊎_elim, true≢false, arith}
use Rattle.std.specs.Prelude.{nat_lt}
use Rattle.std.specs.List.{cons_option}
use Rattle.std.proofs.lemmas.Bool.{eqb-true, and_parts, cases_lt, ltb-true}
use Rattle.event_machine.specs.declared.Standing.TheVariants.{Live}
use Rattle.event_machine.specs.declared.Action.{Action}
use Rattle.event_machine.specs.declared.Event.{Event}
use Rattle.event_machine.specs.States.{Ops, Seat, State, live, completed, is_live, is_completed}
use Rattle.event_machine.specs.Runs.{IsRun, end_of, events_of}
use Rattle.event_machine.specs.Programs.{Program, numbered}
use Rattle.event_machine.specs.Worlds.{World, Move, Step, Happen, still, still_seat, world_of, state_of, can_move, moved, happens, happened, is_last, AreMoves, world_after}
use Rattle.event_machine.specs.Laws.{IsErased, IsLifted}
use Rattle.event_machine.proofs.Standings.{is-Live}
use Rattle.event_machine.proofs.Appends.{happened_append}
use Rattle.event_machine.proofs.Erasing.{erasing}
use Rattle.event_machine.proofs.Lifting.{lifting}
use Rattle.event_machine.proofs.Reaching.{start_still}
use Rattle.run_laws.specs.replaying.Copies.{Copy, Based, Holding, Saying, Controlling, Handing, Idling, copy_steps, copy_stepped, is_own, under, written}
use Rattle.run_laws.specs.replaying.Rewritings.{Setting, start, control, idle, left, twin, start_copy, ReachesIn, Reaches, Imitates, OpensSo}
use Rattle.run_laws.specs.replaying.Laws.{back, backs, shown, IsReplay, Replays}
use Rattle.run_laws.specs.replaying.inner.Stages.{IsReached, image_seat, image_world, Stage, Away, place, SeatAt, ControlAt, Inv}
use Rattle.run_laws.proofs.replaying.Facts.{put}
use Rattle.run_laws.proofs.replaying.Images.{image_at}
use Rattle.run_laws.proofs.replaying.Reached.{after_all, base, reach_start}
use Rattle.run_laws.proofs.replaying.Parting.{Next, next}
use Rattle.run_laws.proofs.replaying.Standing.{seat_own}
use Rattle.run_laws.proofs.replaying.Matching.{who_steps, steps_fine, step_inv, event_moves}
use Rattle.run_laws.proofs.replaying.Alike.{rewritten, LocalsAt, IsAlike, AreAlike, locals_output, happens_too, freed_alike, acts_alike}
use Rattle.common_lemmas.proofs.Numbers.{equal_self, lt_false, lt_true, unequal_above}
use Rattle.common_lemmas.proofs.Truth.{not_true}

pub backs_append : (x : Setting) (xs ys : List Event) → backs x (xs ++ ys) ≡ backs x xs ++ backs x ys
backs_append x [] ys = refl
backs_append x (e ∷ xs) ys = ap (cons_option (back x e)) (backs_append x xs ys) ∙ go (back x e)
  where
    go : (o : Option Event) → cons_option o (backs x xs ++ backs x ys) ≡ cons_option o (backs x xs) ++ backs x ys
    go None = refl
    go (Some f) = refl

written_own : {L : Type 0} (out : L → List ℕ) (nobody : L) (k : Copy L) → is_own k ≡ true → written out k ≡ out (under nobody k)
written_own out nobody (Based t l) h = refl
written_own out nobody (Holding t permit l) h = refl
written_own out nobody (Saying t l) h = refl
written_own out nobody (Controlling ops) h = absurd (true≢false (sym h))
written_own out nobody (Handing op ops) h = absurd (true≢false (sym h))
written_own out nobody Idling h = absurd (true≢false (sym h))

-- ---- the copy at the start

module _ (x : Setting) where
  pub start_own : (t : ℕ) → t < x.p.size → start_copy x t ≡ live (Based t (x.opening.seats t).local)
  start_own t m = ap (λ b. if b then live (Based t (x.opening.seats t).local)
      else (if t == control x then live (Controlling (left x x.progress.start x.s)) else (if t == idle x then live Idling else completed Idling))) (lt_true t x.p.size m)

  start_other : (t : ℕ) → x.p.size ≤ t → start_copy x t ≡ (if t == control x then live (Controlling (left x x.progress.start x.s)) else (if t == idle x then live Idling else completed Idling))
  start_other t m = ap (λ b. if b then live (Based t (x.opening.seats t).local)
      else (if t == control x then live (Controlling (left x x.progress.start x.s)) else (if t == idle x then live Idling else completed Idling))) (lt_false t x.p.size m)

  pub start_control : start_copy x (control x) ≡ live (Controlling (left x x.progress.start x.s))
  start_control = start_other (control x) (omega arith) ∙
      ap (λ b. if b then live (Controlling (left x x.progress.start x.s)) else (if control x == idle x then live Idling else completed Idling)) (equal_self (control x))

  pub start_idle : start_copy x (idle x) ≡ live Idling
  start_idle = start_other (idle x) (omega arith) ∙
      ap (λ b. if b then live (Controlling (left x x.progress.start x.s)) else (if idle x == idle x then live Idling else completed Idling)) (unequal_above (idle x) (control x) (omega arith)) ∙
      ap (λ b. if b then live Idling else completed Idling) (equal_self (idle x))

  pub start_past : (t : ℕ) → suc (suc x.p.size) ≤ t → start_copy x t ≡ completed Idling
  start_past t m = start_other t (omega (arith, m)) ∙
      ap (λ b. if b then live (Controlling (left x x.progress.start x.s)) else (if t == idle x then live Idling else completed Idling)) (unequal_above t (control x) (omega (arith, m))) ∙
      ap (λ b. if b then live Idling else completed Idling) (unequal_above t (idle x) (omega (arith, m)))

  abbrev pub start_world : World (Copy x.L)
  start_world = record { tasks = start_copy x; ended = false }

  start_image : image_world x start_world ≡ start x
  start_image = λ i. record { tasks = λ u. go u (nat_lt u x.p.size) refl i; ended = sym x.opens_so.ended i }
    where
      go : (u : ℕ) (b : Bool) → nat_lt u x.p.size ≡ b → (if b then image_seat x (start_copy x u) else (start x).tasks u) ≡ (start x).tasks u
      go u true q =
          let m : u < x.p.size = ltb-true u x.p.size q in
          ap (image_seat x) (start_own u m) ∙ ap (λ s. record { local = (x.opening.seats u).local; standing = still s }) (sym (x.opens_so.live u m))
      go u false q = refl

  abbrev pub start_next : Next x (after_all x []) x.s
  start_next = next x (after_all x []) x.s

  pub start_inv : Inv x [] x.s start_next.stage start_world
  start_inv = record {
    splits = refl;
    reached = subst (IsReached x []) (sym start_image) (reach_start x);
    fits = start_next.fits start_world refl;
    controls = subst (ControlAt x (after_all x []) x.s start_next.stage) (sym start_control) start_next.controls;
    idles = start_idle;
    seats = λ t m. subst (λ pl. SeatAt x pl t (start_copy x t)) (sym (start_next.away t))
        (subst (SeatAt x Away t) (sym (start_own t m)) ((x.opening.seats t).local, refl));
    beyond = λ t m. ap (λ (y : Seat (Copy x.L)). is_completed y.standing) (start_past t m);
  }

  -- ---- runs

  module _ {K : Type 0} (ops : Ops K) (out : K → List ℕ) (Meets : K → Copy x.L → Type 0) (imitates : Imitates x ops out Meets) where
    -- The copy of a world that has shown these events.
    pub record Tracks (past : List Event) (v : World K) : Type 0 where
      pub rest : List Event
      pub stage : Stage
      pub w : World (Copy x.L)
      pub inv : Inv x past rest stage w
      pub alike : AreAlike x ops out Meets imitates v.tasks w.tasks
      pub ended : v.ended ≡ w.ended

    abbrev pub program : Program K
    program = rewritten x ops out Meets imitates

    -- a local step towards what the copy is
    nearer : (past : List Event) (v : World K) (t : ℕ) (k : Tracks past v) (n : ℕ) → (k.w.tasks t).standing ≡ Live → ReachesIn x ops out Meets n (ops.stepped (v.tasks t).local) (k.w.tasks t).local →
        Tracks past (moved program v (Step t))
    nearer past v t k n free h = record { rest = k.rest; stage = k.stage; w = k.w; inv = k.inv; alike = alike; ended = k.ended }
      where
        alike : AreAlike x ops out Meets imitates (put v.tasks t (live (ops.stepped (v.tasks t).local))) k.w.tasks
        alike u = go (u == t) refl
          where
            go : (b : Bool) → (u == t) ≡ b → IsAlike x ops out Meets imitates (if b then live (ops.stepped (v.tasks t).local) else v.tasks u) (k.w.tasks u)
            go true q =
                let e : k.w.tasks t ≡ k.w.tasks u = ap k.w.tasks (sym (eqb-true u t q)) in
                subst (IsAlike x ops out Meets imitates (live (ops.stepped (v.tasks t).local))) e
                (record { standing = sym free; locals = subst (λ s. LocalsAt x ops out Meets imitates s (ops.stepped (v.tasks t).local) (k.w.tasks t).local) (sym free) (n, h) })
            go false q = k.alike u

    -- the step that the copy makes too
    with_copy : (past : List Event) (v : World K) (t : ℕ) (k : Tracks past v) → v.ended ≡ false → (k.w.tasks t).standing ≡ Live → Meets (v.tasks t).local (k.w.tasks t).local → ops.can_step (v.tasks t).local ≡ true →
        Tracks past (moved program v (Step t))
    with_copy past v t k runs free meets can = go (copy_steps x.p.ops x.n (k.w.tasks t).local) refl
      where
        go : (b : Bool) → copy_steps x.p.ops x.n (k.w.tasks t).local ≡ b → Tracks past (moved program v (Step t))
        go true q = record {
          rest = k.rest;
          stage = k.stage;
          w = moved (twin x) k.w (Step t);
          inv = step_inv x past k.rest k.stage k.w k.inv (sym k.ended ∙ runs) t (who_steps x past k.rest k.stage k.w k.inv (sym k.ended ∙ runs) t free q);
          alike = freed_alike x ops out Meets imitates v.tasks k.w.tasks t (ops.stepped (v.tasks t).local) (copy_stepped x.p.ops x.n (k.w.tasks t).local) k.alike
              (imitates.steps (v.tasks t).local (k.w.tasks t).local meets (steps_fine x past k.rest k.stage k.w k.inv (sym k.ended ∙ runs) t free q) q).1;
          ended = k.ended;
        }
        go false q = absurd (true≢false (sym can ∙ (imitates.offers (v.tasks t).local (k.w.tasks t).local meets q).0))

    pub track_move : (past : List Event) (v : World K) (move : Move) → Tracks past v → can_move program v move ≡ true → Tracks (past ++ backs x (happened (move ∷ []))) (moved program v move)
    track_move past v (Step t) k h = subst (λ es. Tracks es (moved program v (Step t))) (sym (append-nil past)) (go reach.0 reach.1)
      where
        parts : (not v.ended ≡ true) × ((is_live (v.tasks t).standing && ops.can_step (v.tasks t).local) ≡ true)
        parts = and_parts (not v.ended) (is_live (v.tasks t).standing && ops.can_step (v.tasks t).local) h

        more : (is_live (v.tasks t).standing ≡ true) × (ops.can_step (v.tasks t).local ≡ true)
        more = and_parts (is_live (v.tasks t).standing) (ops.can_step (v.tasks t).local) parts.1

        free : (k.w.tasks t).standing ≡ Live
        free = sym (k.alike t).standing ∙ is-Live (v.tasks t).standing more.0

        reach : Reaches x ops out Meets (v.tasks t).local (k.w.tasks t).local
        reach = subst (λ s. LocalsAt x ops out Meets imitates s (v.tasks t).local (k.w.tasks t).local) free (k.alike t).locals

        go : (n : ℕ) → ReachesIn x ops out Meets n (v.tasks t).local (k.w.tasks t).local → Tracks past (moved program v (Step t))
        go zero r = with_copy past v t k (not_true v.ended parts.0) free r more.1
        go (suc n) r = nearer past v t k n free r.2
    track_move past v (Happen e) k h =
        let parts = and_parts (not v.ended) (happens program v.tasks e) h in
        let runs : k.w.ended ≡ false = sym k.ended ∙ not_true v.ended parts.0 in
        let fine = steps_fine x past k.rest k.stage k.w k.inv runs in
        let m = event_moves x past k.rest k.stage k.w k.inv runs e (happens_too x ops out Meets imitates v.tasks k.w.tasks k.alike fine e parts.1) in
        record {
          rest = m.1.rest;
          stage = m.1.stage;
          w = moved (twin x) k.w (Happen e);
          inv = m.1.inv;
          alike = acts_alike x ops out Meets imitates v.tasks k.w k.alike fine e parts.1 m.0;
          ended = ap (λ b. is_last e || b) k.ended;
        }

    pub track_moves : (moves : List Move) (past : List Event) (v : World K) → Tracks past v → AreMoves program v moves → Tracks (past ++ backs x (happened moves)) (world_after program v moves)
    track_moves [] past v k h = subst (λ es. Tracks es v) (sym (append-nil past)) k
    track_moves (move ∷ moves) past v k h =
        subst (λ es. Tracks es (world_after program (moved program v move) moves))
        (append_assoc past (backs x (happened (move ∷ []))) (backs x (happened moves)) ∙
        ap (λ es. past ++ es) (sym (backs_append x (happened (move ∷ [])) (happened moves)) ∙ ap (backs x) (sym (happened_append (move ∷ []) moves))))
        (track_moves moves (past ++ backs x (happened (move ∷ []))) (moved program v move) (track_move past v move k h.0) h.1)

    -- ---- from the start

    module _ (at : State (ℕ → Seat K)) (opens : OpensSo x ops out Meets at) where
      free_start : (t : ℕ) → t < suc (suc x.p.size) → (m : Copy x.L) → Reaches x ops out Meets (at.seats t).local m → IsAlike x ops out Meets imitates (still_seat (at.seats t)) (live m)
      free_start t l m h = record { standing = ap still (opens.standing t l); locals = h }

      start_alike : AreAlike x ops out Meets imitates (world_of at).tasks (start_copy x)
      start_alike t = ⊎_elim
          (λ (m : t < x.p.size). subst (IsAlike x ops out Meets imitates (still_seat (at.seats t))) (sym (start_own t m)) (free_start t (omega (arith, m)) (Based t (x.opening.seats t).local) (opens.tasks t m)))
          (λ (m : x.p.size ≤ t). ⊎_elim
          (λ (k : t < suc x.p.size). let e : control x ≡ t = omega (arith, m, k) in
          subst (λ u. IsAlike x ops out Meets imitates (still_seat (at.seats u)) (start_copy x u)) e
          (subst (IsAlike x ops out Meets imitates (still_seat (at.seats (control x)))) (sym start_control) (free_start (control x) (omega arith) (Controlling (left x x.progress.start x.s)) opens.controls)))
          (λ (k : suc x.p.size ≤ t). ⊎_elim
          (λ (j : t < suc (suc x.p.size)). let e : idle x ≡ t = omega (arith, k, j) in
          subst (λ u. IsAlike x ops out Meets imitates (still_seat (at.seats u)) (start_copy x u)) e
          (subst (IsAlike x ops out Meets imitates (still_seat (at.seats (idle x)))) (sym start_idle) (free_start (idle x) (omega arith) Idling opens.idles)))
          (λ (j : suc (suc x.p.size) ≤ t). subst (IsAlike x ops out Meets imitates (still_seat (at.seats t))) (sym (start_past t j)) (over t j))
          (cases_lt t (suc (suc x.p.size))))
          (cases_lt t (suc x.p.size)))
          (cases_lt t x.p.size)
        where
          over : (t : ℕ) → suc (suc x.p.size) ≤ t → IsAlike x ops out Meets imitates (still_seat (at.seats t)) (completed Idling)
          over t j = record { standing = ap still (opens.beyond t j); locals = λ own. absurd (true≢false (sym own)) }

      pub start_tracks : Tracks [] (world_of at)
      start_tracks = record { rest = x.s; stage = start_next.stage; w = start_world; inv = start_inv; alike = start_alike; ended = opens.ended }

      -- ---- what a run shows

      module _ (actions : List Action) (run : IsRun (numbered program) at actions) where
        erased : IsErased program at actions
        erased = erasing program at actions run

        -- the copy behind the run
        pub run_tracks : Tracks (shown x program out at actions) (world_of (end_of (numbered program) at actions))
        run_tracks = subst (Tracks (shown x program out at actions)) erased.ends
            (subst (λ es. Tracks es (world_after program (world_of at) erased.moves)) (ap (backs x) erased.events)
            (track_moves erased.moves [] (world_of at) start_tracks erased.made))

        -- the run of the original
        pub lifted : IsLifted x.p (start x) run_tracks.inv.reached.moves
        lifted = lifting x.p (start x) run_tracks.inv.reached.moves (base x).still' run_tracks.inv.reached.made

        opening_is : state_of (start x) ≡ x.opening
        opening_is = λ i. record {
          seats = λ t. record { local = (x.opening.seats t).local; standing = start_still x.p x.IsProper x.lawful x.opening x.opens_so x.proper t i };
          line = sym x.opens_so.line i;
          ended = x.opening.ended;
        }

        -- the original's world behind it is that of the copy
        pub original_world : world_of (end_of (numbered x.p) x.opening lifted.actions) ≡ image_world x run_tracks.w
        original_world = ap (λ s. world_of (end_of (numbered x.p) s lifted.actions)) (sym opening_is) ∙ lifted.world ∙ run_tracks.inv.reached.ends

        -- the original's tasks behind it are those of the copy
        same_task : (t : ℕ) → (end_of (numbered x.p) (state_of (start x)) lifted.actions).seats t ≡ (end_of (numbered x.p) x.opening lifted.actions).seats t
        same_task t = ap (λ s. (end_of (numbered x.p) s lifted.actions).seats t) opening_is

        under_task : (t : ℕ) → t < x.p.size → ((end_of (numbered x.p) x.opening lifted.actions).seats t).local ≡ under x.p.ops.nobody (run_tracks.w.tasks t).local
        under_task t m = ap (λ (y : Seat x.L). y.local) (sym (same_task t)) ∙ ap (λ (v : World x.L). (v.tasks t).local) (lifted.world ∙ run_tracks.inv.reached.ends) ∙
            ap (λ (y : Seat x.L). y.local) (image_at x t (run_tracks.w.tasks t) m)

        pub same_output : (t : ℕ) → t < x.p.size →
            out ((end_of (numbered program) at actions).seats t).local ≡ x.out ((end_of (numbered x.p) x.opening lifted.actions).seats t).local
        same_output t m =
            let own : is_own (run_tracks.w.tasks t).local ≡ true = seat_own x (place run_tracks.stage t) t (run_tracks.w.tasks t) (run_tracks.inv.seats t m) in
            locals_output x ops out Meets imitates (run_tracks.w.tasks t).standing ((end_of (numbered program) at actions).seats t).local (run_tracks.w.tasks t).local (run_tracks.alike t).locals own ∙
            written_own x.out x.p.ops.nobody (run_tracks.w.tasks t).local own ∙ ap x.out (sym (under_task t m))

        pub original_run : IsRun (numbered x.p) x.opening lifted.actions
        original_run = subst (λ s. IsRun (numbered x.p) s lifted.actions) opening_is lifted.applies

        pub original_events : events_of (numbered x.p) x.opening lifted.actions ≡ shown x program out at actions
        original_events = ap (λ s. events_of (numbered x.p) s lifted.actions) (sym opening_is) ∙ lifted.events ∙ run_tracks.inv.reached.happens

        pub is_replay : IsReplay x program out at actions
        is_replay = record {
          original = lifted.actions;
          applies = original_run;
          events = original_events;
          rest = run_tracks.rest;
          prefix = run_tracks.inv.splits;
          outputs = same_output;
        }

      pub replays : Replays x program out at
      replays actions run = is_replay actions run
