-- Where no action applies any more the run has gone as far as the sequence is feasible, and each task that is not killed has the original's output.
use Rattle.std.proofs.Common.{◌≡◌, ℕ, zero, suc, pred, ◌<◌, Bool, true, false, not, ◌&&◌, List, [], ◌∷◌, ◌++◌, refl, sym, ap, ◌∙◌, subst, ⊎_elim, true≢false, arith}
use Rattle.std.specs.Prelude.{pos}
use Rattle.std.proofs.lemmas.Bool.{and_parts, le-leb, cases_Bool}
use Rattle.event_machine.specs.declared.Standing.TheVariants.{Live}
use Rattle.event_machine.specs.declared.Action.{Action}
use Rattle.event_machine.specs.declared.Action.TheVariants.{Local}
use Rattle.event_machine.specs.declared.Event.{Event}
use Rattle.event_machine.specs.declared.Event.TheVariants.{R, E, S, D, C, T, F, X, B, Z}
use Rattle.event_machine.specs.States.{Ops, Seat, State, is_live}
use Rattle.event_machine.specs.Applying.{can}
use Rattle.event_machine.specs.Runs.{IsRun, end_of, events_of}
use Rattle.event_machine.specs.Programs.{Program, numbered}
use Rattle.event_machine.specs.Tallies.{tallies, ComesTo}
use Rattle.event_machine.specs.Laws.{IsQuiet}
use Rattle.event_machine.specs.Worlds.{World, Move, Step, Happen, still, world_of, can_move, moved, happens, happened, AreMoves, world_after}
use Rattle.event_machine.proofs.Basics.{both}
use Rattle.event_machine.proofs.Standings.{is-Live}
use Rattle.event_machine.proofs.Following.{happens_rest}
use Rattle.event_machine.proofs.Determining.{determinacy, killed_by_events}
use Rattle.run_laws.specs.replaying.Copies.{Copy, copy_steps}
use Rattle.run_laws.specs.replaying.Rewritings.{Setting, start, control, twin, ReachesIn, Reaches, Imitates, OpensSo}
use Rattle.run_laws.specs.replaying.Laws.{backs, shown, IsStuck, GoesOn, EndsQuiet, EndsWhole}
use Rattle.run_laws.specs.replaying.inner.Stages.{image, image_world, Stage, Held, Giving, Asked, Acted, Told, Parted, Over, Inv}
use Rattle.run_laws.proofs.replaying.Parting.{IsReady}
use Rattle.run_laws.proofs.replaying.Failing.{live_below}
use Rattle.run_laws.proofs.replaying.Steering.{tell, hear, take, join, steps_too}
use Rattle.run_laws.proofs.replaying.Alike.{rewritten, LocalsAt}
use Rattle.run_laws.proofs.replaying.Arriving.{Had, had, had_step}
use Rattle.run_laws.proofs.replaying.Tracking.{Tracks, run_tracks, lifted, original_run, original_events, original_world, same_output}
use Rattle.run_laws.proofs.replaying.Matching.{steps_fine}
use Rattle.run_laws.proofs.replaying.Catching.{follow_moves_of}
use Rattle.run_laws.proofs.replaying.Continuing.{tracked_tidy, suited_there, lined_there, goes_on_there}
use Rattle.common_lemmas.proofs.Truth.{not_true}

module _ (x : Setting) where
  -- ---- the original at rest

  -- where the program has ended its tasks rest
  rests_over : (moves : List Move) (d : World x.L) → AreMoves x.p d moves → d.ended ≡ false → (world_after x.p d moves).ended ≡ true → (t : ℕ) → t < x.p.size →
      ((world_after x.p d moves).tasks t).standing ≡ Live → x.p.ops.can_step ((world_after x.p d moves).tasks t).local ≡ false
  rests_over [] d h runs over t m free = absurd (true≢false (sym over ∙ runs))
  rests_over (Step u ∷ moves) d h runs over t m free = rests_over moves (moved x.p d (Step u)) h.1 runs over t m free
  rests_over (Happen (R c e i) ∷ moves) d h runs over t m free = rests_over moves (moved x.p d (Happen (R c e i))) h.1 runs over t m free
  rests_over (Happen (E a) ∷ moves) d h runs over t m free = rests_over moves (moved x.p d (Happen (E a))) h.1 runs over t m free
  rests_over (Happen (S a) ∷ moves) d h runs over t m free = rests_over moves (moved x.p d (Happen (S a))) h.1 runs over t m free
  rests_over (Happen (D a k) ∷ moves) d h runs over t m free = rests_over moves (moved x.p d (Happen (D a k))) h.1 runs over t m free
  rests_over (Happen (C c e i) ∷ moves) d h runs over t m free = rests_over moves (moved x.p d (Happen (C c e i))) h.1 runs over t m free
  rests_over (Happen (T c e i) ∷ moves) d h runs over t m free = rests_over moves (moved x.p d (Happen (T c e i))) h.1 runs over t m free
  rests_over (Happen (F c e i) ∷ moves) d h runs over t m free = rests_over moves (moved x.p d (Happen (F c e i))) h.1 runs over t m free
  rests_over (Happen (X a) ∷ moves) d h runs over t m free = rests_over moves (moved x.p d (Happen (X a))) h.1 runs over t m free
  rests_over (Happen (B u v) ∷ moves) d h runs over t m free = rests_over moves (moved x.p d (Happen (B u v))) h.1 runs over t m free
  rests_over (Happen Z ∷ []) d h runs over t m free = happens_rest x.p x.IsProper x.lawful Z d.tasks (and_parts (not d.ended) (happens x.p d.tasks Z) h.0).1 t (le-leb t (pred x.p.size) (omega (arith, m))) free
  rests_over (Happen Z ∷ (Step u ∷ moves)) d h runs over t m free = absurd (true≢false (sym h.1.0))
  rests_over (Happen Z ∷ (Happen e ∷ moves)) d h runs over t m free = absurd (true≢false (sym h.1.0))

  -- where the copy has no move the original rests
  image_rests : (past rest : List Event) (stage : Stage) (w : World (Copy x.L)) → Inv x past rest stage w → w.ended ≡ false → ((move : Move) → can_move (twin x) w move ≡ true → ⊥) → (t : ℕ) →
      (image x w.tasks t).standing ≡ Live → x.p.ops.can_step (image x w.tasks t).local ≡ false
  image_rests past rest stage w inv runs none t free = ready stage inv
    where
      calm : (st : Stage) → IsReady st → Inv x past rest st w → x.p.ops.can_step (image x w.tasks t).local ≡ false
      calm st r i = go (x.p.ops.can_step (image x w.tasks t).local) refl
        where
          go : (b : Bool) → x.p.ops.can_step (image x w.tasks t).local ≡ b → x.p.ops.can_step (image x w.tasks t).local ≡ false
          go true q =
              let k = steps_too x past rest st w i runs r t free q in
              absurd (none (Step t) (both (ap not runs) (both (ap (λ (y : Seat (Copy x.L)). is_live y.standing) k.at) (ap (λ (y : Seat (Copy x.L)). copy_steps x.p.ops x.n y.local) k.at ∙ k.can))))
          go false q = q

      ready : (st : Stage) → Inv x past rest st w → x.p.ops.can_step (image x w.tasks t).local ≡ false
      ready Held i = calm Held tt i
      ready (Giving e tail given more) i = calm (Giving e tail given more) tt i
      ready (Asked e tail given b more) i = absurd (none (Happen (E (control x))) (take x past rest e tail given b more w i).can)
      ready (Acted a) i = absurd (none (Happen (R a x.n.done (pos a))) (tell x past rest a w i).can)
      ready (Told a) i = absurd (none (Happen (E (control x))) (hear x past rest a w i).can)
      ready (Parted a) i = absurd (none (Happen (F (control x) (x.n.join a) (pos 0))) (join x past rest a w i).can)
      ready Over i = absurd (true≢false (sym i.fits ∙ runs))

  module _ {K : Type 0} (ops : Ops K) (out : K → List ℕ) (Meets : K → Copy x.L → Type 0) (imitates : Imitates x ops out Meets) (at : State (ℕ → Seat K)) (opens : OpensSo x ops out Meets at) where
    abbrev program : Program K
    program = rewritten x ops out Meets imitates

    module _ (actions : List Action) (run : IsRun (numbered program) at actions) (stuck : IsStuck x program out at (end_of (numbered program) at actions)) where
      -- some action has to be the first
      first_stuck : (more : List Action) (events : List Event) (e : Event) → IsRun (numbered program) (end_of (numbered program) at actions) more → events ≡ e ∷ [] →
          (more ≡ [] → events ≡ []) → ⊥
      first_stuck [] events e h q k = let r : ◌≡◌ {A = List Event} [] (e ∷ []) = sym (k refl) ∙ q in cc
      first_stuck (action ∷ more) events e h q k = stuck action h.0

      module _ (k : Tracks x ops out Meets imitates (shown x program out at actions) (world_of (end_of (numbered program) at actions))) where
        -- the rewritten program has no move
        no_move : (move : Move) → can_move program (world_of (end_of (numbered program) at actions)) move ≡ true → ⊥
        no_move (Step t) h =
            let runs : (end_of (numbered program) at actions).ended ≡ false = not_true (end_of (numbered program) at actions).ended
            (and_parts (not (end_of (numbered program) at actions).ended) (is_live ((world_of (end_of (numbered program) at actions)).tasks t).standing && ops.can_step ((end_of (numbered program) at actions).seats t).local) h).0 in
            stuck (Local t) (had_step program imitates.rests (end_of (numbered program) at actions) (suited_there x ops out Meets imitates at opens actions run) (lined_there x ops out Meets imitates at opens actions run) runs t h)
        no_move (Happen e) h =
            let parts = and_parts (not (end_of (numbered program) at actions).ended) (happens program (world_of (end_of (numbered program) at actions)).tasks e) h in
            let runs : (end_of (numbered program) at actions).ended ≡ false = not_true (end_of (numbered program) at actions).ended parts.0 in
            let a : Had program imitates.rests (end_of (numbered program) at actions) e =
            had program imitates.rests (end_of (numbered program) at actions) (suited_there x ops out Meets imitates at opens actions run) (lined_there x ops out Meets imitates at opens actions run) runs
            (tracked_tidy x ops out Meets imitates (shown x program out at actions) (world_of (end_of (numbered program) at actions)) k runs) e parts.1 in
            first_stuck a.actions (events_of (numbered program) (end_of (numbered program) at actions) a.actions) e a.run a.events
            (λ q. ap (λ more. events_of (numbered program) (end_of (numbered program) at actions) more) q)

        -- nor its copy
        no_copy_move : (move : Move) → can_move (twin x) k.w move ≡ true → ⊥
        no_copy_move (Step t) h = go reach.0 reach.1
          where
            parts : (not k.w.ended ≡ true) × ((is_live (k.w.tasks t).standing && copy_steps x.p.ops x.n (k.w.tasks t).local) ≡ true)
            parts = and_parts (not k.w.ended) (is_live (k.w.tasks t).standing && copy_steps x.p.ops x.n (k.w.tasks t).local) h

            more : (is_live (k.w.tasks t).standing ≡ true) × (copy_steps x.p.ops x.n (k.w.tasks t).local ≡ true)
            more = and_parts (is_live (k.w.tasks t).standing) (copy_steps x.p.ops x.n (k.w.tasks t).local) parts.1

            free : (k.w.tasks t).standing ≡ Live
            free = is-Live (k.w.tasks t).standing more.0

            reach : Reaches x ops out Meets ((world_of (end_of (numbered program) at actions)).tasks t).local (k.w.tasks t).local
            reach = subst (λ s. LocalsAt x ops out Meets imitates s ((world_of (end_of (numbered program) at actions)).tasks t).local (k.w.tasks t).local) free (k.alike t).locals

            steps : ops.can_step ((world_of (end_of (numbered program) at actions)).tasks t).local ≡ true → ⊥
            steps can = no_move (Step t) (both (ap not (k.ended ∙ not_true k.w.ended parts.0)) (both (ap is_live ((k.alike t).standing ∙ free)) can))

            go : (n : ℕ) → ReachesIn x ops out Meets n ((world_of (end_of (numbered program) at actions)).tasks t).local (k.w.tasks t).local → ⊥
            go zero r = steps (imitates.steps ((world_of (end_of (numbered program) at actions)).tasks t).local (k.w.tasks t).local r
                (steps_fine x (shown x program out at actions) k.rest k.stage k.w k.inv (not_true k.w.ended parts.0) t free more.1) more.1).0
            go (suc n) r = steps r.0
        no_copy_move (Happen e) h =
            let f = follow_moves_of x ops out Meets imitates (Happen e ∷ []) (shown x program out at actions) k.rest k.stage (world_of (end_of (numbered program) at actions)) k.w k.inv k.alike k.ended (h, tt) in
            first f.moves f.made f.same
          where
            first : (moves : List Move) → AreMoves program (world_of (end_of (numbered program) at actions)) moves → happened moves ≡ e ∷ [] → ⊥
            first [] made q = let r : ◌≡◌ {A = List Event} [] (e ∷ []) = q in cc
            first (move ∷ moves) made q = no_move move made.0

      -- the run of the original is quiet
      the_quiet : IsQuiet x.p.ops (end_of (numbered x.p) x.opening (lifted x ops out Meets imitates at opens actions run).actions).seats
      the_quiet t free = ap x.p.ops.can_step (ap (λ (v : World x.L). (v.tasks t).local) world) ∙ rests
        where
          k : Tracks x ops out Meets imitates (shown x program out at actions) (world_of (end_of (numbered program) at actions))
          k = run_tracks x ops out Meets imitates at opens actions run

          world : world_of (end_of (numbered x.p) x.opening (lifted x ops out Meets imitates at opens actions run).actions) ≡ image_world x (run_tracks x ops out Meets imitates at opens actions run).w
          world = original_world x ops out Meets imitates at opens actions run

          image_free : (image x (run_tracks x ops out Meets imitates at opens actions run).w.tasks t).standing ≡ Live
          image_free = ap (λ (v : World x.L). (v.tasks t).standing) (sym world) ∙
              ap still (is-Live ((end_of (numbered x.p) x.opening (lifted x ops out Meets imitates at opens actions run).actions).seats t).standing free)

          rests : x.p.ops.can_step (image x (run_tracks x ops out Meets imitates at opens actions run).w.tasks t).local ≡ false
          rests = ⊎_elim over running (cases_Bool k.w.ended)
            where
              over : k.w.ended ≡ true → x.p.ops.can_step (image x (run_tracks x ops out Meets imitates at opens actions run).w.tasks t).local ≡ false
              over q =
                  let r = k.inv.reached in
                  subst (λ (v : World x.L). v.ended ≡ true → (v.tasks t).standing ≡ Live → x.p.ops.can_step (v.tasks t).local ≡ false) r.ends
                  (λ e f. rests_over r.moves (start x) r.made x.opens_so.ended e t (live_below x k.w t image_free) f) q image_free

              running : k.w.ended ≡ false → x.p.ops.can_step (image x (run_tracks x ops out Meets imitates at opens actions run).w.tasks t).local ≡ false
              running q = image_rests (shown x program out at actions) k.rest k.stage k.w k.inv q (no_copy_move k) t image_free

      comes_there : ComesTo (numbered x.p) x.opening (shown x program out at actions) (end_of (numbered x.p) x.opening (lifted x ops out Meets imitates at opens actions run).actions).seats
          (tallies (numbered x.p) x.opening (lifted x ops out Meets imitates at opens actions run).actions (λ u. 0))
      comes_there = record {
        actions = (lifted x ops out Meets imitates at opens actions run).actions;
        applies = original_run x ops out Meets imitates at opens actions run;
        has_events = original_events x ops out Meets imitates at opens actions run;
        leaves = λ t. refl;
        counts = λ t. refl;
      }

      pub ends_quiet : EndsQuiet x program out at actions
      ends_quiet = record {
        original = (lifted x ops out Meets imitates at opens actions run).actions;
        applies = original_run x ops out Meets imitates at opens actions run;
        events = original_events x ops out Meets imitates at opens actions run;
        quiet = the_quiet;
        rest = (run_tracks x ops out Meets imitates at opens actions run).rest;
        prefix = (run_tracks x ops out Meets imitates at opens actions run).inv.splits;
        greatest = λ e more q h.
            let splits : x.s ≡ shown x program out at actions ++ ((e ∷ []) ++ more) =
            sym (run_tracks x ops out Meets imitates at opens actions run).inv.splits ∙ ap (λ es. shown x program out at actions ++ es) q in
            let g : GoesOn x program out at actions (e ∷ []) = goes_on_there x ops out Meets imitates at opens actions run (e ∷ []) more splits h in
            first_stuck g.more (backs x (events_of (numbered program) (end_of (numbered program) at actions) g.more)) e g.applies g.shows
            (λ r. ap (λ acts. backs x (events_of (numbered program) (end_of (numbered program) at actions) acts)) r);
        outputs = λ tasks tally comes still' t m alive.
            same_output x ops out Meets imitates at opens actions run t m ∙
            ap x.out ((determinacy x.p x.IsProper x.lawful x.opening x.opens_so x.proper (shown x program out at actions)
            (end_of (numbered x.p) x.opening (lifted x ops out Meets imitates at opens actions run).actions).seats tasks
            (tallies (numbered x.p) x.opening (lifted x ops out Meets imitates at opens actions run).actions (λ u. 0)) tally comes_there comes).quiet the_quiet still' t
            (λ killed. alive (killed_by_events x.p x.IsProper x.lawful x.opening x.opens_so x.proper (shown x program out at actions)
            (end_of (numbered x.p) x.opening (lifted x ops out Meets imitates at opens actions run).actions).seats
            (tallies (numbered x.p) x.opening (lifted x ops out Meets imitates at opens actions run).actions (λ u. 0)) t comes_there killed)));
      }

    pub ends_whole : EndsWhole x program out at
    ends_whole actions run stuck = ends_quiet actions run stuck
