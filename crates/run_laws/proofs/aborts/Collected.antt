-- What a run of a collecting program with abort statements has collected, and that each feasible list of events is collected in some run: its tasks imitate the copy's.
use Rattle.std.proofs.Common.{◌≡◌, ℕ, suc, pred, ◌<◌, ◌≤◌, Bool, true, false, not, if◌then◌else◌, List, [], ◌∷◌, ◌++◌, append-nil, refl, sym, ap, ◌∙◌, subst, ⊎_elim, true≢false, arith}
use Rattle.std.proofs.lemmas.Bool.{cases_lt, le-leb}
use Rattle.event_machine.specs.declared.Standing.TheVariants.{Live}
use Rattle.event_machine.specs.declared.Action.{Action}
use Rattle.event_machine.specs.declared.Event.{Event}
use Rattle.event_machine.specs.declared.Event.TheVariants.{B, Z}
use Rattle.event_machine.specs.States.{Ops, Seat, State, is_live, is_completed, is_queued}
use Rattle.event_machine.specs.Runs.{IsRun, end_of}
use Rattle.event_machine.specs.Programs.{Program, numbered}
use Rattle.event_machine.specs.Queues.{IsSuited, IsLined}
use Rattle.event_machine.specs.Soundness.{times}
use Rattle.event_machine.specs.Tallies.{tallies, ComesTo}
use Rattle.event_machine.specs.Laws.{IsQuiet, IsErased}
use Rattle.event_machine.specs.Worlds.{World, Happen, still, world_of, moved, happened, world_after}
use Rattle.event_machine.proofs.Basics.{both}
use Rattle.event_machine.proofs.Determining.{determinacy, killed_by_events}
use Rattle.event_machine.proofs.Erasing.{erasing}
use Rattle.event_machine.proofs.Following.{happens_rest}
use Rattle.event_machine.proofs.Queues.{run_suited, run_lined}
use Rattle.event_machine.proofs.Standings.{is-Live}
use Rattle.run_laws.specs.imitation.Imitations.{Original, start, local_at}
use Rattle.run_laws.proofs.imitation.Alike.{program, IsAlike, AreAlike, alike_meets, locals_output}
use Rattle.run_laws.proofs.imitation.Following.{Kept, track_moves, happens_back}
use Rattle.run_laws.proofs.imitation.Showing.{first, first_alike, first_ended, at_standing, at_suited}
use Rattle.run_laws.specs.aborts.Copies.{Copy}
use Rattle.run_laws.specs.aborts.Settings.{Setting, recorder, twin, out_of}
use Rattle.run_laws.specs.aborts.inner.Beside.{IsBeside}
use Rattle.run_laws.specs.aborts.Rewritings.{Imitates, OpensSo}
use Rattle.run_laws.specs.collecting.Laws.{IsRecord, with_end}
use Rattle.run_laws.specs.aborts.Laws.{IsShown, IsStuck, IsShownQuiet, IsCollected}
use Rattle.run_laws.proofs.collecting.Reaching.{reached_over}
use Rattle.run_laws.proofs.collecting.Collected.{calm_back}
use Rattle.run_laws.proofs.aborts.Moving.{copy_original}
use Rattle.run_laws.proofs.collecting.Showing.{RunsTo, reached_no_end}
use Rattle.run_laws.proofs.aborts.Showing.{events_now, world_now, reached_now, runs_now, output_now, record_now, run_there, can_end, end_there}
use Rattle.run_laws.proofs.collecting.Stuck.{no_step, no_finish, no_exit, no_start}
use Rattle.run_laws.proofs.collecting.Quiet.{IsCalm}
use Rattle.run_laws.proofs.aborts.Quiet.{NoAborts, no_aborts, waits, original_rests}

module _ {o : Original} (x : Setting o) {K : Type 0} (ops : Ops K) (out : K → List ℕ) (Meets : K → Copy o.L →
    Type 0) (imitates : Imitates x ops out Meets) (at : State (ℕ → Seat K)) (opens : OpensSo x ops out Meets at) where
  abbrev c : Original
  c = copy_original x

  abbrev Fine : K → Type 0
  Fine k = Unit {0}

  abbrev Q : Program K
  Q = program c ops out Meets Fine imitates

  at_lined : IsLined at
  at_lined t = ap (times t) opens.line ∙ at_standing c ops out Meets Fine imitates at opens (λ z. ◌≡◌ {A = ℕ} 0 (if is_queued z then 1 else 0)) refl refl t

  -- ---- what a run has collected

  module _ (actions : List Action) (run : IsRun (numbered Q) at actions) where
    abbrev last : State (ℕ → Seat K)
    last = end_of (numbered Q) at actions

    erased : IsErased Q at actions
    erased = erasing Q at actions run

    kept : Kept c ops out Meets Fine imitates (world_after Q (world_of at) erased.moves) (start c) (happened erased.moves)
    kept = track_moves c ops out Meets Fine imitates erased.moves (world_of at) (start c) (first c ops out Meets Fine imitates at opens) (first_alike c ops out Meets Fine imitates at opens)
        (first_ended c ops out Meets Fine imitates at opens) erased.made

    -- the world of the copy behind the run
    abbrev w : World (Copy o.L)
    w = world_after (twin x) (start c) kept.moves

    alike : AreAlike c ops out Meets Fine imitates (world_of last).tasks w.tasks
    alike t = subst (λ (v : World K). IsAlike c ops out Meets Fine imitates t (v.tasks t) (w.tasks t)) erased.ends (kept.alike t)

    ended_same : last.ended ≡ w.ended
    ended_same = ap (λ (v : World K). v.ended) (sym erased.ends) ∙ kept.ended

    beside : IsBeside x w
    beside = kept.come.known

    outputs : (t : ℕ) → t < suc o.p.size → out (last.seats t).local ≡ out_of x (w.tasks t).local
    outputs t l = locals_output c ops out Meets Fine imitates t (w.tasks t).standing (last.seats t).local (w.tasks t).local (alike t).locals l

    -- the events that the recorder has written, and the original's world behind them
    abbrev evs : List Event
    evs = events_now beside.past beside.r

    abbrev now : World o.L
    now = world_now o beside.d beside.r

    own_outputs : (t : ℕ) → t < o.p.size → out (last.seats t).local ≡ o.out (now.tasks t).local
    own_outputs t l = outputs t (omega (arith, l)) ∙ output_now x beside.past beside.r beside.d w beside.inv kept.come.sound t l

    -- a run of the original's table with these events, to a world with these tasks
    module _ (events : List Event) (d : World o.L) (r : RunsTo o events d) (same : d.tasks ≡ now.tasks) where
      shown_output : (t : ℕ) → t < o.p.size → out (last.seats t).local ≡ o.out ((end_of (numbered o.p) o.opening r.actions).seats t).local
      shown_output t l = own_outputs t l ∙ ap (λ (f : ℕ → Seat o.L). o.out (f t).local) (sym same) ∙ ap (λ (v : World o.L). o.out (v.tasks t).local) (sym r.world)

      shown : IsShown x Q out at actions events
      shown = record { original = r.actions; applies = r.applies; has_events = r.has_events; outputs = shown_output }

      module _ (rests' : (t : ℕ) → t < o.p.size → (now.tasks t).standing ≡ Live → o.p.ops.can_step (now.tasks t).local ≡ false) where
        quiet : IsQuiet o.p.ops (end_of (numbered o.p) o.opening r.actions).seats
        quiet t lives =
            let there : (now.tasks t).standing ≡ Live = ap (λ (f : ℕ → Seat o.L). (f t).standing) (sym same) ∙ ap (λ (v : World o.L). (v.tasks t).standing) (sym r.world) ∙
            ap still (is-Live ((end_of (numbered o.p) o.opening r.actions).seats t).standing lives) in
            ap (λ (v : World o.L). o.p.ops.can_step (v.tasks t).local) r.world ∙ ap (λ (f : ℕ → Seat o.L). o.p.ops.can_step (f t).local) same ∙ ⊎_elim
            (λ (l : t < o.p.size). rests' t l there)
            (λ (l : o.p.size ≤ t). absurd (true≢false (sym (reached_over o evs now (reached_now x beside.past beside.r beside.d w beside.inv kept.come.sound) t l) ∙ ap is_completed there)))
            (cases_lt t o.p.size)

        comes : ComesTo (numbered o.p) o.opening events (end_of (numbered o.p) o.opening r.actions).seats (tallies (numbered o.p) o.opening r.actions (λ u. 0))
        comes = record { actions = r.actions; applies = r.applies; has_events = r.has_events; leaves = λ t. refl; counts = λ t. refl }

        shown_quiet : IsShownQuiet x Q out at actions events
        shown_quiet = record {
          original = r.actions;
          applies = r.applies;
          has_events = r.has_events;
          quiet = quiet;
          outputs = λ tasks tally comes' quiet' t l alive. shown_output t l ∙
              ap o.out ((determinacy o.p o.IsProper o.lawful o.opening o.opens_so o.proper events (end_of (numbered o.p) o.opening r.actions).seats tasks
              (tallies (numbered o.p) o.opening r.actions (λ u. 0)) tally comes comes').quiet quiet quiet' t
              (λ killed. alive (killed_by_events o.p o.IsProper o.lawful o.opening o.opens_so o.proper events (end_of (numbered o.p) o.opening r.actions).seats
              (tallies (numbered o.p) o.opening r.actions (λ u. 0)) t comes killed)));
        }

    -- ---- where no action applies

    module _ (stuck : IsStuck x Q out at last) where
      calm : last.ended ≡ false → IsCalm Q (world_of last)
      calm runs =
          let suited : IsSuited ops last.seats = run_suited Q actions at run (at_suited c ops out Meets Fine imitates at opens) in
          let lined : IsLined last = run_lined Q actions at run at_lined in
          record {
            step = no_step Q imitates.rests last suited lined runs stuck;
            start = no_start Q imitates.rests last suited lined runs stuck;
            finish = no_finish Q imitates.rests last suited lined runs stuck;
            exit = no_exit Q imitates.rests last suited lined runs stuck;
          }

      -- nobody aborts in the copy where nobody does here
      none_back : last.ended ≡ false → NoAborts (twin x) w
      none_back runs t v h =
          let suited : IsSuited ops last.seats = run_suited Q actions at run (at_suited c ops out Meets Fine imitates at opens) in
          no_aborts Q last suited runs stuck t v (happens_back c ops out Meets Fine imitates (world_of last).tasks w kept.come alike (meets_there runs) (B t v) h)
        where
          meets_there : last.ended ≡ false → (u : ℕ) → (w.tasks u).standing ≡ Live → Meets ((world_of last).tasks u).local (local_at w u)
          meets_there runs u free =
              let live' : ((world_of last).tasks u).standing ≡ Live = (alike u).standing ∙ free in
              alike_meets c ops out Meets Fine imitates u ((world_of last).tasks u) (w.tasks u) (alike u) live' (rests_there runs u live')
            where
              rests_there : last.ended ≡ false → (u : ℕ) → ((world_of last).tasks u).standing ≡ Live → ops.can_step ((world_of last).tasks u).local ≡ false
              rests_there runs u free = go (ops.can_step ((world_of last).tasks u).local) refl
                where
                  go : (b : Bool) → ops.can_step ((world_of last).tasks u).local ≡ b → ops.can_step ((world_of last).tasks u).local ≡ false
                  go true q = absurd ((calm runs).step u (both (ap not runs) (both (ap is_live free) q)))
                  go false q = q

      -- the recorder waits, so that the original is where it is beside the copy
      rests_now : last.ended ≡ false → (t : ℕ) → t < o.p.size → (now.tasks t).standing ≡ Live → o.p.ops.can_step (now.tasks t).local ≡ false
      rests_now runs =
          let runs' : w.ended ≡ false = sym ended_same ∙ runs in
          let calm' : IsCalm (twin x) w = calm_back c ops out Meets Fine imitates (world_of last) w kept.come alike runs (calm runs) in
          let none : NoAborts (twin x) w = none_back runs in
          subst (λ s. (t : ℕ) → t < o.p.size → ((world_now o beside.d s).tasks t).standing ≡ Live → o.p.ops.can_step ((world_now o beside.d s).tasks t).local ≡ false)
          (sym (waits x beside.past beside.r beside.d w beside.inv runs' calm' none).1) (original_rests x beside.past beside.r beside.d w beside.inv runs' calm' none)

      ends_running : last.ended ≡ false → IsShownQuiet x Q out at actions (evs ++ [])
      ends_running runs = subst (IsShownQuiet x Q out at actions) (sym (append-nil evs))
          (shown_quiet evs now (run_there x beside.past beside.r beside.d w beside.inv kept.come.sound) refl
          (rests_now runs))

      ends_over : last.ended ≡ true → IsShownQuiet x Q out at actions (evs ++ (Z ∷ []))
      ends_over over =
          let done : w.ended ≡ true = sym ended_same ∙ over in
          shown_quiet (evs ++ (Z ∷ [])) (moved o.p now (Happen Z)) (end_there x beside.past beside.r beside.d w beside.inv kept.come.sound done) refl
          (λ t l free. happens_rest o.p o.IsProper o.lawful Z now.tasks (can_end x beside.past beside.r beside.d w beside.inv kept.come.sound done) t (le-leb t
          (pred o.p.size) (omega (arith, l))) free)

      ends_quiet : IsShownQuiet x Q out at actions (with_end evs last.ended)
      ends_quiet = go last.ended refl
        where
          go : (b : Bool) → last.ended ≡ b → IsShownQuiet x Q out at actions (with_end evs b)
          go true q = ends_over q
          go false q = ends_running q

    pub collected : IsCollected x Q out at actions
    collected = record {
      events = evs;
      no_end = reached_no_end o evs now (reached_now x beside.past beside.r beside.d w beside.inv kept.come.sound) (runs_now x beside.past beside.r beside.d w beside.inv kept.come.sound);
      is_record = subst (λ bytes. IsRecord x.lines bytes evs) (sym (outputs (recorder x) (omega arith))) (record_now x beside.past beside.r beside.d w beside.inv kept.come.sound);
      shown = shown evs now (run_there x beside.past beside.r beside.d w beside.inv kept.come.sound) refl;
      ended = λ over. shown (evs ++ (Z ∷ [])) (moved o.p now (Happen Z)) (end_there x beside.past beside.r beside.d w beside.inv kept.come.sound (sym ended_same ∙ over)) refl;
      quiet = ends_quiet;
    }
