-- What a run of a collecting program has collected, and that each feasible list of events is collected in some run: its tasks imitate the copy's.
use Rattle.std.proofs.Common.{◌≡◌, ℕ, suc, pred, ◌<◌, ◌≤◌, Bool, true, false, not, ◌&&◌, if◌then◌else◌, List, [], ◌∷◌, ◌++◌, append-nil, refl, sym, ap, ◌∙◌, subst, ⊎_elim, true≢false, arith}
use Rattle.std.proofs.lemmas.Bool.{and_parts, cases_lt, le-leb}
use Rattle.event_machine.specs.declared.Standing.TheVariants.{Live}
use Rattle.event_machine.specs.declared.Action.{Action}
use Rattle.event_machine.specs.declared.Event.{Event}
use Rattle.event_machine.specs.declared.Event.TheVariants.{R, E, X, Z}
use Rattle.event_machine.specs.States.{Ops, Seat, State, is_live, is_completed, is_queued}
use Rattle.event_machine.specs.Runs.{IsRun, end_of, Feasible}
use Rattle.event_machine.specs.Programs.{Program, numbered}
use Rattle.event_machine.specs.Queues.{IsSuited, IsLined}
use Rattle.event_machine.specs.Soundness.{times}
use Rattle.event_machine.specs.Tallies.{tallies, ComesTo}
use Rattle.event_machine.specs.Laws.{IsQuiet, IsErased, IsLifted}
use Rattle.event_machine.specs.Worlds.{World, Happen, still, world_of, moved, happens, happened, world_after}
use Rattle.event_machine.proofs.Basics.{both}
use Rattle.event_machine.proofs.Determining.{determinacy, killed_by_events}
use Rattle.event_machine.proofs.Erasing.{erasing}
use Rattle.event_machine.proofs.Following.{happens_rest}
use Rattle.event_machine.proofs.Lifting.{lifting}
use Rattle.event_machine.proofs.Queues.{run_suited, run_lined}
use Rattle.event_machine.proofs.Standings.{is-Live}
use Rattle.event_machine.proofs.Stills.{still_still}
use Rattle.run_laws.specs.imitation.Imitations as imit
use Rattle.run_laws.specs.imitation.Imitations.{Original, start, local_at, IsComeTo}
use Rattle.run_laws.proofs.imitation.Alike.{program, IsAlike, AreAlike, alike_meets, locals_output}
use Rattle.run_laws.proofs.imitation.Following.{Kept, track_moves, Followed, happens_back}
use Rattle.run_laws.proofs.imitation.Showing.{base as copy_base, first, first_alike, first_ended, at_standing, at_suited, at_state, follow_moves}
use Rattle.run_laws.specs.collecting.Notes.{empty_book, text}
use Rattle.run_laws.specs.collecting.Copies.{Copy}
use Rattle.run_laws.specs.collecting.Settings.{Setting, recorder, twin, out_of}
use Rattle.run_laws.specs.collecting.inner.Beside.{IsBeside}
use Rattle.run_laws.specs.collecting.Rewritings.{Imitates, OpensSo}
use Rattle.run_laws.specs.collecting.Laws.{IsRecord, with_end, IsShown, IsStuck, IsShownQuiet, IsCollected, IsCovered, Collects}
use Rattle.run_laws.proofs.collecting.Reaching.{reached_over}
use Rattle.run_laws.proofs.collecting.Moving.{copy_original}
use Rattle.run_laws.proofs.collecting.Showing.{RunsTo, run_there, end_there, reached_no_end, same_output, is_record}
use Rattle.run_laws.proofs.collecting.Stuck.{no_step, no_finish, no_exit, no_start}
use Rattle.run_laws.proofs.collecting.Quiet.{IsCalm, original_rests}
use Rattle.run_laws.proofs.collecting.Covered.{Covers, covers_feasible}

-- Where nothing goes on in an imitation, nothing goes on in what it imitates.
module _ (c : Original) {K : Type 0} (ops : Ops K) (out : K → List ℕ) (Meets : K → c.L → Type 0) (Fine : K → Type 0) (imitates : imit.Imitates c ops out Meets Fine) (v : World K) (w : World c.L)
    (come : IsComeTo c w) (alike : AreAlike c ops out Meets Fine imitates v.tasks w.tasks) (runs : v.ended ≡ false) (calm : IsCalm (program c ops out Meets Fine imitates) v) where
  rests : (t : ℕ) → (v.tasks t).standing ≡ Live → ops.can_step (v.tasks t).local ≡ false
  rests t free = go (ops.can_step (v.tasks t).local) refl
    where
      go : (b : Bool) → ops.can_step (v.tasks t).local ≡ b → ops.can_step (v.tasks t).local ≡ false
      go true q = absurd (calm.step t (both (ap not runs) (both (ap is_live free) q)))
      go false q = q

  meets : (t : ℕ) → (w.tasks t).standing ≡ Live → Meets (v.tasks t).local (local_at w t)
  meets t free = let live' : (v.tasks t).standing ≡ Live = (alike t).standing ∙ free in alike_meets c ops out Meets Fine imitates t (v.tasks t) (w.tasks t) (alike t) live' (rests t live')

  back : (e : Event) → happens c.p w.tasks e ≡ true → happens (program c ops out Meets Fine imitates) v.tasks e ≡ true
  back e h = happens_back c ops out Meets Fine imitates v.tasks w come alike meets e h

  pub calm_back : IsCalm c.p w
  calm_back = record {
    step = λ t h.
        let k = and_parts (not w.ended) (is_live (w.tasks t).standing && c.p.ops.can_step (local_at w t)) h in
        let free : (w.tasks t).standing ≡ Live = is-Live (w.tasks t).standing (and_parts (is_live (w.tasks t).standing) (c.p.ops.can_step (local_at w t)) k.1).0 in
        true≢false (sym (imitates.steps w come t (v.tasks t).local (meets t free) h).0 ∙ rests t ((alike t).standing ∙ free));
    start = λ u e i h. calm.start u e i (back (R u e i) h);
    finish = λ a h. calm.finish a (back (E a) h);
    exit = λ a h. calm.exit a (back (X a) h);
  }

module _ {o : Original} (x : Setting o) {K : Type 0} (ops : Ops K) (out : K → List ℕ) (Meets : K → Copy o.L → Type 0) (imitates : Imitates x ops out Meets) (at : State (ℕ → Seat K)) (opens : OpensSo x ops out Meets at) where
  abbrev c : Original
  c = copy_original x

  abbrev Fine : K → Type 0
  Fine k = Unit {0}

  abbrev Q : Program K
  Q = program c ops out Meets Fine imitates

  at_lined : IsLined at
  at_lined t = ap (times t) opens.line ∙ at_standing c ops out Meets Fine imitates at opens (λ z. ◌≡◌ {A = ℕ} 0 (if is_queued z then 1 else 0)) refl refl t

  -- ---- what a run has collected

  module _ (actions : List Action) (run : IsRun (numbered Q) at actions) where
    abbrev last : State (ℕ → Seat K)
    last = end_of (numbered Q) at actions

    erased : IsErased Q at actions
    erased = erasing Q at actions run

    kept : Kept c ops out Meets Fine imitates (world_after Q (world_of at) erased.moves) (start c) (happened erased.moves)
    kept = track_moves c ops out Meets Fine imitates erased.moves (world_of at) (start c) (first c ops out Meets Fine imitates at opens) (first_alike c ops out Meets Fine imitates at opens)
        (first_ended c ops out Meets Fine imitates at opens) erased.made

    -- the world of the copy behind the run
    abbrev w : World (Copy o.L)
    w = world_after (twin x) (start c) kept.moves

    alike : AreAlike c ops out Meets Fine imitates (world_of last).tasks w.tasks
    alike t = subst (λ (v : World K). IsAlike c ops out Meets Fine imitates t (v.tasks t) (w.tasks t)) erased.ends (kept.alike t)

    ended_same : last.ended ≡ w.ended
    ended_same = ap (λ (v : World K). v.ended) (sym erased.ends) ∙ kept.ended

    beside : IsBeside x w
    beside = kept.come.known

    outputs : (t : ℕ) → t < suc o.p.size → out (last.seats t).local ≡ out_of x (w.tasks t).local
    outputs t l = locals_output c ops out Meets Fine imitates t (w.tasks t).standing (last.seats t).local (w.tasks t).local (alike t).locals l

    own_outputs : (t : ℕ) → t < o.p.size → out (last.seats t).local ≡ o.out (beside.d.tasks t).local
    own_outputs t l = outputs t (omega (arith, l)) ∙ same_output x beside.past beside.r beside.d w beside.inv t l

    -- a run of the original's table with these events, to a world with these tasks
    module _ (events : List Event) (d : World o.L) (r : RunsTo o events d) (same : d.tasks ≡ beside.d.tasks) where
      shown_output : (t : ℕ) → t < o.p.size → out (last.seats t).local ≡ o.out ((end_of (numbered o.p) o.opening r.actions).seats t).local
      shown_output t l = own_outputs t l ∙ ap (λ (f : ℕ → Seat o.L). o.out (f t).local) (sym same) ∙ ap (λ (v : World o.L). o.out (v.tasks t).local) (sym r.world)

      shown : IsShown x Q out at actions events
      shown = record { original = r.actions; applies = r.applies; has_events = r.has_events; outputs = shown_output }

      module _ (rests' : (t : ℕ) → t < o.p.size → (beside.d.tasks t).standing ≡ Live → o.p.ops.can_step (beside.d.tasks t).local ≡ false) where
        quiet : IsQuiet o.p.ops (end_of (numbered o.p) o.opening r.actions).seats
        quiet t lives =
            let there : (beside.d.tasks t).standing ≡ Live = ap (λ (f : ℕ → Seat o.L). (f t).standing) (sym same) ∙ ap (λ (v : World o.L). (v.tasks t).standing) (sym r.world) ∙
            ap still (is-Live ((end_of (numbered o.p) o.opening r.actions).seats t).standing lives) in
            ap (λ (v : World o.L). o.p.ops.can_step (v.tasks t).local) r.world ∙ ap (λ (f : ℕ → Seat o.L). o.p.ops.can_step (f t).local) same ∙ ⊎_elim
            (λ (l : t < o.p.size). rests' t l there)
            (λ (l : o.p.size ≤ t). absurd (true≢false (sym (reached_over o beside.past beside.d beside.inv.reached t l) ∙ ap is_completed there)))
            (cases_lt t o.p.size)

        comes : ComesTo (numbered o.p) o.opening events (end_of (numbered o.p) o.opening r.actions).seats (tallies (numbered o.p) o.opening r.actions (λ u. 0))
        comes = record { actions = r.actions; applies = r.applies; has_events = r.has_events; leaves = λ t. refl; counts = λ t. refl }

        shown_quiet : IsShownQuiet x Q out at actions events
        shown_quiet = record {
          original = r.actions;
          applies = r.applies;
          has_events = r.has_events;
          quiet = quiet;
          outputs = λ tasks tally comes' quiet' t l alive. shown_output t l ∙
              ap o.out ((determinacy o.p o.IsProper o.lawful o.opening o.opens_so o.proper events (end_of (numbered o.p) o.opening r.actions).seats tasks
              (tallies (numbered o.p) o.opening r.actions (λ u. 0)) tally comes comes').quiet quiet quiet' t
              (λ killed. alive (killed_by_events o.p o.IsProper o.lawful o.opening o.opens_so o.proper events (end_of (numbered o.p) o.opening r.actions).seats
              (tallies (numbered o.p) o.opening r.actions (λ u. 0)) t comes killed)));
        }

    -- ---- where no action applies

    module _ (stuck : IsStuck x Q out at last) where
      calm : last.ended ≡ false → IsCalm Q (world_of last)
      calm runs =
          let suited : IsSuited ops last.seats = run_suited Q actions at run (at_suited c ops out Meets Fine imitates at opens) in
          let lined : IsLined last = run_lined Q actions at run at_lined in
          record {
            step = no_step Q imitates.rests last suited lined runs stuck;
            start = no_start Q imitates.rests last suited lined runs stuck;
            finish = no_finish Q imitates.rests last suited lined runs stuck;
            exit = no_exit Q imitates.rests last suited lined runs stuck;
          }

      ends_running : last.ended ≡ false → IsShownQuiet x Q out at actions (beside.past ++ [])
      ends_running runs = subst (IsShownQuiet x Q out at actions) (sym (append-nil beside.past))
          (shown_quiet beside.past beside.d (run_there x beside.past beside.r beside.d w beside.inv) refl
          (original_rests x beside.past beside.r beside.d w beside.inv (sym ended_same ∙ runs) kept.come.sound
          (calm_back c ops out Meets Fine imitates (world_of last) w kept.come alike runs (calm runs))))

      ends_over : last.ended ≡ true → IsShownQuiet x Q out at actions (beside.past ++ (Z ∷ []))
      ends_over over =
          let done : w.ended ≡ true = sym ended_same ∙ over in
          shown_quiet (beside.past ++ (Z ∷ [])) (moved o.p beside.d (Happen Z)) (end_there x beside.past beside.r beside.d w beside.inv done) refl
          (λ t l free. happens_rest o.p o.IsProper o.lawful Z beside.d.tasks (beside.inv.ends done) t (le-leb t (pred o.p.size) (omega (arith, l))) free)

      ends_quiet : IsShownQuiet x Q out at actions (with_end beside.past last.ended)
      ends_quiet = go last.ended refl
        where
          go : (b : Bool) → last.ended ≡ b → IsShownQuiet x Q out at actions (with_end beside.past b)
          go true q = ends_over q
          go false q = ends_running q

    pub collected : IsCollected x Q out at actions
    collected = record {
      events = beside.past;
      no_end = reached_no_end o beside.past beside.d beside.inv.reached beside.inv.runs;
      is_record = subst (λ bytes. IsRecord x.lines bytes beside.past) (sym (outputs (recorder x) (omega arith))) (is_record x beside.past beside.r beside.d w beside.inv);
      shown = shown beside.past beside.d (run_there x beside.past beside.r beside.d w beside.inv) refl;
      ended = λ over. shown (beside.past ++ (Z ∷ [])) (moved o.p beside.d (Happen Z)) (end_there x beside.past beside.r beside.d w beside.inv (sym ended_same ∙ over)) refl;
      quiet = ends_quiet;
    }

  -- ---- what some run collects

  module _ (events : List Event) (feasible : Feasible (numbered o.p) o.opening events) where
    covers : Covers x empty_book (start c) events
    covers = covers_feasible x events feasible

    followed : Followed c ops out Meets Fine imitates (world_of at) (world_after (twin x) (start c) covers.way.moves) (happened covers.way.moves)
    followed = follow_moves c ops out Meets Fine imitates at opens covers.way.moves (world_of at) (start c) (first c ops out Meets Fine imitates at opens)
        (copy_base c ops out Meets Fine imitates at opens).beyond (first_alike c ops out Meets Fine imitates at opens) (first_ended c ops out Meets Fine imitates at opens) covers.way.made

    raised : IsLifted Q (world_of at) followed.moves
    raised = lifting Q (world_of at) followed.moves (λ t. still_still (at.seats t).standing) followed.made

    -- the world behind the run
    world_then : world_of (end_of (numbered Q) at raised.actions) ≡ world_after Q (world_of at) followed.moves
    world_then = ap (λ s. world_of (end_of (numbered Q) s raised.actions)) (sym (at_state c ops out Meets Fine imitates at opens)) ∙ raised.world

    alike_then : (t : ℕ) → IsAlike c ops out Meets Fine imitates t ((world_of (end_of (numbered Q) at raised.actions)).tasks t) (covers.then'.tasks t)
    alike_then t = subst (λ (v : World K). IsAlike c ops out Meets Fine imitates t (v.tasks t) (covers.then'.tasks t)) (sym world_then)
        (subst (λ (v : World (Copy o.L)). IsAlike c ops out Meets Fine imitates t ((world_after Q (world_of at) followed.moves).tasks t) (v.tasks t)) covers.way.ends (followed.alike t))

    pub covered : IsCovered x Q out at events
    covered = record {
      actions = raised.actions;
      applies = subst (λ s. IsRun (numbered Q) s raised.actions) (at_state c ops out Meets Fine imitates at opens) raised.applies;
      bytes =
          locals_output c ops out Meets Fine imitates (recorder x) (covers.then'.tasks (recorder x)).standing ((end_of (numbered Q) at raised.actions).seats (recorder x)).local (covers.then'.tasks (recorder x)).local
          (alike_then (recorder x)).locals (omega arith) ∙ ap (λ (y : Seat (Copy o.L)). out_of x y.local) covers.at ∙ ap (text x.lines) covers.writes;
      ended = ap (λ (v : World K). v.ended) world_then ∙ followed.ended ∙ ap (λ (v : World (Copy o.L)). v.ended) covers.way.ends ∙ covers.ended;
    }

  -- The whole law of collecting.
  pub collects : Collects x Q out at
  collects = record { collects = collected; covers = covered }
