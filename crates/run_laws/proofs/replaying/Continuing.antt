-- From each reached state of the table the rewritten program goes on with exactly the next events, as far as they are feasible.
use Rattle.std.proofs.Common.{◌≡◌, ℕ, suc, ◌<◌, ◌≤◌, Bool, true, false, not, ◌&&◌, if◌then◌else◌, List, [], ◌∷◌, ◌++◌, refl, sym, ap, ap₂, ◌∙◌, subst, ⊎_elim}
use Rattle.std.proofs.lemmas.Bool.{and_parts, cases_lt}
use Rattle.event_machine.specs.declared.Action.{Action}
use Rattle.event_machine.specs.declared.Action.TheVariants.{Local}
use Rattle.event_machine.specs.declared.Event.{Event}
use Rattle.event_machine.specs.Offers.{Offer, Nothing, calls_in, is_any_form, is_conditional, waits_with, is_else, is_delay, opens}
use Rattle.event_machine.specs.States.{Ops, Seat, State}
use Rattle.event_machine.specs.Effects.{after}
use Rattle.event_machine.specs.Runs.{IsRun, end_of, events_of, Feasible}
use Rattle.event_machine.specs.Programs.{Program, numbered}
use Rattle.event_machine.specs.Queues.{IsSuited, IsLined, suits}
use Rattle.event_machine.specs.Worlds.{World, Move, Step, Happen, world_of, moved, happens, happened, offers, AreMoves}
use Rattle.event_machine.proofs.Appends.{run_append, events_append}
use Rattle.event_machine.proofs.Queues.{run_suited, run_lined}
use Rattle.event_machine.specs.States.{is_live, is_queued}
use Rattle.event_machine.specs.Soundness.{times}
use Rattle.run_laws.specs.replaying.Copies.{Copy, copy_ops}
use Rattle.run_laws.specs.replaying.Rewritings.{Setting, twin, Imitates, OpensSo}
use Rattle.run_laws.specs.replaying.Laws.{backs, shown, GoesOn, GoesFar}
use Rattle.run_laws.proofs.replaying.Matching.{steps_fine}
use Rattle.run_laws.proofs.replaying.Alike.{rewritten, copies_offer}
use Rattle.run_laws.proofs.replaying.Arriving.{IsTidy, Had, had, had_step, step_world}
use Rattle.run_laws.proofs.replaying.Tidying.{tidy}
use Rattle.run_laws.proofs.replaying.Tracking.{Tracks, track_move, run_tracks}
use Rattle.run_laws.proofs.replaying.Going.{Far, goes_all}
use Rattle.run_laws.proofs.replaying.Catching.{follow_moves_of}
use Rattle.common_lemmas.proofs.Truth.{not_true}

module _ (x : Setting) {K : Type 0} (ops : Ops K) (out : K → List ℕ) (Meets : K → Copy x.L → Type 0) (imitates : Imitates x ops out Meets) where
  abbrev program : Program K
  program = rewritten x ops out Meets imitates

  -- a tracked world is tidy
  pub tracked_tidy : (past : List Event) (v : World K) (k : Tracks x ops out Meets imitates past v) → v.ended ≡ false → IsTidy program v
  tracked_tidy past v k runs = record {
    one = λ c u e i waits calls other. t.one c u e i (too (waits_with (opens e i)) refl (x.owner e) waits) (too (calls_in is_any_form e i) refl c calls) (too (calls_in is_any_form e i) refl u other);
    lone_else = λ a u e i other waits calls. t.lone_else a u e i (too (waits_with is_else) refl a other) (too (waits_with (opens e i)) refl a waits) (too (calls_in is_any_form e i) refl u calls);
    lone_delay = λ a d u e i other waits calls. t.lone_delay a d u e i (too (waits_with (is_delay d)) refl a other) (too (waits_with (opens e i)) refl a waits) (too (calls_in is_any_form e i) refl u calls);
    unmet = λ c e i calls waits. t.unmet c e i (too (calls_in is_conditional e i) refl c calls) (too (waits_with (opens e i)) refl (x.owner e) waits);
  }
    where
      t : IsTidy (twin x) k.w
      t = tidy x past k.rest k.stage k.w k.inv (sym k.ended ∙ runs)

      too : (test : Offer → Bool) → test Nothing ≡ false → (u : ℕ) →
          offers ops test (v.tasks u) ≡ true → offers (copy_ops x.p.ops x.n) test (k.w.tasks u) ≡ true
      too test none u h = copies_offer x ops out Meets imitates v.tasks k.w.tasks k.alike (steps_fine x past k.rest k.stage k.w k.inv (sym k.ended ∙ runs)) test none u h

  -- ---- moves as actions

  pub record Ran (s : State (ℕ → Seat K)) (moves : List Move) : Type 0 where
    pub actions : List Action
    pub run : IsRun (numbered program) s actions
    pub events : events_of (numbered program) s actions ≡ happened moves

  -- actions that make one move, and then those of the others
  ran_on : (s : State (ℕ → Seat K)) (first : List Action) (moves : List Move) (events : List Event) → IsRun (numbered program) s first → events_of (numbered program) s first ≡ events →
      Ran (end_of (numbered program) s first) moves → (all : List Move) → happened all ≡ events ++ happened moves → Ran s all
  ran_on s first moves events run has r all is = record {
    actions = first ++ r.actions;
    run = run_append (numbered program) s first r.actions run r.run;
    events = events_append (numbered program) s first r.actions ∙ ap₂ (λ xs ys. xs ++ ys) has r.events ∙ sym is;
  }

  pub run_moves : (moves : List Move) (s : State (ℕ → Seat K)) (past : List Event) → Tracks x ops out Meets imitates past (world_of s) → IsSuited ops s.seats → IsLined s →
      AreMoves program (world_of s) moves → Ran s moves
  run_moves [] s past k suited lined h = record { actions = []; run = tt; events = refl }
  run_moves (Step t ∷ moves) s past k suited lined h =
      let runs : s.ended ≡ false = not_true s.ended (and_parts (not s.ended) (is_live ((world_of s).tasks t).standing && ops.can_step (s.seats t).local) h.0).0 in
      let can = had_step program imitates.rests s suited lined runs t h.0 in
      let next : State (ℕ → Seat K) = after (numbered program) s (Local t) in
      let is : world_of next ≡ moved program (world_of s) (Step t) = step_world program imitates.rests s t in
      ran_on s (Local t ∷ []) moves [] (can, tt) refl
      (run_moves moves next (past ++ backs x (happened (Step t ∷ [])))
      (subst (Tracks x ops out Meets imitates (past ++ backs x (happened (Step t ∷ [])))) (sym is) (track_move x ops out Meets imitates past (world_of s) (Step t) k h.0))
      (run_suited program (Local t ∷ []) s (can, tt) suited) (run_lined program (Local t ∷ []) s (can, tt) lined)
      (subst (λ v. AreMoves program v moves) (sym is) h.1))
      (Step t ∷ moves) refl
  run_moves (Happen e ∷ moves) s past k suited lined h =
      let parts = and_parts (not s.ended) (happens program (world_of s).tasks e) h.0 in
      let runs : s.ended ≡ false = not_true s.ended parts.0 in
      let a : Had program imitates.rests s e = had program imitates.rests s suited lined runs (tracked_tidy past (world_of s) k runs) e parts.1 in
      let next : State (ℕ → Seat K) = end_of (numbered program) s a.actions in
      ran_on s a.actions moves (e ∷ []) a.run a.events
      (run_moves moves next (past ++ backs x (happened (Happen e ∷ [])))
      (subst (Tracks x ops out Meets imitates (past ++ backs x (happened (Happen e ∷ [])))) (sym a.world) (track_move x ops out Meets imitates past (world_of s) (Happen e) k h.0))
      (run_suited program a.actions s a.run suited) (run_lined program a.actions s a.run lined)
      (subst (λ v. AreMoves program v moves) (sym a.world) h.1))
      (Happen e ∷ moves) refl

  -- ---- from the start

  module _ (at : State (ℕ → Seat K)) (opens : OpensSo x ops out Meets at) where
    start_suited : IsSuited ops at.seats
    start_suited t = ⊎_elim
        (λ (m : t < suc (suc x.p.size)). ap (λ z. suits z (ops.offer (at.seats t).local)) (opens.standing t m))
        (λ (m : suc (suc x.p.size) ≤ t). ap (λ z. suits z (ops.offer (at.seats t).local)) (opens.beyond t m))
        (cases_lt t (suc (suc x.p.size)))

    start_lined : IsLined at
    start_lined t = ap (times t) opens.line ∙ ⊎_elim
        (λ (m : t < suc (suc x.p.size)). ap (λ z. if is_queued z then 1 else 0) (sym (opens.standing t m)))
        (λ (m : suc (suc x.p.size) ≤ t). ap (λ z. if is_queued z then 1 else 0) (sym (opens.beyond t m)))
        (cases_lt t (suc (suc x.p.size)))

    module _ (actions : List Action) (run : IsRun (numbered program) at actions) where
      pub suited_there : IsSuited ops (end_of (numbered program) at actions).seats
      suited_there = run_suited program actions at run start_suited

      pub lined_there : IsLined (end_of (numbered program) at actions)
      lined_there = run_lined program actions at run start_lined

      pub goes_on_there : (events tail : List Event) → x.s ≡ shown x program out at actions ++ (events ++ tail) → Feasible (numbered x.p) x.opening (shown x program out at actions ++ events) →
          GoesOn x program out at actions events
      goes_on_there events tail splits h =
          let k = run_tracks x ops out Meets imitates at opens actions run in
          let f : Far x k.w events = goes_all x events (shown x program out at actions) k.rest k.stage k.w tail k.inv splits h in
          let b = follow_moves_of x ops out Meets imitates f.moves (shown x program out at actions) k.rest k.stage (world_of (end_of (numbered program) at actions)) k.w k.inv k.alike k.ended f.made in
          let r : Ran (end_of (numbered program) at actions) b.moves =
          run_moves b.moves (end_of (numbered program) at actions) (shown x program out at actions) k suited_there lined_there b.made in
          record { more = r.actions; applies = r.run; shows = ap (backs x) (r.events ∙ b.same) ∙ f.shows' }

    pub goes_far : GoesFar x program out at
    goes_far actions events tail run splits h = goes_on_there actions run events tail splits h
