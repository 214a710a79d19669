-- The whole law: each feasible list of events is collected in some run of a collecting program, whose tasks imitate the copy's.
use Rattle.std.proofs.Common.{◌≡◌, ℕ, List, sym, ap, ◌∙◌, subst, arith}
use Rattle.event_machine.specs.declared.Event.{Event}
use Rattle.event_machine.specs.States.{Ops, Seat, State}
use Rattle.event_machine.specs.Runs.{IsRun, end_of, Feasible}
use Rattle.event_machine.specs.Programs.{Program, numbered}
use Rattle.event_machine.specs.Laws.{IsLifted}
use Rattle.event_machine.specs.Worlds.{World, world_of, happened, world_after}
use Rattle.event_machine.proofs.Lifting.{lifting}
use Rattle.event_machine.proofs.Stills.{still_still}
use Rattle.run_laws.specs.imitation.Imitations.{Original, start}
use Rattle.run_laws.proofs.imitation.Alike.{program, IsAlike, locals_output}
use Rattle.run_laws.proofs.imitation.Following.{Followed}
use Rattle.run_laws.proofs.imitation.Showing.{base as copy_base, first, first_alike, first_ended, at_state, follow_moves}
use Rattle.run_laws.specs.aborts.Notes.{empty_book}
use Rattle.run_laws.specs.aborts.Copies.{Copy}
use Rattle.run_laws.specs.aborts.Settings.{Setting, recorder, twin, out_of}
use Rattle.run_laws.specs.aborts.Rewritings.{Imitates, OpensSo}
use Rattle.run_laws.specs.collecting.Notes.{text}
use Rattle.run_laws.specs.aborts.Laws.{IsCovered, Collects}
use Rattle.run_laws.proofs.aborts.Moving.{copy_original}
use Rattle.run_laws.proofs.aborts.Covered.{Covers, covers_feasible}
use Rattle.run_laws.proofs.aborts.Collected.{collected}

module _ {o : Original} (x : Setting o) {K : Type 0} (ops : Ops K) (out : K → List ℕ) (Meets : K → Copy o.L →
    Type 0) (imitates : Imitates x ops out Meets) (at : State (ℕ → Seat K)) (opens : OpensSo x ops out Meets at) where
  abbrev c : Original
  c = copy_original x

  abbrev Fine : K → Type 0
  Fine k = Unit {0}

  abbrev Q : Program K
  Q = program c ops out Meets Fine imitates

  -- ---- what some run collects

  module _ (events : List Event) (feasible : Feasible (numbered o.p) o.opening events) where
    covers : Covers x empty_book (start c) events
    covers = covers_feasible x events feasible

    followed : Followed c ops out Meets Fine imitates (world_of at) (world_after (twin x) (start c) covers.way.moves) (happened covers.way.moves)
    followed = follow_moves c ops out Meets Fine imitates at opens covers.way.moves (world_of at) (start c) (first c ops out Meets Fine imitates at opens)
        (copy_base c ops out Meets Fine imitates at opens).beyond (first_alike c ops out Meets Fine imitates at opens) (first_ended c ops out Meets Fine imitates at opens) covers.way.made

    raised : IsLifted Q (world_of at) followed.moves
    raised = lifting Q (world_of at) followed.moves (λ t. still_still (at.seats t).standing) followed.made

    -- the world behind the run
    world_then : world_of (end_of (numbered Q) at raised.actions) ≡ world_after Q (world_of at) followed.moves
    world_then = ap (λ s. world_of (end_of (numbered Q) s raised.actions)) (sym (at_state c ops out Meets Fine imitates at opens)) ∙ raised.world

    alike_then : (t : ℕ) → IsAlike c ops out Meets Fine imitates t ((world_of (end_of (numbered Q) at raised.actions)).tasks t) (covers.then'.tasks t)
    alike_then t = subst (λ (v : World K). IsAlike c ops out Meets Fine imitates t (v.tasks t) (covers.then'.tasks t)) (sym world_then)
        (subst (λ (v : World (Copy o.L)). IsAlike c ops out Meets Fine imitates t ((world_after Q (world_of at) followed.moves).tasks t) (v.tasks t)) covers.way.ends (followed.alike t))

    pub covered : IsCovered x Q out at events
    covered = record {
      actions = raised.actions;
      applies = subst (λ s. IsRun (numbered Q) s raised.actions) (at_state c ops out Meets Fine imitates at opens) raised.applies;
      bytes =
          locals_output c ops out Meets Fine imitates (recorder x) (covers.then'.tasks (recorder x)).standing ((end_of (numbered Q) at raised.actions).seats
          (recorder x)).local (covers.then'.tasks (recorder x)).local
          (alike_then (recorder x)).locals (omega arith) ∙ ap (λ (y : Seat (Copy o.L)). out_of x y.local) covers.at ∙ ap (text x.lines) covers.writes;
      ended = ap (λ (v : World K). v.ended) world_then ∙ followed.ended ∙ ap (λ (v : World (Copy o.L)). v.ended) covers.way.ends ∙ covers.ended;
    }

  -- The whole law of collecting.
  pub collects : Collects x Q out at
  collects = record { collects = λ actions run. collected x ops out Meets imitates at opens actions run; covers = covered }
