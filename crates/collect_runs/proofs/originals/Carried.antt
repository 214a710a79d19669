-- What collects a program collects each program that shows the same.
use Rattle.std.proofs.Common.{◌≡◌, ℕ, ◌<◌, List, sym, ◌∙◌, subst}
use Rattle.event_machine.specs.declared.Action.{Action}
use Rattle.event_machine.specs.declared.Event.{Event}
use Rattle.run_laws.specs.imitation.Shown.{Opened, IsShownBy, AllShownBy, ShowSame}
use Rattle.run_laws.specs.collecting.Notes.{Lines}
use Rattle.replay_runs.specs.controls.replayed.Replaying.{IsRunWith, IsFeasible}
use Rattle.collect_runs.specs.originals.Recording.{IsRunOfFirst, IsQuietRunOfFirst, CollectsRuns}
use Rattle.collect_runs.specs.originals.Laws.{CollectsCarryOver}

module _ {L M : Type 0} (one : Opened L) (two : Opened M) where
  -- a run with these events has one of the other program that shows it
  with-events : (events : List Event) (actions : List Action) → IsRunWith one events actions → (shown : IsShownBy one two actions) → IsRunWith two events shown.others
  with-events events actions r shown = record { applies = shown.applies; has = shown.events ∙ r.has }

  feasible-too : AllShownBy one two → (events : List Event) → IsFeasible one events → IsFeasible two events
  feasible-too all events f = let shown = all f.0 f.1 in (shown.others, shown.applies, shown.events ∙ f.2)

module _ {L M K : Type 0} (lines : Lines) (one : Opened L) (two : Opened M) (other : Opened K) (recorder : ℕ) (size : one.program.size ≡ two.program.size) (same : ShowSame one two) where
  below : (t : ℕ) → t < one.program.size → t < two.program.size
  below t l = subst (λ n. t < n) size l

  run-too : (actions : List Action) (events : List Event) → IsRunOfFirst lines two other recorder actions events → IsRunOfFirst lines one other recorder actions events
  run-too actions events r =
      let shown : IsShownBy two one r.originals = same.1 r.originals r.original.applies in
      record {
        originals = shown.others;
        original = with-events two one events r.originals r.original shown;
        outputs = λ t l. r.outputs t (below t l) ∙ sym (shown.outputs t (below t l));
      }

  quiet-too : (actions : List Action) (events : List Event) → IsQuietRunOfFirst lines two other recorder actions events → IsQuietRunOfFirst lines one other recorder actions events
  quiet-too actions events r =
      let shown : IsShownBy two one r.originals = same.1 r.originals r.original.applies in
      record {
        originals = shown.others;
        original = with-events two one events r.originals r.original shown;
        quiet = shown.quiet r.quiet;
        outputs = λ others o calm t l free.
            let back : IsShownBy one two others = same.0 others o.applies in
            r.outputs back.others (with-events one two events others o back) (back.quiet calm) t (below t l) free ∙ back.outputs t l;
      }

  pub carried : CollectsRuns lines two other recorder → CollectsRuns lines one other recorder
  carried h = record {
    records = λ actions run.
        let r = h.records actions run in
        record {
          events = r.events;
          no_end = r.no_end;
          is_record = r.is_record;
          shown = run-too actions _ r.shown;
          ended = λ e. run-too actions _ (r.ended e);
          quiet = λ over. quiet-too actions _ (r.quiet over);
        };
    covers = λ events f.
        let r = h.covers events (feasible-too one two same.0 events f) in
        record { actions = r.actions; applies = r.applies; bytes = r.bytes; ended = r.ended };
  }

pub collects_carry_over : CollectsCarryOver
collects_carry_over lines one two other recorder size same h = carried lines one two other recorder size same h
