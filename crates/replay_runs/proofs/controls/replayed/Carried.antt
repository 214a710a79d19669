-- What replays a sequence of a program replays it of each program that shows the same.
use Rattle.std.proofs.Common.{◌≡◌, ℕ, ◌<◌, List, Option, sym, ◌∙◌, subst}
use Rattle.event_machine.specs.declared.Action.{Action}
use Rattle.event_machine.specs.declared.Event.{Event}
use Rattle.run_laws.specs.imitation.Shown.{Opened, IsShownBy, AllShownBy, ShowSame}
use Rattle.replay_runs.specs.controls.replayed.Replaying.{IsRunWith, IsFeasible, Replays}
use Rattle.replay_runs.specs.controls.replayed.Laws.{ReplaysCarryOver}

module _ {L M : Type 0} (one : Opened L) (two : Opened M) where
  -- a run with these events has one of the other program that shows it
  with-events : (events : List Event) (actions : List Action) → IsRunWith one events actions → (shown : IsShownBy one two actions) → IsRunWith two events shown.others
  with-events events actions r shown = record { applies = shown.applies; has = shown.events ∙ r.has }

  feasible-too : AllShownBy one two → (events : List Event) → IsFeasible one events → IsFeasible two events
  feasible-too all events f = let shown = all f.0 f.1 in (shown.others, shown.applies, shown.events ∙ f.2)

module _ {L M K : Type 0} (s : List Event) (one : Opened L) (two : Opened M) (other : Opened K) (meant : Event → Option Event) (size : one.program.size ≡ two.program.size) (same : ShowSame one two) where
  below : (t : ℕ) → t < one.program.size → t < two.program.size
  below t l = subst (λ n. t < n) size l

  pub carried : Replays s two other meant → Replays s one other meant
  carried h = record {
    shows = λ actions run.
        let r = h.shows actions run in
        let shown : IsShownBy two one r.originals = same.1 r.originals r.original.applies in
        record {
          rest = r.rest;
          prefix = r.prefix;
          originals = shown.others;
          original = with-events two one _ r.originals r.original shown;
          outputs = λ t l. r.outputs t (below t l) ∙ sym (shown.outputs t (below t l));
        };
    goes_on = λ actions run events tail e f.
        let r = h.goes_on actions run events tail e (feasible-too one two same.0 _ f) in
        record { more = r.more; applies = r.applies; shows = r.shows };
    ends = λ actions run over.
        let r = h.ends actions run over in
        let shown : IsShownBy two one r.originals = same.1 r.originals r.original.applies in
        record {
          rest = r.rest;
          prefix = r.prefix;
          longest = λ e more is f. r.longest e more is (feasible-too one two same.0 _ f);
          originals = shown.others;
          original = with-events two one _ r.originals r.original shown;
          quiet = shown.quiet r.quiet;
          outputs = λ others o calm t l free.
              let back : IsShownBy one two others = same.0 others o.applies in
              r.outputs back.others (with-events one two _ others o back) (back.quiet calm) t (below t l) free ∙ back.outputs t l;
        };
  }

pub replays_carry_over : ReplaysCarryOver
replays_carry_over s one two other meant size same h = carried s one two other meant size same h
