-- What replays a sequence does so where it is read again.
use Rattle.std.proofs.Common.{◌++◌, ◌∙◌, ◌∷◌, ◌≡◌, List, Option, [], ap, subst, sym}
use Rattle.std.specs.List.{filter_map}
use Rattle.event_machine.specs.Applying.{can}
use Rattle.event_machine.specs.Tallies.{IsKilledIn}
use Rattle.event_machine.specs.declared.Action.{Action}
use Rattle.event_machine.specs.declared.Event.{Event}
use Rattle.syn_event.specs.Origin.{back_of}
use Rattle.run_laws.specs.imitation.Shown.{Opened}
use Rattle.replay_runs.proofs.same.Named.{table_of, text_named}
use Rattle.replay_runs.proofs.same.Programs.{meant_same, programs_run_alike}
use Rattle.replay_runs.specs.same.Alike.{RunAlike}
use Rattle.replay_runs.specs.same.Laws.{ReadTextReplays, SameAreFeasible, SameReplays, SameRunAlike}
use Rattle.normal_laws.specs.runs.forms.Normalisable.{numbers_of}
use Rattle.replay_runs.specs.controls.replayed.Replaying.{GoesOnWith, IsFeasible, IsOver, IsRunWith, Replays, ShowsAllFeasible, ShowsPrefix, shown, starting}

-- feasible in the one, and so in the other
feasible_on : {L K : Type 0} (one : Opened L) (other : Opened K) → RunAlike one other → (events : List Event) → IsFeasible one events → IsFeasible other events
feasible_on one other alike events (actions, run, has) = (actions, (alike.run actions).0 run, sym (alike.events actions) ∙ has)

feasible_back : {L K : Type 0} (one : Opened L) (other : Opened K) → RunAlike one other → (events : List Event) → IsFeasible other events → IsFeasible one events
feasible_back one other alike events (actions, run, has) = (actions, (alike.run actions).1 run, alike.events actions ∙ has)

module _ {L K M : Type 0} (s : List Event) (one : Opened L) (other : Opened K) (third : Opened M) (meant : Event → Option Event) (alike : RunAlike other third) where
  shown_same : (actions : List Action) → shown s one other meant actions ≡ shown s one third meant actions
  shown_same actions = ap (filter_map meant) (alike.events actions)

  prefix_on : (actions : List Action) → ShowsPrefix s one other meant actions → ShowsPrefix s one third meant actions
  prefix_on actions h = record {
    rest = h.rest;
    prefix = ap (λ e. e ++ h.rest) (sym (shown_same actions)) ∙ h.prefix;
    originals = h.originals;
    original = subst (λ e. IsRunWith one e h.originals) (shown_same actions) h.original;
    outputs = λ t l. sym (alike.outputs actions t) ∙ h.outputs t l;
  }

  goes_on : (actions : List Action) (events : List Event) → GoesOnWith s one other meant actions events → GoesOnWith s one third meant actions events
  goes_on actions events h = record {
    more = h.more;
    applies = (alike.further actions h.more).0 h.applies;
    shows = ap (filter_map meant) (sym (alike.further_events actions h.more)) ∙ h.shows;
  }

  all_on : (actions : List Action) → ShowsAllFeasible s one other meant actions → ShowsAllFeasible s one third meant actions
  all_on actions h = record {
    rest = h.rest;
    prefix = ap (λ e. e ++ h.rest) (sym (shown_same actions)) ∙ h.prefix;
    longest = λ e more is feasible. h.longest e more is (subst (λ shows. IsFeasible one (shows ++ e ∷ [])) (sym (shown_same actions)) feasible);
    originals = h.originals;
    original = subst (λ e. IsRunWith one e h.originals) (shown_same actions) h.original;
    quiet = h.quiet;
    outputs = λ others run quiet t l alive. sym (alike.outputs actions t)
        ∙ h.outputs others (subst (λ e. IsRunWith one e others) (sym (shown_same actions)) run) quiet t l (λ killed. alive (subst (λ e. IsKilledIn e t) (shown_same actions) killed));
  }

  over_back : (actions : List Action) → IsOver third actions → IsOver other actions
  over_back actions over action can = over action (sym (alike.applies actions action) ∙ can)

  replays_on : Replays s one other meant → Replays s one third meant
  replays_on h = record {
    shows = λ actions run. prefix_on actions (h.shows actions ((alike.run actions).1 run));
    goes_on = λ actions run events tail e feasible. goes_on actions events (h.goes_on actions ((alike.run actions).1 run) events tail (ap (λ x. x ++ (events ++ tail)) (shown_same actions) ∙ e)
        (subst (λ shows. IsFeasible one (shows ++ events)) (sym (shown_same actions)) feasible));
    ends = λ actions run over. all_on actions (h.ends actions ((alike.run actions).1 run) (over_back actions over));
  }

pub same_run_alike : SameRunAlike
same_run_alike p q named others same inputs = programs_run_alike p q named others same inputs

pub same_are_feasible : SameAreFeasible
same_are_feasible p q named others same inputs events = (
  feasible_on (starting p inputs) (starting q inputs) (programs_run_alike p q named others same inputs) events,
  feasible_back (starting p inputs) (starting q inputs) (programs_run_alike p q named others same inputs) events,
)

pub same_replays : SameReplays
same_replays p text again named names same s h inputs others agree =
    subst (λ meant. Replays s (starting p inputs) (starting again others) meant) (λ i event. meant_same text again named names same event i)
    (replays_on s (starting p inputs) (starting text others) (starting again others) (back_of (numbers_of text)) (programs_run_alike text again named names same others) (h inputs others agree))

pub read_text_replays : ReadTextReplays
read_text_replays p types numbers events text again names is_text others same h =
    same_replays p text again (text_named p types numbers events text names is_text) (table_of again.names others) same events h
