-- What a collecting program with abort statements shows (this project's rule).
use Rattle.std.specs.Prelude.{◌≡◌, ℕ, ◌<◌, true, List, [], ◌∷◌, ◌++◌}
use Rattle.std.specs.List.{list_any}
use Rattle.event_machine.specs.declared.Action.{Action}
use Rattle.event_machine.specs.declared.Event.{Event}
use Rattle.event_machine.specs.declared.Event.TheVariants.{Z}
use Rattle.event_machine.specs.States.{Seat, State}
use Rattle.event_machine.specs.Applying.{can}
use Rattle.event_machine.specs.Runs.{IsRun, end_of, events_of, Feasible}
use Rattle.event_machine.specs.Programs.{Program, numbered}
use Rattle.event_machine.specs.Tallies.{ComesTo, HasNoEnd, IsKilledIn, before_end}
use Rattle.event_machine.specs.Laws.{IsQuiet}
use Rattle.event_machine.specs.Worlds.{is_last}
use Rattle.run_laws.specs.imitation.Imitations.{Original}
use Rattle.run_laws.specs.collecting.Notes.{text}
use Rattle.run_laws.specs.collecting.Laws.{IsRecord, with_end}
use Rattle.run_laws.specs.aborts.Settings.{Setting, recorder}

module _ {o : Original} (x : Setting o) {K : Type 0} (q : Program K) (out : K → List ℕ) (at : State (ℕ → Seat K)) where
  -- the state after a run
  abbrev pub state_then : List Action → State (ℕ → Seat K)
  state_then actions = end_of (numbered q) at actions

  -- what the recorder has written then
  abbrev pub bytes_then : List Action → List ℕ
  bytes_then actions = out ((state_then actions).seats (recorder x)).local

  -- Some run of the original has exactly these events, with the same output of each task, also of one that is killed.
  pub record IsShown (actions : List Action) (events : List Event) : Type 0 where
    pub original : List Action
    pub applies : IsRun (numbered o.p) o.opening original
    pub has_events : events_of (numbered o.p) o.opening original ≡ events
    pub outputs : (t : ℕ) → t < o.p.size → out ((state_then actions).seats t).local ≡ o.out ((end_of (numbered o.p) o.opening original).seats t).local

  -- No action applies.
  abbrev pub IsStuck : State (ℕ → Seat K) → Type 0
  IsStuck s = (action : Action) → can (numbered q) s action ≡ true → ⊥

  -- Some quiet run of the original has exactly these events, and in each such run each task that is not killed has this output.
  pub record IsShownQuiet (actions : List Action) (events : List Event) : Type 0 where
    pub original : List Action
    pub applies : IsRun (numbered o.p) o.opening original
    pub has_events : events_of (numbered o.p) o.opening original ≡ events
    pub quiet : IsQuiet o.p.ops (end_of (numbered o.p) o.opening original).seats
    pub outputs : (tasks : ℕ → Seat o.L) (tally : ℕ → ℕ) → ComesTo (numbered o.p) o.opening events tasks tally → IsQuiet o.p.ops tasks →
        (t : ℕ) → t < o.p.size → (IsKilledIn events t → ⊥) → out ((state_then actions).seats t).local ≡ o.out (tasks t).local

  -- What the run has collected: a list of events of the original, without the end of the program. Some run of the original has exactly these, with the
  -- same outputs; where the run has ended, another one has them and then ends; and where no action applies any more a quiet run has them.
  pub record IsCollected (actions : List Action) : Type 0 where
    pub events : List Event
    pub no_end : HasNoEnd events
    pub is_record : IsRecord x.lines (bytes_then actions) events
    pub shown : IsShown actions events
    pub ended : (state_then actions).ended ≡ true → IsShown actions (events ++ Z ∷ [])
    pub quiet : IsStuck (state_then actions) → IsShownQuiet actions (with_end events (state_then actions).ended)

  -- Some run records the events before the end of the program, and has ended exactly where they end so.
  pub record IsCovered (events : List Event) : Type 0 where
    pub actions : List Action
    pub applies : IsRun (numbered q) at actions
    pub bytes : bytes_then actions ≡ text x.lines (before_end events)
    pub ended : (state_then actions).ended ≡ list_any is_last events

  -- The whole law of collecting.
  pub record Collects : Type 0 where
    -- whatever the schedule, a run has collected events of the original
    pub collects : (actions : List Action) → IsRun (numbered q) at actions → IsCollected actions
    -- each feasible list of events is collected in some run
    pub covers : (events : List Event) → Feasible (numbered o.p) o.opening events → IsCovered events
