-- That one program shows nothing but a sequence of events of another, in order, can always go on to all that is feasible there, and where it ends has
-- shown this, whatever the inputs and the schedule (this project's rule).
use Rattle.std.specs.Prelude.{◌≡◌, ℕ, ℤ, ◌<◌, true, List, [], ◌∷◌, ◌++◌, length, slice_index_or, Option}
use Rattle.std.specs.List.{filter_map}
use Rattle.event_machine.specs.declared.Action.{Action}
use Rattle.event_machine.specs.declared.Event.{Event}
use Rattle.event_machine.specs.Applying.{can}
use Rattle.event_machine.specs.Runs.{IsRun, events_of, Feasible}
use Rattle.event_machine.specs.Programs.{numbered}
use Rattle.event_machine.specs.Tallies.{IsKilledIn}
use Rattle.event_machine.specs.Laws.{IsQuiet}
use Rattle.ada_tree.specs.PlainProgram.{PProgram}
use Rattle.ada_static_rules.specs.Refusals.{types_in}
use Rattle.syn_event.specs.Origin.{back_of}
use Rattle.task_model.specs.Tasks.{Task}
use Rattle.run_laws.specs.imitation.Shown.{Opened, end_from}
use Rattle.normal_laws.specs.runs.runs.Laws.{opened}
use Rattle.normal_laws.specs.runs.forms.Normalisable.{numbers_of}

-- ---- one program and a rewritten one

-- what a task has written after these actions
abbrev pub output_after : {L : Type 0} → Opened L → List Action → ℕ → List ℕ
output_after o actions t = o.out ((end_from o actions).seats t).local

-- the events of these actions
abbrev pub events_after : {L : Type 0} → Opened L → List Action → List Event
events_after o actions = events_of (numbered o.program) o.at actions

-- the actions are a run with exactly these events
pub record IsRunWith {L : Type 0} (o : Opened L) (events : List Event) (actions : List Action) : Type 0 where
  pub applies : IsRun (numbered o.program) o.at actions
  pub has : events_after o actions ≡ events

-- some run has exactly these events
abbrev pub IsFeasible : {L : Type 0} → Opened L → List Event → Type 0
IsFeasible o events = Feasible (numbered o.program) o.at events

-- no action applies after these
abbrev pub IsOver : {L : Type 0} → Opened L → List Action → Type 0
IsOver o actions = (action : Action) → can (numbered o.program) (end_from o actions) action ≡ true → ⊥

-- A sequence of events of one program, another program that is made from it, and for each event of this the event of the first that it stands for, if
-- it stands for one.
module _ {L K : Type 0} (s : List Event) (one : Opened L) (other : Opened K) (meant : Event → Option Event) where
  -- what a run of the second program shows: the events of the first for which its own stand
  abbrev pub shown : List Action → List Event
  shown actions = filter_map meant (events_after other actions)

  -- A run shows a prefix of the sequence, and some run of the first program has exactly these events, with the same output of each of its tasks.
  pub record ShowsPrefix (actions : List Action) : Type 0 where
    pub rest : List Event
    pub prefix : shown actions ++ rest ≡ s
    pub originals : List Action
    pub original : IsRunWith one (shown actions) originals
    pub outputs : (t : ℕ) → t < one.program.size → output_after other actions t ≡ output_after one originals t

  -- Some further actions show exactly these events.
  pub record GoesOnWith (actions : List Action) (events : List Event) : Type 0 where
    pub more : List Action
    pub applies : IsRun (numbered other.program) (end_from other actions) more
    pub shows : filter_map meant (events_of (numbered other.program) (end_from other actions) more) ≡ events

  -- A run shows a prefix of the sequence behind which its next event is not feasible. The first program has a quiet run with exactly these events,
  -- and each of its tasks that is not killed in them has the output that it has in every such run.
  pub record ShowsAllFeasible (actions : List Action) : Type 0 where
    pub rest : List Event
    pub prefix : shown actions ++ rest ≡ s
    pub longest : (e : Event) (more : List Event) → rest ≡ e ∷ more → IsFeasible one (shown actions ++ e ∷ []) → ⊥
    pub originals : List Action
    pub original : IsRunWith one (shown actions) originals
    pub quiet : IsQuiet one.program.ops (end_from one originals).seats
    pub outputs : (others : List Action) → IsRunWith one (shown actions) others → IsQuiet one.program.ops (end_from one others).seats →
        (t : ℕ) → t < one.program.size → (IsKilledIn (shown actions) t → ⊥) → output_after other actions t ≡ output_after one others t

  -- The second program replays the sequence. Each of its runs shows a prefix of it, as some run of the first program has it. Further actions show
  -- exactly the next events, as far as they are feasible. A run after which no action applies has shown all that is feasible.
  pub record Replays : Type 0 where
    pub shows : (actions : List Action) → IsRun (numbered other.program) other.at actions → ShowsPrefix actions
    pub goes_on : (actions : List Action) → IsRun (numbered other.program) other.at actions → (events tail : List Event) → shown actions ++ (events ++ tail) ≡ s →
        IsFeasible one (shown actions ++ events) → GoesOnWith actions events
    pub ends : (actions : List Action) → IsRun (numbered other.program) other.at actions → IsOver other actions → ShowsAllFeasible actions

-- ---- programs with inputs

-- a program as it starts with these inputs
abbrev pub starting : PProgram → List (List ℤ) → Opened Task
starting p inputs = opened (record { program = p; types = types_in p; inputs = inputs }) (numbers_of p)

-- the first n tasks have the same inputs
abbrev pub AgreeBelow : ℕ → List (List ℤ) → List (List ℤ) → Type 0
AgreeBelow n inputs others = (t : ℕ) → t < n → slice_index_or inputs t [] ≡ slice_index_or others t []

-- The text q replays the sequence s of the program p: with all inputs, where each task of p has the same input in q.
abbrev pub ReplaysProgram : PProgram → PProgram → List Event → Type 0
ReplaysProgram p q s = (inputs others : List (List ℤ)) → AgreeBelow (length (numbers_of p).tasks) inputs others →
    Replays s (starting p inputs) (starting q others) (back_of (numbers_of q))
