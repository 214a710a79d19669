-- What is promised of a replay text, told of runs that are named (this project's rule), for the examples: parts of `Replays` with their actions and
-- events spelled out.
use Rattle.std.specs.Prelude.{◌≡◌, ℕ, ℤ, ◌<◌, List, [], ◌∷◌, ◌++◌, Option}
use Rattle.std.specs.List.{filter_map}
use Rattle.event_machine.specs.declared.Action.{Action}
use Rattle.event_machine.specs.declared.Event.{Event}
use Rattle.event_machine.specs.Runs.{IsRun, events_of}
use Rattle.event_machine.specs.Programs.{numbered}
use Rattle.event_machine.specs.Laws.{IsQuiet}
use Rattle.ada_tree.specs.PlainProgram.{PProgram}
use Rattle.syn_event.specs.Origin.{back_of}
use Rattle.task_model.specs.Tasks.{Task}
use Rattle.run_laws.specs.imitation.Shown.{Opened, end_from}
use Rattle.normal_laws.specs.runs.forms.Normalisable.{numbers_of}
use Rattle.replay_structure.specs.legal.Laws.{text_for}
use Rattle.replay_runs.specs.controls.replayed.Replaying.{output_after, IsRunWith, IsFeasible, IsOver, shown, ShowsPrefix, GoesOnWith, ShowsAllFeasible, starting}

-- A program with its replay text of a sequence, as both start with these inputs.
module _ (p : PProgram) (s : List Event) (inputs : List (List ℤ)) where
  abbrev pub one : Opened Task
  one = starting p inputs

  abbrev pub text : Opened Task
  text = starting (text_for p s) inputs

  -- the event of the program for which an event of the text stands, if it stands for one
  abbrev pub meant : Event → Option Event
  meant = back_of (numbers_of (text_for p s))

  -- These actions are a run of the text that shows exactly these events (this project's rule). The other actions are a run of the program that has
  -- exactly these events, and each of its tasks has written the same in both.
  pub record ShowsBy (events : List Event) (actions originals : List Action) : Type 0 where
    pub applies : IsRun (numbered text.program) text.at actions
    pub shows : shown s one text meant actions ≡ events
    pub original : IsRunWith one events originals
    pub outputs : (t : ℕ) → t < one.program.size → output_after text actions t ≡ output_after one originals t

  -- Behind a run of the text these further actions apply, and show exactly these events (this project's rule).
  pub record GoesOnBy (actions more : List Action) (events : List Event) : Type 0 where
    pub applies : IsRun (numbered text.program) (end_from text actions) more
    pub shows : filter_map meant (events_of (numbered text.program) (end_from text actions) more) ≡ events

  -- These actions show exactly these events, of the sequence these are left, and no action of the text applies behind them (this project's rule).
  -- What is left begins with an event that is not feasible next, and the run of the program is quiet.
  pub record EndsBy (events left : List Event) (actions originals : List Action) : Type 0 where
    pub shows : ShowsBy events actions originals
    pub splits : events ++ left ≡ s
    pub over : IsOver text actions
    pub longest : (e : Event) (more : List Event) → left ≡ e ∷ more → IsFeasible one (events ++ e ∷ []) → ⊥
    pub quiet : IsQuiet one.program.ops (end_from one originals).seats

  -- The parts of `Replays` at a run that is named, which goes on with these events, and at one behind which no action applies (this project's rule).
  pub record HasParts (front : List Action) (next : List Event) (whole : List Action) : Type 0 where
    pub shows : ShowsPrefix s one text meant front
    pub goes_on : GoesOnWith s one text meant front next
    pub ends : ShowsAllFeasible s one text meant whole
