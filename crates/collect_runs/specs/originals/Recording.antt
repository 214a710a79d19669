-- That one program writes down what another does, told of the two programs alone (this project's rule).
use Rattle.std.specs.Prelude.{◌≡◌, ℕ, ◌<◌, Bool, true, List, [], ◌∷◌, ◌++◌}
use Rattle.std.specs.List.{list_any}
use Rattle.event_machine.specs.declared.Action.{Action}
use Rattle.event_machine.specs.declared.Event.{Event}
use Rattle.event_machine.specs.declared.Event.TheVariants.{Z}
use Rattle.event_machine.specs.Runs.{IsRun}
use Rattle.event_machine.specs.Programs.{numbered}
use Rattle.event_machine.specs.Tallies.{HasNoEnd, IsKilledIn, before_end}
use Rattle.event_machine.specs.Laws.{IsQuiet}
use Rattle.event_machine.specs.Worlds.{is_last}
use Rattle.run_laws.specs.imitation.Shown.{Opened, end_from}
use Rattle.run_laws.specs.collecting.Notes.{Lines, text}
use Rattle.run_laws.specs.collecting.Laws.{IsRecord, with_end}
use Rattle.replay_runs.specs.controls.replayed.Replaying.{output_after, IsRunWith, IsFeasible, IsOver}

-- a program has ended after these actions
abbrev pub has_ended : {L : Type 0} → Opened L → List Action → Bool
has_ended o actions = (end_from o actions).ended

-- How a recorder writes, a program, another one that is made from it, and which task of this is the recorder.
module _ {L K : Type 0} (lines : Lines) (one : Opened L) (other : Opened K) (recorder : ℕ) where
  -- Some run of the first program has exactly these events, with the same output of each of its tasks.
  pub record IsRunOfFirst (actions : List Action) (events : List Event) : Type 0 where
    pub originals : List Action
    pub original : IsRunWith one events originals
    pub outputs : (t : ℕ) → t < one.program.size → output_after other actions t ≡ output_after one originals t

  -- Some quiet run of the first program has exactly these events, and each of its tasks that is not killed in them has the output that it has in every
  -- such run.
  pub record IsQuietRunOfFirst (actions : List Action) (events : List Event) : Type 0 where
    pub originals : List Action
    pub original : IsRunWith one events originals
    pub quiet : IsQuiet one.program.ops (end_from one originals).seats
    pub outputs : (others : List Action) → IsRunWith one events others → IsQuiet one.program.ops (end_from one others).seats →
        (t : ℕ) → t < one.program.size → (IsKilledIn events t → ⊥) → output_after other actions t ≡ output_after one others t

  -- What a run records: events of the first program, without its end. Some run of that has exactly these; where the run has ended, one has them and then
  -- ends; and where no action applies any more a quiet one has them.
  pub record Records (actions : List Action) : Type 0 where
    pub events : List Event
    pub no_end : HasNoEnd events
    pub is_record : IsRecord lines (output_after other actions recorder) events
    pub shown : IsRunOfFirst actions events
    pub ended : has_ended other actions ≡ true → IsRunOfFirst actions (events ++ Z ∷ [])
    pub quiet : IsOver other actions → IsQuietRunOfFirst actions (with_end events (has_ended other actions))

  -- Some run records the events before the end of the program, and has ended exactly where they end so.
  pub record IsRecorded (events : List Event) : Type 0 where
    pub actions : List Action
    pub applies : IsRun (numbered other.program) other.at actions
    pub bytes : output_after other actions recorder ≡ text lines (before_end events)
    pub ended : has_ended other actions ≡ list_any is_last events

  -- The second program collects the first. Whatever the schedule, a run of it records events of the first; and each list that is feasible there is recorded
  -- in some run.
  pub record CollectsRuns : Type 0 where
    pub records : (actions : List Action) → IsRun (numbered other.program) other.at actions → Records actions
    pub covers : (events : List Event) → IsFeasible one events → IsRecorded events
