-- The sequence of a program that a run of its collecting text records (this project's rules).
use Rattle.std.specs.Prelude.{◌≡◌, ℕ, ℤ, ◌<◌, Bool, List}
use Rattle.event_machine.specs.declared.Action.{Action}
use Rattle.event_machine.specs.declared.Event.{Event}
use Rattle.event_machine.specs.Laws.{IsQuiet}
use Rattle.event_machine.specs.Tallies.{IsKilledIn}
use Rattle.event_machine.specs.Runs.{Feasible}
use Rattle.ada_tree.specs.PlainProgram.{PProgram}
use Rattle.ada_static_rules.specs.Refusals.{types_in}
use Rattle.task_model.specs.Machine.{MachineState, rules_of, opening_of}
use Rattle.run_laws.specs.imitation.Shown.{Opened, end_from}
use Rattle.normal_laws.specs.runs.forms.Normalisable.{numbers_of}
use Rattle.replay_runs.specs.controls.replayed.Replaying.{output_after, IsRunWith, starting}
use Rattle.seq_file.specs.Files.{SeqText, NothingFollowsEnd, has_ended}
use Rattle.collect_runs.specs.starts.Texts.{recorder_number}
use Rattle.collect_runs.specs.files.Files.{HasLines, file_of_lines}

-- a program at its start with these inputs, with its tasks in a list
abbrev pub opening_with : PProgram → List (List ℤ) → MachineState
opening_with q inputs = opening_of (record { program = q; types = types_in q; inputs = inputs }) (numbers_of q)

-- A program, and what its tasks are to have written after some events.
module _ {L : Type 0} (one : Opened L) (outputs : ℕ → List ℕ) (events : List Event) where
  -- Some run of it has exactly these events, and each of its tasks has written this then.
  pub record IsShown : Type 0 where
    pub originals : List Action
    pub original : IsRunWith one events originals
    pub same : (t : ℕ) → t < one.program.size → outputs t ≡ output_after one originals t

  -- Some quiet run of it has exactly these events, and each of its tasks that is not killed in them has written this after every such run.
  pub record IsShownQuiet : Type 0 where
    pub originals : List Action
    pub original : IsRunWith one events originals
    pub quiet : IsQuiet one.program.ops (end_from one originals).seats
    pub same : (others : List Action) → IsRunWith one events others → IsQuiet one.program.ops (end_from one others).seats →
        (t : ℕ) → t < one.program.size → (IsKilledIn events t → ⊥) → outputs t ≡ output_after one others t

-- The tasks of the collecting text of p have written these outputs, the text has ended or not, and a condition says when no action of it applies any more.
-- The events are feasible in p with these inputs, as a judge has it. Some run of p has exactly these events, with the same outputs; and where no action of the text applies
-- any more, so has a quiet run. The events end with Z exactly where the text has ended. The file by the finished lines of the recorder is the text of a
-- sequence file of p with these events.
pub record IsRecordedIn (p : PProgram) (inputs : List (List ℤ)) (outputs : ℕ → List ℕ) (ended : Bool) (IsOver : Type 0) (events : List Event) : Type 0 where
  pub feasible : Feasible (rules_of (numbers_of p)) (opening_with p inputs).state events
  pub shown : IsShown (starting p inputs) outputs events
  pub quiet : IsOver → IsShownQuiet (starting p inputs) outputs events
  pub ends : has_ended events ≡ ended
  pub end : NothingFollowsEnd events
  pub text : (lines : List (List ℕ)) (rest : List ℕ) → HasLines (outputs (recorder_number p)) lines rest → file_of_lines p.names (numbers_of p) lines ended ≡ SeqText p.names (numbers_of p) events
