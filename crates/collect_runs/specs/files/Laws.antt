-- What a run of a collecting text records is the file of a feasible sequence of the program (this project's rule).
use Rattle.std.specs.Prelude.{◌≡◌, ℕ, ℤ, Bool, true, List, length}
use Rattle.event_machine.specs.declared.Action.{Action}
use Rattle.event_machine.specs.declared.Event.{Event}
use Rattle.event_machine.specs.Programs.{numbered}
use Rattle.event_machine.specs.Applying.{can}
use Rattle.event_machine.specs.Runs.{IsRun, end_of}
use Rattle.ada_tree.specs.PlainProgram.{PProgram}
use Rattle.seq_file.specs.Files.{SeqText}
use Rattle.task_model.specs.Machine.{MachineState, rules_of}
use Rattle.task_model.specs.picked_runs.Outputs.{output_of}
use Rattle.run_laws.specs.collecting.Laws.{IsRecord, with_end}
use Rattle.normal_laws.specs.existence.Laws.{IsLegalOriginal}
use Rattle.normal_laws.specs.runs.forms.Normalisable.{numbers_of}
use Rattle.replay_runs.specs.controls.replayed.Replaying.{starting, output_after, AgreeBelow, IsOver}
use Rattle.collect_runs.specs.originals.Laws.{CollectsProgram, lines_for}
use Rattle.collect_runs.specs.originals.Recording.{has_ended}
use Rattle.collect_runs.specs.files.Files.{HasLines, file_of_lines}
use Rattle.collect_runs.specs.files.Sequences.{opening_with, IsRecordedIn}

-- The file of what a recorder has written of some events is the text of these events, and of Z behind them where the run has ended. A line that is not
-- finished stands in no file.
abbrev pub RecordsMakeFiles : Type 0
RecordsMakeFiles =
    (p : PProgram) → IsLegalOriginal p → (output : List ℕ) (events : List Event) → IsRecord (lines_for p) output events →
    (lines : List (List ℕ)) (rest : List ℕ) → HasLines output lines rest → (ended : Bool) →
    file_of_lines p.names (numbers_of p) lines ended ≡ SeqText p.names (numbers_of p) (with_end events ended)

-- Each run of a text that collects a legal program records a sequence of it, whatever the inputs and the schedule.
abbrev pub RunsAreRecorded : Type 0
RunsAreRecorded =
    (p q : PProgram) → IsLegalOriginal p → CollectsProgram p q → (inputs others : List (List ℤ)) → AgreeBelow (length (numbers_of p).tasks) inputs others →
    (actions : List Action) → IsRun (numbered (starting q others).program) (starting q others).at actions →
    (events : List Event) × IsRecordedIn p inputs (λ t. output_after (starting q others) actions t) (has_ended (starting q others) actions) (IsOver (starting q others) actions) events

-- the machine after these actions
abbrev pub machine_after : PProgram → List (List ℤ) → List Action → MachineState
machine_after q inputs actions = record { numbers = numbers_of q; state = end_of (rules_of (numbers_of q)) (opening_with q inputs).state actions }

-- no action applies to the machine
abbrev pub NoneApplies : MachineState → Type 0
NoneApplies m = (action : Action) → can (rules_of m.numbers) m.state action ≡ true → ⊥

-- So does each run of its machine, which has its tasks in a list.
abbrev pub MachinesAreRecorded : Type 0
MachinesAreRecorded =
    (p q : PProgram) → IsLegalOriginal p → CollectsProgram p q → (inputs others : List (List ℤ)) → AgreeBelow (length (numbers_of p).tasks) inputs others →
    (actions : List Action) → IsRun (rules_of (numbers_of q)) (opening_with q others).state actions →
    let m : MachineState = machine_after q others actions in
    (events : List Event) × IsRecordedIn p inputs (output_of m) m.state.ended (NoneApplies m) events
