-- The sequence that a run of a collecting text records, as a file (this project's rules).
use Rattle.std.specs.Prelude.{◌≡◌, ◌≤◌, ℕ, ℤ, ◌+◌, Bool, true, false, All, List, length, drop}
use Rattle.event_machine.specs.declared.Event.{Event}
use Rattle.ada_tree.specs.PlainProgram.{PProgram}
use Rattle.ada_tree.specs.TypeTable.{TypeTable}
use Rattle.ada_static_rules.specs.Refusals.{types_in}
use Rattle.syn_event.specs.Numbering.{Numbering}
use Rattle.syn_event.specs.AllNumbers.{all_numbers}
use Rattle.seq_file.specs.Files.{SeqText, SeqReads, most_events, has_ended, NothingFollowsEnd}
use Rattle.seq_file.specs.Known.{is_known}
use Rattle.task_model.specs.Machine.{ProgramWithInputs, MachineState, opening_of}
use Rattle.task_model.specs.declared.picked_runs.report.RunEnd.{RunEnd}
use Rattle.task_model.specs.declared.picked_runs.report.RunEnd.TheVariants.{Ended, Stuck, Turns}
use Rattle.task_model.specs.picked_runs.Outputs.{output_of}
use Rattle.task_model.specs.picked_runs.Picked.{Position, picked, run_end}
use Rattle.normal_laws.specs.runs.runs.Laws.{opened}
use Rattle.replay_model.specs.ReplayTree.{last_task}
use Rattle.collect_model.specs.aborts.Collecting.{collecting_tree}
use Rattle.collect_runs.specs.files.Files.{file_of_lines}
use Rattle.collect_runs.specs.files.Sequences.{IsShown, IsShownQuiet}
use Rattle.task_machine.specs.Views.{IsFeasible}
use Rattle.debug_run.specs.RunOutcomes.{run_status}
use Rattle.debug_run.specs.texts.OutputText.{finished_lines}
use Rattle.debug_outcome.specs.Outcomes.{Outcome, writes}

-- ---- the file

-- the lines of events that the recorder has finished: the first of its lines is the header
abbrev pub event_lines : List ℕ → List (List ℕ)
event_lines output = drop 1 (finished_lines output)

-- the run has ended
abbrev pub is_ended : RunEnd → Bool
is_ended Ended = true
is_ended Stuck = false
is_ended Turns = false

-- The sequence file of a program with these names and numbers by what the recorder has written: the header, each line of an event that is finished, and Z exactly where the run has ended. The header stands there too where the recorder has not come to write it.
abbrev pub recorded_text : List (List ℕ) → Numbering → List ℕ → RunEnd → List ℕ
recorded_text names numbers output end = file_of_lines names numbers (finished_lines output) (is_ended end)

-- ---- the run

-- the number of the recorder, which is the task behind those of the program
abbrev pub recorder_of : Numbering → ℕ
recorder_of numbers = last_task numbers + 1

-- a text with its own types and numbers, at its start
abbrev pub opening : PProgram → List (List ℤ) → MachineState
opening text inputs = opening_of (record { program = text; types = types_in text; inputs = inputs }) (all_numbers (types_in text) text)

-- where the run of the collecting text of a program with these types and numbers stands that these choices pick, of at most so many turns; its tasks read what those of the program read
abbrev pub recording : {C : Type 0} → (C → ℕ) → (C → C) → PProgram → TypeTable → Numbering → List (List ℤ) → C → ℕ → Position C
recording word next p types numbers inputs choices turns = picked word next turns (opening (collecting_tree p types numbers) inputs) choices

-- the file of a run that stands here as its turns are spent
abbrev pub file_at : {C : Type 0} → List (List ℕ) → Numbering → Position C → List ℕ
file_at names numbers at = recorded_text names numbers (output_of at.machine (recorder_of numbers)) (run_end at)

-- The run of the collecting text of a program, which starts so, stands here, and records these events of the program. They are feasible, as a judge has
-- it: some run of the program has exactly these, with the outputs that its tasks have in the text. Where no action of the text applies any more, so has a
-- quiet run. The file is the text of the events, whose numbers are known, with Z at their end exactly where the run has ended. It is read as these events
-- where a file can have as many.
pub record AreRecorded {C : Type 0} (setup : ProgramWithInputs) (numbers : Numbering) (at : Position C) (events : List Event) : Type 0 where
  pub feasible : IsFeasible setup numbers events
  pub shown : IsShown (opened setup numbers) (output_of at.machine) events
  pub quiet : (run_end at ≡ Turns → ⊥) → IsShownQuiet (opened setup numbers) (output_of at.machine) events
  pub known : All (λ event. is_known numbers event ≡ true) events
  pub end : NothingFollowsEnd events
  pub ends : has_ended events ≡ is_ended (run_end at)
  pub file : file_at setup.program.names numbers at ≡ SeqText setup.program.names numbers events
  pub reads : length events ≤ most_events → SeqReads (file_at setup.program.names numbers at) numbers setup.program.names events

-- The outcome is the file of that run, with the status of its end: the file of these events. The program calls for it when its collecting text is run.
pub record IsRecorded {C : Type 0} (word : C → ℕ) (next : C → C) (p : PProgram) (types : TypeTable) (numbers : Numbering) (inputs : List (List ℤ)) (choices : C) (turns : ℕ) (o : Outcome) : Type 0 where
  pub events : List Event
  pub recorded : AreRecorded (record { program = p; types = types; inputs = inputs }) numbers (recording word next p types numbers inputs choices turns) events
  pub is : o ≡ writes (file_at p.names numbers (recording word next p types numbers inputs choices turns)) (run_status (run_end (recording word next p types numbers inputs choices turns)))
