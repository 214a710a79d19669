-- What a run of a text leaves, as the code comes to it.
use Rattle.std.specs.Prelude.{◌≡◌, ℕ, List}
use Rattle.syn_event.specs.Numbering.{Numbering}
use Rattle.task_model.specs.Machine.{MachineState}
use Rattle.task_model.specs.picked_runs.Picked.{picked, run_end}
use Rattle.debug_collect.specs.declared.recording.Recorded.{Recorded}
use Rattle.debug_collect.specs.Recorded.{file_at}

-- the file and the end are those of the run from a machine that these choices pick, of at most so many turns
pub record IsFileOf {C : Type 0} (word : C → ℕ) (next : C → C) (names : List (List ℕ)) (numbers : Numbering) (m : MachineState) (choices : C) (turns : ℕ) (recorded : Recorded) : Type 0 where
  pub file : recorded.file.items ≡ file_at names numbers (picked word next turns m choices)
  pub end : recorded.end ≡ run_end (picked word next turns m choices)
