-- For which state of the law's copy a task of the replay text stands (this project's rule).
use Rattle.std.specs.Prelude.{◌≡◌, ℤ, suc, List, [], slice_index_or}
use Rattle.event_machine.specs.declared.Event.{Event}
use Rattle.ada_tree.specs.PlainProgram.{PProgram}
use Rattle.task_model.specs.Tasks.{Task}
use Rattle.run_laws.specs.replaying.Copies.{Spots, Copy, Based, Holding, Saying, Controlling, Handing, Idling}
use Rattle.replay_runs.specs.controls.Laws.{control_number, idler}
use Rattle.replay_runs.specs.controls.Imitating.{IsBefore, IsWithin}
use Rattle.replay_runs.specs.controls.meanings.Pairs.{IsBased}
use Rattle.replay_runs.specs.controls.meanings.Permits.{IsSaying, IsHolding}

-- A task of the text, with these inputs for all tasks, meets a state of the copy: as the image of a task of the normal form, as the controller with
-- the operations that are left, or as the idle task.
abbrev pub MeetsCopy : Spots → PProgram → List Event → List (List ℤ) → Task → Copy Task → Type 0
MeetsCopy far p events inputs κ (Based t σ) = IsBased p events t σ κ
MeetsCopy far p events inputs κ (Holding t permit σ) = IsHolding far p events t permit σ κ
MeetsCopy far p events inputs κ (Saying t σ) = IsSaying far p events t σ κ
MeetsCopy far p events inputs κ (Controlling ops) = IsBefore p events (slice_index_or inputs (control_number p) []) ops κ
MeetsCopy far p events inputs κ (Handing op ops) = IsWithin p events (slice_index_or inputs (control_number p) []) op ops κ
MeetsCopy far p events inputs κ Idling = κ ≡ idler p events (slice_index_or inputs (suc (control_number p)) [])
