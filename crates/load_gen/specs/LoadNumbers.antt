-- The numbers of LOAD (this project's rule): main is task 0, B is task 1, the producer Pk is task k + 1, and PUT is entry 1.
use Rattle.std.specs.Prelude.{ℕ, pos, false, [], ◌∷◌, map, None}
use Rattle.syn_event.specs.declared.numbering.TaskInfo.{TaskInfo}
use Rattle.syn_event.specs.declared.numbering.EntryInfo.{EntryInfo}
use Rattle.syn_event.specs.Numbering.{Numbering}
use Rattle.load_gen.specs.LoadTree.{put_id, load_id, buffer_id, producer_id, producers}

-- a task that runs its own body, and that no rewriter added
abbrev pub own_task : ℕ → TaskInfo
own_task id = record { name = record { 0 = id }; added = false; unit = record { 0 = id }; member = None }

-- the entry PUT of task 1
abbrev pub put_info : EntryInfo
put_info = record { name = record { 0 = put_id }; owner = 1; family = false; first = pos 0; last = pos 0; added = false; stands_for = None }

-- The numbers of the program with n producers.
abbrev pub load_numbers : ℕ → Numbering
load_numbers n = record {
  main = record { 0 = load_id };
  tasks = own_task load_id ∷ own_task buffer_id ∷ map (λ k. own_task (producer_id k)) (producers n);
  entries = put_info ∷ [];
}
