-- The numbers of a collecting text (this project's rule): those of the program, and behind them the recorder and its entry.
use Rattle.std.specs.Prelude.{ℕ, ◌+◌, pos, true, false, [], ◌∷◌, ◌++◌, None}
use Rattle.ada_tree.specs.PlainProgram.{PProgram}
use Rattle.ada_tree.specs.TypeTable.{TypeTable}
use Rattle.syn_event.specs.declared.numbering.TaskInfo.{TaskInfo}
use Rattle.syn_event.specs.declared.numbering.EntryInfo.{EntryInfo}
use Rattle.syn_event.specs.Numbering.{Numbering}
use Rattle.replay_model.specs.ReplayTree.{last_task, normal_setting}
use Rattle.collect_model.specs.declared.AddedNames.{AddedNames}
use Rattle.collect_model.specs.Names.{collect_names, added_in}

-- the recorder, which runs a body of its own
abbrev pub recorder_info : AddedNames → TaskInfo
recorder_info n = record { name = n.recorder; added = true; unit = n.recorder; member = None }

-- its entry, by the number of the last task in front of it; it stands for none of the original
abbrev pub note_info : AddedNames → ℕ → EntryInfo
note_info n last = record { name = n.note; owner = last + 1; family = false; first = pos 0; last = pos 0; added = true; stands_for = None }

-- The numbers of the collecting text of a program with these numbers.
abbrev pub numbers_with : AddedNames → Numbering → Numbering
numbers_with n numbers = record {
  main = numbers.main;
  tasks = numbers.tasks ++ recorder_info n ∷ [];
  entries = numbers.entries ++ note_info n (last_task numbers) ∷ [];
}

-- Those of the collecting text of a program with these types and numbers: its normal form's, in which each task has a name of its own, and the recorder's.
abbrev pub collect_numbers : PProgram → TypeTable → Numbering → Numbering
collect_numbers p types numbers = numbers_with (added_in (collect_names (normal_setting p types numbers).program)) (normal_setting p types numbers).numbers
