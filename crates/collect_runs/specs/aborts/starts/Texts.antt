-- The collecting text with abort statements of a program beside its normal form, as its recorder reads it (this project's rule).
use Rattle.std.specs.Prelude.{ℕ, ℤ, suc, List, [], length, slice_index_or}
use Rattle.ada_tree.specs.PlainProgram.{PProgram}
use Rattle.ada_static_rules.specs.Refusals.{types_in}
use Rattle.task_model.specs.Setting.{Setting}
use Rattle.normal_model.specs.NormalTree.{main_unit}
use Rattle.normal_laws.specs.runs.forms.Normalisable.{numbers_of}
use Rattle.replay_model.specs.ReplayTree.{last_task}
use Rattle.replay_runs.specs.starts.Laws.{form_in}
use Rattle.collect_model.specs.Lines.{header_text}
use Rattle.collect_model.specs.aborts.AbortTeller.{told_in}
use Rattle.collect_model.specs.aborts.AbortTree.{abort_tree}
use Rattle.collect_model.specs.aborts.AbortNumbers.{abort_numbers}
use Rattle.collect_runs.specs.aborts.recorder.Recorders.{Recorder}

-- the text of a program with its own types and numbers
abbrev pub abort_text : PProgram → PProgram
abort_text p = abort_tree p (types_in p) (numbers_of p)

abbrev pub abort_setting : PProgram → Setting
abort_setting p = record { program = abort_text p; types = types_in (abort_text p); numbers = abort_numbers p (types_in p) (numbers_of p) }

-- the number of the recorder, behind those of the normal form's tasks
abbrev pub recorder_number : PProgram → ℕ
recorder_number p = suc (last_task (form_in p).numbers)

-- and that of its entry, behind those of the normal form's entries
abbrev pub note_number : PProgram → ℕ
note_number p = suc (length (form_in p).numbers.entries)

-- The recorder of the text.
abbrev pub recorder_of : PProgram → List (List ℤ) → Recorder
recorder_of p inputs = record {
  setting = abort_setting p;
  number = recorder_number p;
  teller = told_in (main_unit (form_in p));
  span = (form_in p).program.name.span;
  header = header_text (form_in p).program.names (form_in p).numbers;
  input = slice_index_or inputs (recorder_number p) [];
}
