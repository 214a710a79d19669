-- The collecting text of a program beside its normal form, as tasks read them, and its recorder (this project's rule).
use Rattle.std.specs.Prelude.{ℕ, ℤ, suc, Bool, List, [], length, is_some, slice_index_or}
use Rattle.ada_tree.specs.PlainProgram.{PProgram}
use Rattle.ada_static_rules.specs.Refusals.{types_in}
use Rattle.ada_static_rules.specs.StaticValue.{value_named}
use Rattle.task_model.specs.Setting.{Setting}
use Rattle.task_laws.specs.legal.rewritten_values.Values.{is_known}
use Rattle.normal_model.specs.NormalTree.{main_unit}
use Rattle.normal_laws.specs.runs.forms.Normalisable.{numbers_of}
use Rattle.replay_model.specs.ReplayTree.{last_task}
use Rattle.replay_runs.specs.starts.Laws.{form_in}
use Rattle.replay_runs.specs.starts.Formals.{form_setting}
use Rattle.collect_model.specs.declared.AddedNames.{AddedNames}
use Rattle.collect_model.specs.Names.{collect_names, added_in}
use Rattle.collect_model.specs.Teller.{teller_in}
use Rattle.collect_model.specs.Lines.{header_text}
use Rattle.collect_model.specs.CollectTree.{collect_tree}
use Rattle.collect_model.specs.CollectNumbers.{collect_numbers}
use Rattle.collect_runs.specs.recorder.Recorders.{Recorder}
use Rattle.collect_runs.specs.telling.Texts.{Texts}

-- the collecting text of a program with its own types and numbers
abbrev pub text_for : PProgram → PProgram
text_for p = collect_tree p (types_in p) (numbers_of p)

abbrev pub text_setting : PProgram → Setting
text_setting p = record { program = text_for p; types = types_in (text_for p); numbers = collect_numbers p (types_in p) (numbers_of p) }

-- the ids of the added names
abbrev pub names_added : PProgram → AddedNames
names_added p = added_in (collect_names (form_in p).program)

-- the number of the recorder, behind those of the normal form's tasks, and of its entry, behind those of the normal form's entries
abbrev pub recorder_number : PProgram → ℕ
recorder_number p = suc (last_task (form_in p).numbers)

abbrev pub note_number : PProgram → ℕ
note_number p = suc (length (form_in p).numbers.entries)

-- The recorder of the text.
abbrev pub recorder_of : PProgram → List (List ℤ) → Recorder
recorder_of p inputs = record {
  setting = text_setting p;
  number = recorder_number p;
  names = names_added p;
  span = (form_in p).program.name.span;
  last = last_task (form_in p).numbers;
  header = header_text (form_in p).program.names (form_in p).numbers;
  input = slice_index_or inputs (recorder_number p) [];
}

-- The normal form and its text, where these are the ids of the names that stay. Fixed are FALSE, TRUE, and the names of constants, named numbers and enumeration literals in the types of the normal form, and a kind is known where these have a scalar type at its place.
abbrev pub texts_of : PProgram → (ℕ → Bool) → Texts
texts_of p kept = record {
  programs = record {
    original = form_setting p;
    made = text_setting p;
    is_old = kept;
    is_fixed = λ n. is_some (value_named (types_in (form_in p).program) record { 0 = n });
    is_known = is_known (types_in (form_in p).program);
  };
  main = teller_in (main_unit (form_in p));
  recorder = recorder_number p;
  note = note_number p;
}
