-- The collecting text with abort statements of a program beside its normal form, as its tasks tell (this project's rule).
use Rattle.std.specs.Prelude.{ℕ, Bool, is_some}
use Rattle.ada_tree.specs.PlainProgram.{PProgram}
use Rattle.ada_static_rules.specs.Refusals.{types_in}
use Rattle.ada_static_rules.specs.StaticValue.{value_named}
use Rattle.task_model.specs.Starting.{unit_of}
use Rattle.task_laws.specs.legal.rewritten_values.Values.{is_known}
use Rattle.normal_model.specs.NormalTree.{main_unit}
use Rattle.replay_runs.specs.starts.Laws.{form_in}
use Rattle.replay_runs.specs.starts.Formals.{form_setting}
use Rattle.collect_model.specs.declared.AddedNames.{AddedNames}
use Rattle.collect_model.specs.aborts.Places.{places_in}
use Rattle.collect_model.specs.aborts.AbortTeller.{told_in}
use Rattle.collect_structure.specs.aborts.Names.{kept_name}
use Rattle.collect_runs.specs.aborts.telling.Texts.{Texts}
use Rattle.collect_runs.specs.aborts.starts.Texts.{abort_setting, recorder_number, note_number}

-- the ids of the names that each collecting text adds
abbrev pub names_added : PProgram → AddedNames
names_added p = (told_in (main_unit (form_in p))).teller.added

-- The ids of the names of the normal form that stay.
abbrev pub names_kept : PProgram → ℕ → Bool
names_kept p = kept_name (form_in p).program

-- The normal form and its text, where these are the ids of the names that stay. Fixed are FALSE, TRUE, and the names of constants, named numbers and
-- enumeration literals in the types of the normal form, and a kind is known where these have a scalar type at its place.
abbrev pub texts_of : PProgram → (ℕ → Bool) → Texts
texts_of p kept = record {
  programs = record {
    original = form_setting p;
    made = abort_setting p;
    is_old = kept;
    is_fixed = λ n. is_some (value_named (types_in (form_in p).program) record { 0 = n });
    is_known = is_known (types_in (form_in p).program);
  };
  main = told_in (main_unit (form_in p));
  recorder = recorder_number p;
  note = note_number p;
  places = λ t. places_in (unit_of (form_in p).program (form_in p).numbers t).body;
}
