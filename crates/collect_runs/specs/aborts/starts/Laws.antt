-- What a legal program gives to the recorder of its collecting text with abort statements (this project's rule).
use Rattle.std.specs.Prelude.{◌≡◌, ℕ, ℤ, ◌≤◌, suc, List, ◌∷◌, drop, slice_get, Some, option_map}
use Rattle.ada_tree.specs.declared.static_types.Kind.TheVariants.{Integer}
use Rattle.ada_tree.specs.Attributes.{false_name, true_name}
use Rattle.ada_tree.specs.PlainProgram.{PProgram}
use Rattle.ada_static_rules.specs.Scope.{integer_kind}
use Rattle.ada_static_rules.specs.StaticValue.{mark_named}
use Rattle.ada_value.specs.Values.{limits_of, limits_of_kind, limits_named, integer_limits, truth_limits}
use Rattle.syn_event.specs.declared.numbering.TaskInfo.{TaskInfo}
use Rattle.syn_event.specs.Numbering.{task_named}
use Rattle.task_model.specs.Setting.{entry_of}
use Rattle.normal_laws.specs.existence.Laws.{IsLegalOriginal}
use Rattle.table_law.specs.Controllers.{AreApart}
use Rattle.collect_runs.specs.aborts.recorder.Recorders.{Recorder, names_of, tasks_of, last_of, variable_names, IsRecorder}
use Rattle.collect_runs.specs.aborts.starts.Texts.{recorder_of, note_number}

-- What `IsRecorder` asks of names: the recorder's variables and its loop parameter have names of their own, which are not FALSE and TRUE; and BOOLEAN and
-- INTEGER mean the predefined types; INTEGER has the numbers of the tasks; NOTE is the recorder's entry of this
-- number; and each other task beside main is found by its name.
pub record HasNames (k : Recorder) (note : ℕ) : Type 0 where
  pub apart : AreApart (record { 0 = false_name } ∷ record { 0 = true_name } ∷ k.teller.each ∷ variable_names k)
  pub of_truth : limits_named k.setting.types record { 0 = 3 } ≡ truth_limits
  pub integer : slice_get k.setting.types.kinds integer_kind ≡ Some Integer
  pub of_kind : limits_of_kind k.setting.types integer_kind ≡ integer_limits
  pub of_integer : option_map limits_of (mark_named k.setting.types record { 0 = 0 }) ≡ Some integer_limits
  pub few : last_of k ≤ 2147483647
  pub found : entry_of k.setting.numbers k.number (names_of k).note ≡ note
  pub aborts : (j : ℕ) (info : TaskInfo) → slice_get (drop 1 (tasks_of k)) j ≡ Some info → task_named k.setting.numbers info.name ≡ Some (suc j)

-- It is so in the text of each legal program.
abbrev pub LegalHasNames : Type 0
LegalHasNames = (p : PProgram) (inputs : List (List ℤ)) → IsLegalOriginal p → HasNames (recorder_of p inputs) (note_number p)

-- So the recorder is as asked.
abbrev pub LegalIsRecorder : Type 0
LegalIsRecorder = (p : PProgram) (inputs : List (List ℤ)) → IsLegalOriginal p → IsRecorder (recorder_of p inputs) (note_number p)
