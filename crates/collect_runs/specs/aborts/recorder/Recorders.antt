-- The recorder as one task of a program with abort statements, and what is asked of that program (9.10; this project's rule).
use Rattle.std.specs.Prelude.{◌≡◌, ℕ, pos, ℤ, ◌≤◌, suc, List, [], ◌∷◌, drop, slice_get, Some, option_map}
use Rattle.ada_tree.specs.declared.naming.NameId.{NameId}
use Rattle.ada_tree.specs.declared.naming.Span.{Span}
use Rattle.ada_tree.specs.declared.static_types.Kind.TheVariants.{Integer}
use Rattle.ada_tree.specs.Attributes.{false_name, true_name}
use Rattle.ada_tree.specs.PlainDecl.{OPlain}
use Rattle.ada_static_rules.specs.Scope.{integer_kind}
use Rattle.ada_static_rules.specs.StaticValue.{mark_named}
use Rattle.ada_value.specs.Values.{limits_of, limits_of_kind, limits_named, integer_limits, truth_limits}
use Rattle.syn_event.specs.declared.numbering.TaskInfo.{TaskInfo}
use Rattle.syn_event.specs.Numbering.{task_named}
use Rattle.task_model.specs.Setting.{Setting, entry_of}
use Rattle.task_model.specs.Starting.{form_of}
use Rattle.normal_model.specs.Ranges.{word_at, marked}
use Rattle.replay_model.specs.ReplayTree.{last_task}
use Rattle.table_law.specs.Controllers.{AreApart}
use Rattle.collect_model.specs.declared.AddedNames.{AddedNames}
use Rattle.collect_model.specs.aborts.AbortTeller.{AbortTeller}

-- The recorder: what it reads of its program, its number, what main is told, the place of its body, its header, and its input.
pub record Recorder : Type 0 where
  pub setting : Setting
  pub number : ℕ
  pub teller : AbortTeller
  pub span : Span
  pub header : List ℕ
  pub input : List ℤ

-- the added names
abbrev pub names_of : Recorder → AddedNames
names_of k = k.teller.teller.added

-- the other tasks, and the number of the last of them
abbrev pub tasks_of : Recorder → List TaskInfo
tasks_of k = k.teller.teller.numbers.tasks

abbrev pub last_of : Recorder → ℕ
last_of k = last_task k.teller.teller.numbers

-- the names of its variables, the latest first: the formals of NOTE, how calls stand, and the flags
abbrev pub variable_names : Recorder → List NameId
variable_names k =
    (names_of k).kind ∷ (names_of k).subject ∷ (names_of k).argument ∷ (names_of k).index ∷ (names_of k).owner ∷ (names_of k).reply
    ∷ k.teller.acceptors ∷ (names_of k).met ∷ (names_of k).gone ∷ []

-- What is asked of its program: its variables and the loop parameter have names of their own, which are not FALSE and TRUE; BOOLEAN is the fourth name, and
-- DED_FLAGS an array of BOOLEAN with one component for each of the other tasks; INTEGER is the first kind, with a mark of the first name, and has the
-- numbers of the tasks; NOTE is the recorder's entry of this number; and each other task beside main is found by its name.
pub record IsRecorder (k : Recorder) (note : ℕ) : Type 0 where
  pub apart : AreApart (record { 0 = false_name } ∷ record { 0 = true_name } ∷ k.teller.each ∷ variable_names k)
  pub of_truth : limits_named k.setting.types record { 0 = 3 } ≡ truth_limits
  pub of_flags : form_of k.setting.types (OPlain (marked (word_at k.span (names_of k).flags)))
      ≡ Some (record { limits = truth_limits; index = Some record { kind = integer_kind; first = pos 0; last = pos (last_of k) } })
  pub integer : slice_get k.setting.types.kinds integer_kind ≡ Some Integer
  pub of_kind : limits_of_kind k.setting.types integer_kind ≡ integer_limits
  pub of_integer : option_map limits_of (mark_named k.setting.types record { 0 = 0 }) ≡ Some integer_limits
  pub few : last_of k ≤ 2147483647
  pub found : entry_of k.setting.numbers k.number (names_of k).note ≡ note
  pub aborts : (j : ℕ) (info : TaskInfo) → slice_get (drop 1 (tasks_of k)) j ≡ Some info → task_named k.setting.numbers info.name ≡ Some (suc j)
