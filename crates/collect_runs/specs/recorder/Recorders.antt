-- The recorder as one task of a program, and what is asked of that program (this project's rule).
use Rattle.std.specs.Prelude.{◌≡◌, ℕ, pos, ℤ, List, [], ◌∷◌, Some}
use Rattle.ada_tree.specs.declared.naming.NameId.{NameId}
use Rattle.ada_tree.specs.declared.naming.Span.{Span}
use Rattle.ada_tree.specs.Attributes.{false_name, true_name}
use Rattle.ada_tree.specs.PlainDecl.{OPlain}
use Rattle.ada_static_rules.specs.Scope.{integer_kind}
use Rattle.ada_value.specs.Values.{limits_named, truth_limits}
use Rattle.task_model.specs.Setting.{Setting, entry_of}
use Rattle.task_model.specs.Starting.{form_of}
use Rattle.normal_model.specs.Ranges.{word_at, marked}
use Rattle.table_law.specs.Controllers.{AreApart}
use Rattle.collect_model.specs.declared.AddedNames.{AddedNames}

-- The recorder: what it reads of its program, its number, the added names, the place of its body, the number of the last of the other tasks, its header, and its input.
pub record Recorder : Type 0 where
  pub setting : Setting
  pub number : ℕ
  pub names : AddedNames
  pub span : Span
  pub last : ℕ
  pub header : List ℕ
  pub input : List ℤ

-- the names of its variables, the latest first: the formals of NOTE and the flags
abbrev pub variable_names : AddedNames → List NameId
variable_names n = n.kind ∷ n.subject ∷ n.argument ∷ n.index ∷ n.owner ∷ n.reply ∷ n.met ∷ n.gone ∷ []

-- What is asked of its program: its variables have names of their own, which are not FALSE and TRUE; BOOLEAN is the fourth name, and DED_FLAGS an array of BOOLEAN with one component for each of the other tasks; and NOTE is its entry of this number.
pub record IsRecorder (k : Recorder) (note : ℕ) : Type 0 where
  pub apart : AreApart (record { 0 = false_name } ∷ record { 0 = true_name } ∷ variable_names k.names)
  pub of_truth : limits_named k.setting.types record { 0 = 3 } ≡ truth_limits
  pub of_flags : form_of k.setting.types (OPlain (marked (word_at k.span k.names.flags))) ≡ Some (record { limits = truth_limits; index = Some record { kind = integer_kind; first = pos 0; last = pos k.last } })
  pub found : entry_of k.setting.numbers k.number k.names.note ≡ note
