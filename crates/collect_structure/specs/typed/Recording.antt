-- What can be used where a collecting text declares what it adds, and in the body of its recorder, for the static rules 1 and 3 to 12 (this project's rule).
use Rattle.std.specs.Prelude.{◌≡◌, ℕ, ℤ, pos, negsuc, Some}
use Rattle.ada_tree.specs.declared.naming.NameId.{NameId}
use Rattle.ada_tree.specs.declared.statements.ParMode.TheVariants.{Take, Give}
use Rattle.ada_tree.specs.declared.static_types.Kind.TheVariants.{Array}
use Rattle.ada_tree.specs.declared.static_types.Mark.{Mark}
use Rattle.ada_tree.specs.Attributes.{false_name, true_name}
use Rattle.ada_tree.specs.PlainProgram.{PProgram}
use Rattle.ada_static_rules.specs.Scope.{Scope, Range, TypeMark, Variable, Parameter, Literal, AsScalar, integer_kind, truth_kind, kind_at, mark_at, meaning, reading, range_of_mark}
use Rattle.task_laws.specs.legal.rewritten_types.Agreement.{IsScalar}
use Rattle.collect_model.specs.Names.{flags_text}
use Rattle.replay_structure.specs.typed.Controller.{IsInteger}
use Rattle.collect_structure.specs.Names.{added_id}
use Rattle.collect_structure.specs.typed.Told.{IsRecorder}

-- ---- values

-- all values of INTEGER, and of BOOLEAN
abbrev pub integer_values : Range
integer_values = record { kind = integer_kind; first = negsuc 2147483647; last = pos 2147483647 }

abbrev pub truth_values : Range
truth_values = record { kind = truth_kind; first = pos 0; last = pos 1 }

-- ---- where the text declares what it adds

-- BOOLEAN is what it is before all declarations (3.5.3)
pub record MeansTruth (d : Scope) : Type 0 where
  pub place : ℕ
  pub mark : Mark
  pub means : meaning d (record { 0 = 3 }) ≡ Some (TypeMark place)
  pub there : mark_at d.types place ≡ Some mark
  pub kind : mark.kind ≡ truth_kind
  pub scalar : IsScalar d.types mark.kind
  pub first : mark.first ≡ pos 0
  pub last : mark.last ≡ pos 1

-- INTEGER, BOOLEAN, FALSE and TRUE are what they are before all declarations.
pub record ArePredefined (d : Scope) : Type 0 where
  pub integer : IsInteger d
  pub truth : MeansTruth d
  pub falses : meaning d (record { 0 = false_name }) ≡ Some (Literal truth_kind)
  pub trues : meaning d (record { 0 = true_name }) ≡ Some (Literal truth_kind)

-- the name means a type of arrays of BOOLEAN, whose index is an INTEGER
pub record IsFlagsType (d : Scope) (id : NameId) : Type 0 where
  pub place : ℕ
  pub mark : Mark
  pub part : ℕ
  pub first : ℤ
  pub last : ℤ
  pub means : meaning d id ≡ Some (TypeMark place)
  pub there : mark_at d.types place ≡ Some mark
  pub array : kind_at d.types mark.kind ≡ Some (Array integer_kind first last part)
  pub parts : range_of_mark d.types part ≡ Some truth_values

-- What can be used where the recorder's body stands.
pub record IsRecording (q : PProgram) (d : Scope) : Type 0 where
  pub predefined : ArePredefined d
  pub flags : IsFlagsType d (added_id q flags_text)
  pub recorder : IsRecorder q d

-- ---- in the recorder's body

-- the name means a variable of such a type
pub record AreFlags (d : Scope) (id : NameId) : Type 0 where
  pub place : ℕ
  pub mark : Mark
  pub part : ℕ
  pub first : ℤ
  pub last : ℤ
  pub means : meaning d id ≡ Some (Variable place)
  pub there : mark_at d.types place ≡ Some mark
  pub array : kind_at d.types mark.kind ≡ Some (Array integer_kind first last part)
  pub parts : range_of_mark d.types part ≡ Some truth_values

-- the name means a formal of mode in of INTEGER
pub record IsInNumber (d : Scope) (id : NameId) : Type 0 where
  pub place : ℕ
  pub means : meaning d id ≡ Some (Parameter Take place)
  pub values : range_of_mark d.types place ≡ Some integer_values
  pub read : reading d id ≡ AsScalar integer_kind

-- the name means a formal of mode out of BOOLEAN
pub record IsOutTruth (d : Scope) (id : NameId) : Type 0 where
  pub place : ℕ
  pub means : meaning d id ≡ Some (Parameter Give place)
  pub read : reading d id ≡ AsScalar truth_kind
