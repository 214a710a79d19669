-- Two scopes in which old names mean the same (this project's rule): one of a program, and one of its rewriting. Places in the tables of types may
-- differ, as far as no static rule tells them apart. Names of tasks, task types and units may mean nothing on the other side, since no value is named
-- by them.
use Rattle.std.specs.Prelude.{◌≡◌, ℕ, ℤ, Bool, true, List, Option, Some, None}
use Rattle.ada_tree.specs.declared.naming.NameId.{NameId}
use Rattle.ada_tree.specs.declared.statements.ParMode.{ParMode}
use Rattle.ada_tree.specs.declared.static_types.Kind.{Kind}
use Rattle.ada_tree.specs.declared.static_types.Kind.TheVariants.{Integer, Truth, Array}
use Rattle.ada_tree.specs.declared.static_types.Mark.{Mark}
use Rattle.ada_tree.specs.TypeTable.{TypeTable}
use Rattle.ada_static_rules.specs.Scope.{Scope, Range, EntryPart, Thing, TypeMark, TaskType, SingleTask, TaskObject, TaskArray, Variable, ConstantObject, Parameter, LoopParameter, Literal, AnException, MainProcedure, AnotherUnit, Unclear, integer_kind, truth_kind, kind_at, mark_at, range_of_mark, meaning, entry_named}
use Rattle.ada_static_rules.specs.StaticValue.{mark_named, value_named}
use Rattle.task_laws.specs.legal.rewritten_types.Agreement.{scalar_only, IsScalar, mark_of_kind}

-- ---- tables

-- Two tables say the same of old names: of each the same value and the same type or subtype. A kind of values of the first table stands at the same
-- place of the second one, with the same first mark.
pub record SameTypes (old : ℕ → Bool) (T U : TypeTable) : Type 0 where
  pub values : (id : NameId) → old id.0 ≡ true → value_named T id ≡ value_named U id
  pub marks : (id : NameId) → old id.0 ≡ true → mark_named T id ≡ mark_named U id
  -- the kind of an old type or subtype, which is that of an array in both where it is so in one
  pub mark_kinds : (id : NameId) (m : Mark) → old id.0 ≡ true → mark_named T id ≡ Some m → scalar_only (kind_at T m.kind) ≡ scalar_only (kind_at U m.kind)
  pub kinds : (k : ℕ) (x : Kind) → scalar_only (kind_at T k) ≡ Some x → scalar_only (kind_at U k) ≡ Some x
  pub first_marks : (k : ℕ) → IsScalar T k → (m : Mark) × (mark_of_kind T k ≡ Some m) × (mark_of_kind U k ≡ Some m)
  pub integers : kind_at T integer_kind ≡ Some Integer
  pub truths : kind_at T truth_kind ≡ Some Truth

-- ---- marks

-- the marks at two places of two tables have one kind, which is a kind of values, and the same bounds
pub record SameScalar (T U : TypeTable) (m n : ℕ) : Type 0 where
  pub range : Range
  pub left : range_of_mark T m ≡ Some range
  pub right : range_of_mark U n ≡ Some range
  pub kind : IsScalar T range.kind

-- both are marks of arrays with the same kind and bounds of the index, and with components of the same kind and bounds
pub record SameArray (T U : TypeTable) (m n : ℕ) : Type 0 where
  pub index : ℕ
  pub first : ℤ
  pub last : ℤ
  pub left_part : ℕ
  pub right_part : ℕ
  pub left_mark : Mark
  pub right_mark : Mark
  pub left : mark_at T m ≡ Some left_mark
  pub right : mark_at U n ≡ Some right_mark
  pub left_kind : kind_at T left_mark.kind ≡ Some (Array index first last left_part)
  pub right_kind : kind_at U right_mark.kind ≡ Some (Array index first last right_part)
  pub parts : SameScalar T U left_part right_part

-- marks of values, or of arrays
pub data SameMark (T U : TypeTable) (m n : ℕ) : Type 0 where
  of_values : SameScalar T U m n → SameMark T U m n
  of_arrays : SameArray T U m n → SameMark T U m n

-- ---- names

-- a name means nothing, or what is no value, no type that has values, and no exception
pub data IsNoValue (a : Option Thing) : Type 0 where
  no_thing : a ≡ None → IsNoValue a
  a_task_type : (entries : List EntryPart) → a ≡ Some (TaskType entries) → IsNoValue a
  a_task : (entries : List EntryPart) → a ≡ Some (SingleTask entries) → IsNoValue a
  a_task_object : (entries : List EntryPart) → a ≡ Some (TaskObject entries) → IsNoValue a
  a_task_array : (range : Range) (entries : List EntryPart) → a ≡ Some (TaskArray range entries) → IsNoValue a
  the_procedure : a ≡ Some MainProcedure → IsNoValue a
  a_unit : a ≡ Some AnotherUnit → IsNoValue a

-- What a name means by two tables is the same: a type, an object or a literal with the same values, or an exception. What is no value may mean
-- anything that is none on the other side.
pub data SameThing (T U : TypeTable) (a b : Option Thing) : Type 0 where
  same_type : (m n : ℕ) → a ≡ Some (TypeMark m) → b ≡ Some (TypeMark n) → SameMark T U m n → SameThing T U a b
  same_variable : (m n : ℕ) → a ≡ Some (Variable m) → b ≡ Some (Variable n) → SameMark T U m n → SameThing T U a b
  same_constant : (m n : ℕ) → a ≡ Some (ConstantObject m) → b ≡ Some (ConstantObject n) → SameMark T U m n → SameThing T U a b
  same_parameter : (mode : ParMode) (m n : ℕ) → a ≡ Some (Parameter mode m) → b ≡ Some (Parameter mode n) → SameMark T U m n → SameThing T U a b
  same_loop_parameter : (m n : ℕ) → a ≡ Some (LoopParameter m) → b ≡ Some (LoopParameter n) → SameMark T U m n → SameThing T U a b
  same_literal : (k : ℕ) → a ≡ Some (Literal k) → b ≡ Some (Literal k) → IsScalar T k → SameThing T U a b
  same_exception : a ≡ Some AnException → b ≡ Some AnException → SameThing T U a b
  same_unclear : a ≡ Some Unclear → b ≡ Some Unclear → SameThing T U a b
  no_values : IsNoValue a → IsNoValue b → SameThing T U a b

-- ---- scopes

-- old names mean the same in two scopes
pub record SameNames (old : ℕ → Bool) (s t : Scope) : Type 0 where
  pub types : SameTypes old s.types t.types
  pub things : (id : NameId) → old id.0 ≡ true → SameThing s.types t.types (meaning s id) (meaning t id)

-- Two scopes are alike: old names mean the same, both stand in main or both in bodies, and of an old name the own task has the same entry.
pub record Alike (old : ℕ → Bool) (s t : Scope) : Type 0 where
  pub names : SameNames old s t
  pub own : (id : NameId) → old id.0 ≡ true → entry_named s.own id ≡ entry_named t.own id
  pub main : s.in_main ≡ t.in_main

-- A name means a single task on both sides, and of old names it has the same entries.
pub record IsSameTask (old : ℕ → Bool) (a b : Option Thing) : Type 0 where
  pub left : List EntryPart
  pub right : List EntryPart
  pub left_means : a ≡ Some (SingleTask left)
  pub right_means : b ≡ Some (SingleTask right)
  pub entries : (id : NameId) → old id.0 ≡ true → entry_named left id ≡ entry_named right id
