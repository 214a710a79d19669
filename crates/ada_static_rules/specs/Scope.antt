-- What the names of a program mean, and which of them can be used at a place (8.2, 8.3; this project's rule). The scopes are the predefined names, the declarations of main, the objects of a task body, the formal parameters of an accept, and the parameter of a for loop.
use Rattle.std.specs.Prelude.{ℕ, ℤ, Bool, ◌==◌, List, [], slice_get, find, Option, Some, None, option_map, is_some}
use Rattle.std.specs.List.{list_any}
use Rattle.ada_tree.specs.declared.naming.NameId.{NameId}
use Rattle.ada_tree.specs.declared.statements.ParMode.{ParMode}
use Rattle.ada_tree.specs.declared.static_types.Kind.{Kind}
use Rattle.ada_tree.specs.declared.static_types.Kind.TheVariants.{Array}
use Rattle.ada_tree.specs.declared.static_types.Mark.{Mark}
use Rattle.ada_tree.specs.TypeTable.{TypeTable}

-- the places of INTEGER and BOOLEAN among the kinds
abbrev pub integer_kind : ℕ
integer_kind = 0

-- the place of BOOLEAN among the kinds (3.5.3)
abbrev pub truth_kind : ℕ
truth_kind = 1

-- the kind and the bounds of a discrete range
pub record Range : Type 0 where
  pub kind : ℕ
  pub first : ℤ
  pub last : ℤ

-- a formal parameter: its name, mode and mark, and the kind of the mark, where that is a scalar one
pub record FormalPart : Type 0 where
  pub name : NameId
  pub mode : ParMode
  pub mark : NameId
  pub kind : Option ℕ

-- the members of an entry: one, those of a range, or those of a range that is refused
pub data Family : Type 0 where
  single : Family
  family : Range → Family
  unclear : Family

-- an entry of a task: its name, its members and its formal parameters (9.5)
pub record EntryPart : Type 0 where
  pub name : NameId
  pub family : Family
  pub formals : List FormalPart

-- what a name means
pub data Thing : Type 0 where
  -- a type or subtype, by the place of its mark
  TypeMark : ℕ → Thing
  TaskType : List EntryPart → Thing
  -- a task that is declared as one, and an object of a task type
  SingleTask : List EntryPart → Thing
  TaskObject : List EntryPart → Thing
  -- an array of tasks, with the range of its index
  TaskArray : Range → List EntryPart → Thing
  -- an object, by the place of its mark; a named number is a constant of INTEGER
  Variable : ℕ → Thing
  ConstantObject : ℕ → Thing
  Parameter : ParMode → ℕ → Thing
  LoopParameter : ℕ → Thing
  -- an enumeration literal, by the place of its kind
  Literal : ℕ → Thing
  AnException : Thing
  MainProcedure : Thing
  -- a package, or a procedure of TEXT_IO
  AnotherUnit : Thing
  -- it is declared, but the declaration is refused
  Unclear : Thing

-- a name with what it means
pub record NameMeaning : Type 0 where
  pub name : ℕ
  pub thing : Thing

-- what can be used at a place
pub record Scope : Type 0 where
  -- the types, marks and constants that are declared before
  pub types : TypeTable
  -- the names that are declared before, the innermost and latest first
  pub names : List NameMeaning
  -- those of the innermost scope
  pub here : List ℕ
  -- whether the place is in main, outside all bodies
  pub in_main : Bool
  -- the entries of the task in whose body the place is
  pub own : List EntryPart
  -- the tasks whose bodies are declared before, and whether an instance of INTEGER_IO is
  pub bodies : List ℕ
  pub has_instance : Bool

-- ---- names

-- what a name means at a place, which is nothing where it is not declared before
abbrev pub meaning : Scope → NameId → Option Thing
meaning scope id = option_map (λ s. s.thing) (find (λ s. s.name == id.0) scope.names)

-- the kind and the mark at a place of the table
abbrev pub kind_at : TypeTable → ℕ → Option Kind
kind_at types k = slice_get types.kinds k

-- the mark at a place of the table, where there is one
abbrev pub mark_at : TypeTable → ℕ → Option Mark
mark_at types m = slice_get types.marks m

-- what f makes of what is there; nothing where nothing is there
abbrev pub and_then : {A B : Type 0} → (A → Option B) → Option A → Option B
and_then f None = None
and_then f (Some x) = f x

-- ---- what a name is in an expression

-- what a name is where it stands in an expression (4.4)
pub data Reading : Type 0 where
  -- a scalar value of that kind
  AsScalar : ℕ → Reading
  -- an array, with the kind of its index and the mark of its components
  AsArray : ℕ → ℕ → Reading
  -- no value, as a type or a task
  AsNoValue : Reading
  -- the name is not declared before
  AsUnknown : Reading
  -- its declaration is refused
  AsUnclear : Reading

-- what an object of a kind is in an expression: an array or a scalar; unclear where the kind is missing
abbrev pub reading_of_kind : ℕ → Option Kind → Reading
reading_of_kind k (Some (Array index first last part)) = AsArray index part
reading_of_kind k (Some _) = AsScalar k
reading_of_kind k None = AsUnclear

-- what an object of a mark is in an expression, by the kind of the mark; unclear where the mark is missing
abbrev pub reading_of_mark : TypeTable → Option Mark → Reading
reading_of_mark types (Some m) = reading_of_kind m.kind (kind_at types m.kind)
reading_of_mark types None = AsUnclear

-- what a name is in an expression, by what it means; it is unknown where it is not declared before
abbrev pub reading_of : TypeTable → Option Thing → Reading
reading_of types (Some (Variable m)) = reading_of_mark types (mark_at types m)
reading_of types (Some (ConstantObject m)) = reading_of_mark types (mark_at types m)
reading_of types (Some (Parameter mode m)) = reading_of_mark types (mark_at types m)
reading_of types (Some (LoopParameter m)) = reading_of_mark types (mark_at types m)
reading_of types (Some (Literal k)) = AsScalar k
reading_of types (Some Unclear) = AsUnclear
reading_of types (Some _) = AsNoValue
reading_of types None = AsUnknown

-- what a name is in an expression, at a place with that scope (8.3)
abbrev pub reading : Scope → NameId → Reading
reading scope id = reading_of scope.types (meaning scope id)

-- ---- what a name is as a mark

-- what a name is where it stands as a mark (3.3.2)
pub data Marking : Type 0 where
  -- a scalar type or subtype, by the place of its mark and of its kind
  ScalarMark : ℕ → ℕ → Marking
  -- an array type, by the place of its mark, with the kind of its index, its bounds and the mark of its components
  ArrayMark : ℕ → Range → ℕ → Marking
  TaskMark : List EntryPart → Marking
  NoMark : Marking
  UnknownMark : Marking
  UnclearMark : Marking

-- what a mark at a place is, by its kind: an array mark or a scalar one; unclear where the kind is missing
abbrev pub marking_of_kind : ℕ → ℕ → Option Kind → Marking
marking_of_kind m k (Some (Array index first last part)) = ArrayMark m record { kind = index; first = first; last = last } part
marking_of_kind m k (Some _) = ScalarMark m k
marking_of_kind m k None = UnclearMark

-- what a mark at a place is, by the table; unclear where the mark is missing
abbrev pub marking_of_mark : TypeTable → ℕ → Option Mark → Marking
marking_of_mark types m (Some mark) = marking_of_kind m mark.kind (kind_at types mark.kind)
marking_of_mark types m None = UnclearMark

-- what a name is as a mark, by what it means; it is unknown where it is not declared before
abbrev pub marking_of : TypeTable → Option Thing → Marking
marking_of types (Some (TypeMark m)) = marking_of_mark types m (mark_at types m)
marking_of types (Some (TaskType entries)) = TaskMark entries
marking_of types (Some Unclear) = UnclearMark
marking_of types (Some _) = NoMark
marking_of types None = UnknownMark

-- what a name is as a mark, at a place with that scope (8.3)
abbrev pub marking : Scope → NameId → Marking
marking scope id = marking_of scope.types (meaning scope id)

-- the kind of a scalar mark
abbrev pub scalar_kind : Marking → Option ℕ
scalar_kind (ScalarMark m k) = Some k
scalar_kind _ = None

-- the kind of the values of a mark, where the mark is a scalar one
abbrev pub kind_of_mark : TypeTable → ℕ → Option ℕ
kind_of_mark types m = option_map (λ mark. mark.kind) (mark_at types m)

-- the bounds of a mark
abbrev pub range_of_mark : TypeTable → ℕ → Option Range
range_of_mark types m = option_map (λ mark. record { kind = mark.kind; first = mark.first; last = mark.last }) (mark_at types m)

-- ---- entries

-- the first of those entries that has the name, where there is one (9.5)
abbrev pub entry_named : List EntryPart → NameId → Option EntryPart
entry_named entries id = find (λ e. e.name.0 == id.0) entries

-- the entries of what is a task, a task type or an array of tasks
abbrev pub entries_of : Thing → List EntryPart
entries_of (TaskType entries) = entries
entries_of (SingleTask entries) = entries
entries_of (TaskObject entries) = entries
entries_of (TaskArray range entries) = entries
entries_of _ = []

-- a task that is declared before has an entry of that name
abbrev pub is_entry_somewhere : Scope → NameId → Bool
is_entry_somewhere scope id = list_any (λ s. is_some (entry_named (entries_of s.thing) id)) scope.names
