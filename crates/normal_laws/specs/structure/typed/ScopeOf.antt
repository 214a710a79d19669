-- What can be used at a place of a unit in the normal form, beside what can be used there in the program, for the static rules 1 and 3 to 12 (this
-- project's rule).
use Rattle.std.specs.Prelude.{◌≡◌, ℕ, ◌==◌, ℤ, pos, negsuc, int_le, ◌&&◌, Bool, true, false, List, [], ◌∷◌, Option, Some, None, slice_get, unwrap_or, is_some, Ok}
use Rattle.std.specs.List.{AllByRecursion}
use Rattle.ada_tree.specs.declared.naming.NameId.{NameId}
use Rattle.ada_tree.specs.declared.naming.Span.{Span}
use Rattle.ada_tree.specs.declared.naming.Word.{Word}
use Rattle.ada_tree.specs.declared.static_types.Kind.TheVariants.{Integer, Truth, Enumeration}
use Rattle.ada_tree.specs.declared.static_types.Mark.{Mark}
use Rattle.ada_tree.specs.Attributes.{false_name, true_name}
use Rattle.ada_static_rules.specs.StaticValue.{mark_named, value_named}
use Rattle.ada_tree.specs.TypeTable.{TypeTable}
use Rattle.ada_tree.specs.PlainExpr.{PSubind, PDrange, RMarked}
use Rattle.ada_tree.specs.PlainStmt.{PCallee}
use Rattle.ada_tree.specs.PlainDecl.{PDecl}
use Rattle.ada_static_rules.specs.Scope.{Scope, truth_kind, integer_kind, Range, FormalPart, Family, single, family, unclear, EntryPart, Thing, TaskType, SingleTask, TaskObject, TaskArray, Variable, Literal, TypeMark, AnException, MainProcedure, kind_at, mark_at, meaning, entry_named}
use Rattle.ada_static_rules.specs.Demand.{Demand, declares, Site}
use Rattle.ada_static_rules.specs.RuleArgCount.{called_entry}
use Rattle.ada_value.specs.Values.{limits_of, limits_named}
use Rattle.ada_value.specs.Evaluating.{range_of}
use Rattle.syn_event.specs.declared.numbering.TaskInfo.{TaskInfo}
use Rattle.syn_event.specs.Numbering.{task_named, entry_at}
use Rattle.task_model.specs.Setting.{Setting, entry_of, is_family, formals_of_info}
use Rattle.task_laws.specs.legal.rewritten_types.Agreement.{IsScalar}
use Rattle.task_laws.specs.legal.sites.Met.{IsMet, IsAddressed}
use Rattle.task_laws.specs.legal.types.Typed.{HasLimits}
use Rattle.task_laws.specs.legal.literals.Literals.{HasIndexLiterals}
use Rattle.normal_model.specs.Names.{variable_name, task_name}
use Rattle.normal_model.specs.Ranges.{kind_name, array_range, family_range}
use Rattle.normal_model.specs.Members.{members_of}
use Rattle.normal_model.specs.Calls.{Slot, slots_of}
use Rattle.normal_model.specs.RewrittenUnit.{RewrittenUnit}
use Rattle.normal_model.specs.NormalTree.{tasks_beside}
use Rattle.task_laws.specs.legal.asked.Asked.{Asks}
use Rattle.normal_laws.specs.structure.asked.Pieces.{IsVariable, IsAmong, IsTarget}
use Rattle.task_laws.specs.legal.alike_scopes.Alike.{Alike}

-- ---- types

-- The kinds of INTEGER and BOOLEAN have one place each in these types, their names are those of their subtypes, and each kind of values is found by
-- its declared name (3.5.3, 3.5.4).
pub record HasKnownKinds (types : TypeTable) : Type 0 where
  pub integers : (k : ℕ) → kind_at types k ≡ Some Integer → k ≡ integer_kind
  pub truths : (k : ℕ) → kind_at types k ≡ Some Truth → k ≡ truth_kind
  pub integer : (limits_named types (record { 0 = 0 })).kind ≡ integer_kind
  pub truth : (limits_named types (record { 0 = 3 })).kind ≡ truth_kind
  pub names : (k : ℕ) → IsScalar types k → (limits_named types (kind_name types k)).kind ≡ k

-- ---- variables

-- The name means a variable with the mark of a subtype by these types: of its kind, which is scalar, and its bounds. It is the name of no constant
-- and of no literal.
pub record IsVariableOf (types : TypeTable) (d : Scope) (id : NameId) (x : PSubind) : Type 0 where
  pub place : ℕ
  pub mark : Mark
  pub means : meaning d id ≡ Some (Variable place)
  pub there : mark_at d.types place ≡ Some mark
  pub scalar : IsScalar d.types mark.kind
  pub limits : range_of types [] (RMarked x) ≡ Ok (limits_of mark)
  pub changes : value_named d.types id ≡ None

-- ---- tasks

-- a name that means a task has these entries; it is no task type and not the main procedure
abbrev pub IsSeenWith : List EntryPart → Option Thing → Type 0
IsSeenWith es (Some (SingleTask xs)) = xs ≡ es
IsSeenWith es (Some (TaskObject xs)) = xs ≡ es
IsSeenWith es (Some (TaskArray range xs)) = xs ≡ es
IsSeenWith es (Some (TaskType xs)) = ⊥
IsSeenWith es (Some MainProcedure) = ⊥
IsSeenWith es _ = Prim.Unit {0}

-- The task's own name means a single task in the normal form, with the entries that the task has in the program, where it is seen there.
pub record IsTaskThere (g : Setting) (c d : Scope) (info : TaskInfo) : Type 0 where
  pub entries : List EntryPart
  pub means : meaning d (task_name g info) ≡ Some (SingleTask entries)
  pub seen : IsSeenWith entries (meaning c info.name)

-- ---- ranges

-- a range that is declared, and is this one
pub record IsRange (types : TypeTable) (declared : Option PDrange) (range : Range) : Type 0 where
  pub written : PDrange
  pub is : declared ≡ Some written
  pub has : HasLimits types written
  pub kind : has.limits.kind ≡ range.kind
  pub first : has.limits.first ≡ range.first
  pub last : has.limits.last ≡ range.last

-- ---- entries

-- formals of an entry, one by one, with the modes and the kinds of the marks of these
abbrev pub AreSlots : TypeTable → List FormalPart → List Slot → Type 0
AreSlots types [] [] = Prim.Unit {0}
AreSlots types (f ∷ fs) (x ∷ xs) = (f.mode ≡ x.mode) × (f.kind ≡ Some (limits_named types x.mark.name).kind) × AreSlots types fs xs
AreSlots types _ _ = ⊥

-- an entry of that number is a family just where it is one here, of that range
abbrev pub IsFamilyOf : Setting → ℕ → Family → Type 0
IsFamilyOf g e single = is_family g.numbers e ≡ false
IsFamilyOf g e (family range) = (is_family g.numbers e ≡ true) × IsRange g.types (family_range g e) range
IsFamilyOf g e unclear = ⊥

-- The entry is that of the number.
pub record IsEntryOf (g : Setting) (e : ℕ) (part : EntryPart) : Type 0 where
  pub formals : AreSlots g.types part.formals (slots_of (formals_of_info g (entry_at g.numbers e)))
  pub family : IsFamilyOf g e part.family

-- ---- arrays of tasks

-- the task is a member with an index in the range
abbrev pub IsMemberIn : Range → TaskInfo → Type 0
IsMemberIn range info = (z : ℤ) × (info.member ≡ Some z) × ((int_le range.first z && int_le z range.last) ≡ true)

-- no other one of these tasks is the same member
abbrev pub IsOtherMember : TaskInfo → TaskInfo → Type 0
IsOtherMember info other = info.member ≡ other.member → ⊥

abbrev pub AreOtherMembers : List TaskInfo → Type 0
AreOtherMembers [] = Prim.Unit {0}
AreOtherMembers (info ∷ infos) = AllByRecursion (IsOtherMember info) infos × AreOtherMembers infos

-- The name is that of an array of tasks with that range: its members have different indices in it, each of which has a literal.
pub record IsArrayOf (g : Setting) (id : NameId) (range : Range) : Type 0 where
  pub index : IsRange g.types (array_range g.program id) range
  pub literals : HasIndexLiterals g.types index.written
  pub members : AllByRecursion (IsMemberIn range) (members_of g id)
  pub others : AreOtherMembers (members_of g id)

-- ---- literals

-- the name is that of a literal of an enumeration, at that place, of which it has the value
pub record IsLiteralOf (types : TypeTable) (id : NameId) (k n : ℕ) : Type 0 where
  pub ids : List NameId
  pub there : kind_at types k ≡ Some (Enumeration ids)
  pub at : slice_get ids n ≡ Some id
  pub value : value_named types id ≡ Some (pos n)

-- the literal means itself, with its value
abbrev pub MeansLiteral : Scope → NameId → ℕ → ℤ → Type 0
MeansLiteral d id k z = (meaning d id ≡ Some (Literal k)) × (value_named d.types id ≡ Some z)

-- INTEGER is the scalar type that it is before all declarations (3.5.4)
pub record MeansInteger (d : Scope) : Type 0 where
  pub place : ℕ
  pub mark : Mark
  pub means : meaning d (record { 0 = 0 }) ≡ Some (TypeMark place)
  pub there : mark_at d.types place ≡ Some mark
  pub kind : mark.kind ≡ integer_kind
  pub scalar : IsScalar d.types mark.kind
  pub named : mark_named d.types (record { 0 = 0 }) ≡ Some mark
  pub first : mark.first ≡ negsuc 2147483647

-- ---- what can be used

-- What can be used at a place of a unit with these variables, in the program and in its normal form; some ids are those of the program's own names.
pub record IsScopeOf (u : RewrittenUnit) (own : ℕ → Bool) (vars : List PDecl) (c d : Scope) : Type 0 where
  -- the program's own names mean the same
  pub alike : Alike own c d
  -- the unit's variables have the subtypes with which they are declared, and each task its own name; those of variables and of members are none of
  -- the program's
  pub variables : (s : Span) (x : PSubind) (k : ℕ) → IsVariable u.setting vars s x k → IsVariableOf u.setting.types d (variable_name u.setting k) x × (own (variable_name u.setting k).0 ≡ false)
  pub tasks : (info : TaskInfo) → IsAmong info (tasks_beside u.setting) → IsTaskThere u.setting c d info × ((z : ℤ) → info.member ≡ Some z → own (task_name u.setting info).0 ≡ false)
  -- names of the language, and literals
  pub integer : MeansInteger d
  pub falses : MeansLiteral d (record { 0 = false_name }) truth_kind (pos 0)
  pub trues : MeansLiteral d (record { 0 = true_name }) truth_kind (pos 1)
  pub literals : (id : NameId) (k n : ℕ) → IsLiteralOf u.setting.types id k n → MeansLiteral d id k (pos n)
  pub program_error : meaning d (record { 0 = 8 }) ≡ Some AnException
  -- the entries of the tasks that the program's scope sees, and its arrays of tasks, are those of the numbers
  pub called : (id name : NameId) (part : EntryPart) → called_entry (meaning c id) name ≡ Some part → IsEntryOf u.setting (entry_of u.setting.numbers (unwrap_or (task_named u.setting.numbers id) 0) name) part
  pub accepted : (name : NameId) (part : EntryPart) → entry_named c.own name ≡ Some part → IsEntryOf u.setting (entry_of u.setting.numbers u.task name) part
  pub arrays : (id : NameId) (range : Range) (es : List EntryPart) → meaning c id ≡ Some (TaskArray range es) → IsArrayOf u.setting id range

-- ---- what is asked of the program

-- what an inner scope declares is the name of no value, and of no task that is no member of an array
pub record IsInnerName (g : Setting) (id : NameId) : Type 0 where
  pub value : value_named g.types id ≡ None
  pub tasks : (info : TaskInfo) → IsAmong info (tasks_beside g) → info.member ≡ None → (id.0 == info.name.0) ≡ false

abbrev pub IsInner : Setting → Demand → Type 0
IsInner g (declares false w) = IsInnerName g w.name
IsInner g _ = Prim.Unit {0}

-- At a place of the program nothing is refused, no callee's declaration is, and what an inner scope declares there is such a name.
abbrev pub IsPlaceOf : Setting → Site → Type 0
IsPlaceOf g x = IsMet x × IsAddressed x.scope x.demand × IsInner g x.demand

-- a name that takes the place of a callee is that of a task beside main, which the callee's name stands for
pub record IsTaskOf (g : Setting) (x : PCallee) (id : NameId) : Type 0 where
  pub info : TaskInfo
  pub among : IsAmong info (tasks_beside g)
  pub is : id ≡ task_name g info
  pub named : info.name ≡ x.name.name

-- A callee's name stands for tasks beside main, and each name that takes its place is that of one of these.
pub record AreTasksOf (g : Setting) (x : PCallee) : Type 0 where
  pub info : TaskInfo
  pub among : IsAmong info (tasks_beside g)
  pub named : info.name ≡ x.name.name
  pub targets : (w : Word) → IsTarget g x w → IsTaskOf g x w.name

-- what is asked of callees and of accepts in a unit with these entries: that they are its own
abbrev pub task_asks : Setting → List EntryPart → Asks (Prim.Unit {0})
task_asks g own = record {
  outer = λ c k s. Prim.Unit {0};
  many = λ n. Prim.Unit {0};
  duration = λ n. Prim.Unit {0};
  plain = λ c k x. Prim.Unit {0};
  callee = λ c k x. AreTasksOf g x;
  call = λ c k x. Prim.Unit {0};
  aborts = λ c k xs. Prim.Unit {0};
  condition = λ c k e. Prim.Unit {0};
  selector = λ c k e xs others s. Prim.Unit {0};
  choices = λ c k e xs. Prim.Unit {0};
  loop = λ c k w x. Prim.Unit {0};
  head = λ c k h. is_some (entry_named own h.entry.name) ≡ true;
  wait = λ c k x others s. Prim.Unit {0};
  delay = λ c k e s. Prim.Unit {0};
  handlers = λ hs. Prim.Unit {0};
  handler = λ c k names ws. Prim.Unit {0};
  accepting = λ c h. c;
  looping = λ c w x. c;
  handling = λ c. c;
}
