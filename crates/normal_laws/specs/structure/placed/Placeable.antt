-- What well-placedness of a normal form hangs on (this project's rule).
use Rattle.std.specs.Prelude.{◌≡◌, ℕ, suc, ◌<◌, ◌≤◌, ◌^◌, ℤ, pos, negsuc, List, [], ◌∷◌, length, Some, IfSome, IsSomeAnd, slice_get}
use Rattle.std.specs.List.{AllByRecursion}
use Rattle.ada_tree.specs.declared.naming.NameId.{NameId}
use Rattle.ada_tree.specs.declared.static_types.Kind.{Kind}
use Rattle.ada_tree.specs.declared.static_types.Kind.TheVariants.{Enumeration}
use Rattle.ada_tree.specs.TypeTable.{TypeTable}
use Rattle.ada_tree.specs.Lexical.{IsIdentifier}
use Rattle.ada_tree.specs.PlainExpr.{PExpr}
use Rattle.task_model.specs.Setting.{Setting}
use Rattle.syn_event.specs.declared.numbering.TaskInfo.{TaskInfo}
use Rattle.normal_model.specs.Calls.{Slot, lists_called, slots_called}
use Rattle.normal_model.specs.NormalTree.{running, variables_needed}
use Rattle.ada_tree.specs.PlainDecl.{PDecl, DTaskBody}
use Rattle.ada_tree.specs.NameList.{AreNames}
use Rattle.ada_tree.specs.WellPlaced.{IsWellPlaced}
use Rattle.syn_event.specs.declared.numbering.Mode.TheVariants.{Original}
use Rattle.syn_event.specs.CheckRefusals.{MeetsCheckRules}
use Rattle.syn_event.specs.DeclaredTasks.{decl_list}
use Rattle.task_laws.specs.legal.asked.Asked.{Asks, AskedBody}
use Rattle.task_laws.specs.legal.asked.Kinds.{no_asks}
use Rattle.normal_laws.specs.structure.asked.Pieces.{IsAmong}

-- the id is that of a text that the source can hold as a name
abbrev pub IsName : List (List ℕ) → NameId → Type 0
IsName names id = IsSomeAnd (slice_get names id.0) IsIdentifier

-- ---- calls

-- where there are actuals there are formals
abbrev pub AreTaken : List Slot → List PExpr → Type 0
AreTaken [] (e ∷ es) = ⊥
AreTaken xs es = Unit {0}

-- what is asked of calls alone: actuals are for formals
abbrev pub call_asks : Setting → Asks (Unit {0})
call_asks g = record no_asks { call = λ c k x. AreTaken (slots_called g x) (lists_called g x).actuals }

-- ---- names

-- the literals of enumerations have names
abbrev pub HasNames : List (List ℕ) → Kind → Type 0
HasNames names (Enumeration ids) = AllByRecursion (IsName names) ids
HasNames names _ = Unit {0}

abbrev pub KindsHaveNames : List (List ℕ) → TypeTable → Type 0
KindsHaveNames names types = AllByRecursion (HasNames names) types.kinds

-- the index of a member is a number that has a literal
abbrev pub IsSmallIndex : ℤ → Type 0
IsSmallIndex (pos n) = n ≤ 2147483647
IsSmallIndex (negsuc n) = n ≤ 2147483647

abbrev pub HasSmallIndex : TaskInfo → Type 0
HasSmallIndex info = IfSome info.member IsSmallIndex

-- the marks that have names have names that the source can hold
abbrev pub MarksHaveNames : List (List ℕ) → TypeTable → Type 0
MarksHaveNames names types = AllByRecursion (λ m. IfSome m.name (IsName names)) types.marks

-- an index whose decimal fits 64 bits
abbrev pub IsShortIndex : ℤ → Type 0
IsShortIndex (pos n) = n < 2 ^ 64
IsShortIndex (negsuc n) = suc n < 2 ^ 64

-- a task in the numbers: its name, and for a member of an array a short index and a name that leaves room for it
pub record IsTask (names : List (List ℕ)) (info : TaskInfo) : Type 0 where
  pub text : List ℕ
  pub there : slice_get names info.name.0 ≡ Some text
  pub identifier : IsIdentifier text
  pub short : length text ≤ 120
  pub index : IfSome info.member IsShortIndex

-- ---- the whole

-- the calls in the body of a task have actuals for formals alone, where a task runs it
abbrev pub TakesCalls : Setting → PDecl → Type 0
TakesCalls g (DTaskBody w objects its s) = (info : TaskInfo) → IsAmong info (running g w.name) → AskedBody (call_asks g) tt 1 its
TakesCalls g _ = Unit {0}

-- What is asked beside the static rules: few variables in the normal form, small indices of members of arrays of tasks, and actuals for formals.
pub record HasRoom (g : Setting) : Type 0 where
  pub few : variables_needed g < 2 ^ 64
  pub indices : AllByRecursion HasSmallIndex g.numbers.tasks
  pub calls : AskedBody (call_asks g) tt 1 g.program.body
  pub bodies : AllByRecursion (TakesCalls g) (decl_list g.program.decls)

-- What is asked of a program with types and numbers: it is well placed, meets the rules 13 to 23 as an original, has the names of every program, and
-- room; and its tasks, kinds and marks have names.
pub record IsPlaceable (g : Setting) : Type 0 where
  pub placed : IsWellPlaced g.program
  pub names : AreNames g.program.names
  pub checks : MeetsCheckRules g.program Original
  pub room : HasRoom g
  pub tasks : AllByRecursion (IsTask g.program.names) g.numbers.tasks
  pub kinds : KindsHaveNames g.program.names g.types
  pub marks : MarksHaveNames g.program.names g.types
