-- What is kept beside the table of types and the numbers of a program, so that a name is looked up in one step.
use Rattle.std.specs.Prelude.{◌≡◌, ◌==◌, ◌+◌, ◌&&◌, ℕ, ℤ, nat_eq, List, [], Vec, find, position, Option, Some, None, option_map, unwrap_or}
use Rattle.std.specs.declared.alloc.Global.{Global}
use Rattle.std.specs.HashMap.{HashMap, get}
use Rattle.ada_tree.specs.declared.naming.NameId.{NameId}
use Rattle.ada_tree.specs.declared.naming.Word.{Word}
use Rattle.ada_tree.specs.declared.statements.ParMode.{ParMode}
use Rattle.ada_tree.specs.declared.static_types.Mark.{Mark}
use Rattle.ada_tree.specs.TypeTable.{TypeTable}
use Rattle.ada_static_rules.specs.StaticValue.{mark_named, constant_named, first_of_two}
use Rattle.ada_value.specs.declared.values.Limits.{Limits}
use Rattle.ada_value.specs.declared.values.Value.{Value}
use Rattle.ada_value.specs.Evaluating.{constant_value, literal_value}
use Rattle.ada_tree.specs.PlainDecl.{PEntry, PTask}
use Rattle.ada_tree.specs.PlainProgram.{PProgram}
use Rattle.syn_event.specs.DeclaredTasks.{tasks_of}
use Rattle.syn_event.specs.declared.numbering.TaskInfo.{TaskInfo}
use Rattle.syn_event.specs.declared.numbering.EntryInfo.{EntryInfo}
use Rattle.syn_event.specs.Numbering.{Numbering, task_at, entry_at}
use Rattle.task_model.specs.declared.parameters.FormalParameter.{FormalParameter}
use Rattle.task_model.specs.Setting.{is_member, parameters_of}
use Rattle.task_links.specs.inner.Keys.{entry_eq, member_eq}

-- the value of a name that is a named number, a constant, or an enumeration literal
abbrev pub known_value : TypeTable → NameId → Option Value
known_value types id = first_of_two (option_map (constant_value types) (constant_named types id)) (literal_value types.kinds 0 id)

pub record KeepsTypes {S : Type 0} (types : TypeTable) (values : HashMap ℕ Value S) (marks : HashMap ℕ Mark S) (firsts : HashMap ℕ Mark S) : Type 0 where
  -- the value of each name
  pub values_are : (id : NameId) → get nat_eq values id.0 ≡ known_value types id
  -- the type or subtype of each name
  pub marks_are : (id : NameId) → get nat_eq marks id.0 ≡ mark_named types id
  -- the first mark of each kind
  pub firsts_are : (k : ℕ) → get nat_eq firsts k ≡ find (λ m. m.kind == k) types.marks

pub record KeepsTasks {S : Type 0} (numbers : Numbering) (tasks : HashMap ℕ ℕ S) (members : HashMap (ℕ × ℤ) ℕ S) (entries : HashMap (ℕ × ℕ) ℕ S) : Type 0 where
  -- the first task of each name
  pub tasks_are : (q : ℕ) → get nat_eq tasks q ≡ position (λ info. info.name.0 == q) numbers.tasks
  -- the first member of each name and index
  pub members_are : (q : ℕ × ℤ) → get member_eq members q ≡ position (λ info. (info.name.0 == q.0) && is_member q.1 info.member) numbers.tasks
  -- the first entry of each owner and name, counted from 1
  pub entries_are : (q : ℕ × ℕ) → get entry_eq entries q ≡ option_map (λ k. k + 1) (position (λ info. (info.owner == q.0) && (info.name.0 == q.1)) numbers.entries)

-- the formal of a name, with this mode and subtype (6.1)
abbrev pub parameter_named : ParMode → Limits → Word → FormalParameter
parameter_named mode limits w = record { name = w.name; mode = mode; limits = limits }

-- ---- the formals of entries

-- what is kept for the name of a task or task type and the name of an entry
abbrev pub formals_at : {S : Type 0} → HashMap (ℕ × ℕ) (Vec FormalParameter Global) S → ℕ × ℕ → Option (List FormalParameter)
formals_at formals q = option_map (λ v. v.items) (get entry_eq formals q)

-- the formals of the first entry of a name
abbrev pub formals_among : TypeTable → List PEntry → ℕ → Option (List FormalParameter)
formals_among types entries name = option_map (λ e. parameters_of types e.formals) (find (λ e. e.name.name.0 == name) entries)

-- the formals of the entry of a name that a task or task type declares
abbrev pub formals_declared_in : TypeTable → Option PTask → ℕ → Option (List FormalParameter)
formals_declared_in types None name = None
formals_declared_in types (Some t) name = formals_among types t.entries name

-- the formals of an entry by the name of its task or task type, which is the first of that name, and its own
abbrev pub formals_declared : TypeTable → List PTask → ℕ × ℕ → Option (List FormalParameter)
formals_declared types tasks q = formals_declared_in types (find (λ t. t.name.name.0 == q.0) tasks) q.1

-- The names of these tasks and task types, and the formals of their entries, are kept.
pub record KeepsUnits {S R : Type 0} (types : TypeTable) (tasks : List PTask) (units : HashMap ℕ ℕ S) (formals : HashMap (ℕ × ℕ) (Vec FormalParameter Global) R) : Type 0 where
  pub units_are : (k : ℕ) → get nat_eq units k ≡ option_map (λ t. t.name.name.0) (find (λ t. t.name.name.0 == k) tasks)
  pub formals_are : (q : ℕ × ℕ) → formals_at formals q ≡ formals_declared types tasks q

-- what is kept for an entry of a task in the numbers
abbrev pub kept_for_task : {S : Type 0} → HashMap (ℕ × ℕ) (Vec FormalParameter Global) S → Option TaskInfo → NameId → List FormalParameter
kept_for_task formals None name = []
kept_for_task formals (Some info) name = unwrap_or (formals_at formals (info.unit.0, name.0)) []

-- what is kept for an entry in the numbers
abbrev pub kept_for_info : {S : Type 0} → HashMap (ℕ × ℕ) (Vec FormalParameter Global) S → Numbering → Option EntryInfo → List FormalParameter
kept_for_info formals numbers None = []
kept_for_info formals numbers (Some info) = kept_for_task formals (task_at numbers info.owner) info.name

-- what is kept for the entry of a number
abbrev pub kept_for_entry : {S : Type 0} → HashMap (ℕ × ℕ) (Vec FormalParameter Global) S → Numbering → ℕ → List FormalParameter
kept_for_entry formals numbers e = kept_for_info formals numbers (entry_at numbers e)

-- what is kept for each task or task type of a program and each entry is its formals
abbrev pub KeepsEntries : {S : Type 0} → TypeTable → PProgram → HashMap (ℕ × ℕ) (Vec FormalParameter Global) S → Type 0
KeepsEntries types p formals = (q : ℕ × ℕ) → formals_at formals q ≡ formals_declared types (tasks_of p) q
