-- The controller as one task of a program, and what is asked of that program (this project's rule).
use Rattle.std.specs.Prelude.{◌≡◌, ℕ, pos, ℤ, ◌==◌, ◌≤◌, ◌<◌, suc, pred, true, false, List, [], ◌∷◌, length, drop, slice_get, Some, option_map, unwrap_or}
use Rattle.std.specs.List.{AllByRecursion}
use Rattle.ada_tree.specs.declared.naming.NameId.{NameId}
use Rattle.ada_tree.specs.declared.naming.Span.{Span}
use Rattle.ada_tree.specs.declared.static_types.Kind.TheVariants.{Integer}
use Rattle.ada_static_rules.specs.Scope.{integer_kind}
use Rattle.ada_static_rules.specs.StaticValue.{is_integer_value, mark_named}
use Rattle.ada_value.specs.Values.{limits_of, limits_of_kind, integer_limits}
use Rattle.syn_event.specs.declared.numbering.TaskInfo.{TaskInfo}
use Rattle.syn_event.specs.Numbering.{entry_at, task_named}
use Rattle.task_model.specs.Setting.{Setting, entry_of, family_limits, entry_parameters}
use Rattle.control_script.specs.declared.Op.{Op}
use Rattle.control_script.specs.declared.Op.TheVariants.{Go, Done, Join, Hold}
use Rattle.replay_model.specs.declared.tables.names.ControlNames.{ControlNames}

-- The controller: what it reads of its program, its number, the ids of its names, the program's tasks by their numbers, the place of its body, its input, and what it has written.
pub record Controller : Type 0 where
  pub setting : Setting
  pub number : ℕ
  pub names : ControlNames
  pub tasks : List TaskInfo
  pub span : Span
  pub input : List ℤ
  pub output : List ℕ

-- The numbers of the entries GO, DONE and HOLD, and that of DED_JOIN of each task.
pub record Entries : Type 0 where
  pub go : ℕ
  pub done : ℕ
  pub hold : ℕ
  pub join : ℕ → ℕ

-- ---- names

-- no name stands in the list twice
abbrev pub AreApart : List NameId → Type 0
AreApart [] = Unit {0}
AreApart (x ∷ xs) = AllByRecursion (λ (y : NameId). (x.0 == y.0) ≡ false) xs × AreApart xs

-- the names of the controller's variables, the latest first: the formals of GO, the loop parameter and the tables
abbrev pub variable_names : ControlNames → List NameId
variable_names n = n.kind ∷ n.argument ∷ n.index ∷ n.counter ∷ n.indices ∷ n.arguments ∷ n.kinds ∷ n.tasks ∷ n.operations ∷ []

-- the name of the task of a number; 0 where there is none
abbrev pub name_at : List TaskInfo → ℕ → NameId
name_at tasks t = unwrap_or (option_map (λ info. info.name) (slice_get tasks t)) record { 0 = 0 }

-- ---- entries

-- the entry is found by the name, and is a family with a member for each task
pub record IsFamily (k : Controller) (name : NameId) (e : ℕ) : Type 0 where
  pub found : entry_of k.setting.numbers k.number name ≡ e
  pub range : family_limits (entry_at k.setting.numbers e) ≡ record { kind = 0; first = pos 0; last = pos (pred (length k.tasks)) }

-- the task t is found by its name, and has this entry DED_JOIN, which has no formals
pub record HasJoin (k : Controller) (t : ℕ) (name : NameId) (e : ℕ) : Type 0 where
  pub task : task_named k.setting.numbers name ≡ Some t
  pub found : entry_of k.setting.numbers t k.names.join ≡ e
  pub plain : entry_parameters k.setting e ≡ []

-- What is asked of the controller's program: its variables have names of their own, INTEGER is its first kind, with a mark of that name, its entries are there, and each task beside main has a DED_JOIN.
pub record IsController (k : Controller) (e : Entries) : Type 0 where
  pub apart : AreApart (variable_names k.names)
  pub integer : slice_get k.setting.types.kinds integer_kind ≡ Some Integer
  pub of_kind : limits_of_kind k.setting.types integer_kind ≡ integer_limits
  pub of_mark : option_map limits_of (mark_named k.setting.types record { 0 = 0 }) ≡ Some integer_limits
  pub go : IsFamily k k.names.go e.go
  pub done : IsFamily k k.names.done e.done
  pub hold : entry_of k.setting.numbers k.number k.names.hold ≡ e.hold
  pub joins : (j : ℕ) (info : TaskInfo) → slice_get (drop 1 k.tasks) j ≡ Some info → HasJoin k (suc j) info.name (e.join (suc j))
  pub few : length k.tasks ≤ 2147483648

-- ---- operations

-- It can make the operation: its task is one of the program's, and beside main where it is waited for, and the numbers of a permit are values of INTEGER.
abbrev pub CanMake : Controller → Op → Type 0
CanMake k (Go task kind arg index) = (task < length k.tasks) × (kind ≤ 2147483647) × (arg ≤ 2147483647) × (is_integer_value index ≡ true)
CanMake k (Done task) = task < length k.tasks
CanMake k (Join task) = (j : ℕ) × (task ≡ suc j) × (suc j < length k.tasks)
CanMake k Hold = ⊥

-- Operations that it can make, and no more than INTEGER has numbers.
pub record CanMakeAll (k : Controller) (ops : List Op) : Type 0 where
  pub each : AllByRecursion (CanMake k) ops
  pub few : length ops ≤ 2147483647
