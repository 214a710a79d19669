-- What a task reads of its program and never changes, and what the names of tasks, entries and formals mean there (9.1, 9.5; the numbers are this project's rule).
use Rattle.std.specs.Prelude.{ℕ, ℤ, pos, ◌==◌, Bool, true, false, ◌&&◌, if◌then◌else◌, List, [], ◌∷◌, map, flat_map, find, position, Option, Some, None, unwrap_or, ok_or, Result, Ok, Err}
use Rattle.std.specs.Ordering.{int_eq}
use Rattle.ada_tree.specs.declared.naming.NameId.{NameId}
use Rattle.ada_tree.specs.TypeTable.{TypeTable}
use Rattle.ada_tree.specs.PlainExpr.{PExpr}
use Rattle.ada_tree.specs.PlainStmt.{PCallee, PArgs, PFormal}
use Rattle.ada_tree.specs.PlainDecl.{PEntry, PTask}
use Rattle.ada_tree.specs.PlainProgram.{PProgram}
use Rattle.syn_event.specs.declared.numbering.TaskInfo.{TaskInfo}
use Rattle.syn_event.specs.declared.numbering.EntryInfo.{EntryInfo}
use Rattle.syn_event.specs.Numbering.{Numbering, task_at, entry_at, task_named, entry_named}
use Rattle.syn_event.specs.DeclaredTasks.{tasks_of}
use Rattle.ada_value.specs.declared.values.Raised.{Raised}
use Rattle.ada_value.specs.declared.values.Raised.TheVariants as raised
use Rattle.ada_value.specs.declared.values.Limits.{Limits}
use Rattle.ada_value.specs.Values.{and_then, position_of, lies_in, limits_named, integer_limits}
use Rattle.ada_value.specs.Variables.{Variables}
use Rattle.ada_value.specs.Evaluating.{evaluated}
use Rattle.task_model.specs.declared.parameters.FormalParameter.{FormalParameter}

-- The program with its types and its numbers.
pub record Setting : Type 0 where
  pub program : PProgram
  pub types : TypeTable
  pub numbers : Numbering

-- ---- tasks

-- the task is the member of an array of tasks at this index
abbrev pub is_member : ℤ → Option ℤ → Bool
is_member i None = false
is_member i (Some j) = int_eq i j

-- The member of an array of tasks at an index; an index outside the array's range raises CONSTRAINT_ERROR (4.1.1, 9.1).
abbrev pub member_named : Numbering → NameId → ℤ → Result ℕ Raised
member_named numbers name i = ok_or (position (λ info. (info.name.0 == name.0) && is_member i info.member) numbers.tasks) raised.Constraint

-- the task that a name and an index, if one stands there, come to
abbrev pub task_meant : Setting → Variables → NameId → Option PExpr → Result ℕ Raised
task_meant g vars name None = Ok (unwrap_or (task_named g.numbers name) 0)
task_meant g vars name (Some e) = and_then (evaluated g.types vars e) (λ v. member_named g.numbers name (position_of v))

-- The task that a callee names: of a member of an array its index is evaluated first (9.5, 9.10).
abbrev pub callee_task : Setting → Variables → PCallee → Result ℕ Raised
callee_task g vars callee = task_meant g vars callee.name.name callee.index

-- ---- entries

-- the entry of that name that a task has; 0 where there is none, as in no legal program
abbrev pub entry_of : Numbering → ℕ → NameId → ℕ
entry_of numbers task name = unwrap_or (entry_named numbers task name) 0

-- the entry is a family
abbrev pub is_family_in : Option EntryInfo → Bool
is_family_in None = false
is_family_in (Some info) = info.family

-- the entry of this number is a family (9.5)
abbrev pub is_family : Numbering → ℕ → Bool
is_family numbers e = is_family_in (entry_at numbers e)

-- the range of a family's index; the kind is 0 also for a family over an enumeration, since only positions are asked of it (9.5)
abbrev pub family_limits : Option EntryInfo → Limits
family_limits None = integer_limits
family_limits (Some info) = record { kind = 0; first = info.first; last = info.last }

-- an index of a family; outside the family's range CONSTRAINT_ERROR is raised (9.5)
abbrev pub index_in : Limits → ℤ → Result ℤ Raised
index_in limits i = if lies_in limits i then Ok i else Err raised.Constraint

-- The index of a member of an entry: that of a plain entry is 0 (9.5; the number is this project's rule).
abbrev pub member_index : Setting → Variables → ℕ → Option PExpr → Result ℤ Raised
member_index g vars e None = Ok (pos 0)
member_index g vars e (Some x) = and_then (evaluated g.types vars x) (λ v. index_in (family_limits (entry_at g.numbers e)) (position_of v))

-- ---- formals

-- the formals of one parameter declaration, one for each of its names (6.1)
abbrev pub parameters_in : TypeTable → PFormal → List FormalParameter
parameters_in types f = map (λ w. record { name = w.name; mode = f.mode; limits = limits_named types f.mark.name }) f.names

-- The formals of a formal part, one by one and in order.
abbrev pub parameters_of : TypeTable → List PFormal → List FormalParameter
parameters_of types formals = flat_map (parameters_in types) formals

-- the declaration of the task or task type of a name (9.1)
abbrev pub unit_named : PProgram → NameId → Option PTask
unit_named p name = find (λ t. t.name.name.0 == name.0) (tasks_of p)

-- the formal part of an entry's declaration; where there is none, as in no legal program, it is empty
abbrev pub formals_of_entry : Option PEntry → List PFormal
formals_of_entry None = []
formals_of_entry (Some e) = e.formals

-- the formal part of the entry of a name that a task or task type declares (9.5)
abbrev pub formals_in : Option PTask → NameId → List PFormal
formals_in None name = []
formals_in (Some t) name = formals_of_entry (find (λ e. e.name.name.0 == name.0) t.entries)

-- the formal part of the entry of a name of a task in the numbers, which its task or task type declares (9.1, 9.5)
abbrev pub formals_of_unit : PProgram → Option TaskInfo → NameId → List PFormal
formals_of_unit p None name = []
formals_of_unit p (Some info) name = formals_in (unit_named p info.unit) name

-- the formal part of an entry in the numbers, by its owner and its name
abbrev pub formals_of_info : Setting → Option EntryInfo → List PFormal
formals_of_info g None = []
formals_of_info g (Some info) = formals_of_unit g.program (task_at g.numbers info.owner) info.name

-- The formals of an entry, as its task or its task's type declares them (9.5).
abbrev pub entry_parameters : Setting → ℕ → List FormalParameter
entry_parameters g e = parameters_of g.types (formals_of_info g (entry_at g.numbers e))

-- ---- the lists of a call

-- The index and the actual parameters of a call.
pub record Lists : Type 0 where
  pub index : Option PExpr
  pub actuals : List PExpr

-- the first expression of a list, if it has one
abbrev pub first_expr : List PExpr → Option PExpr
first_expr [] = None
first_expr (e ∷ rest) = Some e

-- of a family the first list is the index
abbrev pub lists_in : Bool → PArgs → Lists
lists_in true args = record { index = first_expr args.first; actuals = unwrap_or args.second [] }
lists_in false args = record { index = None; actuals = args.first }

-- the index and the actuals in a call of an entry; without parentheses it has neither (6.4, 9.5)
abbrev pub lists_of : Numbering → ℕ → Option PArgs → Lists
lists_of numbers e None = record { index = None; actuals = [] }
lists_of numbers e (Some args) = lists_in (is_family numbers e) args
