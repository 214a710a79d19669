-- The tasks and bodies of a normal form, by those of the program (9.1; this project's rule).
use Rattle.std.specs.Prelude.{◌≡◌, ℕ, suc, ◌==◌, false, length, slice_get, option_map, Option, Some, None}
use Rattle.std.specs.List.{AllByRecursion, filter}
use Rattle.ada_tree.specs.declared.naming.NameId.{NameId}
use Rattle.ada_tree.specs.TypeTable.{TypeTable}
use Rattle.ada_tree.specs.PlainDecl.{decls_of}
use Rattle.ada_tree.specs.PlainProgram.{PProgram}
use Rattle.ada_static_rules.specs.Refusals.{types_in}
use Rattle.syn_event.specs.declared.numbering.TaskInfo.{TaskInfo}
use Rattle.syn_event.specs.Numbering.{Numbering, task_at}
use Rattle.syn_event.specs.AddedNames.{task_info}
use Rattle.syn_event.specs.AllNumbers.{all_numbers}
use Rattle.syn_event.specs.DeclaredTasks.{tasks_of}
use Rattle.task_model.specs.Setting.{Setting, formals_of_unit}
use Rattle.task_model.specs.Starting.{Unit, unit_of}
use Rattle.normal_model.specs.Names.{task_name}
use Rattle.normal_model.specs.NormalNumbers.{normal_numbers}
use Rattle.normal_model.specs.NormalStmts.{normal_body, unit_variables}
use Rattle.normal_model.specs.NormalTree.{decls_front, tasks_beside, unit_for, normal_tree}
use Rattle.normal_laws.specs.structure.types.Laws.{IsOrdered, setting_of}

-- ---- what is asked of the numbers

-- how many tasks and task types of a program have that name
abbrev pub count_named : PProgram → NameId → ℕ
count_named p id = length (filter (λ t. t.name.name.0 == id.0) (tasks_of p))

-- Each task beside main runs the body of one task or task type that is declared, and tasks that have one name in the normal form run one body.
pub record TellUnits (g : Setting) : Type 0 where
  pub declared : AllByRecursion (λ info. count_named g.program info.unit ≡ 1) (tasks_beside g)
  pub named : AllByRecursion (λ a. AllByRecursion (λ b. (task_name g a).0 ≡ (task_name g b).0 → a.unit.0 ≡ b.unit.0) (tasks_beside g)) (tasks_beside g)

-- ---- the laws

-- Each task of a program that meets the static rules, with its own numbers, runs the body of a task or task type that is declared once.
abbrev pub UnitsAreDeclared : Type 0
UnitsAreDeclared =
    (p : PProgram) (types : TypeTable) → IsOrdered p → AllByRecursion (λ info. count_named p info.unit ≡ 1) (tasks_beside (setting_of p types (all_numbers types p)))

-- Tasks of one name in such a program, as the members of an array, run one body.
abbrev pub NamesTellUnits : Type 0
NamesTellUnits =
    (p : PProgram) (types : TypeTable) → IsOrdered p →
    AllByRecursion (λ a. AllByRecursion (λ b. a.name.0 ≡ b.name.0 → a.unit.0 ≡ b.unit.0) (tasks_beside (setting_of p types (all_numbers types p)))) (tasks_beside (setting_of p types (all_numbers types p)))

-- A normal form with its numbers.
abbrev pub numbers_made : PProgram → TypeTable → Numbering → Numbering
numbers_made p types numbers = normal_numbers (normal_tree p types numbers) numbers

-- Beside main the tasks of the normal form have the numbers that they have in the program, and each runs a body of its own.
abbrev pub TasksKeepNumbers : Type 0
TasksKeepNumbers =
    (p : PProgram) (types : TypeTable) (numbers : Numbering) → TellUnits (setting_of p types numbers) → (t : ℕ) →
    task_at (numbers_made p types numbers) (suc t)
    ≡ option_map (λ info. task_info (normal_tree p types numbers).names (task_name (setting_of p types numbers) info)) (slice_get (tasks_beside (setting_of p types numbers)) t)

-- The entries of a task have the formals that they have in the program.
abbrev pub EntriesKeepFormals : Type 0
EntriesKeepFormals =
    (p : PProgram) (types : TypeTable) (numbers : Numbering) → TellUnits (setting_of p types numbers) → (t : ℕ) (name : NameId) →
    formals_of_unit (normal_tree p types numbers) (task_at (numbers_made p types numbers) (suc t)) name ≡ formals_of_unit p (slice_get (tasks_beside (setting_of p types numbers)) t) name

-- a unit of the normal form: the objects, the variables behind them, and the body as it is rewritten
abbrev pub normal_unit : Setting → NameId → Unit → Unit
normal_unit g name u = record {
  in_main = false;
  decls = decls_front u.decls (decls_of (unit_variables (unit_for g name) u.body));
  body = normal_body (unit_for g name) u.body;
}

-- that of a task that may not be there
abbrev pub unit_made : Setting → Option TaskInfo → Unit → Unit
unit_made g None u = u
unit_made g (Some info) u = normal_unit g info.unit u

-- Each task beside main runs the rewriting of what it runs in the program.
abbrev pub UnitsAreRewritten : Type 0
UnitsAreRewritten =
    (p : PProgram) (types : TypeTable) (numbers : Numbering) → TellUnits (setting_of p types numbers) → (t : ℕ) →
    unit_of (normal_tree p types numbers) (numbers_made p types numbers) (suc t)
    ≡ unit_made (setting_of p types numbers) (slice_get (tasks_beside (setting_of p types numbers)) t) (unit_of p numbers (suc t))

-- a program with its own types and numbers
abbrev pub own_setting : PProgram → Setting
own_setting p = setting_of p (types_in p) (all_numbers (types_in p) p)

-- A program with three tasks beside main is so, of which two have the same type.
abbrev pub IsMet : Type 0
IsMet = (p : PProgram) × IsOrdered p × TellUnits (own_setting p) × (length (tasks_beside (own_setting p)) ≡ 3)
