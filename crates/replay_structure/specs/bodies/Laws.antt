-- Which body each task of a replay text runs (9.1; this project's rule).
use Rattle.std.specs.Prelude.{◌≡◌, ℕ, suc, ◌==◌, ◌||◌, Bool, true, false, List, [], ◌∷◌, length, drop, Some}
use Rattle.std.specs.List.{AllByRecursion}
use Rattle.ada_tree.specs.declared.naming.NameId.{NameId}
use Rattle.ada_tree.specs.declared.naming.Span.{Span}
use Rattle.ada_tree.specs.TypeTable.{TypeTable}
use Rattle.ada_tree.specs.PlainDecl.{PDecl, DTaskBody, decls_of}
use Rattle.ada_tree.specs.PlainProgram.{PProgram}
use Rattle.ada_static_rules.specs.Refusals.{types_in}
use Rattle.syn_event.specs.declared.numbering.TaskInfo.{TaskInfo}
use Rattle.syn_event.specs.Numbering.{Numbering, task_at}
use Rattle.syn_event.specs.AddedNames.{task_info}
use Rattle.syn_event.specs.AllNumbers.{all_numbers}
use Rattle.syn_event.specs.DeclaredTasks.{decl_list}
use Rattle.control_script.specs.declared.Op.{Op}
use Rattle.task_model.specs.Setting.{Setting}
use Rattle.task_model.specs.Starting.{Unit, no_unit, unit_of}
use Rattle.normal_model.specs.NormalTree.{unit_for, normal_tree}
use Rattle.replay_model.specs.Names.{control_text, idle_text, replay_names, added_id}
use Rattle.replay_model.specs.Controlling.{control_body, idle_body}
use Rattle.replay_model.specs.ReplayStmts.{replay_body}
use Rattle.replay_model.specs.ReplayTree.{behind_own, permit_declared, last_task, normal_setting, replay_of}
use Rattle.replay_model.specs.ReplayNumbers.{numbers_replayed}
use Rattle.normal_laws.specs.structure.types.Laws.{IsOrdered, AreOwn}
use Rattle.normal_laws.specs.structure.numbers.Laws.{NoneIsDed}

-- The tasks of a normal form keep their numbers in its replay text; behind them stand the controller and the idle task.
pub record TasksStay (g : Setting) : Type 0 where
  pub own : (t : ℕ) (info : TaskInfo) → task_at g.numbers t ≡ Some info → task_at (numbers_replayed g) t ≡ Some info
  pub control : task_at (numbers_replayed g) (suc (last_task g.numbers)) ≡ Some (task_info (replay_names g.program) (added_id g.program control_text))
  pub idle : task_at (numbers_replayed g) (suc (suc (last_task g.numbers))) ≡ Some (task_info (replay_names g.program) (added_id g.program idle_text))

abbrev pub TasksKeepNumbers : Type 0
TasksKeepNumbers = (p : PProgram) (types : TypeTable) (numbers : Numbering) → TasksStay (normal_setting p types numbers)

-- a task body of the name is among the declarations
abbrev pub has_body : List PDecl → NameId → Bool
has_body [] name = false
has_body (DTaskBody w objects its s ∷ ds) name = (w.name.0 == name.0) || has_body ds name
has_body (_ ∷ ds) name = has_body ds name

-- a unit in a replay text: the permit's variables behind its own objects, and its body as it is rewritten, all that is added at one place
abbrev pub replayed_unit : Setting → Span → NameId → Unit → Unit
replayed_unit g s name u = record {
  in_main = false;
  decls = decls_of (behind_own g.program.names (permit_declared g.program s) (decl_list u.decls));
  body = replay_body (unit_for g name) s u.body;
}

-- the unit of a body's declaration
abbrev pub unit_in : PDecl → Unit
unit_in (DTaskBody w objects its s) = record { in_main = false; decls = objects; body = its }
unit_in _ = no_unit

-- Each task beside main that has a body runs, in the replay text, the rewriting of what it runs in the normal form.
abbrev pub UnitsAreReplayed : Type 0
UnitsAreReplayed =
    (p : PProgram) (types : TypeTable) (numbers : Numbering) (ops : List Op) (t : ℕ) (info : TaskInfo) →
    task_at (normal_setting p types numbers).numbers (suc t) ≡ Some info →
    has_body (decl_list (normal_tree p types numbers).decls) info.unit ≡ true →
    (s : Span)
    × (unit_of (replay_of (normal_setting p types numbers) ops) (numbers_replayed (normal_setting p types numbers)) (suc t)
    ≡ replayed_unit (normal_setting p types numbers) s info.unit (unit_of (normal_tree p types numbers) (normal_setting p types numbers).numbers (suc t)))

-- The controller and the idle task run their bodies, where no body of the normal form has one of their names.
pub record RunAdded (g : Setting) (ops : List Op) : Type 0 where
  pub control : unit_of (replay_of g ops) (numbers_replayed g) (suc (last_task g.numbers)) ≡ unit_in (control_body g g.program.name.span ops)
  pub idle : unit_of (replay_of g ops) (numbers_replayed g) (suc (suc (last_task g.numbers))) ≡ unit_in (idle_body g.program g.program.name.span)

abbrev pub AddedTasksRun : Type 0
AddedTasksRun =
    (p : PProgram) (types : TypeTable) (numbers : Numbering) (ops : List Op) →
    has_body (decl_list (normal_tree p types numbers).decls) (added_id (normal_tree p types numbers) control_text) ≡ false →
    has_body (decl_list (normal_tree p types numbers).decls) (added_id (normal_tree p types numbers) idle_text) ≡ false →
    RunAdded (normal_setting p types numbers) ops

-- ---- of a program

-- each task beside main runs a body that is declared (9.1)
abbrev pub HasBodies : PProgram → List TaskInfo → Type 0
HasBodies p infos = AllByRecursion (λ info. has_body (decl_list p.decls) info.unit ≡ true) infos

-- the units of a replay text, made from the program's own types and numbers
pub record RunsUnits (p : PProgram) (ops : List Op) : Type 0 where
  pub own : (t : ℕ) (info : TaskInfo) → task_at (normal_setting p (types_in p) (all_numbers (types_in p) p)).numbers (suc t) ≡ Some info →
      (s : Span)
      × (unit_of (replay_of (normal_setting p (types_in p) (all_numbers (types_in p) p)) ops) (numbers_replayed (normal_setting p (types_in p) (all_numbers (types_in p) p))) (suc t)
      ≡ replayed_unit (normal_setting p (types_in p) (all_numbers (types_in p) p)) s info.unit (unit_of (normal_tree p (types_in p) (all_numbers (types_in p) p)) (normal_setting p (types_in p) (all_numbers (types_in p) p)).numbers (suc t)))
  pub added : RunAdded (normal_setting p (types_in p) (all_numbers (types_in p) p)) ops

-- All this is so of a program that meets the static rules, declares own names, has a body for each task, and no array of tasks named DED.
abbrev pub ProgramsRun : Type 0
ProgramsRun = (p : PProgram) (ops : List Op) → IsOrdered p → AreOwn p p.decls → NoneIsDed p → HasBodies p (drop 1 (all_numbers (types_in p) p).tasks) → RunsUnits p ops

-- A program with an array of tasks is so, and no body of its normal form has the name of an added task.
pub record IsAsked (p : PProgram) : Type 0 where
  pub ordered : IsOrdered p
  pub own : AreOwn p p.decls
  pub apart : NoneIsDed p
  pub bodies : HasBodies p (drop 1 (all_numbers (types_in p) p).tasks)
  pub control : has_body (decl_list (normal_tree p (types_in p) (all_numbers (types_in p) p)).decls) (added_id (normal_tree p (types_in p) (all_numbers (types_in p) p)) control_text) ≡ false
  pub idle : has_body (decl_list (normal_tree p (types_in p) (all_numbers (types_in p) p)).decls) (added_id (normal_tree p (types_in p) (all_numbers (types_in p) p)) idle_text) ≡ false

abbrev pub IsMet : Type 0
IsMet = (p : PProgram) × IsAsked p × (length (all_numbers (types_in p) p).tasks ≡ 3)
