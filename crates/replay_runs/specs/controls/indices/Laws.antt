-- What the variables of a normal form's tasks hold: values whose positions are numbers of INTEGER (3.5.4, 3.5.5; this project's rule).
use Rattle.std.specs.Prelude.{◌≡◌, ℕ, ◌<◌, ℤ, false, List, length, Some, None}
use Rattle.ada_tree.specs.declared.naming.NameId.{NameId}
use Rattle.ada_tree.specs.declared.naming.Span.{Span}
use Rattle.ada_tree.specs.TypeTable.{TypeTable}
use Rattle.ada_tree.specs.PlainExpr.{EName}
use Rattle.ada_tree.specs.PlainProgram.{PProgram}
use Rattle.ada_value.specs.Variables.{Object, object_named}
use Rattle.task_model.specs.Tasks.{Task, vars_of}
use Rattle.task_model.specs.Stands.{stepped}
use Rattle.task_model.specs.Rendezvous.{accepted, finished, resumed, call_failed, took_else, took_delay, past_name}
use Rattle.task_model.specs.Starting.{started}
use Rattle.task_laws.specs.statements.Each.{HoldsOf}
use Rattle.task_laws.specs.statements.variables.Held.{DeclaresInner, HoldsVariables}
use Rattle.normal_model.specs.Names.{variable_name}
use Rattle.normal_laws.specs.runs.forms.Normalisable.{numbers_of, setting_for, variables_of}
use Rattle.normal_laws.specs.existence.Laws.{IsLegalOriginal}
use Rattle.replay_structure.specs.legal.names.form_units.Inner.{inner_name}
use Rattle.replay_runs.specs.starts.Laws.{start_before}
use Rattle.replay_runs.specs.starts.Formals.{form_setting}
use Rattle.replay_runs.specs.controls.permits.Laws.{IndexIs}

-- ---- what is kept of a task

-- A task of the normal form, by its number: its loops and accepts declare such names as those of a legal program can, and its variables are those of
-- its unit, with those of loops and accept bodies in front.
pub record KeepsUnit (p : PProgram) (t : ℕ) (σ : Task) : Type 0 where
  pub inner : HoldsOf (DeclaresInner (inner_name p)) σ
  pub variables : HoldsVariables (inner_name p) (start_before p t) σ

-- So each task starts.
abbrev pub LegalUnitsStart : Type 0
LegalUnitsStart = (p : PProgram) → IsLegalOriginal p → (inputs : List (List ℤ)) (t : ℕ) → KeepsUnit p t (started (form_setting p) inputs t)

-- So it is after a local step, and after what each event makes of the task.
pub record StaysKept (p : PProgram) (t : ℕ) (σ : Task) : Type 0 where
  pub stepped : KeepsUnit p t (stepped σ)
  pub accepted : (e : ℕ) (i : ℤ) (caller : ℕ) (calling : Task) → KeepsUnit p t (accepted e i caller calling σ)
  pub finished : KeepsUnit p t (finished σ)
  pub resumed : (acceptor : Task) → KeepsUnit p t (resumed acceptor σ)
  pub raised : KeepsUnit p t (call_failed σ)
  pub took_else : KeepsUnit p t (took_else σ)
  pub took_delay : (k : ℕ) → KeepsUnit p t (took_delay k σ)
  pub passed : KeepsUnit p t (past_name σ)

-- It stays so.
abbrev pub UnitsStay : Type 0
UnitsStay = (p : PProgram) (t : ℕ) (σ : Task) → KeepsUnit p t σ → StaysKept p t σ

-- ---- variables that the normal form adds

-- The name means an object of the unit that is no array, and no loop and no accept declares it.
pub record IsUnitVariable (p : PProgram) (t : ℕ) (id : NameId) : Type 0 where
  pub outer : inner_name p id.0 ≡ false
  pub object : Object
  pub there : object_named (start_before p t) id ≡ Some object
  pub scalar : object.index ≡ None

-- Each variable that the normal form adds to the unit of a task is such.
abbrev pub LegalVariablesAreAdded : Type 0
LegalVariablesAreAdded =
    (p : PProgram) → IsLegalOriginal p → (t : ℕ) → t < length (numbers_of p).tasks → (k : ℕ) → k < length (variables_of p t) → IsUnitVariable p t (variable_name (setting_for p) k)

-- Such a variable evaluates to a value whose position is a number of INTEGER, whatever the table of types.
abbrev pub LegalIndicesEvaluate : Type 0
LegalIndicesEvaluate =
    (p : PProgram) → IsLegalOriginal p → (t : ℕ) (σ : Task) → KeepsUnit p t σ → (T : TypeTable) (id : NameId) (s : Span) → IsUnitVariable p t id → (z : ℤ) × IndexIs T (vars_of σ) (Some (EName id s)) z
