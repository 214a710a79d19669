-- The variables of a task's unit are kept, whatever is done to the task (this project's rule).
use Rattle.std.specs.Prelude.{◌≡◌, ℕ, ℤ, Bool, true, false, List, [], ◌∷◌, length, Option}
use Rattle.ada_tree.specs.declared.naming.NameId.{NameId}
use Rattle.ada_tree.specs.declared.naming.Word.{Word}
use Rattle.ada_tree.specs.PlainStmt.{PStmts, PBody}
use Rattle.ada_value.specs.Variables.{Variables, object_named}
use Rattle.task_model.specs.Setting.{Setting}
use Rattle.task_model.specs.Frames.{Loop, Counting}
use Rattle.task_model.specs.Tasks.{Task, vars_of, place_of}
use Rattle.task_model.specs.Stands.{stepped}
use Rattle.task_model.specs.Rendezvous.{accepted, finished, resumed, call_failed, took_else, took_delay, past_name}
use Rattle.task_model.specs.Starting.{Unit as TaskUnit, unit_of, objects_of, started}
use Rattle.task_laws.specs.statements.Each.{InBody, HoldsOf}
use Rattle.task_laws.specs.statements.Laws.{StaysSo}
use Rattle.task_laws.specs.statements.variables.Held.{MeansKept, DeclaresInner, HoldsVariables}

-- the objects of a unit
abbrev pub unit_objects : Setting → TaskUnit → Variables
unit_objects g unit = objects_of g.types unit.in_main unit.decls []

-- Each task of each program starts with the objects of its unit.
abbrev pub VariablesStart : Type 0
VariablesStart = (inner : ℕ → Bool) (g : Setting) (inputs : List (List ℤ)) (t : ℕ) → HoldsVariables inner (unit_objects g (unit_of g.program g.numbers t)) (started g inputs t)

-- After a local step, and after what each event makes of the task, its variables are as before.
pub record KeepsVariables (inner : ℕ → Bool) (start : Variables) (t : Task) : Type 0 where
  pub stepped : HoldsVariables inner start (stepped t)
  pub accepted : (e : ℕ) (i : ℤ) (caller : ℕ) (calling : Task) → HoldsVariables inner start (accepted e i caller calling t)
  pub finished : HoldsVariables inner start (finished t)
  pub resumed : (acceptor : Task) → HoldsVariables inner start (resumed acceptor t)
  pub raised : HoldsVariables inner start (call_failed t)
  pub took_else : HoldsVariables inner start (took_else t)
  pub took_delay : (k : ℕ) → HoldsVariables inner start (took_delay k t)
  pub passed : HoldsVariables inner start (past_name t)

-- So it is where its loops and accepts declare such names.
abbrev pub VariablesStay : Type 0
VariablesStay = (inner : ℕ → Bool) (start : Variables) (t : Task) → HoldsOf (DeclaresInner inner) t → HoldsVariables inner start t → KeepsVariables inner start t

-- That they do stays so.
abbrev pub InnerStays : Type 0
InnerStays = (inner : ℕ → Bool) (t : Task) → HoldsOf (DeclaresInner inner) t → StaysSo (DeclaresInner inner) t

-- A name that is none of these means the variable of the unit, which is kept.
abbrev pub NamesMeanKept : Type 0
NamesMeanKept = (inner : ℕ → Bool) (start : Variables) (t : Task) (id : NameId) → inner id.0 ≡ false → HoldsVariables inner start t → MeansKept (object_named start id) (object_named (vars_of t) id)

-- the latest variable, where there is one, has one value
abbrev pub LatestHasOne : Variables → Type 0
LatestHasOne [] = Unit {0}
LatestHasOne (o ∷ vars) = length o.values ≡ 1

-- Where such a task stands in a counting loop, its latest variable, which is counted on, has one value (5.5).
abbrev pub CountsOne : Type 0
CountsOne =
    (inner : ℕ → Bool) (start : Variables) (t : Task) (name : Option Word) (backwards : Bool) (last : ℤ) (stmts : PStmts) → HoldsVariables inner start t → place_of t ≡ Loop name (Counting backwards last) stmts →
    LatestHasOne (vars_of t)

-- With a test that holds of each id, nothing is asked of names: every body is so.
abbrev pub EveryBodyIsSo : Type 0
EveryBodyIsSo = (b : PBody) → InBody (DeclaresInner (λ n. true)) [] b
