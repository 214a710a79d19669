-- What is asked of a program and of the program that is made from it as its normal form (this project's rule).
use Rattle.std.specs.Prelude.{◌≡◌, ℕ, ◌<◌, Bool, List, [], length}
use Rattle.ada_tree.specs.PlainDecl.{PDecl}
use Rattle.syn_event.specs.Numbering.{Numbering}
use Rattle.ada_value.specs.Variables.{Variables}
use Rattle.task_model.specs.Starting.{Unit, unit_of, objects_of}
use Rattle.task_model.specs.Machine.{ProgramWithInputs, setting_of}
use Rattle.task_laws.specs.invariants.Worlds.{IsWellMade}
use Rattle.normal_model.specs.NormalStmts.{normal_body, unit_variables}
use Rattle.task_laws.specs.translation.Translations.{Programs}
use Rattle.task_laws.specs.translation.OldTexts.{OldBody}
use Rattle.normal_laws.specs.runs.floors.Suited.{AreMade, Rewritten, rewritten_unit as unit_rewritten, asked_of}
use Rattle.normal_laws.specs.runs.floors.NormalLists.{Begin}
use Rattle.normal_laws.specs.runs.floors.NormalFloors.{Extends}
use Rattle.normal_laws.specs.runs.floors.Preludes.{Added, AreThere}
use Rattle.normal_laws.specs.runs.floors.Declared.{AreDeclared}

-- A program with its inputs and numbers, another that is made from it, the names and kinds that they have in common, and of each task the number by
-- which its unit is rewritten and the variables that it gets.
pub record Rewrite : Type 0 where
  pub setup : ProgramWithInputs
  pub numbers : Numbering
  pub made : ProgramWithInputs
  pub made_numbers : Numbering
  pub is_old : ℕ → Bool
  pub is_fixed : ℕ → Bool
  pub is_known : ℕ → Bool
  pub first : ℕ → ℕ
  pub vars : ℕ → List PDecl

-- the two programs as tasks read them
abbrev pub programs_of : Rewrite → Programs
programs_of r = record {
  original = setting_of r.setup r.numbers;
  made = setting_of r.made r.made_numbers;
  is_old = r.is_old;
  is_fixed = r.is_fixed;
  is_known = r.is_known;
}

-- the unit of a task as it is rewritten
abbrev pub unit_at : Rewrite → ℕ → Rewritten
unit_at r t = record { programs = programs_of r; first = r.first t; number = t; vars = r.vars t }

-- the unit that a task runs, in the original and in the program that is made
abbrev pub unit_before : Rewrite → ℕ → Unit
unit_before r t = unit_of r.setup.program r.numbers t

abbrev pub unit_after : Rewrite → ℕ → Unit
unit_after r t = unit_of r.made.program r.made_numbers t

-- the objects of a task as it starts
abbrev pub objects_before : Rewrite → ℕ → Variables
objects_before r t = objects_of r.setup.types (unit_before r t).in_main (unit_before r t).decls []

abbrev pub objects_after : Rewrite → ℕ → Variables
objects_after r t = objects_of r.made.types (unit_after r t).in_main (unit_after r t).decls []

-- The second program is a normal form of the first: their types and numbers agree, the first is well made, and each task of the second runs the
-- rewritten body of the first's, with the added variables beside its objects.
pub record IsNormalForm (r : Rewrite) : Type 0 where
  pub inputs : r.made.inputs ≡ r.setup.inputs
  pub programs : AreMade (programs_of r)
  pub well : IsWellMade (setting_of r.setup r.numbers)
  pub size : length r.made_numbers.tasks ≡ length r.numbers.tasks
  pub added : (t : ℕ) → Added (programs_of r) (programs_of r).original
  pub declared : (t : ℕ) → AreDeclared (unit_at r t) (added t)
  pub text : (t : ℕ) → t < length r.numbers.tasks → OldBody (asked_of (unit_at r t)) (unit_before r t).body
  pub begins : (t : ℕ) → t < length r.numbers.tasks → Begin (unit_variables (unit_rewritten (unit_at r t)) (unit_before r t).body) (r.vars t)
  pub bodies : (t : ℕ) → t < length r.numbers.tasks → (unit_after r t).body ≡ normal_body (unit_rewritten (unit_at r t)) (unit_before r t).body
  pub objects : (t : ℕ) → t < length r.numbers.tasks → Extends (programs_of r) (objects_before r t) (objects_after r t)
  pub there : (t : ℕ) → t < length r.numbers.tasks → AreThere (added t) (objects_after r t)
