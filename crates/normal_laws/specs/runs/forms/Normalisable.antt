-- A program beside its normal form, and what is asked of the program (this project's rule).
use Rattle.std.specs.Prelude.{◌≡◌, ℕ, zero, suc, ◌<◌, ◌^◌, ℤ, true, List, length, Option, Some, None, is_some, slice_get}
use Rattle.std.specs.List.{AllByRecursion}
use Rattle.ada_tree.specs.declared.naming.Span.{Span}
use Rattle.ada_tree.specs.WellPlaced.{HasTokens}
use Rattle.ada_static_rules.specs.Refusals.{types_in}
use Rattle.ada_static_rules.specs.StaticValue.{value_named}
use Rattle.ada_tree.specs.TypeTable.{TypeTable}
use Rattle.ada_tree.specs.PlainDecl.{OPlain, PDecl, DObject}
use Rattle.ada_tree.specs.PlainProgram.{PProgram}
use Rattle.syn_event.specs.declared.numbering.TaskInfo.{TaskInfo}
use Rattle.syn_event.specs.Numbering.{Numbering, entry_at}
use Rattle.syn_event.specs.AllNumbers.{all_numbers}
use Rattle.ada_value.specs.declared.values.Limits.{Limits}
use Rattle.ada_value.specs.Values.{integer_limits, truth_limits}
use Rattle.ada_value.specs.Variables.{Object}
use Rattle.task_model.specs.Setting.{Setting, is_family, family_limits, formals_of_info}
use Rattle.task_model.specs.Starting.{unit_of, form_of}
use Rattle.task_laws.specs.invariants.Worlds.{IsWellMade}
use Rattle.normal_model.specs.Names.{task_name}
use Rattle.normal_model.specs.Ranges.{integer_subtype, truth_subtype, subtype_of_range, family_range}
use Rattle.normal_model.specs.NormalTree.{tasks_beside, first_running, main_variables, normal_tree}
use Rattle.normal_model.specs.NormalStmts.{unit_variables}
use Rattle.task_laws.specs.legal.rewritten_values.Values.{is_known}
use Rattle.normal_laws.specs.structure.types.Own.{own_name}
use Rattle.normal_laws.specs.structure.types.Laws.{IsOrdered, setting_of, AreOwn}
use Rattle.normal_laws.specs.structure.units.Laws.{numbers_made}
use Rattle.task_laws.specs.translation.Translations.{Programs, IsOld}
use Rattle.task_laws.specs.translation.Scopes.{HasKnown}
use Rattle.task_laws.specs.translation.OldTexts.{OldBody}
use Rattle.normal_laws.specs.runs.floors.Suited.{SameRange, declared_limits, AreMarked, asked_of}
use Rattle.normal_laws.specs.runs.runs.Premises.{Rewrite, programs_of, unit_at, unit_before, objects_before}

-- ---- a program and its normal form

-- the program as its tasks read it
abbrev pub numbers_of : PProgram → Numbering
numbers_of p = all_numbers (types_in p) p

abbrev pub setting_for : PProgram → Setting
setting_for p = setting_of p (types_in p) (numbers_of p)

abbrev pub made_for : PProgram → PProgram
made_for p = normal_tree p (types_in p) (numbers_of p)

-- the first task that runs the body of a task
abbrev pub first_for : Setting → Option TaskInfo → ℕ
first_for g None = 0
first_for g (Some info) = first_running g info.unit

abbrev pub first_task : PProgram → ℕ → ℕ
first_task p zero = 0
first_task p (suc t) = first_for (setting_for p) (slice_get (tasks_beside (setting_for p)) t)

-- the variables that the unit of a task gets
abbrev pub variables_of : PProgram → ℕ → List PDecl
variables_of p zero = main_variables (setting_for p)
variables_of p (suc t) = unit_variables (record { setting = setting_for p; task = first_task p (suc t) }) (unit_of p (numbers_of p) (suc t)).body

-- The program and its normal form, with the same inputs.
abbrev pub normal_rewrite : PProgram → List (List ℤ) → Rewrite
normal_rewrite p inputs = record {
  setup = record { program = p; types = types_in p; inputs = inputs };
  numbers = numbers_of p;
  made = record { program = made_for p; types = types_in (made_for p); inputs = inputs };
  made_numbers = numbers_made p (types_in p) (numbers_of p);
  is_old = own_name p;
  is_fixed = λ n. is_some (value_named (types_in p) record { 0 = n });
  is_known = is_known (types_in p);
  first = first_task p;
  vars = variables_of p;
}

-- ---- what is asked of the program

-- tasks that have one name in the normal form run one body
abbrev pub NamesTell : Setting → Type 0
NamesTell g = AllByRecursion (λ a. AllByRecursion (λ b. (task_name g a).0 ≡ (task_name g b).0 → a.unit.0 ≡ b.unit.0) (tasks_beside g)) (tasks_beside g)

-- a declared variable is scalar: it has a subtype and no index
abbrev pub IsScalar : TypeTable → PDecl → Type 0
IsScalar types (DObject names constant (OPlain x) init s) = (limits : Limits) × (form_of types (OPlain x) ≡ Some record { limits = limits; index = None })
IsScalar types _ = Unit {0}

-- an object has a name of the program that no constant and no literal has, and values of known kinds
abbrev pub IsPlain : Programs → Object → Type 0
IsPlain b o = IsOld b o.name × HasKnown b o

-- What the law of normal forms asks of a program. The program meets the static rules, tells its units by their names, and has few variables; what
-- else is asked of its formals, objects and statements the static rules are to see to.
pub record IsNormalisable (p : PProgram) (inputs : List (List ℤ)) : Type 0 where
  pub ordered : IsOrdered p
  pub tokens : HasTokens p
  pub own : AreOwn p p.decls
  pub tell : NamesTell (setting_for p)
  pub few : (t : ℕ) → length (variables_of p t) < 2 ^ 64
  -- the variables that are added have the subtypes of what goes to them
  pub marks : (e : ℕ) → AreMarked (programs_of (normal_rewrite p inputs)) (formals_of_info (setting_for p) (entry_at (numbers_of p) e))
  pub families : (e : ℕ) → is_family (numbers_of p) e ≡ true → (s : Span) →
      SameRange (family_limits (entry_at (numbers_of p) e)) (declared_limits (types_in (made_for p)) (subtype_of_range (types_in p) s (family_range (setting_for p) e)))
  pub truths : (s : Span) → SameRange truth_limits (declared_limits (types_in (made_for p)) (truth_subtype s))
  pub integers : (s : Span) → SameRange integer_limits (declared_limits (types_in (made_for p)) (integer_subtype s))
  pub scalar : (t : ℕ) → AllByRecursion (IsScalar (types_in (made_for p))) (variables_of p t)
  -- accepts conform to their entries, objects are plain, and statements have what is asked of calls, accepts and aborts
  pub well : IsWellMade (setting_for p)
  pub plain : (t : ℕ) → AllByRecursion (IsPlain (programs_of (normal_rewrite p inputs))) (objects_before (normal_rewrite p inputs) t)
  pub text : (t : ℕ) → t < length (numbers_of p).tasks → OldBody (asked_of (unit_at (normal_rewrite p inputs) t)) (unit_before (normal_rewrite p inputs) t).body
