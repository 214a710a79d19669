-- What well-placedness of a replay text hangs on (this project's rule).
use Rattle.std.specs.Prelude.{ℕ, ◌<◌, List, length}
use Rattle.std.specs.List.{AllByRecursion}
use Rattle.ada_tree.specs.Lexical.{IsIdentifier, IsInteger}
use Rattle.ada_tree.specs.PlainDecl.{PEntry, PDecl, DTask, DTaskBody}
use Rattle.ada_tree.specs.WellPlaced.{IsWellPlaced}
use Rattle.syn_event.specs.DeclaredTasks.{text_of, decl_list}
use Rattle.event_machine.specs.declared.Event.{Event}
use Rattle.event_machine.specs.declared.Event.TheVariants.{R, C, T, F}
use Rattle.control_script.specs.declared.Op.{Op}
use Rattle.control_script.specs.declared.Op.TheVariants.{Go, Done, Join, Hold}
use Rattle.task_model.specs.Setting.{Setting}
use Rattle.task_laws.specs.legal.asked.Asked.{AskedBody}
use Rattle.normal_model.specs.NormalTree.{unit_for, main_unit}
use Rattle.normal_laws.specs.structure.placed.Placeable.{IsName, IsSmallIndex, MarksHaveNames}
use Rattle.replay_model.specs.Names.{double_text}
use Rattle.replay_structure.specs.placed.Fitting.{fit_asks}

-- ---- operations

-- the numbers of an operation have literals
abbrev pub HasLiterals : Op → Type 0
HasLiterals (Go t kind arg index) = IsInteger t × IsInteger kind × IsInteger arg × IsSmallIndex index
HasLiterals (Done t) = IsInteger t
HasLiterals (Join t) = IsInteger t
HasLiterals Hold = Unit {0}

-- the index of an event is a number that has a literal
abbrev pub HasSmallIndices : Event → Type 0
HasSmallIndices (R c e i) = IsSmallIndex i
HasSmallIndices (C c e i) = IsSmallIndex i
HasSmallIndices (T c e i) = IsSmallIndex i
HasSmallIndices (F c e i) = IsSmallIndex i
HasSmallIndices _ = Unit {0}

-- ---- declarations

-- the name of the entry's double is a name
abbrev pub HasDouble : List (List ℕ) → PEntry → Type 0
HasDouble names e = IsIdentifier (double_text (text_of names e.name.name))

-- a task has names for the doubles of its entries, and the statements of a body are as is asked
abbrev pub FitsDecl : Setting → PDecl → Type 0
FitsDecl g (DTask t s) = AllByRecursion (HasDouble g.program.names) t.entries
FitsDecl g (DTaskBody w objects its s) = AskedBody (fit_asks (unit_for g w.name)) tt 1 its
FitsDecl g _ = Unit {0}

-- ---- the whole

-- What is asked of a normal form with its numbers and the program's types: it is well placed, its first names are such (the 25 of every program), its
-- units fit, its marks and tasks have names, and the numbers of tasks and entries have literals.
pub record IsReplayPlaceable (g : Setting) : Type 0 where
  pub placed : IsWellPlaced g.program
  pub first : (k : ℕ) → k < 25 → IsName g.program.names (record { 0 = k })
  pub main : AskedBody (fit_asks (main_unit g)) tt 1 g.program.body
  pub decls : AllByRecursion (FitsDecl g) (decl_list g.program.decls)
  pub marks : MarksHaveNames g.program.names g.types
  pub tasks : AllByRecursion (λ info. IsName g.program.names info.name) g.numbers.tasks
  pub few_tasks : IsInteger (length g.numbers.tasks)
  pub few_entries : IsInteger (length g.numbers.entries)
