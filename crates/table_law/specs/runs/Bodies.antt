-- What a body of the controller lets tasks do, told of its objects and its statements alone (9.5; this project's rule).
use Rattle.std.specs.Prelude.{◌≡◌, ℕ, ◌<◌, false, List, [], ◌++◌, ◌∷◌, length, take, slice_index_or}
use Rattle.event_machine.specs.Worlds.{Move, AreMoves, world_after}
use Rattle.ada_tree.specs.declared.naming.Span.{Span}
use Rattle.ada_tree.specs.PlainStmt.{PBody}
use Rattle.ada_tree.specs.PlainDecl.{PDecl, decls_of}
use Rattle.syn_event.specs.declared.numbering.TaskInfo.{TaskInfo}
use Rattle.syn_event.specs.Numbering.{Numbering}
use Rattle.task_model.specs.Starting.{unit_of}
use Rattle.task_model.specs.Machine.{ProgramWithInputs, setting_of}
use Rattle.task_model.specs.Laws.{program_in, first_world}
use Rattle.task_laws.specs.invariants.Worlds.{IsWellMade}
use Rattle.task_laws.specs.statements.Each.{InBody}
use Rattle.control_script.specs.declared.Op.{Op}
use Rattle.replay_model.specs.tables.Columns.{acts, holds}
use Rattle.replay_model.specs.tables.ControlTexts.{with_control_names, ids_in}
use Rattle.replay_model.specs.tables.Tables.{control_objects}
use Rattle.replay_model.specs.tables.ControlBodies.{control_block}
use Rattle.table_law.specs.Controllers.{Controller, Entries, IsController, CanMakeAll}
use Rattle.table_law.specs.Laws.{MakesOperations}
use Rattle.table_law.specs.runs.Permits.{AcceptsNoJoin, Stands, GoesOn}

-- The controller as the task of a number in a program, for these tasks and with its body at this place.
abbrev pub controller_in : ProgramWithInputs → Numbering → ℕ → List TaskInfo → Span → Controller
controller_in setup numbers c infos s = record {
  setting = setting_of setup numbers;
  number = c;
  names = ids_in setup.program.names;
  tasks = infos;
  span = s;
  input = slice_index_or setup.inputs c [];
  output = [];
}

-- A program in which the task c has these objects and this body. Its names begin with `names`, its entries are those of a controller of these tasks, which can make the operations, and no task accepts a DED_JOIN.
pub record HasBody (objects : List PDecl) (b : PBody) (ops : List Op) (infos : List TaskInfo) (s : Span) (names : List (List ℕ)) (setup : ProgramWithInputs) (numbers : Numbering) (c : ℕ) (e : Entries) : Type 0 where
  pub begins : take (length names) setup.program.names ≡ names
  pub number : c < length numbers.tasks
  pub unit : unit_of setup.program numbers c ≡ record { in_main = false; decls = decls_of objects; body = b }
  pub is : IsController (controller_in setup numbers c infos s) e
  pub can : CanMakeAll (controller_in setup numbers c infos s) (acts ops)
  pub well : IsWellMade (setting_of setup numbers)
  pub no_join : (t : ℕ) → InBody (AcceptsNoJoin (controller_in setup numbers c infos s) e t) [] (unit_of setup.program numbers t).body

-- In each run of each such program the task c makes the operations, in their order, and nothing else.
pub record Permits (objects : List PDecl) (b : PBody) (ops : List Op) (infos : List TaskInfo) (s : Span) (names : List (List ℕ)) : Type 0 where
  -- what it offers before each, and what a permit hands back
  pub makes : (setup : ProgramWithInputs) (numbers : Numbering) (c : ℕ) (e : Entries) → HasBody objects b ops infos s names setup numbers c e → MakesOperations (controller_in setup numbers c infos s) e
  -- where it stands
  pub stands : (setup : ProgramWithInputs) (numbers : Numbering) (c : ℕ) (e : Entries) → HasBody objects b ops infos s names setup numbers c e →
      (moves : List Move) → AreMoves (program_in setup numbers) (first_world setup numbers) moves →
      Stands (controller_in setup numbers c infos s) (holds ops) (acts ops) ((world_after (program_in setup numbers) (first_world setup numbers) moves).tasks c).local
  -- it goes past each by that operation alone
  pub goes_on : (setup : ProgramWithInputs) (numbers : Numbering) (c : ℕ) (e : Entries) → HasBody objects b ops infos s names setup numbers c e →
      (moves : List Move) (move : Move) → AreMoves (program_in setup numbers) (first_world setup numbers) (moves ++ move ∷ []) →
      GoesOn (controller_in setup numbers c infos s) e (holds ops) (acts ops) c move
      ((world_after (program_in setup numbers) (first_world setup numbers) moves).tasks c).local
      ((world_after (program_in setup numbers) (first_world setup numbers) (moves ++ move ∷ [])).tasks c).local

-- So it is of the body that is defined, by the ids of the controller's names, where these were interned.
abbrev pub BodiesPermit : Type 0
BodiesPermit = (ops : List Op) (infos : List TaskInfo) (s : Span) (names : List (List ℕ)) →
    Permits (control_objects (ids_in (with_control_names names)) s ops) (control_block (ids_in (with_control_names names)) infos s ops) ops infos s (with_control_names names)
