-- What the controller does as its program runs, whatever the inputs and the schedule (9.5; this project's rule). Told of the machine without queues: one move is a local step of a task, or one event.
use Rattle.std.specs.Prelude.{◌≡◌, ℕ, ℤ, pos, ◌<◌, ◌==◌, Bool, true, false, List, [], ◌∷◌, ◌++◌, length, None, slice_index_or}
use Rattle.event_machine.specs.declared.Event.TheVariants.{R, E, F}
use Rattle.event_machine.specs.Worlds.{Move, Step, Happen, AreMoves, world_after}
use Rattle.ada_tree.specs.PlainStmt.{PHead, PStmt, no_stmt, no_handler}
use Rattle.syn_event.specs.Numbering.{Numbering}
use Rattle.task_model.specs.Setting.{entry_of}
use Rattle.task_model.specs.Frames.{OwnBody, Opened, control}
use Rattle.task_model.specs.Tasks.{Task}
use Rattle.task_model.specs.Stands.{can_step, stepped}
use Rattle.task_model.specs.Rendezvous.{accepted, finished, call_failed}
use Rattle.task_model.specs.Starting.{unit_of}
use Rattle.task_model.specs.Machine.{ProgramWithInputs, setting_of}
use Rattle.task_model.specs.Laws.{program_in, first_world}
use Rattle.task_laws.specs.invariants.AcceptHeads.{InStmt}
use Rattle.task_laws.specs.invariants.Worlds.{IsWellMade}
use Rattle.task_laws.specs.statements.Each.{Loops, InBody}
use Rattle.control_script.specs.declared.Op.{Op}
use Rattle.control_script.specs.declared.Op.TheVariants.{Go, Done, Join}
use Rattle.replay_model.specs.tables.Columns.{acts, holds}
use Rattle.table_law.specs.Controllers.{Controller, Entries, IsController, CanMakeAll}
use Rattle.table_law.specs.States.{standing, objects, control_unit, before, IsWithin, LeadsTo}

-- ---- the program

-- an accept statement of the task t is not of the DED_JOIN of a task
abbrev pub IsNoJoin : Controller → Entries → ℕ → PHead → Type 0
IsNoJoin k e t head = (j : ℕ) → j < length k.tasks → (entry_of k.setting.numbers t head.entry.name == e.join j) ≡ false

-- the statement accepts no DED_JOIN, nor does one in it
abbrev pub AcceptsNoJoin : Controller → Entries → ℕ → Loops → PStmt → Type 0
AcceptsNoJoin k e t loops s = InStmt (IsNoJoin k e t) s

-- The controller is the task of that number in a program with these numbers and inputs. It runs the unit that makes the operations, which it can make, and no task accepts a DED_JOIN.
pub record RunsIn (setup : ProgramWithInputs) (numbers : Numbering) (k : Controller) (e : Entries) (ops : List Op) : Type 0 where
  pub setting : k.setting ≡ setting_of setup numbers
  pub number : k.number < length numbers.tasks
  pub unit : unit_of setup.program numbers k.number ≡ control_unit k ops
  pub input : k.input ≡ slice_index_or setup.inputs k.number []
  pub output : k.output ≡ []
  pub is : IsController k e
  pub can : CanMakeAll k (acts ops)
  pub well : IsWellMade (setting_of setup numbers)
  pub no_join : (t : ℕ) → InBody (AcceptsNoJoin k e t) [] (unit_of setup.program numbers t).body

-- ---- where the controller stands

-- in the accept body of HOLD, behind all operations
abbrev pub held : Controller → List Op → ℕ → Task
held k all caller = standing k (control no_stmt (Opened caller [] None) (record { rest = no_stmt; place = OwnBody no_handler None } ∷ []) (objects k all))

-- behind it, at the end of its body
abbrev pub over : Controller → List Op → Task
over k all = standing k (control no_stmt (OwnBody no_handler None) [] (objects k all))

-- The task is the controller, which makes these operations and then may wait for ever.
pub data Stands (k : Controller) (hold : Bool) (all : List Op) (t : Task) : Type 0 where
  -- after n local steps that write nothing it is before the operations that are left
  comes : (made left : List Op) (n : ℕ) → made ++ left ≡ all → LeadsTo n t (before k hold made left) → Stands k hold all t
  -- after n such steps it is at the end of the accept body of an operation
  serves : (made left : List Op) (op : Op) (caller n : ℕ) (u : Task) → made ++ op ∷ left ≡ all → LeadsTo n t u → IsWithin k hold made op left caller u → Stands k hold all t
  -- it has accepted a call of HOLD, or that is over too
  keeps : (caller : ℕ) → hold ≡ true → t ≡ held k all caller → Stands k hold all t
  stops : hold ≡ true → t ≡ over k all → Stands k hold all t

-- What a move makes of it, where c is its number. It goes past an operation only by that operation.
pub data GoesOn (k : Controller) (e : Entries) (hold : Bool) (all : List Op) (c : ℕ) : Move → Task → Task → Type 0 where
  -- it stays as it is, also where it is aborted or completes
  stays : (move : Move) (t : Task) → GoesOn k e hold all c move t t
  -- a local step
  steps : (t : Task) → can_step t ≡ true → GoesOn k e hold all c (Step c) t (stepped t)
  -- the task gets its permit, or is heard, or somebody calls HOLD behind all operations
  grants : (made left : List Op) (task kind arg : ℕ) (index : ℤ) (caller : ℕ) (handing : Task) → made ++ Go task kind arg index ∷ left ≡ all →
      GoesOn k e hold all c (Happen (R caller e.go (pos task))) (before k hold made (Go task kind arg index ∷ left)) (accepted e.go (pos task) caller handing (before k hold made (Go task kind arg index ∷ left)))
  hears : (made left : List Op) (task caller : ℕ) (handing : Task) → made ++ Done task ∷ left ≡ all →
      GoesOn k e hold all c (Happen (R caller e.done (pos task))) (before k hold made (Done task ∷ left)) (accepted e.done (pos task) caller handing (before k hold made (Done task ∷ left)))
  holds_on : (caller : ℕ) (handing : Task) → hold ≡ true →
      GoesOn k e hold all c (Happen (R caller e.hold (pos 0))) (before k hold all []) (accepted e.hold (pos 0) caller handing (before k hold all []))
  -- the rendezvous ends
  ends : (made left : List Op) (op : Op) (caller : ℕ) (t : Task) → made ++ op ∷ left ≡ all → IsWithin k hold made op left caller t → GoesOn k e hold all c (Happen (E c)) t (finished t)
  ends_hold : (caller : ℕ) → hold ≡ true → GoesOn k e hold all c (Happen (E c)) (held k all caller) (finished (held k all caller))
  -- the call of DED_JOIN fails, since its task is closed
  fails : (made left : List Op) (task : ℕ) → made ++ Join task ∷ left ≡ all →
      GoesOn k e hold all c (Happen (F c (e.join task) (pos 0))) (before k hold made (Join task ∷ left)) (call_failed (before k hold made (Join task ∷ left)))

-- ---- the law

-- Whatever its program does, it stands so.
abbrev pub AlwaysStands : Type 0
AlwaysStands = (setup : ProgramWithInputs) (numbers : Numbering) (k : Controller) (e : Entries) (ops : List Op) → RunsIn setup numbers k e ops →
    (moves : List Move) → AreMoves (program_in setup numbers) (first_world setup numbers) moves →
    Stands k (holds ops) (acts ops) ((world_after (program_in setup numbers) (first_world setup numbers) moves).tasks k.number).local

-- And with each move it goes on so.
abbrev pub AlwaysGoesOn : Type 0
AlwaysGoesOn = (setup : ProgramWithInputs) (numbers : Numbering) (k : Controller) (e : Entries) (ops : List Op) → RunsIn setup numbers k e ops →
    (moves : List Move) (move : Move) → AreMoves (program_in setup numbers) (first_world setup numbers) (moves ++ move ∷ []) →
    GoesOn k e (holds ops) (acts ops) k.number move
    ((world_after (program_in setup numbers) (first_world setup numbers) moves).tasks k.number).local
    ((world_after (program_in setup numbers) (first_world setup numbers) (moves ++ move ∷ [])).tasks k.number).local
