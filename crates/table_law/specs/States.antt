-- Where the controller stands (5.5, 9.5; this project's rule): in a turn of its loop, in an accept body, in the block in which it waits for a task, or behind the loop. The operations that are made and those that are left make up the tables, and the loop parameter says how many are made.
use Rattle.std.specs.Prelude.{◌≡◌, ℕ, pos, zero, suc, Bool, true, false, List, [], ◌∷◌, ◌++◌, map, length, Some, None}
use Rattle.event_machine.specs.Offers.{Offer}
use Rattle.ada_tree.specs.declared.naming.NameId.{NameId}
use Rattle.ada_tree.specs.PlainStmt.{PStmts, no_stmt, stmts_of, no_handler}
use Rattle.ada_tree.specs.PlainDecl.{decls_of}
use Rattle.ada_static_rules.specs.Scope.{integer_kind}
use Rattle.ada_value.specs.declared.values.Value.{Value}
use Rattle.ada_value.specs.declared.values.Value.TheVariants.{Number}
use Rattle.ada_value.specs.Values.{integer_limits, limits_named}
use Rattle.ada_value.specs.Variables.{Object, Variables}
use Rattle.task_model.specs.declared.parameters.FormalParameter.{FormalParameter}
use Rattle.task_model.specs.Setting.{parameters_of}
use Rattle.task_model.specs.Frames.{Around, OwnBody, Block, Loop, Opened, Counting, PFrame, Control, control}
use Rattle.task_model.specs.Tasks.{Task}
use Rattle.task_model.specs.Stands.{can_step, stepped, offer_of}
use Rattle.task_model.specs.Starting.{Unit as TaskUnit, started_in}
use Rattle.control_script.specs.declared.Op.{Op}
use Rattle.control_script.specs.declared.Op.TheVariants.{Go, Done, Join, Hold}
use Rattle.normal_model.specs.Making.{one}
use Rattle.replay_model.specs.declared.tables.columns.Column.{Column}
use Rattle.replay_model.specs.declared.tables.columns.Column.TheVariants.{Operation, Task as TaskColumn, Kind, Argument, Index}
use Rattle.replay_model.specs.tables.Columns.{says, table_name}
use Rattle.replay_model.specs.tables.Tables.{control_objects}
use Rattle.replay_model.specs.tables.Turns.{permit_formals, going, hearing, join_call, join_handlers, turn}
use Rattle.replay_model.specs.tables.ControlBodies.{waits, control_block}
use Rattle.table_law.specs.Controllers.{Controller, name_at}

-- the controller where it stands so
abbrev pub standing : Controller → Control → Task
standing k c = record { setting = k.setting; number = k.number; control = c; input = k.input; output = k.output }

-- ---- variables

-- a table of these operations
abbrev pub table_object : Controller → Column → List Op → Object
table_object k column all = record {
  name = table_name k.names column;
  limits = integer_limits;
  index = Some record { kind = integer_kind; first = pos 1; last = pos (length all) };
  values = map (λ op. Number (says column op)) all;
}

-- the five tables, the latest first
abbrev pub tables : Controller → List Op → Variables
tables k all = table_object k Index all ∷ table_object k Argument all ∷ table_object k Kind all ∷ table_object k TaskColumn all ∷ table_object k Operation all ∷ []

-- the objects of the controller; where no operation is made there are none
abbrev pub objects : Controller → List Op → Variables
objects k [] = []
objects k (op ∷ all) = tables k (op ∷ all)

-- the loop parameter
abbrev pub counter : Controller → ℕ → Object
counter k turns = record { name = k.names.counter; limits = integer_limits; index = None; values = Number (pos turns) ∷ [] }

-- those of a turn in front of which so many are over
abbrev pub turn_variables : Controller → List Op → ℕ → Variables
turn_variables k all over = counter k (suc over) ∷ tables k all

-- ---- in a turn

-- what the frame of a turn stands in
abbrev pub loop_around : Controller → List Op → Around
loop_around k all = Loop None (Counting false (pos (length all))) (one (turn k.names k.tasks k.span))

-- the frame behind the loop; the controller may wait for ever there
abbrev pub behind_loop : Controller → Bool → PFrame
behind_loop k hold = record { rest = stmts_of (waits k.names k.span hold); place = OwnBody no_handler None }

-- In a turn before these statements, where so many turns are over.
abbrev pub turning : Controller → Bool → List Op → ℕ → PStmts → Task
turning k hold all over stmts = standing k (control stmts (loop_around k all) (behind_loop k hold ∷ []) (turn_variables k all over))

-- a turn whose statements are over, around another frame
abbrev pub turn_frame : Controller → List Op → PFrame
turn_frame k all = record { rest = no_stmt; place = loop_around k all }

-- In the block in which it waits for the task of this name, before the call.
abbrev pub calling : Controller → Bool → List Op → ℕ → NameId → Task
calling k hold all over task =
    standing k (control (join_call k.names k.span task) (Block (join_handlers k.span)) (turn_frame k all ∷ behind_loop k hold ∷ []) (turn_variables k all over))

-- ---- before operations

-- Behind the loop, where these operations were made.
abbrev pub behind : Controller → Bool → List Op → Task
behind k hold made = standing k (control (stmts_of (waits k.names k.span hold)) (OwnBody no_handler None) [] (objects k made))

-- Before the operations that are left, where these are made: at the accept statement of the first, at the call where that waits for a task, or behind the loop.
abbrev pub before : Controller → Bool → List Op → List Op → Task
before k hold made [] = behind k hold made
before k hold made (Go task kind arg index ∷ left) = turning k hold (made ++ Go task kind arg index ∷ left) (length made) (one (going k.names k.span))
before k hold made (Done task ∷ left) = turning k hold (made ++ Done task ∷ left) (length made) (one (hearing k.names k.span))
before k hold made (Join task ∷ left) = calling k hold (made ++ Join task ∷ left) (length made) (name_at k.tasks task)
before k hold made (Hold ∷ left) = behind k hold made

-- the unit of the controller that makes these operations
abbrev pub control_unit : Controller → List Op → TaskUnit
control_unit k ops = record { in_main = false; decls = decls_of (control_objects k.names k.span ops); body = control_block k.names k.tasks k.span ops }

-- As the program starts.
abbrev pub starting : Controller → List Op → Task
starting k ops = standing k (started_in k.setting k.number (control_unit k ops) k.input).control

-- ---- in an accept body

-- a formal of GO with a value
abbrev pub permit_object : Controller → NameId → Value → Object
permit_object k name v = record { name = name; limits = limits_named k.setting.types record { 0 = 0 }; index = None; values = v ∷ [] }

-- the formals of GO
abbrev pub go_parameters : Controller → List FormalParameter
go_parameters k = parameters_of k.setting.types (permit_formals k.names k.span)

-- the variables there, where the formals have these values
abbrev pub permit_variables : Controller → Value → Value → Value → List Op → ℕ → Variables
permit_variables k a b c all over = permit_object k k.names.kind a ∷ permit_object k k.names.argument b ∷ permit_object k k.names.index c ∷ turn_variables k all over

-- In the accept body of GO before these statements.
abbrev pub granting : Controller → Bool → List Op → ℕ → ℕ → PStmts → Value → Value → Value → Task
granting k hold all over caller stmts a b c =
    standing k (control stmts (Opened caller (go_parameters k) None) (turn_frame k all ∷ behind_loop k hold ∷ []) (permit_variables k a b c all over))

-- At the end of the accept body of DONE.
abbrev pub heard : Controller → Bool → List Op → ℕ → ℕ → Task
heard k hold all over caller = standing k (control no_stmt (Opened caller [] None) (turn_frame k all ∷ behind_loop k hold ∷ []) (turn_variables k all over))

-- The task is the controller at the end of the accept body of an operation, between those that are made and those that are left.
abbrev pub IsWithin : Controller → Bool → List Op → Op → List Op → ℕ → Task → Type 0
IsWithin k hold made (Go task kind arg index) left caller t =
    t ≡ granting k hold (made ++ Go task kind arg index ∷ left) (length made) caller no_stmt (Number (pos kind)) (Number (pos arg)) (Number index)
IsWithin k hold made (Done task) left caller t = t ≡ heard k hold (made ++ Done task ∷ left) (length made) caller
IsWithin k hold made (Join task) left caller t = ⊥
IsWithin k hold made Hold left caller t = ⊥

-- ---- going on

-- After so many local steps that write nothing a task stands like another one.
abbrev pub LeadsTo : ℕ → Task → Task → Type 0
LeadsTo zero t u = t ≡ u
LeadsTo (suc n) t u = (can_step t ≡ true) × ((stepped t).output ≡ t.output) × LeadsTo n (stepped t) u

-- After finitely many such steps it does.
abbrev pub Comes : Task → Task → Type 0
Comes t u = (n : ℕ) × LeadsTo n t u

-- The task has no local step, and offers this.
pub record Offers (t : Task) (offer : Offer) : Type 0 where
  pub rests : can_step t ≡ false
  pub offers : offer_of t ≡ offer
