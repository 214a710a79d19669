-- What the tasks of a replay text ask of the controller and of the idle task, and what a permit makes of them (this project's rule).
use Rattle.std.specs.Prelude.{◌≡◌, ℕ, ℤ, pos, ◌≤◌, true, List, [], ◌∷◌, None}
use Rattle.event_machine.specs.declared.CallForm.TheVariants.{Plain}
use Rattle.event_machine.specs.declared.Event.{Event}
use Rattle.event_machine.specs.Offers.{Calls}
use Rattle.ada_tree.specs.declared.naming.Span.{Span}
use Rattle.ada_tree.specs.PlainStmt.{PStmts, stmt_then}
use Rattle.ada_tree.specs.PlainProgram.{PProgram}
use Rattle.ada_static_rules.specs.StaticValue.{is_integer_value}
use Rattle.ada_value.specs.declared.values.Value.TheVariants.{Number}
use Rattle.ada_value.specs.Values.{integer_limits}
use Rattle.ada_value.specs.Variables.{Variables, set_value}
use Rattle.task_model.specs.Frames.{Around, PFrame, control}
use Rattle.task_model.specs.Tasks.{Task, gone_to}
use Rattle.task_model.specs.Rendezvous.{resumed, pending_of, finals_of}
use Rattle.task_laws.specs.translation.Controls.{task_in}
use Rattle.normal_model.specs.RewrittenUnit.{RewrittenUnit}
use Rattle.normal_laws.specs.runs.floors.Preludes.{IsCell}
use Rattle.normal_laws.specs.existence.Laws.{IsLegalOriginal}
use Rattle.run_laws.specs.replaying.Copies.{Spots}
use Rattle.replay_model.specs.Names.{kind_text, argument_text, index_text, added_id}
use Rattle.replay_model.specs.Asking.{ask, done, stop}
use Rattle.replay_model.specs.ReplayTree.{last_task}
use Rattle.replay_structure.specs.spots.Places.{text_spots}
use Rattle.replay_runs.specs.starts.Laws.{form_in}
use Rattle.replay_runs.specs.starts.Formals.{text_setting}
use Rattle.replay_runs.specs.translation.Floors.{HasPermit}
use Rattle.table_law.specs.States.{Offers}

-- the unit of a task of the normal form, as it is rewritten
abbrev pub unit_of_task : PProgram → ℕ → RewrittenUnit
unit_of_task p t = record { setting = form_in p; task = t }

-- What a task of the text has beside its next statements: its number, its input and output, what its frame stands in, the frames outside, and its variables.
pub record Surroundings : Type 0 where
  pub number : ℕ
  pub input : List ℤ
  pub output : List ℕ
  pub place : Around
  pub outer : List PFrame
  pub vars : Variables

-- the task of the text with these statements next
abbrev pub with_next : PProgram → List Event → PStmts → Surroundings → Task
with_next p events r x = task_in (text_setting p events) x.number x.input x.output (control r x.place x.outer x.vars)

-- the same with other variables
abbrev pub having : Surroundings → Variables → Surroundings
having x V = record { number = x.number; input = x.input; output = x.output; place = x.place; outer = x.outer; vars = V }

-- the variables as the three numbers of a permit have come back
abbrev pub permit_stored : PProgram → Variables → ℕ → ℕ → ℤ → Variables
permit_stored p V kind arg index =
    set_value
    (set_value (set_value V (added_id (form_in p).program kind_text) 0 (Number (pos kind))) (added_id (form_in p).program argument_text) 0 (Number (pos arg)))
    (added_id (form_in p).program index_text) 0 (Number index)

-- the variables of the permit hold these numbers
pub record HoldsPermit (p : PProgram) (V : Variables) (k a : ℕ) (i : ℤ) : Type 0 where
  pub kind : IsCell V (added_id (form_in p).program kind_text) integer_limits (Number (pos k))
  pub argument : IsCell V (added_id (form_in p).program argument_text) integer_limits (Number (pos a))
  pub index : IsCell V (added_id (form_in p).program index_text) integer_limits (Number i)

-- A task calls the controller where it asks and where it says that it is done, and the idle task where it stops. As three numbers come back the
-- variables of its permit hold them, and it goes on. As nothing comes back it goes on (9.5, 6.4.1).
pub record AsksController (far : Spots) (p : PProgram) (events : List Event) (t : ℕ) : Type 0 where
  pub asks : (s : Span) (r : PStmts) (x : Surroundings) → Offers (with_next p events (stmt_then (ask (unit_of_task p t) s) r) x) (Calls Plain (text_spots far (form_in p)).go (pos t))
  pub says : (s : Span) (r : PStmts) (x : Surroundings) → Offers (with_next p events (stmt_then (done (unit_of_task p t) s) r) x) (Calls Plain (text_spots far (form_in p)).done (pos t))
  pub stops : (s : Span) (r : PStmts) (x : Surroundings) → Offers (with_next p events (stmt_then (stop (unit_of_task p t) s) r) x) (Calls Plain (text_spots far (form_in p)).stop (pos 0))
  pub permitted : (s : Span) (r : PStmts) (x : Surroundings) (j : Task) (kind arg : ℕ) (index : ℤ) → HasPermit (unit_of_task p t) x.vars → kind ≤ 2147483647 → arg ≤ 2147483647 → is_integer_value index ≡ true →
      pending_of j ≡ None → finals_of j ≡ Number (pos kind) ∷ Number (pos arg) ∷ Number index ∷ [] →
      resumed j (with_next p events (stmt_then (ask (unit_of_task p t) s) r) x) ≡ gone_to r (with_next p events (stmt_then (ask (unit_of_task p t) s) r) (having x (permit_stored p x.vars kind arg index)))
  pub holds : (V : Variables) (kind arg : ℕ) (index : ℤ) → HasPermit (unit_of_task p t) V → HoldsPermit p (permit_stored p V kind arg index) kind arg index
  pub answered : (s : Span) (r : PStmts) (x : Surroundings) (j : Task) → pending_of j ≡ None → finals_of j ≡ [] →
      resumed j (with_next p events (stmt_then (done (unit_of_task p t) s) r) x) ≡ gone_to r (with_next p events (stmt_then (done (unit_of_task p t) s) r) x)

-- So it is in each replay text of a legal program, for the program's tasks.
abbrev pub LegalAsksController : Type 0
LegalAsksController = (far : Spots) (p : PProgram) (events : List Event) (t : ℕ) → IsLegalOriginal p → t ≤ last_task (form_in p).numbers → AsksController far p events t
