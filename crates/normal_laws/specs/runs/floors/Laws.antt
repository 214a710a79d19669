-- What holds of the tasks of a program and of its normal form between synchronizing statements.
use Rattle.std.specs.Prelude.{◌≡◌, ℕ, ◌+◌, ◌≤◌, ℤ, List, [], length, Option, Some, None}
use Rattle.ada_tree.specs.declared.naming.Span.{Span}
use Rattle.ada_tree.specs.PlainExpr.{PExpr}
use Rattle.ada_tree.specs.PlainStmt.{PHead, PStmt, PStmts, stmt_then, PBody}
use Rattle.ada_value.specs.declared.values.Value.{Value}
use Rattle.ada_value.specs.declared.values.Raised.{Raised}
use Rattle.ada_value.specs.Variables.{Variables}
use Rattle.task_model.specs.Frames.{Around, OwnBody, PFrame, control, in_front}
use Rattle.task_model.specs.Steps.{block_stmts, block_handlers}
use Rattle.task_model.specs.Tasks.{Task, rest_of, place_of, entered, raised_there}
use Rattle.task_model.specs.Rendezvous.{alternative_opened, behind_of}
use Rattle.task_model.specs.Waits.{Accepts}
use Rattle.normal_model.specs.NormalStmts.{normal_body, unit_variables}
use Rattle.task_laws.specs.translation.OldTexts.{OldFormals, OldBody}
use Rattle.task_laws.specs.translation.Scopes.{AgreeOnTypes}
use Rattle.task_laws.specs.translation.Controls.{task_in, Under, Alike, IsAtLocal, AreInside, AreAround, StepAlike}
use Rattle.task_laws.specs.translation.Floors.{IsTranslation}
use Rattle.normal_laws.specs.runs.floors.Suited.{Rewritten, rewritten_unit, asked_of}
use Rattle.normal_laws.specs.runs.floors.NormalLists.{Begin, Normal, normal_lists}
use Rattle.normal_laws.specs.runs.floors.Meetings.{AreValues, IsOpened, EndAlike, AreBefore}
use Rattle.normal_laws.specs.runs.floors.NormalFloors.{Extends, normal}
use Rattle.normal_laws.specs.runs.floors.Preludes.{Added, AreThere, due_before, OldDues, Prelude}

-- The normal form of a unit is a translation of it, whatever its variables, where the tables of types agree.
abbrev pub NormalTranslates : Type 0
NormalTranslates = (w : Rewritten) (added : Added w.programs w.programs.original) → AgreeOnTypes w.programs → IsTranslation (normal (normal_lists w) added)

-- A task and its image in the normal form take the same local steps, and behind each they are alike.
abbrev pub NormalSteps : Type 0
NormalSteps = (w : Rewritten) (added : Added w.programs w.programs.original) → AgreeOnTypes w.programs → (σ κ : Task) → AreInside (normal (normal_lists w) added) σ κ → IsAtLocal (rest_of σ) (place_of σ) →
    StepAlike (normal (normal_lists w) added) σ κ

-- At the start of a unit's body in which old names alone stand, and with the unit's objects beside the added variables, the two are alike.
abbrev pub NormalStarts : Type 0
NormalStarts = (w : Rewritten) (added : Added w.programs w.programs.original) (its : PBody) (V V' : Variables) (n : ℕ) (input : List ℤ) → OldBody (asked_of w) its → Begin (unit_variables (rewritten_unit w) its) w.vars → Extends w.programs V V' → AreThere added V' →
    AreInside (normal (normal_lists w) added)
    (task_in w.programs.original n input [] (control (block_stmts its) (OwnBody (block_handlers its) None) [] V))
    (task_in w.programs.made n input [] (control (block_stmts (normal_body (rewritten_unit w) its)) (OwnBody (block_handlers (normal_body (rewritten_unit w) its)) None) [] V'))

-- An exception that is raised in both, as where a call fails, leaves them alike.
abbrev pub NormalRaises : Type 0
NormalRaises = (w : Rewritten) (added : Added w.programs w.programs.original) → AgreeOnTypes w.programs → (σ κ : Task) → AreAround (normal (normal_lists w) added) σ κ → (e : Raised) →
    Alike (normal (normal_lists w) added) (raised_there e σ) (raised_there e κ)

-- Where both stand before an accept or a selective wait, an accept body that both open leaves them inside images, where the heads have the same
-- formals and the statements of one are images of the other's.
abbrev pub NormalOpens : Type 0
NormalOpens = (w : Rewritten) (added : Added w.programs w.programs.original) → AgreeOnTypes w.programs → (σ κ : Task) → AreBefore (normal (normal_lists w) added) σ κ →
    (caller e : ℕ) (z : ℤ) (h h' : PHead) → h.formals ≡ h'.formals → OldFormals w.programs h.formals → (vs : List Value) → AreValues w.programs vs →
    (l l' d d' : PStmts) → Normal w l l' → Normal w d d' →
    AreInside (normal (normal_lists w) added) (alternative_opened caller (Some (Accepts e z h l d)) vs σ) (alternative_opened caller (Some (Accepts e z h' l' d')) vs κ)

-- An accept body ends alike on both sides: the same values go back, the same exception is pending, and behind it both are alike.
abbrev pub NormalEnds : Type 0
NormalEnds = (w : Rewritten) (added : Added w.programs w.programs.original) → AgreeOnTypes w.programs → (σ κ : Task) → AreInside (normal (normal_lists w) added) σ κ → IsOpened (place_of σ) → EndAlike (normal (normal_lists w) added) σ κ

-- Where both stand before a call or a wait, another part that both enter leaves them alike.
abbrev pub NormalEnters : Type 0
NormalEnters = (w : Rewritten) (added : Added w.programs w.programs.original) → AgreeOnTypes w.programs → (σ κ : Task) → AreBefore (normal (normal_lists w) added) σ κ → (l l' : PStmts) → Normal w l l' →
    Alike (normal (normal_lists w) added) (entered l (behind_of σ) σ) (entered l' (behind_of κ) κ)

-- What stands in front of a statement is made: the task comes before the statement with the values in their variables, each of old names worth the
-- same and checked alike, or to a step that raises what the first of them raises, in the same frames.
abbrev pub NormalPreludes : Type 0
NormalPreludes = (w : Rewritten) (added : Added w.programs w.programs.original) → AgreeOnTypes w.programs → (n : ℕ) (input : List ℤ) (output : List ℕ) (p p' : Around) (o o' : List PFrame) (V W : Variables)
    (s : Span) (next : PStmt) (r : PStmts) (ds : List (Option PExpr)) (k : ℕ) → OldDues w.programs ds → k + length ds ≤ added.count → Under (normal (normal_lists w) added) p o V p' o' W →
    Prelude (normal (normal_lists w) added) added n input output p o V p' o'
    (task_in w.programs.made n input output (control (in_front (due_before w.programs.original s ds k) (stmt_then next r)) p' o' W)) (stmt_then next r) k W ds
