-- What holds of a task of a normal form and of its image in the collecting text of a program with abort statements between synchronizing statements.
use Rattle.std.specs.Prelude.{◌≡◌, ℕ, ℤ, ◌≤◌, ◌==◌, if◌then◌else◌, List, [], None}
use Rattle.ada_tree.specs.declared.naming.Span.{Span}
use Rattle.ada_tree.specs.PlainStmt.{PBody}
use Rattle.ada_value.specs.declared.values.Raised.{Raised}
use Rattle.ada_value.specs.Variables.{Variables}
use Rattle.task_model.specs.Frames.{OwnBody, control}
use Rattle.task_model.specs.Tasks.{Task, rest_of, place_of, vars_of, raised_there}
use Rattle.task_model.specs.Steps.{block_stmts, block_handlers}
use Rattle.task_laws.specs.translation.Translations.{Programs}
use Rattle.task_laws.specs.translation.Scopes.{AgreeOnTypes}
use Rattle.task_laws.specs.translation.OldTexts.{only_names, OldBody}
use Rattle.task_laws.specs.translation.Controls.{task_in, Alike, IsAtLocal, ExitsLoop, AreInside, AreAround, StepAlike}
use Rattle.task_laws.specs.translation.Floors.{IsTranslation, AreClosed}
use Rattle.normal_laws.specs.runs.floors.NormalFloors.{Extends}
use Rattle.normal_laws.specs.runs.floors.Preludes.{Reaches}
use Rattle.collect_runs.specs.translation.Floors.{HasVariables, AreNamesAdded}
use Rattle.collect_model.specs.aborts.Places.{places_in}
use Rattle.collect_model.specs.aborts.AbortTeller.{AbortTeller}
use Rattle.collect_model.specs.aborts.AbortStmts.{main_body, task_body}
use Rattle.collect_runs.specs.aborts.translation.Floors.{OpenPlace, into_aborting}

-- The collecting text of a unit is a translation of it, whatever accept bodies are open, where the tables of types agree.
abbrev pub AbortTranslates : Type 0
AbortTranslates = (b : Programs) (x : AbortTeller) (last : ℕ) (ps : List OpenPlace) → AreNamesAdded b x.teller.added → AgreeOnTypes b → IsTranslation (into_aborting (only_names b) x last ps)

-- No exit from a floor of it leaves a loop outside of that floor.
abbrev pub AbortIsClosed : Type 0
AbortIsClosed = (b : Programs) (x : AbortTeller) (last : ℕ) (ps : List OpenPlace) → AreClosed (into_aborting (only_names b) x last ps)

-- A task of the normal form and its image take the same local steps, and behind each they are alike with the same accept bodies open, where the task stands
-- at no exit but such as leaves a loop.
abbrev pub AbortSteps : Type 0
AbortSteps =
    (b : Programs) (x : AbortTeller) (last : ℕ) (ps : List OpenPlace) → AreNamesAdded b x.teller.added → AgreeOnTypes b → (σ κ : Task) → AreInside (into_aborting (only_names b) x last ps) σ κ →
    IsAtLocal (rest_of σ) (place_of σ) → ExitsLoop σ → StepAlike (into_aborting (only_names b) x last ps) σ κ

-- An exception that is raised in both, as where a call fails, leaves them alike.
abbrev pub AbortRaises : Type 0
AbortRaises =
    (b : Programs) (x : AbortTeller) (last : ℕ) (ps : List OpenPlace) → AreNamesAdded b x.teller.added → AgreeOnTypes b → (σ κ : Task) →
    AreAround (into_aborting (only_names b) x last ps) σ κ → (e : Raised) →
    Alike (into_aborting (only_names b) x last ps) (raised_there e σ) (raised_there e κ)

-- The image has its variables wherever it stands, where their names are added ones.
abbrev pub AbortKeepsVariables : Type 0
AbortKeepsVariables =
    (b : Programs) (x : AbortTeller) (last : ℕ) (ps : List OpenPlace) → AreNamesAdded b x.teller.added → (σ κ : Task) → AreAround (into_aborting (only_names b) x last ps) σ κ →
    HasVariables x.teller.added (vars_of κ)

-- The image of a task that starts comes, by finitely many local steps that write nothing and change no variable, to where it is alike, with no accept body
-- open.
pub record StartAlike (b : Programs) (x : AbortTeller) (last : ℕ) (σ κ : Task) : Type 0 where
  pub reached : Task
  pub reach : Reaches κ reached
  pub same : vars_of reached ≡ vars_of κ
  pub alike : Alike (into_aborting (only_names b) x last []) σ reached

-- the body of the unit of a collecting text: main tells nothing of its end
abbrev pub body_of : AbortTeller → Span → PBody → PBody
body_of x s its = if x.teller.task == 0 then main_body x its else task_body x s its

-- So it is with each body in which old names alone stand, and with the unit's objects beside the variables by which it hears the recorder.
abbrev pub AbortStarts : Type 0
AbortStarts =
    (b : Programs) (x : AbortTeller) (last : ℕ) (s : Span) (its : PBody) (V V' : Variables) (n : ℕ) (input : List ℤ) → AreNamesAdded b x.teller.added → AgreeOnTypes b →
    places_in its ≤ last → OldBody (only_names b) its → Extends b V V' → HasVariables x.teller.added V' →
    StartAlike b x last
    (task_in b.original n input [] (control (block_stmts its) (OwnBody (block_handlers its) None) [] V))
    (task_in b.made n input [] (control (block_stmts (body_of x s its)) (OwnBody (block_handlers (body_of x s its)) None) [] V'))
