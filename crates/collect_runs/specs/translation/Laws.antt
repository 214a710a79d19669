-- What holds of a task of a normal form and of its image in the collecting text between synchronizing statements.
use Rattle.std.specs.Prelude.{ℕ, ℤ, true, false, not, ◌||◌, ◌==◌, if◌then◌else◌, List, [], None}
use Rattle.ada_tree.specs.declared.naming.Span.{Span}
use Rattle.ada_tree.specs.PlainStmt.{SNull, PBody, body, no_handler}
use Rattle.ada_value.specs.declared.values.Raised.{Raised}
use Rattle.ada_value.specs.Variables.{Variables}
use Rattle.task_model.specs.Setting.{Setting}
use Rattle.task_model.specs.Frames.{OwnBody, control}
use Rattle.task_model.specs.Tasks.{Task, rest_of, place_of, vars_of, raised_there}
use Rattle.task_model.specs.Steps.{block_stmts, block_handlers}
use Rattle.task_laws.specs.translation.Translations.{Programs}
use Rattle.task_laws.specs.translation.Scopes.{AgreeOnTypes}
use Rattle.task_laws.specs.translation.OldTexts.{only_names, OldBody}
use Rattle.task_laws.specs.translation.Controls.{task_in, Alike, IsAtLocal, ExitsLoop, AreInside, AreAround, StepAlike}
use Rattle.task_laws.specs.translation.Floors.{IsTranslation, AreClosed}
use Rattle.normal_model.specs.Making.{one}
use Rattle.normal_laws.specs.runs.floors.NormalFloors.{Extends}
use Rattle.normal_laws.specs.runs.floors.Preludes.{Reaches}
use Rattle.collect_model.specs.declared.AddedNames.{AddedNames}
use Rattle.collect_model.specs.Names.{added_in, with_added}
use Rattle.collect_model.specs.Teller.{Teller}
use Rattle.collect_model.specs.CollectStmts.{main_body, task_body}
use Rattle.collect_runs.specs.translation.Rows.{telling_rows}
use Rattle.collect_runs.specs.translation.Floors.{HasVariables, AreNamesAdded, into_collecting}

-- The collecting text of a unit is a translation of it, where the tables of types agree. The laws ask of its statements no more than old names; the lemmas of proofs/ are said whatever else is asked.
abbrev pub CollectTranslates : Type 0
CollectTranslates = (b : Programs) (x : Teller) → AreNamesAdded b x.added → AgreeOnTypes b → IsTranslation (into_collecting (telling_rows (only_names b) x) x)

-- No exit from a floor of it leaves a loop outside of that floor.
abbrev pub CollectIsClosed : Type 0
CollectIsClosed = (b : Programs) (x : Teller) → AreClosed (into_collecting (telling_rows (only_names b) x) x)

-- A task of the normal form and its image take the same local steps, and behind each they are alike, where the task stands at no exit but such as leaves a loop.
abbrev pub CollectSteps : Type 0
CollectSteps =
    (b : Programs) (x : Teller) → AreNamesAdded b x.added → AgreeOnTypes b → (σ κ : Task) → AreInside (into_collecting (telling_rows (only_names b) x) x) σ κ → IsAtLocal (rest_of σ) (place_of σ) → ExitsLoop σ →
    StepAlike (into_collecting (telling_rows (only_names b) x) x) σ κ

-- An exception that is raised in both, as where a call fails, leaves them alike.
abbrev pub CollectRaises : Type 0
CollectRaises =
    (b : Programs) (x : Teller) → AreNamesAdded b x.added → AgreeOnTypes b → (σ κ : Task) → AreAround (into_collecting (telling_rows (only_names b) x) x) σ κ → (e : Raised) →
    Alike (into_collecting (telling_rows (only_names b) x) x) (raised_there e σ) (raised_there e κ)

-- The image has its variables wherever it stands, where their names are added ones.
abbrev pub CollectKeepsVariables : Type 0
CollectKeepsVariables =
    (b : Programs) (x : Teller) → AreNamesAdded b x.added → (σ κ : Task) → AreAround (into_collecting (telling_rows (only_names b) x) x) σ κ → HasVariables x.added (vars_of κ)

-- The image of a task that starts comes, by finitely many local steps that write nothing, to where it is alike.
pub record StartAlike (b : Programs) (x : Teller) (σ κ : Task) : Type 0 where
  pub reached : Task
  pub reach : Reaches κ reached
  pub alike : Alike (into_collecting (telling_rows (only_names b) x) x) σ reached

-- the body of the unit of a collecting text: main tells nothing of its end
abbrev pub body_of : Teller → Span → PBody → PBody
body_of x s its = if x.task == 0 then main_body x its else task_body x s its

-- So it is with each body in which old names alone stand, and with the unit's objects beside the variables by which it hears the recorder.
abbrev pub CollectStarts : Type 0
CollectStarts =
    (b : Programs) (x : Teller) (s : Span) (its : PBody) (V V' : Variables) (n : ℕ) (input : List ℤ) → AreNamesAdded b x.added → AgreeOnTypes b → OldBody (only_names b) its → Extends b V V' → HasVariables x.added V' →
    StartAlike b x
    (task_in b.original n input [] (control (block_stmts its) (OwnBody (block_handlers its) None) [] V))
    (task_in b.made n input [] (control (block_stmts (body_of x s its)) (OwnBody (block_handlers (body_of x s its)) None) [] V'))

-- ---- an instance

-- A program as both sides, in which all names are old but those of a unit's variables and of the caller's formal.
abbrev pub all_but : Setting → AddedNames → Programs
all_but g n = record {
  original = g;
  made = g;
  is_old = λ id. not ((id == n.answer.0) || (id == n.part.0) || (id == n.caller.0));
  is_fixed = λ id. false;
  is_known = λ k. true;
}

-- the added names among no others
abbrev pub names_alone : AddedNames
names_alone = added_in (with_added [])

-- What is asked of the start is met together, by each program as both sides, with a body of `null` and a unit's variables.
pub record IsMetBy (g : Setting) : Type 0 where
  pub vars : Variables
  pub added : AreNamesAdded (all_but g names_alone) names_alone
  pub types : AgreeOnTypes (all_but g names_alone)
  pub extends : Extends (all_but g names_alone) [] vars
  pub there : HasVariables names_alone vars
  pub body : (s : Span) → OldBody (only_names (all_but g names_alone)) (body (one (SNull s)) no_handler)

abbrev pub MetByEach : Type 0
MetByEach = (g : Setting) → IsMetBy g
