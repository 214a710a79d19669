-- What holds of a task of a normal form and of its image in the replay text between synchronizing statements.
use Rattle.std.specs.Prelude.{ℕ, ℤ, true, false, not, ◌||◌, ◌==◌, List, [], None}
use Rattle.ada_tree.specs.declared.naming.Span.{Span}
use Rattle.ada_tree.specs.PlainStmt.{SNull, PBody, body, no_handler}
use Rattle.ada_value.specs.declared.values.Raised.{Raised}
use Rattle.ada_value.specs.Variables.{Variables}
use Rattle.task_model.specs.Frames.{OwnBody, control}
use Rattle.task_model.specs.Tasks.{Task, rest_of, place_of, vars_of, raised_there}
use Rattle.task_model.specs.Steps.{block_stmts, block_handlers}
use Rattle.task_laws.specs.translation.Translations.{Programs}
use Rattle.task_laws.specs.translation.Scopes.{AgreeOnTypes}
use Rattle.task_laws.specs.translation.OldTexts.{only_names, OldBody}
use Rattle.task_laws.specs.translation.Controls.{task_in, Alike, IsAtLocal, ExitsLoop, AreInside, AreAround, StepAlike}
use Rattle.task_laws.specs.translation.Floors.{IsTranslation, AreClosed}
use Rattle.normal_model.specs.RewrittenUnit.{RewrittenUnit}
use Rattle.normal_laws.specs.runs.floors.NormalFloors.{Extends}
use Rattle.normal_laws.specs.runs.floors.Preludes.{Reaches}
use Rattle.normal_model.specs.Making.{one}
use Rattle.replay_model.specs.Names.{kind_text, argument_text, index_text, added_id}
use Rattle.replay_model.specs.ReplayStmts.{replay_body}
use Rattle.replay_runs.specs.translation.Rows.{replayed_rows}
use Rattle.replay_runs.specs.translation.Floors.{HasPermit, IsPermitAdded, into_replay}

-- The replay text of a unit is a translation of it, where the tables of types agree. The laws ask of its statements no more than old names; the
-- lemmas of proofs/ are said whatever else is asked.
abbrev pub ReplayTranslates : Type 0
ReplayTranslates = (b : Programs) (u : RewrittenUnit) → AgreeOnTypes b → IsTranslation (into_replay (replayed_rows (only_names b) u) u)

-- No exit from a floor of it leaves a loop outside of that floor.
abbrev pub ReplayIsClosed : Type 0
ReplayIsClosed = (b : Programs) (u : RewrittenUnit) → AreClosed (into_replay (replayed_rows (only_names b) u) u)

-- A task of the normal form and its image take the same local steps, and behind each they are alike, where the task stands at no exit but such as
-- leaves a loop.
abbrev pub ReplaySteps : Type 0
ReplaySteps =
    (b : Programs) (u : RewrittenUnit) → AgreeOnTypes b → (σ κ : Task) → AreInside (into_replay (replayed_rows (only_names b) u) u) σ κ → IsAtLocal (rest_of σ) (place_of σ) → ExitsLoop σ →
    StepAlike (into_replay (replayed_rows (only_names b) u) u) σ κ

-- An exception that is raised in both, as where a call fails, leaves them alike.
abbrev pub ReplayRaises : Type 0
ReplayRaises =
    (b : Programs) (u : RewrittenUnit) → AgreeOnTypes b → (σ κ : Task) → AreAround (into_replay (replayed_rows (only_names b) u) u) σ κ → (e : Raised) →
    Alike (into_replay (replayed_rows (only_names b) u) u) (raised_there e σ) (raised_there e κ)

-- The image of a task that starts comes, by finitely many local steps that write nothing, to where it is alike.
pub record StartAlike (b : Programs) (u : RewrittenUnit) (σ κ : Task) : Type 0 where
  pub reached : Task
  pub reach : Reaches κ reached
  pub alike : Alike (into_replay (replayed_rows (only_names b) u) u) σ reached

-- So it is with each body in which old names alone stand, and with the unit's objects beside the variables of a permit.
abbrev pub ReplayStarts : Type 0
ReplayStarts =
    (b : Programs) (u : RewrittenUnit) (s : Span) (its : PBody) (V V' : Variables) (n : ℕ) (input : List ℤ) → AgreeOnTypes b → OldBody (only_names b) its → Extends b V V' → HasPermit u V' →
    StartAlike b u
    (task_in b.original n input [] (control (block_stmts its) (OwnBody (block_handlers its) None) [] V))
    (task_in b.made n input [] (control (block_stmts (replay_body u s its)) (OwnBody no_handler None) [] V'))

-- The image has the variables of its permit wherever it stands, where their names are added ones.
abbrev pub ReplayKeepsPermit : Type 0
ReplayKeepsPermit = (b : Programs) (u : RewrittenUnit) → IsPermitAdded b u → (σ κ : Task) → AreAround (into_replay (replayed_rows (only_names b) u) u) σ κ → HasPermit u (vars_of κ)

-- ---- an instance

-- A program as both sides, in which all names are old but those of a permit.
abbrev pub all_but_permit : RewrittenUnit → Programs
all_but_permit u = record {
  original = u.setting;
  made = u.setting;
  is_old = λ id. not ((id == (added_id u.setting.program kind_text).0) || (id == (added_id u.setting.program argument_text).0) || (id == (added_id u.setting.program index_text).0));
  is_fixed = λ id. false;
  is_known = λ k. true;
}

-- What is asked of the start is met together, by each unit's program as both sides, with a body of `null` and the variables of a permit.
pub record IsMetBy (u : RewrittenUnit) : Type 0 where
  pub vars : Variables
  pub added : IsPermitAdded (all_but_permit u) u
  pub types : AgreeOnTypes (all_but_permit u)
  pub extends : Extends (all_but_permit u) [] vars
  pub permit : HasPermit u vars
  pub body : (s : Span) → OldBody (only_names (all_but_permit u)) (body (one (SNull s)) no_handler)

abbrev pub MetByEach : Type 0
MetByEach = (u : RewrittenUnit) → IsMetBy u
