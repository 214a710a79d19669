-- Where a task of a replay text asks: in the place of each synchronizing statement of the normal form, and at the ends of units and accept bodies. In
-- the place of a statement: where it comes with its permit (this project's rule).
use Rattle.std.specs.Prelude.{◌≡◌, ℕ, ℤ, pos, ◌≤◌, true, false, List, [], ◌∷◌, None}
use Rattle.event_machine.specs.declared.CallForm.TheVariants.{Plain}
use Rattle.event_machine.specs.declared.Event.{Event}
use Rattle.event_machine.specs.Offers.{Calls}
use Rattle.ada_tree.specs.declared.naming.Span.{Span}
use Rattle.ada_tree.specs.PlainStmt.{PCallee, PCall, PAccept, PAlts, PStmt, SAbort, SCall, SAccept, SWait, SConditional, STimed, SIf, PStmts, stmt_then, PMaybe, PArms}
use Rattle.ada_tree.specs.PlainProgram.{PProgram}
use Rattle.ada_static_rules.specs.Refusals.{types_in}
use Rattle.ada_static_rules.specs.StaticValue.{is_integer_value}
use Rattle.ada_value.specs.declared.values.Value.TheVariants.{Number}
use Rattle.ada_value.specs.Variables.{Variables}
use Rattle.task_model.specs.Tasks.{Task, rest_of, entered}
use Rattle.task_model.specs.Stands.{can_step}
use Rattle.task_model.specs.Rendezvous.{resumed, pending_of, finals_of}
use Rattle.task_laws.specs.statements.Blocks.{HasLeftBlocks}
use Rattle.task_laws.specs.statements.Each.{HoldsOf}
use Rattle.task_laws.specs.translation.Controls.{Alike, AreInside, AreAround}
use Rattle.normal_laws.specs.runs.floors.Preludes.{Reaches}
use Rattle.normal_laws.specs.existence.Laws.{IsLegalOriginal}
use Rattle.normal_laws.specs.existence.statements.Laws.{NamesTasksSimply}
use Rattle.run_laws.specs.replaying.Copies.{Spots}
use Rattle.replay_model.specs.Asking.{ask}
use Rattle.replay_model.specs.ReplayTree.{last_task}
use Rattle.replay_structure.specs.spots.Places.{text_spots}
use Rattle.replay_runs.specs.starts.Laws.{form_in, text_in}
use Rattle.table_law.specs.States.{Offers}
use Rattle.replay_runs.specs.controls.Asking.{unit_of_task, Surroundings, with_next, having, permit_stored, HoldsPermit}
use Rattle.replay_runs.specs.controls.permits.Laws.{FitsInteger, TakesBranch}
use Rattle.replay_runs.specs.controls.translated.Laws.{unit_translation}

-- ---- asking

-- A call of any form, an accept statement, a selective wait, or an abort statement with one name (9.5, 9.7, 9.10). An abort statement with more names
-- stands in no normal form.
pub data IsSynchronizing : PStmt → Type 0 where
  plain_entry_call : (c : PCall) (s : Span) → IsSynchronizing (SCall c s)
  conditional_call : (c : PCall) (l o : PStmts) (s : Span) → IsSynchronizing (SConditional c l o s)
  timed_call : (c : PCall) (l : PStmts) (d : ℕ) (o : PStmts) (s : Span) → IsSynchronizing (STimed c l d o s)
  accept_statement : (a : PAccept) (s : Span) → IsSynchronizing (SAccept a s)
  selective_wait : (x : PAlts) (o : PMaybe) (s : Span) → IsSynchronizing (SWait x o s)
  abort_of_one : (x : PCallee) (s : Span) → IsSynchronizing (SAbort (x ∷ []) s)

-- A task of the text stands before its call of GO. Behind the call stands an if statement.
pub record StandsBeforeAsk (p : PProgram) (events : List Event) (t : ℕ) (κ : Task) : Type 0 where
  pub span : Span
  pub arms : PArms
  pub others : PMaybe
  pub behind : PStmts
  pub here : Surroundings
  pub is : κ ≡ with_next p events (stmt_then (ask (unit_of_task p t) span) (stmt_then (SIf arms others span) behind)) here

-- Where a task of the normal form stands at a synchronizing statement its image stands before its call of GO.
abbrev pub ImagesAsk : Type 0
ImagesAsk =
    (p : PProgram) (events : List Event) (t : ℕ) (σ κ : Task) (s : PStmt) (r : PStmts) → AreInside (unit_translation p events t) σ κ → rest_of σ ≡ stmt_then s r → IsSynchronizing s → StandsBeforeAsk p events t κ

-- The image comes, by finitely many local steps that write nothing, to before its call of GO. There it is alike with the task of the normal form as before.
pub record ComesToAsk (p : PProgram) (events : List Event) (t : ℕ) (σ κ : Task) : Type 0 where
  pub reached : Task
  pub reach : Reaches κ reached
  pub alike : Alike (unit_translation p events t) σ reached
  pub asks : StandsBeforeAsk p events t reached

-- The task of the normal form has no local step: it is at a synchronizing statement, or at the end of its unit or of an accept body. Its statements
-- name tasks simply, and the image is alike with it and at no end of a block. Then the image comes to before its call of GO.
abbrev pub ImagesComeToAsk : Type 0
ImagesComeToAsk =
    (p : PProgram) (events : List Event) (t : ℕ) (σ κ : Task) → Alike (unit_translation p events t) σ κ → HasLeftBlocks κ → HoldsOf NamesTasksSimply σ → can_step σ ≡ false → ComesToAsk p events t σ κ

-- In the replay text of a legal program a task that stands there offers the call with its number.
abbrev pub LegalAskingOffers : Type 0
LegalAskingOffers =
    (far : Spots) (p : PProgram) (events : List Event) → IsLegalOriginal p → (t : ℕ) → t ≤ last_task (form_in p).numbers → (κ : Task) → StandsBeforeAsk p events t κ →
    Offers κ (Calls Plain (text_spots far (form_in p)).go (pos t))

-- ---- with a permit

-- the variables of a task that stands before its call of GO, as these three numbers have come back
abbrev pub permitted_vars : (p : PProgram) (events : List Event) (t : ℕ) (κ : Task) → StandsBeforeAsk p events t κ → ℕ → ℕ → ℤ → Variables
permitted_vars p events t κ a kind argument index = permit_stored p a.here.vars kind argument index

-- the task behind the if statement, with these variables
abbrev pub past_if : (p : PProgram) (events : List Event) (t : ℕ) (κ : Task) → StandsBeforeAsk p events t κ → Variables → Task
past_if p events t κ a V = with_next p events a.behind (having a.here V)

-- The task comes, by finitely many local steps that write nothing, into that branch. Its variables hold the permit there. The frames around the if
-- statement go together with those of the task of the normal form.
pub record ComesIntoBranch (p : PProgram) (events : List Event) (t : ℕ) (σ κ : Task) (a : StandsBeforeAsk p events t κ) (j : Task) (V : Variables) (kind argument : ℕ) (index : ℤ) (branch : PStmts) : Type 0 where
  pub reach : Reaches (resumed j κ) (entered branch a.behind (past_if p events t κ a V))
  pub holds : HoldsPermit p V kind argument index
  pub around : AreAround (unit_translation p events t) σ (past_if p events t κ a V)

-- A task stands before its call of GO, and its frames go together with those of a task of the normal form, as in the place of a statement. Three
-- numbers of INTEGER come back. Then it comes into the branch that is taken with them.
abbrev pub LegalPermitsLead : Type 0
LegalPermitsLead =
    (p : PProgram) (events : List Event) → IsLegalOriginal p → (t : ℕ) → t ≤ last_task (form_in p).numbers → (σ κ : Task) → AreAround (unit_translation p events t) σ κ → (a : StandsBeforeAsk p events t κ) →
    (j : Task) (kind argument : ℕ) (index : ℤ) (branch : PStmts) → FitsInteger kind → FitsInteger argument → is_integer_value index ≡ true →
    pending_of j ≡ None → finals_of j ≡ Number (pos kind) ∷ Number (pos argument) ∷ Number index ∷ [] →
    TakesBranch (types_in (text_in p events)) (permitted_vars p events t κ a kind argument index) a.arms a.others branch →
    ComesIntoBranch p events t σ κ a j (permitted_vars p events t κ a kind argument index) kind argument index branch
