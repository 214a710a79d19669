-- What is to be so of a task of the normal form and its image: local steps, and at each synchronizing statement and each end what a permit makes of
-- the image (this project's rule).
use Rattle.std.specs.Prelude.{◌≡◌, ℕ, ℤ, true, false, List, ◌∷◌, [], None}
use Rattle.event_machine.specs.declared.Event.{Event}
use Rattle.ada_tree.specs.declared.naming.Span.{Span}
use Rattle.ada_tree.specs.PlainStmt.{PCallee, PCall, PAccept, PAlts, PStmt, SAbort, SCall, SAccept, SWait, SConditional, STimed, PStmts, stmt_then, PMaybe}
use Rattle.ada_tree.specs.PlainProgram.{PProgram}
use Rattle.ada_static_rules.specs.StaticValue.{is_integer_value}
use Rattle.ada_value.specs.Variables.{Variables}
use Rattle.task_model.specs.Frames.{Around, PFrame, Control, control, in_front}
use Rattle.task_model.specs.Tasks.{Task}
use Rattle.task_model.specs.Stands.{Steps, stand_of, can_step, stepped}
use Rattle.task_model.specs.Rendezvous.{accepted, finished, resumed, call_failed, took_else, took_delay, past_name, pending_of, finals_of}
use Rattle.task_laws.specs.translation.OldTexts.{only_names, OldStmt}
use Rattle.task_laws.specs.translation.Controls.{task_in, Under}
use Rattle.normal_model.specs.Walk.{image_of}
use Rattle.normal_laws.specs.existence.Laws.{IsLegalOriginal}
use Rattle.run_laws.specs.replaying.Permits.{Permit}
use Rattle.run_laws.specs.replaying.Copies.{Spots}
use Rattle.replay_runs.specs.script.Spelling.{arg, index}
use Rattle.replay_model.specs.ReplayStmts.{replay_rewriter}
use Rattle.replay_runs.specs.starts.Formals.{form_setting, text_setting}
use Rattle.replay_runs.specs.translation.Rows.{Replayed, replayed_rows}
use Rattle.replay_runs.specs.translation.Floors.{AtAsking, below_at}
use Rattle.replay_runs.specs.controls.Asking.{unit_of_task}
use Rattle.replay_runs.specs.controls.Imitating.{permit_values}
use Rattle.replay_runs.specs.controls.meanings.Pairs.{IsOfForm, IsPair, IsBased, Comes}
use Rattle.replay_runs.specs.controls.meanings.Permits.{ComesToHold}
use Rattle.replay_runs.specs.controls.permits.Laws.{FitsInteger}
use Rattle.replay_runs.specs.controls.translated.Laws.{form_and_text, unit_translation}

-- ---- local steps

-- A pair comes to where the image asks, or has the task's local step.
abbrev pub PairsCome : Type 0
PairsCome = (p : PProgram) (events : List Event) (t : ℕ) (σ κ : Task) → IsPair p events t σ κ → Comes p events t σ κ

-- Where the task has a local step at a statement that does not synchronize, or at a loop's turn, the image has one too, and behind it both are a pair again.
abbrev pub LegalPairsStep : Type 0
LegalPairsStep =
    (p : PProgram) (events : List Event) → IsLegalOriginal p → (t : ℕ) (σ κ : Task) → IsBased p events t σ κ → stand_of σ ≡ Steps →
    (can_step κ ≡ true) × Comes p events t (stepped σ) (stepped κ)

-- After a local step, and after what each event makes of the task, it is one of the normal form still.
pub record StaysOfForm (p : PProgram) (t : ℕ) (σ : Task) : Type 0 where
  pub stepped : IsOfForm p t (stepped σ)
  pub accepted : (e : ℕ) (i : ℤ) (caller : ℕ) (calling : Task) → IsOfForm p t (accepted e i caller calling σ)
  pub finished : IsOfForm p t (finished σ)
  pub resumed : (acceptor : Task) → IsOfForm p t (resumed acceptor σ)
  pub raised : IsOfForm p t (call_failed σ)
  pub took_else : IsOfForm p t (took_else σ)
  pub took_delay : (k : ℕ) → IsOfForm p t (took_delay k σ)
  pub passed : IsOfForm p t (past_name σ)

abbrev pub TasksStayOfForm : Type 0
TasksStayOfForm = (p : PProgram) (t : ℕ) (σ : Task) → IsOfForm p t σ → StaysOfForm p t σ

-- ---- where a task has no local step

-- The task stands before this statement, and the image before what stands in its place. Behind both stand a row and its image, and the frames around
-- go together.
pub data StandsAt (p : PProgram) (events : List Event) (t : ℕ) : PStmt → Task → Task → Type 0 where
  stands_at : {q q' : Around} {o o' : List PFrame} {V V' : Variables} (input : List ℤ) (output : List ℕ) (s : PStmt) (r r' : PStmts) →
      OldStmt (only_names (form_and_text p events)) s → Replayed (only_names (form_and_text p events)) (unit_of_task p t) r r' → Under (unit_translation p events t) q o V q' o' V' →
      StandsAt p events t s
      (task_in (form_setting p) t input output (control (stmt_then s r) q o V))
      (task_in (text_setting p events) t input output (control (in_front (image_of replay_rewriter s (unit_of_task p t)) r') q' o' V'))

-- The task stands at the end of its unit or of an accept body, and the image asks there.
pub data StandsBehind (p : PProgram) (events : List Event) (t : ℕ) : Task → Task → Type 0 where
  stands_behind : (k : ℕ) (input : List ℤ) (output : List ℕ) (c d : Control) →
      AtAsking (replayed_rows (only_names (form_and_text p events)) (unit_of_task p t)) (unit_of_task p t) (below_at (replayed_rows (only_names (form_and_text p events)) (unit_of_task p t)) (unit_of_task p t) k) c d →
      StandsBehind p events t (task_in (form_setting p) t input output c) (task_in (text_setting p events) t input output d)

-- a call of any form (9.5, 9.7.2, 9.7.3)
pub data IsEntryCall : PStmt → PCall → Type 0 where
  plain_call : (c : PCall) (s : Span) → IsEntryCall (SCall c s) c
  conditional_call : (c : PCall) (l o : PStmts) (s : Span) → IsEntryCall (SConditional c l o s) c
  timed_call : (c : PCall) (l : PStmts) (d : ℕ) (o : PStmts) (s : Span) → IsEntryCall (STimed c l d o s) c

-- ---- with a permit

-- Whatever permit comes back to the image, if INTEGER has its numbers, it comes to where it does what it is to do with it.
abbrev pub HoldsEachPermit : Spots → PProgram → List Event → ℕ → Task → Task → Type 0
HoldsEachPermit far p events t σ κ =
    (permit : Permit) (j : Task) → FitsInteger (arg permit) → is_integer_value (index permit) ≡ true → pending_of j ≡ None → finals_of j ≡ permit_values permit →
    ComesToHold far p events t permit σ (resumed j κ)

-- At a call, at an accept statement, at a selective wait and at an abort statement with one name,
abbrev pub LegalCallsHold : Type 0
LegalCallsHold =
    (far : Spots) (p : PProgram) (events : List Event) → IsLegalOriginal p → (t : ℕ) (σ κ : Task) → IsPair p events t σ κ → (s : PStmt) (c : PCall) → StandsAt p events t s σ κ → IsEntryCall s c → can_step σ ≡ false →
    HoldsEachPermit far p events t σ κ

abbrev pub LegalAcceptsHold : Type 0
LegalAcceptsHold =
    (far : Spots) (p : PProgram) (events : List Event) → IsLegalOriginal p → (t : ℕ) (σ κ : Task) → IsPair p events t σ κ → (a : PAccept) (s : Span) → StandsAt p events t (SAccept a s) σ κ → can_step σ ≡ false →
    HoldsEachPermit far p events t σ κ

abbrev pub LegalWaitsHold : Type 0
LegalWaitsHold =
    (far : Spots) (p : PProgram) (events : List Event) → IsLegalOriginal p → (t : ℕ) (σ κ : Task) → IsPair p events t σ κ → (alts : PAlts) (otherwise : PMaybe) (s : Span) → StandsAt p events t (SWait alts otherwise s) σ κ → can_step σ ≡ false →
    HoldsEachPermit far p events t σ κ

abbrev pub LegalAbortsHold : Type 0
LegalAbortsHold =
    (far : Spots) (p : PProgram) (events : List Event) → IsLegalOriginal p → (t : ℕ) (σ κ : Task) → IsPair p events t σ κ → (x : PCallee) (s : Span) → StandsAt p events t (SAbort (x ∷ []) s) σ κ → can_step σ ≡ false →
    HoldsEachPermit far p events t σ κ

-- and at the ends of its unit and of accept bodies.
abbrev pub LegalEndsHold : Type 0
LegalEndsHold =
    (far : Spots) (p : PProgram) (events : List Event) → IsLegalOriginal p → (t : ℕ) (σ κ : Task) → IsBased p events t σ κ → StandsBehind p events t σ κ → can_step σ ≡ false → HoldsEachPermit far p events t σ κ

-- So wherever the task has no local step.
abbrev pub LegalPermitsHold : Type 0
LegalPermitsHold =
    (far : Spots) (p : PProgram) (events : List Event) → IsLegalOriginal p → (t : ℕ) (σ κ : Task) → IsBased p events t σ κ → can_step σ ≡ false → HoldsEachPermit far p events t σ κ
