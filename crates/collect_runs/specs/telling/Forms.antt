-- What is asked of the tasks of a normal form, wherever they stand, so that their images can tell the recorder what they do (this project's rule).
use Rattle.std.specs.Prelude.{◌≡◌, ℕ, ℤ, ◌≤◌, false, List, Some}
use Rattle.ada_tree.specs.PlainStmt.{PCall, PHead, SWait, PAlts, PMaybe, PStmts, stmt_then}
use Rattle.ada_tree.specs.declared.naming.Span.{Span}
use Rattle.ada_tree.specs.Every.{alts_count}
use Rattle.ada_value.specs.Variables.{Variables}
use Rattle.task_model.specs.Frames.{Control}
use Rattle.task_model.specs.Tasks.{Task}
use Rattle.task_model.specs.Calls.{call_in}
use Rattle.task_model.specs.Stands.{can_step, stepped}
use Rattle.task_model.specs.Rendezvous.{accepted, finished, resumed, call_failed, took_else, took_delay}
use Rattle.task_laws.specs.statements.Blocks.{HasLeftBlocks}
use Rattle.task_laws.specs.translation.OldTexts.{OldCall, OldHead}
use Rattle.task_laws.specs.translation.Scopes.{SeeAlike}
use Rattle.task_laws.specs.translation.Controls.{task_in, ExitsLoop}
use Rattle.collect_runs.specs.telling.Texts.{Texts, form, IsInteger, IsCallAlike, IsHeadAlike, Accepts}

-- What is kept of a task by each local step and each event.
pub record StaysSo (IsSo : Task → Type 0) (σ : Task) : Type 0 where
  pub stepped : IsSo (stepped σ)
  pub accepted : (e : ℕ) (i : ℤ) (caller : ℕ) (calling : Task) → IsSo (accepted e i caller calling σ)
  pub finished : IsSo (finished σ)
  pub resumed : (acceptor : Task) → IsSo (resumed acceptor σ)
  pub raised : IsSo (call_failed σ)
  pub took_else : IsSo (took_else σ)
  pub took_delay : (k : ℕ) → IsSo (took_delay k σ)

-- What is so of each task of the normal form: it has its number, which is one of INTEGER, it stands at the end of no block, and its exits leave loops. Where it rests at a call, an accept or a wait, its image, which sees the same variables, evaluates that alike; the alternatives of a wait have numbers of INTEGER. It stays so, whatever is done to it.
pub record Form (x : Texts) : Type 1 where
  pub IsSo : ℕ → Task → Type 0
  pub number : (t : ℕ) (σ : Task) → IsSo t σ → σ.number ≡ t
  pub fits : (t : ℕ) (σ : Task) → IsSo t σ → IsInteger t
  pub left : (t : ℕ) (σ : Task) → IsSo t σ → HasLeftBlocks σ
  pub exits : (t : ℕ) (σ : Task) → IsSo t σ → ExitsLoop σ
  pub stays : (t : ℕ) (σ : Task) → IsSo t σ → StaysSo (IsSo t) σ
  pub calls : (t : ℕ) (i : List ℤ) (w : List ℕ) (a : Control) → IsSo t (task_in (form x) t i w a) → can_step (task_in (form x) t i w a) ≡ false → (c : PCall) → call_in a.top.rest ≡ Some c → OldCall x.programs c →
      (W : Variables) → SeeAlike x.programs a.vars W → IsCallAlike x t c a.vars W
  pub heads : (t : ℕ) (i : List ℤ) (w : List ℕ) (a : Control) → IsSo t (task_in (form x) t i w a) → can_step (task_in (form x) t i w a) ≡ false → (h : PHead) →
      Accepts h a.top.rest → OldHead x.programs h →
      (W : Variables) → SeeAlike x.programs a.vars W → IsHeadAlike x t h a.vars W
  pub delays : (t : ℕ) (i : List ℤ) (w : List ℕ) (a : Control) → IsSo t (task_in (form x) t i w a) → (alts : PAlts) (o : PMaybe) (s : Span) (rest : PStmts) → a.top.rest ≡ stmt_then (SWait alts o s) rest →
      (k : ℕ) → k ≤ alts_count alts → IsInteger k
