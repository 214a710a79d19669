-- What is so of each task of a legal program's normal form, wherever it stands, with what its image in the collecting text with abort statements asks more
-- (this project's rule).
use Rattle.std.specs.Prelude.{◌≡◌, ◌≤◌, ◌+◌, ℕ, ℤ, true, List, None}
use Rattle.run_laws.specs.collecting.Settings.{is_call}
use Rattle.ada_tree.specs.Every.{alts_count}
use Rattle.ada_tree.specs.PlainStmt.{PStmt, SWait}
use Rattle.ada_tree.specs.PlainProgram.{PProgram}
use Rattle.task_model.specs.Tasks.{Task, with_vars}
use Rattle.task_model.specs.Stands.{offer_of}
use Rattle.task_model.specs.Starting.{started}
use Rattle.task_model.specs.Rendezvous.{call_failed, pending_of, finals_of, copies_of}
use Rattle.task_model.specs.TaskOps.{task_ops}
use Rattle.task_laws.specs.statements.Each.{Loops, HoldsOf}
use Rattle.replay_model.specs.ReplayTree.{last_task}
use Rattle.replay_runs.specs.starts.Laws.{form_in}
use Rattle.replay_runs.specs.starts.Formals.{form_setting}
use Rattle.replay_runs.specs.controls.meanings.Pairs.{IsOfForm}
use Rattle.collect_runs.specs.telling.Forms.{StaysSo}
use Rattle.collect_runs.specs.aborts.telling.Forms.{GoAlike}

-- a wait has fewer than 40 parts
abbrev pub HasFewParts : Loops → PStmt → Type 0
HasFewParts loops (SWait alts o s) = alts_count alts + 1 ≤ 40
HasFewParts loops _ = Unit {0}

-- Which tasks of the normal form are alike though a lost call has left other values in variables of its actuals (`IsLike`), where the tasks are such as read
-- none of these before it is assigned to (`IsSettled`).
pub record HasLikeness (p : PProgram) : Type 1 where
  pub IsSettled : ℕ → Task → Type 0
  pub starts : (inputs : List (List ℤ)) (t : ℕ) → t ≤ last_task (form_in p).numbers → IsSettled t (started (form_setting p) inputs t)
  pub stays : (t : ℕ) (σ : Task) → IsOfForm p t σ → IsSettled t σ → StaysSo (IsSettled t) σ
  pub passed : (t : ℕ) (σ : Task) → IsOfForm p t σ → IsSettled t σ → IsSettled t (task_ops.passed σ)
  pub IsLike : ℕ → Task → Task → Type 0
  pub like_self : (t : ℕ) (σ : Task) → IsOfForm p t σ → IsSettled t σ → IsLike t σ σ
  pub like_goes : (t : ℕ) (σ τ : Task) → IsOfForm p t σ → IsOfForm p t τ → IsSettled t σ → IsSettled t τ → IsLike t σ τ → GoAlike (IsLike t) σ τ
  pub lost : (t : ℕ) (σ m : Task) → IsOfForm p t σ → IsSettled t σ → is_call (offer_of σ) ≡ true → pending_of m ≡ None →
      IsLike t (call_failed σ) (call_failed (with_vars σ (copies_of σ (finals_of m)).vars))
  pub lost_settled : (t : ℕ) (σ m : Task) → IsOfForm p t σ → IsSettled t σ → is_call (offer_of σ) ≡ true → pending_of m ≡ None →
      IsSettled t (call_failed (with_vars σ (copies_of σ (finals_of m)).vars))

-- It is a task of the normal form, its waits have few parts, and it reads no variable of an actual of a lost call before it is assigned to.
pub record IsOfText {p : PProgram} (l : HasLikeness p) (t : ℕ) (σ : Task) : Type 0 where
  pub own : IsOfForm p t σ
  pub few : HoldsOf HasFewParts σ
  pub settled : l.IsSettled t σ

-- two such tasks are alike
pub record AreAlike {p : PProgram} (l : HasLikeness p) (t : ℕ) (σ τ : Task) : Type 0 where
  pub like : l.IsLike t σ τ
  pub one : IsOfText l t σ
  pub other : IsOfText l t τ
