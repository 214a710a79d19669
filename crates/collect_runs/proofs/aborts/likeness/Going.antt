-- Tasks that are alike go on alike, and a task that is settled stays so whatever is done to it.
use Rattle.std.proofs.Common.{◌≡◌, ℕ, ℤ, true, List, length, refl, sym, ap, subst, ◌∙◌}
use Rattle.run_laws.specs.collecting.Settings.{is_call}
use Rattle.ada_tree.specs.PlainStmt.{PStmts}
use Rattle.ada_value.specs.Variables.{Variables}
use Rattle.task_model.specs.Setting.{entry_parameters}
use Rattle.task_model.specs.Frames.{Around, OwnBody, Block, Handling, Loop, Opened, PFrame, brought}
use Rattle.task_model.specs.Tasks.{Task}
use Rattle.task_model.specs.Waits.{alternative_for}
use Rattle.task_model.specs.Stands.{offer_of}
use Rattle.task_model.specs.Rendezvous.{accepted, resumed, resumed_with, finals_at, finals_of, pending_of, alternative_opened}
use Rattle.collect_runs.specs.aborts.telling.Forms.{backs, ComesBack, GoAlike}
use Rattle.collect_runs.specs.aborts.likeness.Likeness.{Ground, Beside, form, with_these, Near, AreCells, LikeAt, IsLike, is_like, FirstOld, AreLike, the_same, are_like, IsSeen}
use Rattle.collect_runs.proofs.aborts.likeness.Steps.{stands-same, step-like}
use Rattle.collect_runs.proofs.aborts.likeness.Meetings as meetings
use Rattle.collect_runs.proofs.imitating.Parting.{call-is}

module _ (x : Ground) where
  -- ---- two that are alike

  abbrev beside : List ℤ → List ℕ → PStmts → Around → List PFrame → Beside
  beside i w r q o = record { input = i; output = w; rest = r; place = q; outer = o }

  finals-alike : (q : Around) (V W : Variables) → Near x V W → FirstOld x (brought q) V → finals_at q W ≡ finals_at q V
  finals-alike (OwnBody handlers taken) V W h k = refl
  finals-alike (Block handlers) V W h k = refl
  finals-alike (Handling e) V W h k = refl
  finals-alike (Loop name turns stmts) V W h k = refl
  finals-alike (Opened caller formals pending) V W h k = meetings.finals-same x formals V W h k

  -- a value comes back for each formal
  counts : (i : List ℤ) (w : List ℕ) (r : PStmts) (q : Around) (o : List PFrame) (V W : Variables) (h : LikeAt x r q o V W) (cells : AreCells x V) → (k : is_call (offer_of (with_these x (beside i w r q o) V)) ≡ true) → {v : Task} →
      ComesBack (with_these x (beside i w r q o) V) v → length (finals_of v) ≡ backs (entry_parameters (form x) (meetings.is-called x (beside i w r q o) V W h cells k).result.entry)
  counts i w r q o V W h cells k b =
      let c = call-is (offer_of (with_these x (beside i w r q o) V)) k in
      b.count c.0 c.1 c.2 c.3 ∙ ap (λ e. backs (entry_parameters (form x) e)) (sym ((meetings.is-called x (beside i w r q o) V W h cells k).offers c.0 c.1 c.2 c.3))

  pub like-goes : (σ τ : Task) → IsSeen x σ → IsLike x σ τ → GoAlike (AreLike x) σ τ
  like-goes σ τ seen (is_like i w r q o V W h) =
      let c = beside i w r q o in
      record {
        setting = refl;
        output = refl;
        stands = stands-same x c V W h seen.cells;
        callers = refl;
        handed = meetings.handed-same x c V W h seen.cells;
        pending = refl;
        finals = finals-alike q V W h.near seen.brought;
        stopped = meetings.stopped-same x c V W h seen.cells;
        stepped = λ k. are_like _ _ (step-like x c V W h seen.cells seen.brought);
        accepted = λ e z caller v u k f. are_like _ _ (meetings.accepted-like x c V W h seen.cells e z caller v u k f);
        finished = λ k. are_like _ _ (meetings.finished-like x c V W h seen.cells);
        resumed = λ v u k b p f. let a = meetings.is-called x c V W h seen.cells k in are_like _ _ (meetings.resumed-like x c V W h seen.cells a v u (counts i w r q o V W h seen.cells k b) p f);
        raised = λ k. are_like _ _ (meetings.failed-like x c V W h seen.cells);
        call_else = λ e z k. are_like _ _ (meetings.else-like x c V W h seen.cells);
        expired = λ e z k. are_like _ _ (meetings.delay-like x c V W h seen.cells 1);
        took_else = λ k. are_like _ _ (meetings.else-like x c V W h seen.cells);
        took_delay = λ n k. are_like _ _ (meetings.delay-like x c V W h seen.cells n);
        passed = λ v k. are_like _ _ (meetings.passed-like x c V W h seen.cells);
      }

  same-goes : (σ : Task) → GoAlike (AreLike x) σ σ
  same-goes σ = record {
    setting = refl;
    output = refl;
    stands = refl;
    callers = refl;
    handed = refl;
    pending = refl;
    finals = refl;
    stopped = λ vs. refl;
    stepped = λ h. the_same _;
    accepted = λ e i c v w h k. subst (λ vs. AreLike x (accepted e i c v σ) (alternative_opened c (alternative_for σ e i) vs σ)) (sym k) (the_same _);
    finished = λ h. the_same _;
    resumed = λ v w h b p f. subst (λ a. AreLike x (resumed v σ) (resumed_with a (finals_of w) σ)) (sym p) (subst (λ vs. AreLike x (resumed v σ) (resumed_with (pending_of v) vs σ)) (sym f) (the_same _));
    raised = λ h. the_same _;
    call_else = λ e i h. the_same _;
    expired = λ e i h. the_same _;
    took_else = λ h. the_same _;
    took_delay = λ k h. the_same _;
    passed = λ v h. the_same _;
  }

  pub goes-alike : (σ τ : Task) → IsSeen x σ → AreLike x σ τ → GoAlike (AreLike x) σ τ
  goes-alike σ τ seen (the_same t) = same-goes σ
  goes-alike σ τ seen (are_like a b h) = like-goes σ τ seen h
