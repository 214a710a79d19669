-- Wherever a task of the normal form has no local step its image comes, with whatever permit comes back, to where it does what it is to do with it.
use Rattle.std.proofs.Common.{◌≡◌, ℕ, ℤ, false, List, sym, ap, subst, true≢false}
use Rattle.event_machine.specs.declared.Event.{Event}
use Rattle.ada_tree.specs.PlainStmt.{PStmt, SCall, SConditional, STimed, PStmts}
use Rattle.ada_tree.specs.PlainProgram.{PProgram}
use Rattle.ada_value.specs.Variables.{Variables}
use Rattle.task_model.specs.Frames.{Around, PFrame, Control, control}
use Rattle.task_model.specs.Tasks.{Task, rest_of}
use Rattle.task_model.specs.Stands.{can_step}
use Rattle.task_laws.specs.statements.Each.{loops_of}
use Rattle.task_laws.specs.translation.OldTexts.{only_names}
use Rattle.task_laws.specs.translation.Controls.{task_in, Under, Follows, inside, behind, Alike, alike}
use Rattle.normal_laws.specs.existence.Laws.{IsLegalOriginal}
use Rattle.run_laws.specs.replaying.Copies.{Spots}
use Rattle.replay_runs.specs.starts.Formals.{form_setting, text_setting}
use Rattle.replay_runs.specs.translation.Rows.{Replayed, replayed_none, replayed_then}
use Rattle.replay_runs.specs.controls.Asking.{unit_of_task}
use Rattle.replay_runs.specs.controls.translated.Laws.{form_and_text, unit_translation}
use Rattle.replay_runs.specs.controls.images.Laws.{IsSynchronizing, plain_entry_call, conditional_call, timed_call, accept_statement, selective_wait, abort_of_one}
use Rattle.replay_runs.specs.controls.meanings.Pairs.{IsPair, IsBased}
use Rattle.replay_runs.specs.controls.meanings.Laws.{StandsAt, stands_at, stands_behind, plain_call, HoldsEachPermit, LegalPermitsHold}
use Rattle.replay_runs.specs.controls.meanings.Laws as laws
use Rattle.replay_runs.proofs.controls.images.Catching.{is_over, synchronizes}
use Rattle.replay_runs.proofs.controls.meanings.Aborts.{aborts}
use Rattle.replay_runs.proofs.controls.meanings.Accepting.{accepts}
use Rattle.replay_runs.proofs.controls.meanings.Calls.{calls}
use Rattle.replay_runs.proofs.controls.meanings.Waits.{waits}
use Rattle.replay_runs.proofs.controls.meanings.Ends.{ends}

module _ (far : Spots) (p : PProgram) (events : List Event) (h : IsLegalOriginal p) (t : ℕ) where
  abbrev left : ℕ → List ℤ → List ℕ → Control → Task
  left n i w c = task_in (form_setting p) n i w c

  abbrev right : ℕ → List ℤ → List ℕ → Control → Task
  right n i w d = task_in (text_setting p events) n i w d

  -- at each statement that synchronizes
  at-statement : (σ κ : Task) → IsPair p events t σ κ → (s : PStmt) → IsSynchronizing s → StandsAt p events t s σ κ → can_step σ ≡ false → HoldsEachPermit far p events t σ κ
  at-statement σ κ pair _ (plain_entry_call c s) at rests = calls far p events h t σ κ pair (SCall c s) c at (plain_call c s) rests
  at-statement σ κ pair _ (conditional_call c l o s) at rests = calls far p events h t σ κ pair (SConditional c l o s) c at (laws.conditional_call c l o s) rests
  at-statement σ κ pair _ (timed_call c l d o s) at rests = calls far p events h t σ κ pair (STimed c l d o s) c at (laws.timed_call c l d o s) rests
  at-statement σ κ pair _ (accept_statement a s) at rests = accepts far p events h t σ κ pair a s at rests
  at-statement σ κ pair _ (selective_wait x o s) at rests = waits far p events h t σ κ pair x o s at rests
  at-statement σ κ pair _ (abort_of_one x s) at rests = aborts far p events h t σ κ pair x s at rests

  -- Where the image stands before its call of GO a statement is left, so one is left to the task too.
  in-row : (i : List ℤ) (w : List ℕ) {r r' : PStmts} → Replayed (only_names (form_and_text p events)) (unit_of_task p t) r r' → {q q' : Around} {o o' : List PFrame} {V V' : Variables} →
      Under (unit_translation p events t) q o V q' o' V' → IsBased p events t (left t i w (control r q o V)) (right t i w (control r' q' o' V')) → can_step (left t i w (control r q o V)) ≡ false →
      HoldsEachPermit far p events t (left t i w (control r q o V)) (right t i w (control r' q' o' V'))
  in-row i w replayed_none v based rests = absurd (true≢false (ap (λ κ. is_over (rest_of κ)) (based.asks rests).is))
  in-row i w (replayed_then s r r' old im) {q} {q'} {o} {o'} {V} {V'} v based rests =
      let sync = synchronizes s (loops_of q o) t (form_setting p) i w r q o V rests based.pair.own.simply.rest.0.0 in
      at-statement _ _ based.pair s sync (stands_at i w s r r' old im v) rests

  abbrev Held : List ℤ → List ℕ → Control → Control → ℕ → Type 0
  Held i w c d n = IsBased p events t (left n i w c) (right n i w d) → can_step (left n i w c) ≡ false → HoldsEachPermit far p events t (left n i w c) (right n i w d)

  wherever : (i : List ℤ) (w : List ℕ) (c d : Control) → Follows (unit_translation p events t) c d → Held i w c d t
  wherever i w c d (inside r r' im v) based rests = in-row i w im v based rests
  wherever i w c d (behind c1 d1 a) based rests = ends far p events h t _ _ based (stands_behind a.0 i w c1 d1 a.1) rests

  -- the number of the task is t
  numbered : (σ κ : Task) → Alike (unit_translation p events t) σ κ → IsBased p events t σ κ → can_step σ ≡ false → HoldsEachPermit far p events t σ κ
  numbered σ κ (alike n i w c d f) based rests = subst (Held i w c d) (sym based.pair.own.number) (wherever i w c d f) based rests

pub permits_hold : LegalPermitsHold
permits_hold far p events h t σ κ based rests = numbered far p events h t σ κ based.pair.alike based rests
