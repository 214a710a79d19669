-- Wherever a task of the normal form has no local step its image comes to where it asks.
use Rattle.std.proofs.Common.{◌≡◌, ℕ, ◌≤◌, ℤ, Bool, true, false, List, [], ◌∷◌, length, None, refl, sym, ap, true≢false, arith}
use Rattle.event_machine.specs.declared.Event.{Event}
use Rattle.ada_tree.specs.PlainStmt.{PStmt, SNull, SAssign, SDelay, SExit, SRaise, SAbort, SCall, SAccept, SWait, SConditional, STimed, SPut, SPutLine, SNewLine, SGet, SIf, SCase, SBlock, SLoop, PStmts, no_stmt, stmt_then, no_handler}
use Rattle.ada_tree.specs.PlainProgram.{PProgram}
use Rattle.ada_value.specs.Variables.{Variables}
use Rattle.task_model.specs.Frames.{Around, OwnBody, PFrame, Control, control, settled}
use Rattle.task_model.specs.Tasks.{Task}
use Rattle.task_model.specs.Stands.{can_step}
use Rattle.task_laws.specs.statements.Blocks.{HasLeftBlocks}
use Rattle.task_laws.specs.statements.Each.{Loops, HoldsOf, loops_of}
use Rattle.task_laws.specs.translation.Translations.{Rewriting, Translation}
use Rattle.task_laws.specs.translation.OldTexts.{only_names}
use Rattle.task_laws.specs.translation.Controls.{task_in, Under, on_floor, in_block, in_handler, in_endless, in_while, in_count, inside, behind, Alike, alike, are_inside}
use Rattle.normal_laws.specs.runs.floors.Preludes.{reaches_here, reaches_by}
use Rattle.normal_model.specs.RewrittenUnit.{RewrittenUnit}
use Rattle.normal_laws.specs.existence.statements.Laws.{NamesTasksSimply}
use Rattle.replay_model.specs.Asking.{ask_only}
use Rattle.replay_model.specs.ReplayStmts.{last_kind}
use Rattle.replay_runs.specs.translation.Rows.{Replayed, replayed_none, replayed_then, replayed_rows}
use Rattle.replay_runs.specs.translation.Floors.{ReplayFloor, plain_body, handled_body, taken_handler, accept_body, AtAsking, unit_over, unit_left, empty_over, body_over, body_left, below_at}
use Rattle.replay_runs.specs.controls.Asking.{unit_of_task, Surroundings}
use Rattle.replay_runs.specs.controls.translated.Laws.{form_and_text, unit_translation}
use Rattle.replay_runs.specs.controls.images.Laws.{IsSynchronizing, plain_entry_call, conditional_call, timed_call, accept_statement, selective_wait, abort_of_one, ComesToAsk, ImagesComeToAsk}
use Rattle.replay_runs.proofs.controls.images.Asking.{images_ask}

-- no statement is left
abbrev pub is_over : PStmts → Bool
is_over no_stmt = true
is_over (stmt_then s r) = false

abbrev over : Control → Bool
over c = is_over c.top.rest

-- a statement at which a task of a normal form has no local step synchronizes
pub synchronizes : (s : PStmt) (loops : Loops) (n : ℕ) (g : _) (i : List ℤ) (w : List ℕ) (r : PStmts) (p : Around) (o : List PFrame) (V : Variables) → can_step (task_in g n i w (control (stmt_then s r) p o V)) ≡ false → NamesTasksSimply loops s → IsSynchronizing s
synchronizes (SCall c s) loops n g i w r p o V e h = plain_entry_call c s
synchronizes (SConditional c l m s) loops n g i w r p o V e h = conditional_call c l m s
synchronizes (STimed c l d m s) loops n g i w r p o V e h = timed_call c l d m s
synchronizes (SAccept a s) loops n g i w r p o V e h = accept_statement a s
synchronizes (SWait x m s) loops n g i w r p o V e h = selective_wait x m s
synchronizes (SAbort [] s) loops n g i w r p o V e h = absurd (true≢false e)
synchronizes (SAbort (x ∷ []) s) loops n g i w r p o V e h = abort_of_one x s
synchronizes (SAbort (x ∷ y ∷ xs) s) loops n g i w r p o V e h = absurd (let few : length (x ∷ y ∷ xs) ≤ 1 = h.0 in omega (arith, few))
synchronizes (SNull s) loops n g i w r p o V e h = absurd (true≢false e)
synchronizes (SAssign t x s) loops n g i w r p o V e h = absurd (true≢false e)
synchronizes (SDelay d s) loops n g i w r p o V e h = absurd (true≢false e)
synchronizes (SExit c x s) loops n g i w r p o V e h = absurd (true≢false e)
synchronizes (SRaise c s) loops n g i w r p o V e h = absurd (true≢false e)
synchronizes (SPut ps s) loops n g i w r p o V e h = absurd (true≢false e)
synchronizes (SPutLine ps s) loops n g i w r p o V e h = absurd (true≢false e)
synchronizes (SNewLine s) loops n g i w r p o V e h = absurd (true≢false e)
synchronizes (SGet t s) loops n g i w r p o V e h = absurd (true≢false e)
synchronizes (SIf x m s) loops n g i w r p o V e h = absurd (true≢false e)
synchronizes (SCase x y m s) loops n g i w r p o V e h = absurd (true≢false e)
synchronizes (SBlock b s) loops n g i w r p o V e h = absurd (true≢false e)
synchronizes (SLoop c x l s) loops n g i w r p o V e h = absurd (true≢false e)

module _ (p : PProgram) (events : List Event) (t : ℕ) where
  abbrev u : RewrittenUnit
  u = unit_of_task p t

  abbrev x : Rewriting
  x = replayed_rows (only_names (form_and_text p events)) u

  abbrev y : Translation
  y = unit_translation p events t

  abbrev left : ℕ → List ℤ → List ℕ → Control → Task
  left n i w c = task_in (form_and_text p events).original n i w c

  abbrev right : ℕ → List ℤ → List ℕ → Control → Task
  right n i w d = task_in (form_and_text p events).made n i w d

  -- ---- behind the statements

  abbrev here : ℕ → List ℤ → List ℕ → Control → Surroundings
  here n i w d = record { number = n; input = i; output = w; place = d.top.place; outer = d.outer; vars = d.vars }

  at-end : (k : ℕ) (n : ℕ) (i : List ℤ) (w : List ℕ) (c d : Control) → AtAsking x u (below_at x u k) c d → ComesToAsk p events t (left n i w c) (right n i w d)
  at-end k n i w c d (unit_over s hs taken V V' ext per) = record {
    reached = right n i w d;
    reach = reaches_here (right n i w d);
    alike = alike n i w c d (behind c d (k, unit_over s hs taken V V' ext per));
    asks = record { span = s; arms = _; others = _; behind = no_stmt; here = here n i w d; is = refl };
  }
  at-end k n i w c d (unit_left s hs taken e V V' ext per) =
      let end : Control = control (ask_only u s (last_kind u.task)) (OwnBody no_handler None) [] V' in
      record {
        reached = right n i w end;
        reach = reaches_by (right n i w d) (right n i w end) refl refl (reaches_here (right n i w end));
        alike = alike n i w c end (behind c end (k, unit_over s hs taken V V' ext per));
        asks = record { span = s; arms = _; others = _; behind = no_stmt; here = here n i w end; is = refl };
      }
  at-end k n i w c d (empty_over a) = record {
    reached = right n i w d;
    reach = reaches_here (right n i w d);
    alike = alike n i w c d (behind c d (k, empty_over a));
    asks = record { span = a.span; arms = _; others = _; behind = no_stmt; here = here n i w d; is = refl };
  }
  at-end k n i w c d (body_over a) = record {
    reached = right n i w d;
    reach = reaches_here (right n i w d);
    alike = alike n i w c d (behind c d (k, body_over a));
    asks = record { span = a.span; arms = _; others = _; behind = no_stmt; here = here n i w d; is = refl };
  }
  at-end k n i w c d (body_left e a) = record {
    reached = right n i w d;
    reach = reaches_here (right n i w d);
    alike = alike n i w c d (behind c d (k, body_left e a));
    asks = record { span = a.span; arms = _; others = _; behind = _; here = here n i w d; is = refl };
  }

  -- ---- in statements

  -- on a floor the image of no statement is not settled
  no-floor : (k : ℕ) {q q' : Around} {o o' : List PFrame} {V V' : Variables} → ReplayFloor x u (below_at x u k) q o V q' o' V' → settled (control no_stmt q' o' V') ≡ control no_stmt q' o' V' → ⊥
  no-floor k (plain_body s V V' ext per) e = true≢false (sym (ap over e))
  no-floor k (handled_body s h h' hs hs' V V' im ext per) e = true≢false (sym (ap over e))
  no-floor k (taken_handler s hs a V V' ext per) e = true≢false (sym (ap over e))
  no-floor k (accept_body a) e = true≢false (sym (ap over e))

  -- where no statement is left on both sides the task has a local step
  at-frame : (n : ℕ) (i : List ℤ) (w : List ℕ) {q q' : Around} {o o' : List PFrame} {V V' : Variables} → Under y q o V q' o' V' → settled (control no_stmt q' o' V') ≡ control no_stmt q' o' V' →
      can_step (left n i w (control no_stmt q o V)) ≡ false → ⊥
  at-frame n i w (on_floor f) e c = no-floor f.0 f.1 e
  at-frame n i w (in_block hs hs' r r' h im v) e c = true≢false c
  at-frame n i w (in_handler a r r' im v) e c = true≢false c
  at-frame n i w (in_endless name l l' r r' h im v) e c = true≢false c
  at-frame n i w (in_while name a l l' r r' old h im v) e c = true≢false c
  at-frame n i w (in_count name backwards last l l' r r' b old known h im v) e c = true≢false c

  in-row : (n : ℕ) (i : List ℤ) (w : List ℕ) {r r' : PStmts} → Replayed (only_names (form_and_text p events)) u r r' → {q q' : Around} {o o' : List PFrame} {V V' : Variables} → Under y q o V q' o' V' →
      settled (control r' q' o' V') ≡ control r' q' o' V' → HoldsOf NamesTasksSimply (left n i w (control r q o V)) → can_step (left n i w (control r q o V)) ≡ false →
      ComesToAsk p events t (left n i w (control r q o V)) (right n i w (control r' q' o' V'))
  in-row n i w replayed_none v e holds c = absurd (at-frame n i w v e c)
  in-row n i w (replayed_then s r r' old im) {q} {q'} {o} {o'} {V} {V'} v e holds c =
      let row = replayed_then s r r' old im in
      let sync = synchronizes s (loops_of q o) n (form_and_text p events).original i w r q o V c holds.rest.0.0 in
      record {
        reached = _;
        reach = reaches_here _;
        alike = alike n i w _ _ (inside _ _ row v);
        asks = images_ask p events t _ _ s r (are_inside n i w _ _ row v) refl sync;
      }

  comes : (σ κ : Task) → Alike y σ κ → HasLeftBlocks κ → HoldsOf NamesTasksSimply σ → can_step σ ≡ false → ComesToAsk p events t σ κ
  comes σ κ (alike n i w c d (inside r r' im v)) e holds can = in-row n i w im v e holds can
  comes σ κ (alike n i w c d (behind c1 d1 h)) e holds can = at-end h.0 n i w c1 d1 h.1

pub images_come_to_ask : ImagesComeToAsk
images_come_to_ask p events t σ κ same e holds can = comes p events t σ κ same e holds can
