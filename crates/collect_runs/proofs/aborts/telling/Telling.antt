-- Where a text can tell, each of its tasks tells, beside that of each form of the normal form.
use Rattle.std.proofs.Common.{◌≡◌, ℕ, ℤ, ◌+◌, ◌≤◌, true, false, List, Some, None, sym, arith, true≢false}
use Rattle.ada_tree.specs.declared.naming.Span.{Span}
use Rattle.ada_tree.specs.PlainStmt.{PStmt, SAccept, SExit, SWait, SIf, PStmts, stmt_then, absent, accepting, PMaybe, PAlts, PHead}
use Rattle.ada_value.specs.Variables.{Variables}
use Rattle.task_model.specs.Frames.{Around, PFrame, control}
use Rattle.task_model.specs.Tasks.{Task, vars_of}
use Rattle.task_model.specs.Stands.{can_step}
use Rattle.task_laws.specs.translation.OldTexts.{only_names, OldStmt, old_null, old_assign, old_delay, old_exit, old_raise, old_abort, old_call, old_accept, old_wait, old_conditional, old_timed, old_put, old_put_line, old_new_line, old_get, old_if, old_case, old_block, old_loop, OldHead, OldMaybe, OldAlts}
use Rattle.task_laws.specs.translation.Controls.{task_in, Under}
use Rattle.normal_model.specs.Making.{one}
use Rattle.normal_model.specs.Walk.{Rewriter, after_parts, after_alts, parts_rewritten, inside_alts, inside_maybe}
use Rattle.collect_model.specs.aborts.AbortTeller.{AbortTeller}
use Rattle.collect_model.specs.aborts.AbortStmts.{abort_rewriter}
use Rattle.collect_model.specs.aborts.Noting.{over}
use Rattle.collect_model.specs.aborts.Places.{with_place}
use Rattle.collect_model.specs.aborts.Serving.{is_not_refused, accept_told, service_watched}
use Rattle.collect_model.specs.aborts.Waiting.{wait_told, is_taken, branches}
use Rattle.collect_runs.specs.aborts.translation.Rows.{Telling}
use Rattle.collect_runs.specs.aborts.translation.Floors.{OpenPlace, innermost, HasPlaces, KeepCallers}
use Rattle.collect_runs.proofs.aborts.translation.Counting.{at-most, grows_parts, grows_alts, grows_maybe}
use Rattle.collect_runs.proofs.aborts.translation.Rows.{maybe-rows}
use Rattle.collect_runs.specs.aborts.telling.Texts.{Texts, form, text, teller, unit_translation, CanTell}
use Rattle.collect_runs.specs.aborts.telling.Forms.{Form}
use Rattle.collect_runs.specs.aborts.telling.Meetings.{is_service, tried, AtTry, at_try, ActsAlike}
use Rattle.collect_runs.specs.aborts.telling.Laws.{TellsAlike}
use Rattle.collect_runs.proofs.aborts.telling.Closing.{closes}
use Rattle.collect_runs.proofs.aborts.telling.Serving.{opens, accept-again, wait-again}
use Rattle.collect_runs.proofs.aborts.telling.Choosing.{alts-told}
use Rattle.collect_runs.proofs.aborts.telling.Waiting.{accept-acts, waits-act}
use Rattle.collect_runs.proofs.aborts.telling.Acting.{TriesAlike, tells-alike}

module _ (x : Texts) (can : CanTell x) (f : Form x) (t : ℕ) (ps : List OpenPlace) where
  abbrev X : AbortTeller
  X = teller x t

  abbrev walk : Rewriter ℕ
  walk = abort_rewriter (teller x t)

  -- an accept statement
  accept-tries : (i : List ℤ) (w : List ℕ) (h : PHead) (m : PMaybe) (s : Span) (oh : OldHead x.programs h) (om : OldMaybe (only_names x.programs) m)
      (r r' : PStmts) (n : ℕ) → innermost ps ≤ n →
      after_parts (abort_rewriter (teller x t)) (SAccept (accepting h m) s) (n + 1) ≤ x.places t →
      Telling (only_names x.programs) (teller x t) (innermost ps) (x.places t) r r' →
      {q q' : Around} {o o' : List PFrame} {V W : Variables} → Under (unit_translation x t ps) q o V q' o' W → HasPlaces (teller x t) (x.places t) W →
      KeepCallers (teller x t) (x.places t) W ps →
      f.plainly.IsSo t (task_in (form x) t i w (control (stmt_then (SAccept (accepting h m) s) r) q o V)) →
      can_step (task_in (form x) t i w (control (stmt_then (SAccept (accepting h m) s) r) q o V)) ≡ false →
      ActsAlike f t (task_in (form x) t i w (control (stmt_then (SAccept (accepting h m) s) r) q o V))
      (task_in (text x) t i w (tried (teller x t) (n + 1) (SAccept (accepting h (inside_maybe (abort_rewriter (teller x t)) m (n + 1))) s) r' q' o' W))
  accept-tries i w h m s oh om r r' n from to im {q} {q'} {o} {o'} {V} {W} v places keeps own rests =
      let m' : PMaybe = inside_maybe walk m (n + 1) in
      let st' : PStmt = SAccept (accept_told X s (n + 1) (accepting h m')) s in
      let exit : PStmts = one (SExit None (Some (is_not_refused X s (n + 1))) s) in
      let turn : PStmts = stmt_then (service_watched X s (n + 1) st') exit in
      accept-acts x can f t ps (n + 1) i w h m m' s oh
      (maybe-rows (only_names x.programs) X (n + 1) (x.places t) om (n + 1) (omega arith) to) r r' im q q' o o' V W v turn own rests
      (opens x can f t ps i w (SAccept (accepting h m) s) st' (n + 1) (omega (arith, from)) (at-most (grows_parts X (SAccept (accepting h m) s) (n + 1)) to) s
      (is_not_refused X s (n + 1)) turn
      (stmt_then (over X s (n + 1)) r') r v places keeps own
      (accept-again x f t ps i w r r' im n from (accepting h m) s (old_accept h m s oh _ om) to own rests))

  -- a selective wait
  wait-tries : (i : List ℤ) (w : List ℕ) (alts : PAlts) (m : PMaybe) (s : Span) (oa : OldAlts (only_names x.programs) alts)
      (om : OldMaybe (only_names x.programs) m) (r r' : PStmts) (n : ℕ) → innermost ps ≤ n →
      after_parts (abort_rewriter (teller x t)) (SWait alts m s) (n + 1) ≤ x.places t →
      Telling (only_names x.programs) (teller x t) (innermost ps) (x.places t) r r' →
      {q q' : Around} {o o' : List PFrame} {V W : Variables} → Under (unit_translation x t ps) q o V q' o' W → HasPlaces (teller x t) (x.places t) W →
      KeepCallers (teller x t) (x.places t) W ps →
      f.plainly.IsSo t (task_in (form x) t i w (control (stmt_then (SWait alts m s) r) q o V)) →
      can_step (task_in (form x) t i w (control (stmt_then (SWait alts m s) r) q o V)) ≡ false →
      ActsAlike f t (task_in (form x) t i w (control (stmt_then (SWait alts m s) r) q o V))
      (task_in (text x) t i w
      (tried (teller x t) (n + 1)
      (SWait (inside_alts (abort_rewriter (teller x t)) alts (n + 1))
      (inside_maybe (abort_rewriter (teller x t)) m (after_alts (abort_rewriter (teller x t)) alts (n + 1))) s) r' q' o' W))
  wait-tries i w alts m s oa om r r' n from to im {q} {q'} {o} {o'} {V} {W} v places keeps own rests =
      let mid : ℕ = after_alts walk alts (n + 1) in
      let alts' : PAlts = inside_alts walk alts (n + 1) in
      let m' : PMaybe = inside_maybe walk m mid in
      let st' : PStmt = wait_told X s (n + 1) alts' m' in
      let exit : PStmts = one (SExit None (Some (is_taken X s)) s) in
      let turn : PStmts = stmt_then (service_watched X s (n + 1) st') exit in
      let below : innermost ps ≤ n + 1 = omega (arith, from) in
      waits-act x can f t ps (n + 1) i w alts alts' m m' s (alts-told x can t ps (n + 1) below oa (n + 1) (omega arith) (at-most (grows_maybe X m mid) to))
      (maybe-rows (only_names x.programs) X (innermost ps) (x.places t) om mid (at-most below (grows_alts X alts (n + 1))) to) r r' im q q' o o' V W
      (record { under = v; places = places; keeps = keeps }) turn own below rests
      (opens x can f t ps i w (SWait alts m s) st' (n + 1) (omega (arith, from)) (at-most (grows_parts X (SWait alts m s) (n + 1)) to) s (is_taken X s) turn
      (stmt_then (SIf (branches X s (n + 1) alts' m' 1) absent s) r') r v places keeps own
      (wait-again x f t ps i w r r' im n from alts m s (old_wait alts m s _ oa om) to own rests))

  at-service : (i : List ℤ) (w : List ℕ) {y : PStmt} (r r' : PStmts) (n : ℕ) → is_service y ≡ true → OldStmt (only_names x.programs) y → innermost ps ≤ n →
      after_parts (abort_rewriter (teller x t)) y (with_place n y) ≤ x.places t →
      Telling (only_names x.programs) (teller x t) (innermost ps) (x.places t) r r' →
      {q q' : Around} {o o' : List PFrame} {V W : Variables} → Under (unit_translation x t ps) q o V q' o' W →
      f.plainly.IsSo t (task_in (form x) t i w (control (stmt_then y r) q o V)) → can_step (task_in (form x) t i w (control (stmt_then y r) q o V)) ≡ false →
      HasPlaces (teller x t) (x.places t)
      (vars_of (task_in (text x) t i w (tried (teller x t) (n + 1) (parts_rewritten (abort_rewriter (teller x t)) y (with_place n y)) r' q' o' W))) →
      KeepCallers (teller x t) (x.places t)
      (vars_of (task_in (text x) t i w (tried (teller x t) (n + 1) (parts_rewritten (abort_rewriter (teller x t)) y (with_place n y)) r' q' o' W))) ps →
      ActsAlike f t (task_in (form x) t i w (control (stmt_then y r) q o V))
      (task_in (text x) t i w (tried (teller x t) (n + 1) (parts_rewritten (abort_rewriter (teller x t)) y (with_place n y)) r' q' o' W))
  at-service i w r r' n service (old_accept h m s oh ask om) from to im v own rests places keeps = accept-tries i w h m s oh om r r' n from to im v places keeps own rests
  at-service i w r r' n service (old_wait alts m s ask oa om) from to im v own rests places keeps = wait-tries i w alts m s oa om r r' n from to im v places keeps own rests
  at-service i w r r' n service (old_null s) from to im v own rests places keeps = absurd (true≢false (sym service))
  at-service i w r r' n service (old_assign target e s h k) from to im v own rests places keeps = absurd (true≢false (sym service))
  at-service i w r r' n service (old_delay d s) from to im v own rests places keeps = absurd (true≢false (sym service))
  at-service i w r r' n service (old_exit name test s h) from to im v own rests places keeps = absurd (true≢false (sym service))
  at-service i w r r' n service (old_raise name s) from to im v own rests places keeps = absurd (true≢false (sym service))
  at-service i w r r' n service (old_abort cs s h) from to im v own rests places keeps = absurd (true≢false (sym service))
  at-service i w r r' n service (old_call c s h k) from to im v own rests places keeps = absurd (true≢false (sym service))
  at-service i w r r' n service (old_conditional c l m s h k j z) from to im v own rests places keeps = absurd (true≢false (sym service))
  at-service i w r r' n service (old_timed c l d m s h k j z) from to im v own rests places keeps = absurd (true≢false (sym service))
  at-service i w r r' n service (old_put parts s h) from to im v own rests places keeps = absurd (true≢false (sym service))
  at-service i w r r' n service (old_put_line parts s h) from to im v own rests places keeps = absurd (true≢false (sym service))
  at-service i w r r' n service (old_new_line s) from to im v own rests places keeps = absurd (true≢false (sym service))
  at-service i w r r' n service (old_get target s h) from to im v own rests places keeps = absurd (true≢false (sym service))
  at-service i w r r' n service (old_if arms m s h k) from to im v own rests places keeps = absurd (true≢false (sym service))
  at-service i w r r' n service (old_case e arms m s h k j) from to im v own rests places keeps = absurd (true≢false (sym service))
  at-service i w r r' n service (old_block l hs s h k) from to im v own rests places keeps = absurd (true≢false (sym service))
  at-service i w r r' n service (old_loop name c l s h k) from to im v own rests places keeps = absurd (true≢false (sym service))

  tries : (τ κ : Task) → f.plainly.IsSo t τ → can_step τ ≡ false → AtTry x t ps τ κ → HasPlaces (teller x t) (x.places t) (vars_of κ) →
      KeepCallers (teller x t) (x.places t) (vars_of κ) ps →
      ActsAlike f t τ κ
  tries τ κ own rests (at_try i w y r r' n service old from to im v) places keeps = at-service i w r r' n service old from to im v own rests places keeps

-- At accepts and waits the image acts alike.
tries-alike : (x : Texts) → CanTell x → (f : Form x) (t : ℕ) → TriesAlike f t
tries-alike x can f t ps τ κ own rests at places keeps = tries x can f t ps τ κ own rests at places keeps

-- Where the text can tell, all of it is so of each form.
pub tells_alike : (x : Texts) → CanTell x → (f : Form x) → TellsAlike f
tells_alike x can f = tells-alike x can f (λ t i w p ps q q' o o' V W body own places keeps. closes x can f t i w p ps body own places keeps)
    (tries-alike x can f)
