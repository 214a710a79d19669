-- What the image does wherever a task of the normal form has no local step.
use Rattle.std.proofs.Common.{◌≡◌, ◌==◌, ℕ, ℤ, Bool, true, false, if◌then◌else◌, List, Result, Ok, Err, refl, sym, ap, subst, ◌∙◌, true≢false}
use Rattle.event_machine.specs.declared.CallForm.{CallForm}
use Rattle.event_machine.specs.declared.CallForm.TheVariants as form_is
use Rattle.event_machine.specs.declared.Choice.{Choice}
use Rattle.event_machine.specs.Offers.{Offer, Nothing, Calls, Waits, Finishes, Ends, Aborts, waits_with, opens, is_else, is_delay}
use Rattle.ada_tree.specs.declared.naming.Span.{Span}
use Rattle.ada_tree.specs.PlainStmt.{PCallee, PStmt, SAbort, SWait, PStmts, no_stmt, stmt_then, PMaybe, PAlts}
use Rattle.ada_value.specs.declared.values.Raised.{Raised}
use Rattle.ada_value.specs.Variables.{Variables}
use Rattle.task_model.specs.Setting.{callee_task}
use Rattle.task_model.specs.Frames.{Around, Block, Handling, PFrame, Control, control, in_front}
use Rattle.task_model.specs.Tasks.{Task, rest_of}
use Rattle.task_model.specs.Calls.{Called, called}
use Rattle.task_model.specs.Stands.{call_stand, name_stand, steps_at, offered, can_step, offer_of}
use Rattle.task_laws.specs.statements.Blocks.{HasLeftBlocks}
use Rattle.task_laws.specs.translation.Translations.{Translation}
use Rattle.task_laws.specs.translation.OldTexts.{only_names, OldStmt, OldStmts, old_null, old_assign, old_delay, old_exit, old_raise, old_abort, old_call, old_accept, old_wait, old_conditional, old_timed, old_put, old_put_line, old_new_line, old_get, old_if, old_case, old_block, old_loop, OldCallees, old_no_callee, old_callee}
use Rattle.task_laws.specs.translation.Controls.{task_in, Under, on_floor, in_block, in_handler, in_endless, in_while, in_count, Follows, inside, behind, Alike, alike}
use Rattle.normal_model.specs.Walk.{Rewriter, image_of, after_stmts, after_alts, rewritten, inside_alts, inside_maybe}
use Rattle.run_laws.specs.collecting.Notes.{BeforeCall, AtFinish, AtEnd}
use Rattle.run_laws.specs.collecting.Copies.{telling, based_offer}
use Rattle.collect_model.specs.Teller.{Teller}
use Rattle.collect_model.specs.Waiting.{wait_image}
use Rattle.collect_model.specs.CollectStmts.{collect_rewriter}
use Rattle.collect_runs.specs.translation.Rows.{Telling, telling_none, telling_then}
use Rattle.collect_runs.specs.translation.Floors.{CollectFloor, main_body, plain_body, handled_body, taken_handler, accept_body, AtTelling, unit_over, unit_left, body_over, body_left, below_at}
use Rattle.collect_runs.proofs.translation.Kept.{no-leads, still_stmts, still_alts}
use Rattle.collect_runs.proofs.translation.Rows.{rows, maybe-rows}
use Rattle.collect_runs.specs.telling.Texts.{Texts, form, text, teller, unit_rows, unit_translation, CanTell}
use Rattle.collect_runs.specs.telling.Forms.{Form}
use Rattle.collect_runs.specs.telling.Meetings.{is_null_next, IsBased, IsNoting, IsCalling, IsEnding, IsLeaving, ActsAlike}
use Rattle.collect_runs.specs.telling.Laws.{TellsAlike}
use Rattle.collect_runs.proofs.telling.Pairs.{comes, steps}
use Rattle.collect_runs.proofs.telling.Ending.{unit-tells, body-tells, left-tells}
use Rattle.collect_runs.proofs.telling.Calling.{plain-tells, conditional-tells, timed-tells}
use Rattle.collect_runs.proofs.telling.Waiting.{alts-told, accept-acts, waits-act}
use Rattle.replay_runs.proofs.controls.meanings.Pairs.{not-left}

-- ---- offers

-- which offer it is
abbrev sort_of : Offer → ℕ
sort_of Nothing = 0
sort_of (Calls form e i) = 1
sort_of (Waits choices) = 2
sort_of Finishes = 3
sort_of Ends = 4
sort_of (Aborts v) = 5

abbrev same_sort : Offer → Offer → Bool
same_sort a b = sort_of a == sort_of b

module _ (x : Texts) (can : CanTell x) (f : Form x) (t : ℕ) where
  abbrev y : Translation
  y = unit_translation x t

  abbrev X : Teller
  X = teller x t

  abbrev walk : Rewriter ℕ
  walk = collect_rewriter (teller x t)

  -- the task offers one thing, and no other
  not-so : {q p r : Offer} → q ≡ p → same_sort p r ≡ false → q ≡ r → ⊥
  not-so {q} {p} {r} e apart h = true≢false (sym (same r) ∙ ap (λ z. same_sort z r) (sym h ∙ e) ∙ apart)
    where
      same : (z : Offer) → same_sort z z ≡ true
      same Nothing = refl
      same (Calls g e1 i) = refl
      same (Waits cs) = refl
      same Finishes = refl
      same Ends = refl
      same (Aborts v) = refl

  no-wait : {q p : Offer} (test : Choice → Bool) → q ≡ p → waits_with test p ≡ false → waits_with test q ≡ true → ⊥
  no-wait test e none h = true≢false (sym h ∙ ap (waits_with test) e ∙ none)

  -- ---- calls

  acts-call : {σ κ : Task} (g : CallForm) (e : ℕ) (z : ℤ) → offer_of σ ≡ Calls g e z → IsNoting f (BeforeCall t) (λ answer. IsCalling f t σ) κ → ActsAlike f t σ κ
  acts-call g e z offer note = record {
    offers = λ no. record { rests = note.offers.rests; offers = note.offers.offers ∙ sym (ap (based_offer x.note t) offer) };
    at_call = λ g1 e1 z1 h. note;
    at_finish = λ h. absurd (not-so offer refl h);
    at_end = λ h no. absurd (not-so offer refl h);
    accepted = λ e1 z1 h c caller j over. absurd (no-wait (opens e1 z1) offer refl h);
    took_else = λ h. absurd (no-wait is_else offer refl h);
    took_delay = λ k h. absurd (no-wait (is_delay k) offer refl h);
  }

  call-offers : (g : CallForm) (r : Result Called Raised) → steps_at (call_stand g r) ≡ false → (e : ℕ) × (z : ℤ) × (offered (call_stand g r) ≡ Calls g e z)
  call-offers g (Ok c) e = (c.entry, c.index, refl)
  call-offers g (Err a) e = absurd (true≢false e)

  -- ---- ends

  acts-finish : {σ κ : Task} → offer_of σ ≡ Finishes → IsNoting f (AtFinish t) (λ answer. IsEnding f t σ) κ → ActsAlike f t σ κ
  acts-finish offer note = record {
    offers = λ no. record { rests = note.offers.rests; offers = note.offers.offers ∙ sym (ap (based_offer x.note t) offer) };
    at_call = λ g e z h. absurd (not-so offer refl h);
    at_finish = λ h. note;
    at_end = λ h no. absurd (not-so offer refl h);
    accepted = λ e1 z1 h c caller j over. absurd (no-wait (opens e1 z1) offer refl h);
    took_else = λ h. absurd (no-wait is_else offer refl h);
    took_delay = λ k h. absurd (no-wait (is_delay k) offer refl h);
  }

  acts-end : {σ κ : Task} → offer_of σ ≡ Ends → (t == 0) ≡ false → IsNoting f (AtEnd t) (λ answer. IsLeaving f t σ) κ → ActsAlike f t σ κ
  acts-end offer task note = record {
    offers = λ no. record { rests = note.offers.rests; offers = note.offers.offers ∙ sym (ap (based_offer x.note t) offer ∙ ap (λ b. if b then Ends else telling x.note) task) };
    at_call = λ g e z h. absurd (not-so offer refl h);
    at_finish = λ h. absurd (not-so offer refl h);
    at_end = λ h no. note;
    accepted = λ e1 z1 h c caller j over. absurd (no-wait (opens e1 z1) offer refl h);
    took_else = λ h. absurd (no-wait is_else offer refl h);
    took_delay = λ k h. absurd (no-wait (is_delay k) offer refl h);
  }

  -- main ends without a note
  acts-main : {σ κ : Task} → offer_of σ ≡ Ends → (t == 0) ≡ true → can_step κ ≡ false → offer_of κ ≡ Ends → ActsAlike f t σ κ
  acts-main offer main rests there = record {
    offers = λ no. record { rests = rests; offers = there ∙ sym (ap (based_offer x.note t) offer ∙ ap (λ b. if b then Ends else telling x.note) main) };
    at_call = λ g e z h. absurd (not-so offer refl h);
    at_finish = λ h. absurd (not-so offer refl h);
    at_end = λ h no. absurd (true≢false (sym main ∙ no));
    accepted = λ e1 z1 h c caller j over. absurd (no-wait (opens e1 z1) offer refl h);
    took_else = λ h. absurd (no-wait is_else offer refl h);
    took_delay = λ k h. absurd (no-wait (is_delay k) offer refl h);
  }

  -- nothing is asked where it aborts a task
  acts-abort : {σ κ : Task} (v : ℕ) → offer_of σ ≡ Aborts v → ActsAlike f t σ κ
  acts-abort v offer = record {
    offers = λ no. absurd (no v offer);
    at_call = λ g e z h. absurd (not-so offer refl h);
    at_finish = λ h. absurd (not-so offer refl h);
    at_end = λ h no. absurd (not-so offer refl h);
    accepted = λ e1 z1 h c caller j over. absurd (no-wait (opens e1 z1) offer refl h);
    took_else = λ h. absurd (no-wait is_else offer refl h);
    took_delay = λ k h. absurd (no-wait (is_delay k) offer refl h);
  }

  name-offers : (r : Result ℕ Raised) → steps_at (name_stand r) ≡ false → (v : ℕ) × (offered (name_stand r) ≡ Aborts v)
  name-offers (Ok v) e = (v, refl)
  name-offers (Err a) e = absurd (true≢false e)

  -- ---- at a statement

  rows-behind : (a d : PStmts) (s : Span) → OldStmts (only_names x.programs) d → Telling (only_names x.programs) X d (rewritten walk d (after_stmts walk a 0))
  rows-behind a d s old = subst (λ n. Telling (only_names x.programs) X d (rewritten walk d n)) (sym (still_stmts X a 0)) (rows (only_names x.programs) X old)

  module _ (i : List ℤ) (w : List ℕ) (r r' : PStmts) (im : Telling (only_names x.programs) (teller x t) r r') {q q' : Around} {o o' : List PFrame} {V W : Variables} (v : Under (unit_translation x t) q o V q' o' W) where
    abbrev left : PStmt → Task
    left s = task_in (form x) t i w (control (stmt_then s r) q o V)

    abbrev right : PStmt → Task
    right s = task_in (text x) t i w (control (in_front (image_of walk s 0) r') q' o' W)

    at-abort : {cs : List PCallee} (s : Span) → OldCallees (only_names x.programs) cs → can_step (left (SAbort cs s)) ≡ false → ActsAlike f t (left (SAbort cs s)) (right (SAbort cs s))
    at-abort s old_no_callee rests = absurd (true≢false rests)
    at-abort s (old_callee c rest h k more) rests = let a = name-offers (callee_task (form x) V c) rests in acts-abort a.0 a.1

    wait-image : (alts : PAlts) (m : PMaybe) (s : Span) → image_of walk (SWait alts m s) 0 ≡ wait_image X s (inside_alts walk alts 0) (inside_maybe walk m 0)
    wait-image alts m s =
        ap (λ l. in_front l (wait_image X s (inside_alts walk alts 0) (inside_maybe walk m (after_alts walk alts 0)))) (no-leads X alts 0)
        ∙ ap (λ n. wait_image X s (inside_alts walk alts 0) (inside_maybe walk m n)) (still_alts X alts 0)

    at-stmt : {s : PStmt} → OldStmt (only_names x.programs) s → f.IsSo t (left s) → can_step (left s) ≡ false → ActsAlike f t (left s) (right s)
    at-stmt (old_null s) own rests = absurd (true≢false rests)
    at-stmt (old_assign target e s h k) own rests = absurd (true≢false rests)
    at-stmt (old_delay d s) own rests = absurd (true≢false rests)
    at-stmt (old_exit name test s h) own rests = absurd (true≢false rests)
    at-stmt (old_raise name s) own rests = absurd (true≢false rests)
    at-stmt (old_abort cs s h) own rests = at-abort s h rests
    at-stmt (old_call c s h k) own rests =
        let a = call-offers form_is.Plain (called (form x) V c) rests in acts-call form_is.Plain a.0 a.1 a.2 (plain-tells x can f t i w c s r r' im v h own rests)
    at-stmt (old_conditional c l m s h k j z) own rests =
        let a = call-offers form_is.Conditional (called (form x) V c) rests in
        acts-call form_is.Conditional a.0 a.1 a.2
        (conditional-tells x can f t i w c s r r' im v h l (rewritten walk l 0) m (rewritten walk m (after_stmts walk l 0)) (rows (only_names x.programs) X j) (rows-behind l m s z) own rests)
    at-stmt (old_timed c l d m s h k j z) own rests =
        let a = call-offers form_is.Timed (called (form x) V c) rests in
        acts-call form_is.Timed a.0 a.1 a.2
        (timed-tells x can f t i w c s r r' im v h l (rewritten walk l 0) m (rewritten walk m (after_stmts walk l 0)) d (rows (only_names x.programs) X j) (rows-behind l m s z) own rests)
    at-stmt (old_accept hd m s h k j) own rests = accept-acts x can f t i w hd m (inside_maybe walk m 0) s h (maybe-rows (only_names x.programs) X j) r r' im q q' o o' V W v own rests
    at-stmt (old_wait alts m s ask h k) own rests =
        subst (λ l. ActsAlike f t (left (SWait alts m s)) (task_in (text x) t i w (control (in_front l r') q' o' W))) (sym (wait-image alts m s))
        (waits-act x can f t i w alts (inside_alts walk alts 0) m (inside_maybe walk m 0) s (alts-told x can f t h) (maybe-rows (only_names x.programs) X k) r r' im q q' o o' V W v own rests)
    at-stmt (old_put ps s h) own rests = absurd (true≢false rests)
    at-stmt (old_put_line ps s h) own rests = absurd (true≢false rests)
    at-stmt (old_new_line s) own rests = absurd (true≢false rests)
    at-stmt (old_get target s h) own rests = absurd (true≢false rests)
    at-stmt (old_if arms m s h k) own rests = absurd (true≢false rests)
    at-stmt (old_case e arms m s h k j) own rests = absurd (true≢false rests)
    at-stmt (old_block l hs s h k) own rests = absurd (true≢false rests)
    at-stmt (old_loop name c l s h k) own rests = absurd (true≢false rests)

  -- ---- at an end

  module _ (i : List ℤ) (w : List ℕ) where
    abbrev ended : Around → List PFrame → Variables → Task
    ended q o V = task_in (form x) t i w (control no_stmt q o V)

    abbrev ended' : Around → List PFrame → Variables → Task
    ended' q o V = task_in (text x) t i w (control no_stmt q o V)

    at-floor : (k : ℕ) {q q' : Around} {o o' : List PFrame} {V W : Variables} → CollectFloor (unit_rows x t) (teller x t) (below_at (unit_rows x t) (teller x t) k) q o V q' o' W → HasLeftBlocks (ended' q' o' W) → ActsAlike f t (ended q o V) (ended' q' o' W)
    at-floor k (main_body hs hs' handling V W main im ext there) left = acts-main refl main refl refl
    at-floor k (plain_body s V W task ext there) left = absurd (not-left _ _ _ W _ left)
    at-floor k (handled_body s h h' hs hs' V W task im ext there) left = absurd (not-left _ _ _ W _ left)
    at-floor k (taken_handler s hs e V W task ext there) left = absurd (not-left _ _ _ W _ left)
    at-floor k (accept_body a) left = absurd (not-left _ _ _ _ _ left)

    at-frame : {q q' : Around} {o o' : List PFrame} {V W : Variables} → Under (unit_translation x t) q o V q' o' W → HasLeftBlocks (ended q o V) → HasLeftBlocks (ended' q' o' W) → can_step (ended q o V) ≡ false → ActsAlike f t (ended q o V) (ended' q' o' W)
    at-frame (on_floor g) mine left rests = at-floor g.0 g.1 left
    at-frame (in_block {p = q} {o = o} {V = V} hs hs' r r' h im v) mine left rests = absurd (not-left o r q V (Block hs) mine)
    at-frame (in_handler {p = q} {o = o} {V = V} e r r' im v) mine left rests = absurd (not-left o r q V (Handling e) mine)
    at-frame (in_endless name l l' r r' h im v) mine left rests = absurd (true≢false rests)
    at-frame (in_while name e l l' r r' old h im v) mine left rests = absurd (true≢false rests)
    at-frame (in_count name backwards last l l' r r' b old known h im v) mine left rests = absurd (true≢false rests)

    at-telling : (k : ℕ) {c d : Control} → AtTelling (unit_rows x t) (teller x t) (below_at (unit_rows x t) (teller x t) k) c d → f.IsSo t (task_in (form x) t i w c) → is_null_next d.top.rest ≡ false →
        ActsAlike f t (task_in (form x) t i w c) (task_in (text x) t i w d)
    at-telling k (unit_over s hs taken V W task ext there) own asks = acts-end refl task (unit-tells x can f t i w s hs taken V W there own)
    at-telling k (unit_left s hs taken e V W task ext there) own asks = absurd (true≢false asks)
    at-telling k (body_over a) own asks = acts-finish refl (body-tells x can f t i w k a own)
    at-telling k (body_left e a) own asks = acts-finish refl (left-tells x can f t i w k a e own)

  -- ---- wherever it stands

  follows-acts : (i : List ℤ) (w : List ℕ) {c d : Control} → Follows (unit_translation x t) c d → f.IsSo t (task_in (form x) t i w c) → HasLeftBlocks (task_in (text x) t i w d) → is_null_next d.top.rest ≡ false →
      can_step (task_in (form x) t i w c) ≡ false → ActsAlike f t (task_in (form x) t i w c) (task_in (text x) t i w d)
  follows-acts i w (inside _ _ telling_none v) own left asks rests = at-frame i w v (f.left t _ own) left rests
  follows-acts i w (inside _ _ (telling_then s r r' old im) v) own left asks rests = at-stmt i w r r' im v old own rests
  follows-acts i w (behind c d a) own left asks rests = at-telling i w a.0 a.1 own asks

  acts-alike : (σ κ : Task) → Alike y σ κ → σ.number ≡ t → f.IsSo t σ → HasLeftBlocks κ → (can_step σ ≡ false → is_null_next (rest_of κ) ≡ false) → can_step σ ≡ false → ActsAlike f t σ κ
  acts-alike σ κ (alike n i w c d follows) is own left asks rests =
      subst (λ m. f.IsSo t (task_in (form x) m i w c) → HasLeftBlocks (task_in (text x) m i w d) → is_null_next d.top.rest ≡ false → can_step (task_in (form x) m i w c) ≡ false →
      ActsAlike f t (task_in (form x) m i w c) (task_in (text x) m i w d)) (sym is) (follows-acts i w follows) own left (asks rests) rests

  acts : (σ κ : Task) → IsBased f t σ κ → can_step σ ≡ false → ActsAlike f t σ κ
  acts σ κ based rests = acts-alike σ κ based.pair.alike (f.number t σ based.pair.own) based.pair.own based.pair.left based.rests rests

pub tells_alike : (x : Texts) → CanTell x → (f : Form x) → TellsAlike f
tells_alike x can f = record { comes = λ t σ κ pair. comes x can t f σ κ pair; steps = λ t σ κ based e. steps x can t f σ κ based e; acts = λ t σ κ based rests. acts x can f t σ κ based rests }
