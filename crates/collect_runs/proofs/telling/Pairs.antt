-- Pairs come to where they are based, and take local steps.
use Rattle.std.proofs.Common.{◌≡◌, ℕ, ℤ, Bool, true, false, List, [], ◌∷◌, refl, sym, ap, ◌∙◌, true≢false}
use Rattle.ada_tree.specs.PlainStmt.{PStmt, SNull, PStmts, no_stmt, stmt_then}
use Rattle.ada_value.specs.declared.values.Raised.{Raised}
use Rattle.ada_value.specs.Variables.{Variables}
use Rattle.task_model.specs.Frames.{Around, Block, Handling, PFrame, Control, control, in_front, settled, raised_in}
use Rattle.task_model.specs.Tasks.{Task, rest_of, gone_to, raised_there}
use Rattle.task_model.specs.Stands.{Steps, stand_of, can_step, stepped}
use Rattle.task_laws.specs.statements.Blocks.{HasLeftBlocks}
use Rattle.task_laws.proofs.statements.Blocks.{tasks_leave_blocks}
use Rattle.task_laws.specs.translation.Translations.{Translation}
use Rattle.task_laws.specs.translation.OldTexts.{only_names, OldStmt, old_null, old_assign, old_delay, old_exit, old_raise, old_abort, old_call, old_accept, old_wait, old_conditional, old_timed, old_put, old_put_line, old_new_line, old_get, old_if, old_case, old_block, old_loop}
use Rattle.task_laws.specs.translation.Controls.{task_in, Under, on_floor, in_block, in_handler, in_endless, in_while, in_count, inside, behind, Alike, alike, IsAtLocal, at_statement, at_turn, are_inside, StepAlike}
use Rattle.task_laws.specs.translation.Floors.{IsTranslation}
use Rattle.task_laws.proofs.translation.Locals.{step-in-loops, go-there, raise-there}
use Rattle.normal_model.specs.Making.{one}
use Rattle.normal_model.specs.Walk.{image_of, after_alts, inside_alts, inside_maybe}
use Rattle.normal_laws.specs.runs.floors.Preludes.{reaches_here, reaches_by}
use Rattle.collect_model.specs.Waiting.{wait_image}
use Rattle.collect_model.specs.CollectStmts.{collect_rewriter}
use Rattle.collect_runs.specs.translation.Rows.{Telling, telling_none, telling_then}
use Rattle.collect_runs.specs.translation.Floors.{unit_frame, CollectFloor, main_body, plain_body, handled_body, taken_handler, accept_body, AtTelling, unit_over, unit_left, body_over, body_left, below_at}
use Rattle.collect_runs.proofs.translation.Kept.{no-leads}
use Rattle.collect_runs.proofs.translation.Carried.{translates, collect_is_closed}
use Rattle.collect_runs.specs.telling.Texts.{Texts, form, text, teller, unit_rows, unit_translation, CanTell}
use Rattle.collect_runs.specs.telling.Forms.{Form}
use Rattle.collect_runs.specs.telling.Meetings.{ComesTo, is_null_next, IsPair, IsBased}
use Rattle.collect_runs.proofs.telling.Standing.{is_plain}
use Rattle.collect_runs.proofs.telling.Noting.{here}
use Rattle.replay_runs.proofs.controls.meanings.Pairs.{not-left, plain}

module _ (x : Texts) (can : CanTell x) (t : ℕ) where
  abbrev y : Translation
  y = unit_translation x t

  pub laws : IsTranslation (unit_translation x t)
  laws = translates (only_names x.programs) (teller x t) can.names can.types

  abbrev B : ℕ → Around → List PFrame → Variables → Around → List PFrame → Variables → Type 0
  B k = below_at (unit_rows x t) (teller x t) k

  -- ---- local steps

  -- at the end of a frame
  at-end : (k : ℕ) {q q' : Around} {o o' : List PFrame} {V V' : Variables} → CollectFloor (unit_rows x t) (teller x t) (B k) q o V q' o' V' → (n : ℕ) (i : List ℤ) (w : List ℕ) →
      stand_of (task_in (form x) n i w (control no_stmt q o V)) ≡ Steps → ⊥
  at-end k (main_body hs hs' handling V V' main im ext there) n i w e = true≢false (sym (ap is_plain e))
  at-end k (plain_body s V V' task ext there) n i w e = true≢false (sym (ap is_plain e))
  at-end k (handled_body s h h' hs hs' V V' task im ext there) n i w e = true≢false (sym (ap is_plain e))
  at-end k (taken_handler s hs a V V' task ext there) n i w e = true≢false (sym (ap is_plain e))
  at-end k (accept_body a) n i w e = true≢false (sym (ap is_plain e))

  at-frame : (n : ℕ) (i : List ℤ) (w : List ℕ) {q q' : Around} {o o' : List PFrame} {V V' : Variables} → Under y q o V q' o' V' →
      HasLeftBlocks (task_in (form x) n i w (control no_stmt q o V)) → stand_of (task_in (form x) n i w (control no_stmt q o V)) ≡ Steps → IsAtLocal no_stmt q
  at-frame n i w (on_floor f) left e = absurd (at-end f.0 f.1 n i w e)
  at-frame n i w (in_block {p = q} {o = o} {V = V} hs hs' r r' h im v) left e = absurd (not-left o r q V (Block hs) left)
  at-frame n i w (in_handler {p = q} {o = o} {V = V} a r r' im v) left e = absurd (not-left o r q V (Handling a) left)
  at-frame n i w (in_endless name l l' r r' h im v) left e = at_turn name _ l
  at-frame n i w (in_while name a l l' r r' old h im v) left e = at_turn name _ l
  at-frame n i w (in_count name backwards last l l' r r' b old known h im v) left e = at_turn name _ l

  at-local : (n : ℕ) (i : List ℤ) (w : List ℕ) {r r' : PStmts} → Telling (only_names x.programs) (teller x t) r r' → {q q' : Around} {o o' : List PFrame} {V V' : Variables} → Under y q o V q' o' V' →
      HasLeftBlocks (task_in (form x) n i w (control r q o V)) → stand_of (task_in (form x) n i w (control r q o V)) ≡ Steps → IsAtLocal r q
  at-local n i w telling_none v left e = at-frame n i w v left e
  at-local n i w (telling_then s r r' old im) {q} {q'} {o} {o'} {V} v left e = at_statement s r q (plain (task_in (form x) n i w (control (stmt_then s r) q o V)) s e)

  -- behind its statements a task has no local step
  at-telling : (k n : ℕ) (i : List ℤ) (w : List ℕ) {c d : Control} → AtTelling (unit_rows x t) (teller x t) (B k) c d → stand_of (task_in (form x) n i w c) ≡ Steps → ⊥
  at-telling k n i w (unit_over s hs taken V V' task ext there) e = true≢false (sym (ap is_plain e))
  at-telling k n i w (unit_left s hs taken a V V' task ext there) e = true≢false (sym (ap is_plain e))
  at-telling k n i w (body_over a) e = true≢false (sym (ap is_plain e))
  at-telling k n i w (body_left a b) e = true≢false (sym (ap is_plain e))

  module _ (f : Form x) where
    alike-step : (σ κ : Task) → f.IsSo t σ → Alike y σ κ → stand_of σ ≡ Steps → StepAlike y σ κ
    alike-step σ κ own (alike n i w c d (inside r r' im v)) e =
        step-in-loops y laws (collect_is_closed x.programs (teller x t)) σ κ (are_inside n i w r r' im v) (at-local n i w im v (f.left t σ own) e) (f.exits t σ own)
    alike-step σ κ own (alike n i w c d (behind c1 d1 a)) e = absurd (at-telling a.0 n i w a.1 e)

    -- ---- to where the image is based

    -- a statement at which a task has no local step has no `null` in its place
    not-null : {s : PStmt} → OldStmt (only_names x.programs) s → (n : ℕ) (i : List ℤ) (w : List ℕ) (r r' : PStmts) (q : Around) (o : List PFrame) (V : Variables) →
        can_step (task_in (form x) n i w (control (stmt_then s r) q o V)) ≡ false → is_null_next (in_front (image_of (collect_rewriter (teller x t)) s 0) r') ≡ false
    not-null (old_null s) n i w r r' q o V rests = absurd (true≢false rests)
    not-null (old_assign target e s h k) n i w r r' q o V rests = refl
    not-null (old_delay d s) n i w r r' q o V rests = refl
    not-null (old_exit name test s h) n i w r r' q o V rests = refl
    not-null (old_raise name s) n i w r r' q o V rests = refl
    not-null (old_abort cs s h) n i w r r' q o V rests = refl
    not-null (old_call c s h k) n i w r r' q o V rests = refl
    not-null (old_accept head m s h k j) n i w r r' q o V rests = refl
    not-null (old_wait alts m s h k j) n i w r r' q o V rests =
        ap (λ l. is_null_next (in_front (in_front l (wait_image (teller x t) s (inside_alts (collect_rewriter (teller x t)) alts 0) (inside_maybe (collect_rewriter (teller x t)) m (after_alts (collect_rewriter (teller x t)) alts 0)))) r'))
        (no-leads (teller x t) alts 0)
    not-null (old_conditional c l m s h k j z) n i w r r' q o V rests = refl
    not-null (old_timed c l d m s h k j z) n i w r r' q o V rests = refl
    not-null (old_put ps s h) n i w r r' q o V rests = refl
    not-null (old_put_line ps s h) n i w r r' q o V rests = refl
    not-null (old_new_line s) n i w r r' q o V rests = refl
    not-null (old_get target s h) n i w r r' q o V rests = refl
    not-null (old_if arms m s h k) n i w r r' q o V rests = refl
    not-null (old_case e arms m s h k j) n i w r r' q o V rests = refl
    not-null (old_block l hs s h k) n i w r r' q o V rests = refl
    not-null (old_loop name c l s h k) n i w r r' q o V rests = refl

    -- behind the statements it is so where an exception has left those of a unit
    leaves-behind : (k n : ℕ) (i : List ℤ) (w : List ℕ) {c d : Control} → AtTelling (unit_rows x t) (teller x t) (B k) c d → IsPair f t (task_in (form x) n i w c) (task_in (text x) n i w d) →
        is_null_next d.top.rest ≡ true → ComesTo (IsBased f t (task_in (form x) n i w c)) (task_in (text x) n i w d)
    leaves-behind k n i w (unit_over s hs taken V V' task ext there) pair null = absurd (true≢false (sym null))
    leaves-behind k n i w (unit_left s hs taken a V V' task ext there) pair null =
        let κ : Task = task_in (text x) n i w (control (one (SNull s)) (Handling a) (unit_frame (teller x t) s ∷ []) V') in
        record {
          reached = stepped κ;
          reach = reaches_by κ (stepped κ) refl refl (reaches_here (stepped κ));
          is = record {
            pair = record { own = pair.own; alike = alike n i w _ _ (behind _ _ (k, unit_over s hs taken V V' task ext there)); left = (tasks_leave_blocks κ pair.left).stepped };
            rests = λ h. refl;
          };
        }
    leaves-behind k n i w (body_over a) pair null = absurd (true≢false (sym null))
    leaves-behind k n i w (body_left e a) pair null = absurd (true≢false (sym null))

    -- where the image is before `null` it leaves the handler that caught an exception
    leaves-null : (σ κ : Task) → IsPair f t σ κ → Alike y σ κ → can_step σ ≡ false → is_null_next (rest_of κ) ≡ true → ComesTo (IsBased f t σ) κ
    leaves-null σ κ pair (alike n i w c d (inside r r' telling_none v)) rests null = absurd (true≢false (sym null))
    leaves-null σ κ pair (alike n i w c d (inside {p} {p'} {o} {o'} {V} {V'} _ _ (telling_then s r r' old im) v)) rests null = absurd (true≢false (sym null ∙ not-null old n i w r r' p o V rests))
    leaves-null σ κ pair (alike n i w c d (behind _ _ a)) rests null = leaves-behind a.0 n i w a.1 pair null

    pub comes : (σ κ : Task) → IsPair f t σ κ → ComesTo (IsBased f t σ) κ
    comes σ κ pair = go (can_step σ) refl (is_null_next (rest_of κ)) refl
      where
        go : (a : Bool) → can_step σ ≡ a → (b : Bool) → is_null_next (rest_of κ) ≡ b → ComesTo (IsBased f t σ) κ
        go true can' b null = here κ (record { pair = pair; rests = λ h. absurd (true≢false (sym can' ∙ h)) })
        go false rests true null = leaves-null σ κ pair pair.alike rests null
        go false rests false null = here κ (record { pair = pair; rests = λ h. null })

    pub steps : (σ κ : Task) → IsBased f t σ κ → stand_of σ ≡ Steps → (can_step κ ≡ true) × ComesTo (IsBased f t (stepped σ)) (stepped κ)
    steps σ κ based e =
        let s = alike-step σ κ based.pair.own based.pair.alike e in
        (s.steps_too, comes (stepped σ) (stepped κ) (record { own = (f.stays t σ based.pair.own).stepped; alike = s.after; left = (tasks_leave_blocks κ based.pair.left).stepped }))

    -- ---- going on behind a statement, or as an exception is raised

    -- wherever it goes on a task stands at the end of no block
    gone-left : (i : List ℤ) (w : List ℕ) (r rest : PStmts) (q : Around) (o : List PFrame) (V : Variables) → HasLeftBlocks (gone_to rest (task_in (text x) t i w (control r q o V)))
    gone-left i w r rest q o V = (tasks_leave_blocks (task_in (text x) t i w (control (stmt_then (SNull (record { start = 0; end = 0 })) rest) q o V)) refl).stepped

    pub row-comes : (i : List ℤ) (w : List ℕ) (r0 r0' r r' : PStmts) {q q' : Around} {o o' : List PFrame} {V V' : Variables} → Telling (only_names x.programs) (teller x t) r r' → Under y q o V q' o' V' →
        f.IsSo t (gone_to r (task_in (form x) t i w (control r0 q o V))) →
        ComesTo (IsBased f t (gone_to r (task_in (form x) t i w (control r0 q o V)))) (gone_to r' (task_in (text x) t i w (control r0' q' o' V')))
    row-comes i w r0 r0' r r' {q} {q'} {o} {o'} {V} {V'} im v own =
        comes _ _ (record { own = own; alike = go-there y laws t i w r0 r0' r r' im v; left = gone-left i w r0' r' q' o' V' })

    raised-left : (e : Raised) (i : List ℤ) (w : List ℕ) (r : PStmts) (q : Around) (o : List PFrame) (V : Variables) → HasLeftBlocks (raised_there e (task_in (text x) t i w (control r q o V)))
    raised-left e i w r q o V = settled-twice (raised_in e o q V)
      where
        settled-twice : (c : Control) → settled (settled c) ≡ settled c
        settled-twice c = gone-left i w no_stmt c.top.rest c.top.place c.outer c.vars

    pub raise-comes : (e : Raised) (i : List ℤ) (w : List ℕ) (r r' : PStmts) {q q' : Around} {o o' : List PFrame} {V V' : Variables} → Under y q o V q' o' V' →
        f.IsSo t (raised_there e (task_in (form x) t i w (control r q o V))) →
        ComesTo (IsBased f t (raised_there e (task_in (form x) t i w (control r q o V)))) (raised_there e (task_in (text x) t i w (control r' q' o' V')))
    raise-comes e i w r r' {q} {q'} {o} {o'} {V} {V'} v own =
        comes _ _ (record { own = own; alike = raise-there y laws t i w r r' v e; left = raised-left e i w r' q' o' V' })
