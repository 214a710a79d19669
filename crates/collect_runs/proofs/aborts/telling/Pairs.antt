-- Pairs come to where they are based.
use Rattle.std.proofs.Common.{true≢false, ◌≡◌, ℕ, ℤ, ◌≤◌, Bool, true, false, List, [], ◌∷◌, refl, sym, subst}
use Rattle.ada_tree.specs.PlainStmt.{SNull, PStmt, PStmts, stmt_then}
use Rattle.ada_value.specs.Variables.{Variables}
use Rattle.task_model.specs.Frames.{Around, Handling, PFrame, Control, control, in_front}
use Rattle.task_model.specs.Tasks.{Task}
use Rattle.task_model.specs.Stands.{can_step, stepped}
use Rattle.task_laws.specs.translation.OldTexts.{only_names, OldStmt, old_null, old_assign, old_delay, old_exit, old_raise, old_abort, old_call, old_accept, old_wait, old_conditional, old_timed, old_put, old_put_line, old_new_line, old_get, old_if, old_case, old_block, old_loop, old_no_callee, old_callee}
use Rattle.task_laws.specs.translation.Controls.{task_in, Follows, Alike, alike, inside, behind, Under}
use Rattle.task_laws.proofs.statements.Blocks.{tasks_leave_blocks}
use Rattle.normal_model.specs.Making.{one}
use Rattle.normal_model.specs.Walk.{after_parts, image_of}
use Rattle.normal_laws.specs.runs.floors.NormalFloors.{no_floor}
use Rattle.normal_laws.specs.runs.floors.Preludes.{reaches_here, reaches_by}
use Rattle.collect_runs.specs.translation.Floors.{unit_frame, AtTelling, unit_over, unit_left, body_over, body_left}
use Rattle.collect_runs.specs.telling.Meetings.{ComesTo}
use Rattle.collect_runs.proofs.telling.Noting.{here}
use Rattle.collect_model.specs.aborts.Places.{with_place}
use Rattle.collect_model.specs.aborts.AbortStmts.{abort_rewriter}
use Rattle.collect_runs.specs.aborts.translation.Rows.{Telling, telling_none, telling_then, telling_rows}
use Rattle.collect_runs.specs.aborts.translation.Floors.{OpenPlace, innermost, beyond_at}
use Rattle.collect_runs.specs.aborts.telling.Texts.{Texts, form, text, teller, unit_translation}
use Rattle.collect_runs.specs.aborts.telling.Forms.{Form}
use Rattle.collect_runs.specs.aborts.telling.Meetings.{ArePaired, StandAlike, they_move, they_rest, IsPair, IsBased}
use Rattle.collect_runs.proofs.aborts.telling.Trying.{accept-tries, wait-tries}

module _ (x : Texts) (f : Form x) (t : ℕ) where
  -- at a statement
  at-stmt : (ps : List OpenPlace) (i : List ℤ) (w : List ℕ) {s : PStmt} → OldStmt (only_names x.programs) s → (n : ℕ) → innermost ps ≤ n →
      after_parts (abort_rewriter (teller x t)) s (with_place n s) ≤ x.places t → (r r' : PStmts) → Telling (only_names x.programs) (teller x t) (innermost ps) (x.places t) r r' →
      {q q' : Around} {o o' : List PFrame} {V W : Variables} → Under (unit_translation x t ps) q o V q' o' W →
      ArePaired f t ps (task_in (form x) t i w (control (stmt_then s r) q o V)) (task_in (text x) t i w (control (in_front (image_of (abort_rewriter (teller x t)) s n) r') q' o' W)) →
      can_step (task_in (form x) t i w (control (stmt_then s r) q o V)) ≡ false →
      ComesTo (StandAlike f t ps (task_in (form x) t i w (control (stmt_then s r) q o V))) (task_in (text x) t i w (control (in_front (image_of (abort_rewriter (teller x t)) s n) r') q' o' W))
  at-stmt ps i w (old_null s) n from to r r' im v pair rests = absurd (true≢false rests)
  at-stmt ps i w (old_assign target e s h k) n from to r r' im v pair rests = here _ (they_rest pair rests refl refl)
  at-stmt ps i w (old_delay d s) n from to r r' im v pair rests = here _ (they_rest pair rests refl refl)
  at-stmt ps i w (old_exit name test s h) n from to r r' im v pair rests = here _ (they_rest pair rests refl refl)
  at-stmt ps i w (old_raise name s) n from to r r' im v pair rests = here _ (they_rest pair rests refl refl)
  at-stmt ps i w (old_abort cs s old_no_callee) n from to r r' im v pair rests = here _ (they_rest pair rests refl refl)
  at-stmt ps i w (old_abort cs s (old_callee c more h k old_no_callee)) n from to r r' im v pair rests = here _ (they_rest pair rests refl refl)
  at-stmt ps i w (old_abort cs s (old_callee c more h k (old_callee d rest j l m))) n from to r r' im v pair rests = here _ (they_rest pair rests refl refl)
  at-stmt ps i w (old_call c s h k) n from to r r' im v pair rests = here _ (they_rest pair rests refl refl)
  at-stmt ps i w (old_accept head m s h k j) n from to r r' im v pair rests =
      accept-tries x t ps i w r r' im v n from f pair.places pair.keeps _ s (old_accept head m s h k j) to pair.own rests
  at-stmt ps i w (old_wait alts m s h k j) n from to r r' im v pair rests =
      wait-tries x t ps i w r r' im v n from f pair.places pair.keeps alts m s (old_wait alts m s h k j) to pair.own rests
  at-stmt ps i w (old_conditional c l m s h k j z) n from to r r' im v pair rests = here _ (they_rest pair rests refl refl)
  at-stmt ps i w (old_timed c l d m s h k j z) n from to r r' im v pair rests = here _ (they_rest pair rests refl refl)
  at-stmt ps i w (old_put parts s h) n from to r r' im v pair rests = here _ (they_rest pair rests refl refl)
  at-stmt ps i w (old_put_line parts s h) n from to r r' im v pair rests = here _ (they_rest pair rests refl refl)
  at-stmt ps i w (old_new_line s) n from to r r' im v pair rests = here _ (they_rest pair rests refl refl)
  at-stmt ps i w (old_get target s h) n from to r r' im v pair rests = here _ (they_rest pair rests refl refl)
  at-stmt ps i w (old_if arms m s h k) n from to r r' im v pair rests = here _ (they_rest pair rests refl refl)
  at-stmt ps i w (old_case e arms m s h k j) n from to r r' im v pair rests = here _ (they_rest pair rests refl refl)
  at-stmt ps i w (old_block l hs s h k) n from to r r' im v pair rests = here _ (they_rest pair rests refl refl)
  at-stmt ps i w (old_loop name c l s h k) n from to r r' im v pair rests = here _ (they_rest pair rests refl refl)

  -- behind the statements of a unit, also where an exception has left them
  at-telling : (n : ℕ) (i : List ℤ) (w : List ℕ) {c d : Control} → AtTelling (telling_rows (only_names x.programs) (teller x t) 0 (x.places t)) (teller x t).teller no_floor c d →
      ArePaired f t [] (task_in (form x) n i w c) (task_in (text x) n i w d) → can_step (task_in (form x) n i w c) ≡ false →
      ComesTo (StandAlike f t [] (task_in (form x) n i w c)) (task_in (text x) n i w d)
  at-telling n i w (unit_over s hs taken V V' task ext there) pair rests = here _ (they_rest pair rests refl refl)
  at-telling n i w (unit_left s hs taken a V V' task ext there) pair rests =
      let κ : Task = task_in (text x) n i w (control (one (SNull s)) (Handling a) (unit_frame (teller x t).teller s ∷ []) V') in
      record {
        reached = stepped κ;
        reach = reaches_by κ (stepped κ) refl refl (reaches_here (stepped κ));
        is = they_rest (record {
          own = pair.own;
          alike = alike n i w _ _ (behind _ _ (unit_over s hs taken V V' task ext there));
          left = (tasks_leave_blocks κ pair.left).stepped;
          places = pair.places;
          keeps = pair.keeps;
        }) rests refl refl;
      }
  at-telling n i w (body_over a) pair rests = absurd a.below
  at-telling n i w (body_left e a) pair rests = absurd a.below

  at-beyond : (ps : List OpenPlace) (n : ℕ) (i : List ℤ) (w : List ℕ) (c d : Control) → beyond_at (only_names x.programs) (teller x t) (x.places t) ps c d →
      ArePaired f t ps (task_in (form x) n i w c) (task_in (text x) n i w d) → can_step (task_in (form x) n i w c) ≡ false →
      ComesTo (StandAlike f t ps (task_in (form x) n i w c)) (task_in (text x) n i w d)
  at-beyond [] n i w c d b pair rests = at-telling n i w b pair rests
  at-beyond (p ∷ ps) n i w c d b pair rests = elim b [ ]

  -- ---- wherever it stands

  follows-comes : (ps : List OpenPlace) (i : List ℤ) (w : List ℕ) {c d : Control} → Follows (unit_translation x t ps) c d →
      ArePaired f t ps (task_in (form x) t i w c) (task_in (text x) t i w d) →
      can_step (task_in (form x) t i w c) ≡ false → ComesTo (StandAlike f t ps (task_in (form x) t i w c)) (task_in (text x) t i w d)
  follows-comes ps i w (inside _ _ telling_none v) pair rests = here _ (they_rest pair rests refl refl)
  follows-comes ps i w (inside _ _ (telling_then s r r' n old from to im) v) pair rests = at-stmt ps i w old n from to r r' im v pair rests
  follows-comes ps i w (behind c d b) pair rests = at-beyond ps t i w c d b pair rests

  alike-comes : (ps : List OpenPlace) (σ κ : Task) → Alike (unit_translation x t ps) σ κ → σ.number ≡ t → ArePaired f t ps σ κ → can_step σ ≡ false → ComesTo (StandAlike f t ps σ) κ
  alike-comes ps σ κ (alike n i w c d follows) is =
      subst (λ m. ArePaired f t ps (task_in (form x) m i w c) (task_in (text x) m i w d) → can_step (task_in (form x) m i w c) ≡ false →
      ComesTo (StandAlike f t ps (task_in (form x) m i w c)) (task_in (text x) m i w d)) (sym is) (follows-comes ps i w follows)

  pub paired-comes : (ps : List OpenPlace) (σ κ : Task) → ArePaired f t ps σ κ → ComesTo (StandAlike f t ps σ) κ
  paired-comes ps σ κ pair = go (can_step σ) refl
    where
      go : (b : Bool) → can_step σ ≡ b → ComesTo (StandAlike f t ps σ) κ
      go true steps = here κ (they_move pair steps)
      go false rests = alike-comes ps σ κ pair.alike (f.plainly.number t σ pair.own) pair rests

  -- Each pair comes to where it is based.
  pub comes : (σ κ : Task) → IsPair f t σ κ → ComesTo (IsBased f t σ) κ
  comes σ κ pair =
      let c : ComesTo (StandAlike f t pair.opened pair.like) κ = paired-comes pair.opened pair.like κ pair.paired in
      record { reached = c.reached; reach = c.reach; is = record { opened = pair.opened; like = pair.like; is_like = pair.is_like; stands = c.is } }
