-- A task of the normal form that is alike comes, by local steps that write nothing, to where the program's task stands.
use Rattle.std.proofs.Common.{◌≡◌, ℕ, zero, suc, ℤ, List, [], refl}
use Rattle.ada_tree.specs.PlainDecl.{PDecl}
use Rattle.ada_tree.specs.PlainStmt.{PStmt, SConditional, STimed, PStmts, no_stmt, stmt_then}
use Rattle.ada_value.specs.Variables.{Variables}
use Rattle.task_model.specs.Frames.{Around, PFrame, control, in_front}
use Rattle.task_model.specs.Tasks.{Task}
use Rattle.task_model.specs.Stands.{Steps, stand_of}
use Rattle.normal_model.specs.Calls.{call_subtypes, select_subtypes}
use Rattle.normal_model.specs.Variables.{statement_variables}
use Rattle.normal_model.specs.Walk.{after_stmts, image_of}
use Rattle.normal_model.specs.NormalStmts.{normal_rewriter}
use Rattle.normal_model.proofs.VariablesLemmas.{normal-adds, stmts-begin}
use Rattle.task_laws.specs.translation.Translations.{Translation}
use Rattle.task_laws.specs.translation.OldTexts.{OldStmt, old_null, old_assign, old_delay, old_exit, old_raise, old_abort, old_call, old_accept, old_wait, old_conditional, old_timed, old_put, old_put_line, old_new_line, old_get, old_if, old_case, old_block, old_loop, old_no_callee, old_callee}
use Rattle.task_laws.specs.translation.Images.{IsLocal, local_null, local_assign, local_delay, local_exit, local_raise, local_no_abort, local_put, local_put_line, local_new_line, local_get, local_if, local_case, local_block, local_loop, image_null, image_assign, image_delay, image_exit, image_raise, image_no_abort, image_put, image_put_line, image_new_line, image_get, image_if, image_case, image_block, image_loop, ImageList, image_list}
use Rattle.task_laws.specs.translation.Controls.{task_in, Under, on_floor, in_block, in_handler, in_endless, in_while, in_count, inside, behind, Alike, alike, at_statement, at_turn, are_inside, are_around}
use Rattle.task_laws.specs.translation.Floors.{AreExits, IsTranslation}
use Rattle.task_laws.proofs.translation.Locals.{step-alike}
use Rattle.normal_laws.specs.runs.floors.Suited.{AreMade, Rewritten, rewritten_unit, asked_of}
use Rattle.normal_laws.specs.runs.floors.NormalLists.{Begin, behind_stmt, Normal, normal_none, normal_then, normal_lists}
use Rattle.normal_laws.specs.runs.floors.NormalFloors.{own_body, accept_body, floor_at, normal}
use Rattle.normal_laws.specs.runs.floors.Meetings.{is_opened}
use Rattle.normal_laws.specs.runs.floors.Preludes.{reaches_here, Added}
use Rattle.normal_laws.specs.runs.floors.Declared.{AreDeclared}
use Rattle.normal_laws.specs.runs.floors.inner.Met.{Meets, in_step, at_finish, at_end, Comes}
use Rattle.normal_laws.proofs.runs.floors.Rows.{part-begins, walked, normal-images}
use Rattle.normal_laws.proofs.runs.floors.Floors.{normal-translates, normal-exits, are-there}
use Rattle.normal_laws.proofs.runs.floors.Declared.{begun-subtypes}
use Rattle.normal_laws.proofs.runs.calls.CallForms.{conditional, timed}
use Rattle.normal_laws.proofs.runs.calls.Standing.{plain-comes}
use Rattle.normal_laws.proofs.runs.calls.Selecting.{select-comes}
use Rattle.normal_laws.proofs.runs.waits.Waiting.{accept-comes, wait-comes}
use Rattle.normal_laws.proofs.runs.waits.Aborting.{abort-comes}

module _ (w : Rewritten) (made : AreMade w.programs) (added : Added w.programs w.programs.original) (declared : AreDeclared w added) where
  abbrev x : Translation
  x = normal (normal_lists w) added

  abbrev laws : IsTranslation x
  laws = normal-translates (normal_lists w) (normal-images w) made.types added

  abbrev exits : AreExits x
  exits = normal-exits (normal_lists w) (normal-images w) made.types added

  abbrev left : ℕ → List ℤ → List ℕ → PStmts → Around → List PFrame → Variables → Task
  left n i out r p o V = task_in w.programs.original n i out (control r p o V)

  abbrev right : ℕ → List ℤ → List ℕ → PStmts → Around → List PFrame → Variables → Task
  right n i out r p o W = task_in w.programs.made n i out (control r p o W)

  at-once : {σ κ : Task} → Meets x σ κ → Comes x σ κ
  at-once {σ} {κ} meets = record { reached = κ; reach = reaches_here κ; meets = meets }

  -- ---- the end of a frame

  floor-end : (k : ℕ) (n : ℕ) (i : List ℤ) (out : List ℕ) {p p' : Around} {o o' : List PFrame} {V W : Variables} → floor_at (normal_lists w) added k p o V p' o' W → Under x p o V p' o' W →
      Meets x (left n i out no_stmt p o V) (right n i out no_stmt p' o' W)
  floor-end zero n i out (own_body hs hs' taken V W h ext there) u = at_end refl refl (are_inside n i out no_stmt no_stmt normal_none u)
  floor-end zero n i out (accept_body q q' a a' V1 W1 caller formals pending r r' bs own im below) u = absurd below
  floor-end (suc k) n i out (own_body hs hs' taken V W h ext there) u = at_end refl refl (are_inside n i out no_stmt no_stmt normal_none u)
  floor-end (suc k) n i out (accept_body q q' a a' V1 W1 caller formals pending r r' bs own im below) u =
      at_finish refl refl (are_inside n i out no_stmt no_stmt normal_none u) (is_opened caller formals pending)

  frame-end : (n : ℕ) (i : List ℤ) (out : List ℕ) {p p' : Around} {o o' : List PFrame} {V W : Variables} → Under x p o V p' o' W → Meets x (left n i out no_stmt p o V) (right n i out no_stmt p' o' W)
  frame-end n i out (on_floor f) = floor-end f.0 n i out f.1 (on_floor f)
  frame-end n i out (in_block hs hs' r r' h im u) =
      in_step refl refl (are_around n i out no_stmt no_stmt (in_block hs hs' r r' h im u)) (record { steps = refl; steps_too = refl; after = alike n i out _ _ (inside no_stmt no_stmt normal_none (in_block hs hs' r r' h im u)) })
  frame-end n i out (in_handler e r r' im u) =
      in_step refl refl (are_around n i out no_stmt no_stmt (in_handler e r r' im u)) (record { steps = refl; steps_too = refl; after = alike n i out _ _ (inside no_stmt no_stmt normal_none (in_handler e r r' im u)) })
  frame-end n i out (in_endless name l l' r r' h im u) =
      let v : Under x _ _ _ _ _ _ = in_endless name l l' r r' h im u in
      in_step refl refl (are_around n i out no_stmt no_stmt v) (step-alike x laws exits _ _ (are_inside n i out no_stmt no_stmt normal_none v) (at_turn _ _ _))
  frame-end n i out (in_while name e l l' r r' old h im u) =
      let v : Under x _ _ _ _ _ _ = in_while name e l l' r r' old h im u in
      in_step refl refl (are_around n i out no_stmt no_stmt v) (step-alike x laws exits _ _ (are_inside n i out no_stmt no_stmt normal_none v) (at_turn _ _ _))
  frame-end n i out (in_count name backwards last l l' r r' b old known h im u) =
      let v : Under x _ _ _ _ _ _ = in_count name backwards last l l' r r' b old known h im u in
      in_step refl refl (are_around n i out no_stmt no_stmt v) (step-alike x laws exits _ _ (are_inside n i out no_stmt no_stmt normal_none v) (at_turn _ _ _))

  -- ---- statements

  local-stands : {s : PStmt} → IsLocal s → (n : ℕ) (i : List ℤ) (out : List ℕ) (r : PStmts) (p : Around) (o : List PFrame) (V : Variables) → stand_of (left n i out (stmt_then s r) p o V) ≡ Steps
  local-stands (local_null s) n i out r p o V = refl
  local-stands (local_assign t e s) n i out r p o V = refl
  local-stands (local_delay d s) n i out r p o V = refl
  local-stands (local_exit c t s) n i out r p o V = refl
  local-stands (local_raise c s) n i out r p o V = refl
  local-stands (local_no_abort s) n i out r p o V = refl
  local-stands (local_put ps s) n i out r p o V = refl
  local-stands (local_put_line ps s) n i out r p o V = refl
  local-stands (local_new_line s) n i out r p o V = refl
  local-stands (local_get t s) n i out r p o V = refl
  local-stands (local_if a c s) n i out r p o V = refl
  local-stands (local_case e a c s) n i out r p o V = refl
  local-stands (local_block c s) n i out r p o V = refl
  local-stands (local_loop c t l s) n i out r p o V = refl

  -- the image of a statement that does not synchronize begins with one that does not
  image-stands : {s : PStmt} {r r' : PStmts} → ImageList (normal_lists w) s r r' → (n : ℕ) (i : List ℤ) (out : List ℕ) (p : Around) (o : List PFrame) (W : Variables) → stand_of (right n i out r' p o W) ≡ Steps
  image-stands (image_list s1 s2 r1 r2 (image_null s) im) n i out p o W = refl
  image-stands (image_list s1 s2 r1 r2 (image_assign t e s h k) im) n i out p o W = refl
  image-stands (image_list s1 s2 r1 r2 (image_delay d s) im) n i out p o W = refl
  image-stands (image_list s1 s2 r1 r2 (image_exit c t s h) im) n i out p o W = refl
  image-stands (image_list s1 s2 r1 r2 (image_raise c s) im) n i out p o W = refl
  image-stands (image_list s1 s2 r1 r2 (image_no_abort s) im) n i out p o W = refl
  image-stands (image_list s1 s2 r1 r2 (image_put ps s h) im) n i out p o W = refl
  image-stands (image_list s1 s2 r1 r2 (image_put_line ps s h) im) n i out p o W = refl
  image-stands (image_list s1 s2 r1 r2 (image_new_line s) im) n i out p o W = refl
  image-stands (image_list s1 s2 r1 r2 (image_get t s h) im) n i out p o W = refl
  image-stands (image_list s1 s2 r1 r2 (image_if a a' c c' s h k) im) n i out p o W = refl
  image-stands (image_list s1 s2 r1 r2 (image_case e a a' c c' s h k j) im) n i out p o W = refl
  image-stands (image_list s1 s2 r1 r2 (image_block l l' hs hs' s h k) im) n i out p o W = refl
  image-stands (image_list s1 s2 r1 r2 (image_loop c t l l' s h k) im) n i out p o W = refl

  local-comes : {s : PStmt} → IsLocal s → (n : ℕ) (i : List ℤ) (out : List ℕ) (r r' : PStmts) {p p' : Around} {o o' : List PFrame} {V W : Variables} → Normal w (stmt_then s r) r' → Under x p o V p' o' W →
      Comes x (left n i out (stmt_then s r) p o V) (right n i out r' p' o' W)
  local-comes {s} loc n i out r r' {p} {p'} {o} {o'} {V} {W} im u =
      at-once (in_step (local-stands loc n i out r p o V) (image-stands (laws.images.local s r r' loc im) n i out p' o' W) (are_around n i out (stmt_then s r) r' u) (step-alike x laws exits _ _ (are_inside n i out (stmt_then s r) r' im u) (at_statement s r _ loc)))

  statement-comes : (n : ℕ) → n ≡ w.number → (i : List ℤ) (out : List ℕ) {s : PStmt} → OldStmt (asked_of w) s → (vars : List PDecl) → Begin (behind_stmt w s vars) w.vars → (r r' : PStmts) → Normal w r r' →
      {p p' : Around} {o o' : List PFrame} {V W : Variables} → Under x p o V p' o' W →
      Comes x (left n i out (stmt_then s r) p o V) (right n i out (in_front (image_of (normal_rewriter (rewritten_unit w)) s vars) r') p' o' W)
  statement-comes n e i out (old_null s) vars b r r' im u = local-comes (local_null s) n i out r _ (normal_then vars _ r r' (old_null s) b im) u
  statement-comes n e i out (old_assign t y s h k) vars b r r' im u = local-comes (local_assign t y s) n i out r _ (normal_then vars _ r r' (old_assign t y s h k) b im) u
  statement-comes n e i out (old_delay d s) vars b r r' im u = local-comes (local_delay d s) n i out r _ (normal_then vars _ r r' (old_delay d s) b im) u
  statement-comes n e i out (old_exit c t s h) vars b r r' im u = local-comes (local_exit c t s) n i out r _ (normal_then vars _ r r' (old_exit c t s h) b im) u
  statement-comes n e i out (old_raise c s) vars b r r' im u = local-comes (local_raise c s) n i out r _ (normal_then vars _ r r' (old_raise c s) b im) u
  statement-comes n e i out (old_put ps s h) vars b r r' im u = local-comes (local_put ps s) n i out r _ (normal_then vars _ r r' (old_put ps s h) b im) u
  statement-comes n e i out (old_put_line ps s h) vars b r r' im u = local-comes (local_put_line ps s) n i out r _ (normal_then vars _ r r' (old_put_line ps s h) b im) u
  statement-comes n e i out (old_new_line s) vars b r r' im u = local-comes (local_new_line s) n i out r _ (normal_then vars _ r r' (old_new_line s) b im) u
  statement-comes n e i out (old_get t s h) vars b r r' im u = local-comes (local_get t s) n i out r _ (normal_then vars _ r r' (old_get t s h) b im) u
  statement-comes n e i out (old_if a c s h k) vars b r r' im u = local-comes (local_if a c s) n i out r _ (normal_then vars _ r r' (old_if a c s h k) b im) u
  statement-comes n e i out (old_case y a c s h k j) vars b r r' im u = local-comes (local_case y a c s) n i out r _ (normal_then vars _ r r' (old_case y a c s h k j) b im) u
  statement-comes n e i out (old_block l hs s h k) vars b r r' im u = local-comes (local_block _ s) n i out r _ (normal_then vars _ r r' (old_block l hs s h k) b im) u
  statement-comes n e i out (old_loop c t l s h k) vars b r r' im u = local-comes (local_loop c t l s) n i out r _ (normal_then vars _ r r' (old_loop c t l s h k) b im) u
  statement-comes n e i out (old_abort cs s old_no_callee) vars b r r' im u = local-comes (local_no_abort s) n i out r _ (normal_then vars _ r r' (old_abort [] s old_no_callee) b im) u
  statement-comes n e i out (old_abort cs s (old_callee c ds h a k)) vars b r r' im {p} {p'} {o} {o'} {V} {W} u =
      abort-comes w made added declared n i out p p' o o' V c ds s h a k vars b r r' im W u (are-there (normal_lists w) (normal-images w) made.types added u)
  statement-comes n e i out (old_call c s h a) vars b r r' im {p} {p'} {o} {o'} {V} {W} u =
      plain-comes x laws made added s c a h _ (begun-subtypes w added declared s (call_subtypes w.programs.original s c) vars b) n i out p p' o o' V r r' W im u
      (are-there (normal_lists w) (normal-images w) made.types added u)
  statement-comes n e i out (old_accept q a s hd ask ma) vars b r r' im {p} {p'} {o} {o'} {V} {W} u =
      accept-comes w made added declared n e i out p p' o o' V q a s hd ask ma vars b r r' im W u (are-there (normal_lists w) (normal-images w) made.types added u)
  statement-comes n e i out (old_wait alts a s some oa om) vars b r r' im {p} {p'} {o} {o'} {V} {W} u =
      wait-comes w made added declared n e i out p p' o o' V alts a s some oa om vars b r r' im W u (are-there (normal_lists w) (normal-images w) made.types added u)
  statement-comes n e i out (old_conditional c l k s h a ol ok) vars b r r' im {p} {p'} {o} {o'} {V} {W} u =
      let re = normal_rewriter (rewritten_unit w) in
      let t : List PDecl = statement_variables (rewritten_unit w) vars (SConditional c l k s) in
      let b2 : Begin (after_stmts re l t) w.vars = part-begins w (stmts-begin re (normal-adds (rewritten_unit w)) k (after_stmts re l t)) b in
      select-comes x laws made added s c a h _ (begun-subtypes w added declared s (select_subtypes w.programs.original s c) vars (part-begins w (stmts-begin re (normal-adds (rewritten_unit w)) l t) b2))
      n i out p p' o o' V conditional l _ k _ r r' (walked w ol t b2) (walked w ok (after_stmts re l t) b) im W u (are-there (normal_lists w) (normal-images w) made.types added u)
  statement-comes n e i out (old_timed c l d k s h a ol ok) vars b r r' im {p} {p'} {o} {o'} {V} {W} u =
      let re = normal_rewriter (rewritten_unit w) in
      let t : List PDecl = statement_variables (rewritten_unit w) vars (STimed c l d k s) in
      let b2 : Begin (after_stmts re l t) w.vars = part-begins w (stmts-begin re (normal-adds (rewritten_unit w)) k (after_stmts re l t)) b in
      select-comes x laws made added s c a h _ (begun-subtypes w added declared s (select_subtypes w.programs.original s c) vars (part-begins w (stmts-begin re (normal-adds (rewritten_unit w)) l t) b2))
      n i out p p' o o' V (timed d) l _ k _ r r' (walked w ol t b2) (walked w ok (after_stmts re l t) b) im W u (are-there (normal_lists w) (normal-images w) made.types added u)

  -- ---- wherever it stands

  row-comes : (n : ℕ) → n ≡ w.number → (i : List ℤ) (out : List ℕ) {r r' : PStmts} → Normal w r r' → {p p' : Around} {o o' : List PFrame} {V W : Variables} → Under x p o V p' o' W →
      Comes x (left n i out r p o V) (right n i out r' p' o' W)
  row-comes n e i out normal_none u = at-once (frame-end n i out u)
  row-comes n e i out (normal_then vars s r r' old b im) u = statement-comes n e i out old vars b r r' im u

  pub caught-up : (σ κ : Task) → Alike x σ κ → σ.number ≡ w.number → Comes x σ κ
  caught-up σ κ (alike n i out c d (inside r r' im u)) e = row-comes n e i out im u
  caught-up σ κ (alike n i out c d (behind c1 d1 h)) e = absurd (elim h [ ])
