-- The rows of a collecting text with abort statements are images: each statement has something in its place, and one that does not synchronize stays, with
-- its parts rewritten.
use Rattle.std.proofs.Common.{ℕ, ◌≤◌, ◌+◌, sym, subst}
use Rattle.ada_tree.specs.PlainStmt.{PStmt, PStmts, no_stmt, stmt_then, PMaybe, PArms, PCaseArms, PHandlers}
use Rattle.task_model.specs.Frames.{in_front}
use Rattle.normal_model.specs.Walk.{Rewriter, rewritten, inside_maybe, inside_arms, inside_case_arms, inside_handlers, after_parts, after_stmts, after_maybe, after_arms, after_case_arms, after_handlers, image_of, alts_leads}
use Rattle.normal_model.proofs.WalkLemmas.{in_front-joined}
use Rattle.task_laws.specs.translation.OldTexts.{Asked, OldStmt, old_null, old_assign, old_delay, old_exit, old_raise, old_abort, old_call, old_accept, old_wait, old_conditional, old_timed, old_put, old_put_line, old_new_line, old_get, old_if, old_case, old_block, old_loop, OldStmts, old_no_stmt, old_stmt, OldMaybe, old_absent, old_present, OldArms, old_no_arm, old_arm, OldCaseArms, old_no_case_arm, old_case_arm, OldHandlers, old_no_handler, old_handler, old_no_callee, old_callee}
use Rattle.task_laws.specs.translation.Images.{ImageMaybe, image_absent, image_present, ImageArms, image_no_arm, image_arm, ImageCaseArms, image_no_case_arm, image_case_arm, ImageHandlers, image_no_handler, image_handler, image_null, image_assign, image_delay, image_exit, image_raise, image_no_abort, image_put, image_put_line, image_new_line, image_get, image_if, image_case, image_block, image_loop, ImageList, image_list, IsLocal, local_null, local_assign, local_delay, local_exit, local_raise, local_no_abort, local_put, local_put_line, local_new_line, local_get, local_if, local_case, local_block, local_loop, IsEmpty, nothing_there, IsSomething, something_there, AreImages}
use Rattle.normal_laws.proofs.runs.floors.Rows.{row-behind, row-before}
use Rattle.collect_model.specs.aborts.Places.{with_place}
use Rattle.collect_model.specs.aborts.AbortTeller.{AbortTeller}
use Rattle.collect_model.specs.aborts.AbortStmts.{abort_rewriter}
use Rattle.collect_runs.specs.aborts.translation.Rows.{Telling, telling_none, telling_then, telling_rows}
use Rattle.collect_runs.proofs.aborts.translation.Counting.{at-most, grows_stmt, grows_stmts, grows_maybe, grows_arms, grows_case_arms, grows_handlers}

module _ (a : Asked) (x : AbortTeller) (first last : ℕ) where
  abbrev walk : Rewriter ℕ
  walk = abort_rewriter x

  -- ---- a walk gives images

  pub rows : {l : PStmts} → OldStmts a l → (n : ℕ) → first ≤ n → after_stmts walk l n ≤ last → Telling a x first last l (rewritten walk l n)
  rows old_no_stmt n up to = telling_none
  rows (old_stmt s l h k) n up to =
      telling_then s l _ n h up (at-most (grows_stmts x l (after_parts walk s (with_place n s))) to) (rows k (after_parts walk s (with_place n s)) (at-most up (grows_stmt x s n)) to)

  pub maybe-rows : {o : PMaybe} → OldMaybe a o → (n : ℕ) → first ≤ n → after_maybe walk o n ≤ last → ImageMaybe (telling_rows a x first last) o (inside_maybe walk o n)
  maybe-rows old_absent n up to = image_absent
  maybe-rows (old_present l h) n up to = image_present l _ (rows h n up to)

  arms-rows : {l : PArms} → OldArms a l → (n : ℕ) → first ≤ n → after_arms walk l n ≤ last → ImageArms (telling_rows a x first last) l (inside_arms walk l n)
  arms-rows old_no_arm n up to = image_no_arm
  arms-rows (old_arm e l rest h k j) n up to =
      image_arm e l _ rest _ h (rows k n up (at-most (grows_arms x rest (after_stmts walk l n)) to)) (arms-rows j (after_stmts walk l n) (at-most up (grows_stmts x l n)) to)

  case-rows : {l : PCaseArms} → OldCaseArms a l → (n : ℕ) → first ≤ n → after_case_arms walk l n ≤ last → ImageCaseArms (telling_rows a x first last) l (inside_case_arms walk l n)
  case-rows old_no_case_arm n up to = image_no_case_arm
  case-rows (old_case_arm cs l rest h k j) n up to =
      image_case_arm cs l _ rest _ h (rows k n up (at-most (grows_case_arms x rest (after_stmts walk l n)) to)) (case-rows j (after_stmts walk l n) (at-most up (grows_stmts x l n)) to)

  pub handler-rows : {hs : PHandlers} → OldHandlers a hs → (n : ℕ) → first ≤ n → after_handlers walk hs n ≤ last → ImageHandlers (telling_rows a x first last) hs (inside_handlers walk hs n)
  handler-rows old_no_handler n up to = image_no_handler
  handler-rows (old_handler ws l s rest h k) n up to =
      image_handler ws l _ s s rest _ (rows h n up (at-most (grows_handlers x rest (after_stmts walk l n)) to)) (handler-rows k (after_stmts walk l n) (at-most up (grows_stmts x l n)) to)

  -- ---- the laws of images

  there : {s : PStmt} → OldStmt a s → (n : ℕ) → IsSomething (image_of walk s n)
  there (old_null s) n = something_there _ _
  there (old_assign t e s h k) n = something_there _ _
  there (old_delay d s) n = something_there _ _
  there (old_exit w test s h) n = something_there _ _
  there (old_raise w s) n = something_there _ _
  there (old_abort cs s old_no_callee) n = something_there _ _
  there (old_abort cs s (old_callee c rest h k old_no_callee)) n = something_there _ _
  there (old_abort cs s (old_callee c rest h k (old_callee d more i j l))) n = something_there _ _
  there (old_call c s h k) n = something_there _ _
  there (old_accept head o s h k j) n = something_there _ _
  there (old_wait alts o s q h k) n = row-behind (alts_leads walk alts (n + 1)) (something_there _ _)
  there (old_conditional c l m s h k j i) n = something_there _ _
  there (old_timed c l d m s h k j i) n = something_there _ _
  there (old_put ps s h) n = something_there _ _
  there (old_put_line ps s h) n = something_there _ _
  there (old_new_line s) n = something_there _ _
  there (old_get t s h) n = something_there _ _
  there (old_if arms o s h k) n = something_there _ _
  there (old_case e arms o s h k j) n = something_there _ _
  there (old_block l hs s h k) n = something_there _ _
  there (old_loop w c l s h k) n = something_there _ _

  nothing-there : {r : PStmts} → Telling a x first last no_stmt r → IsEmpty r
  nothing-there telling_none = nothing_there

  row-there : {s : PStmt} {l r : PStmts} → Telling a x first last (stmt_then s l) r → IsSomething r
  row-there (telling_then s l r' n h up to k) = row-before (there h n) r'

  -- a statement that does not synchronize, in front of an image
  stays : {s : PStmt} → IsLocal s → OldStmt a s → (n : ℕ) → first ≤ n → after_parts walk s (with_place n s) ≤ last → {r r' : PStmts} → Telling a x first last r r' →
      ImageList (telling_rows a x first last) s r (in_front (image_of walk s n) r')
  stays (local_null s) old n up to k = image_list _ _ _ _ (image_null s) k
  stays (local_assign t e s) (old_assign t1 e1 s1 h j) n up to k = image_list _ _ _ _ (image_assign t e s h j) k
  stays (local_delay d s) old n up to k = image_list _ _ _ _ (image_delay d s) k
  stays (local_exit w test s) (old_exit w1 test1 s1 h) n up to k = image_list _ _ _ _ (image_exit w test s h) k
  stays (local_raise w s) old n up to k = image_list _ _ _ _ (image_raise w s) k
  stays (local_no_abort s) old n up to k = image_list _ _ _ _ (image_no_abort s) k
  stays (local_put ps s) (old_put ps1 s1 h) n up to k = image_list _ _ _ _ (image_put ps s h) k
  stays (local_put_line ps s) (old_put_line ps1 s1 h) n up to k = image_list _ _ _ _ (image_put_line ps s h) k
  stays (local_new_line s) old n up to k = image_list _ _ _ _ (image_new_line s) k
  stays (local_get t s) (old_get t1 s1 h) n up to k = image_list _ _ _ _ (image_get t s h) k
  stays (local_if arms o s) (old_if arms1 o1 s1 h j) n up to k =
      image_list _ _ _ _
      (image_if arms _ o _ s (arms-rows h n up (at-most (grows_maybe x o (after_arms walk arms n)) to)) (maybe-rows j (after_arms walk arms n) (at-most up (grows_arms x arms n)) to)) k
  stays (local_case e arms o s) (old_case e1 arms1 o1 s1 i h j) n up to k =
      image_list _ _ _ _
      (image_case e arms _ o _ s i (case-rows h n up (at-most (grows_maybe x o (after_case_arms walk arms n)) to))
      (maybe-rows j (after_case_arms walk arms n) (at-most up (grows_case_arms x arms n)) to)) k
  stays (local_block its s) (old_block l hs s1 h j) n up to k =
      image_list _ _ _ _
      (image_block l _ hs _ s (rows h n up (at-most (grows_handlers x hs (after_stmts walk l n)) to)) (handler-rows j (after_stmts walk l n) (at-most up (grows_stmts x l n)) to)) k
  stays (local_loop w c l s) (old_loop w1 c1 l1 s1 h j) n up to k = image_list _ _ _ _ (image_loop w c l _ s h (rows j n up to)) k

  local-there : {s : PStmt} {l r : PStmts} → IsLocal s → Telling a x first last (stmt_then s l) r → ImageList (telling_rows a x first last) s l r
  local-there loc (telling_then s l r' n h up to k) = stays loc h n up to k

  rows-joined : {c c' d d' : PStmts} → Telling a x first last c c' → Telling a x first last d d' → Telling a x first last (in_front c d) (in_front c' d')
  rows-joined telling_none k = k
  rows-joined {d = d} {d' = d'} (telling_then s r r' n h up to j) k =
      subst (Telling a x first last (stmt_then s (in_front r d))) (sym (in_front-joined (image_of walk s n) r' d')) (telling_then s (in_front r d) (in_front r' d') n h up to (rows-joined j k))

  pub are-images : AreImages (telling_rows a x first last)
  are-images = record {
    empty = telling_none;
    nothing = λ r h. nothing-there h;
    something = λ s l r h. row-there h;
    local = λ s l r loc h. local-there loc h;
    joined = λ c c' d d' h k. rows-joined h k;
  }
