-- The rows of a collecting text are images: each statement has something in its place, and one that does not synchronize stays, with its parts rewritten.
use Rattle.std.proofs.Common.{ℕ, sym, subst}
use Rattle.ada_tree.specs.PlainStmt.{PStmt, PStmts, no_stmt, stmt_then, PMaybe, PArms, PCaseArms, PHandlers}
use Rattle.task_model.specs.Frames.{in_front}
use Rattle.normal_model.specs.Walk.{Rewriter, rewritten, inside_maybe, inside_arms, inside_case_arms, inside_handlers, image_of, alts_leads}
use Rattle.normal_model.proofs.WalkLemmas.{in_front-joined}
use Rattle.task_laws.specs.translation.OldTexts.{Asked, OldStmt, old_null, old_assign, old_delay, old_exit, old_raise, old_abort, old_call, old_accept, old_wait, old_conditional, old_timed, old_put, old_put_line, old_new_line, old_get, old_if, old_case, old_block, old_loop, OldStmts, old_no_stmt, old_stmt, OldMaybe, old_absent, old_present, OldArms, old_no_arm, old_arm, OldCaseArms, old_no_case_arm, old_case_arm, OldHandlers, old_no_handler, old_handler}
use Rattle.task_laws.specs.translation.Images.{ImageMaybe, image_absent, image_present, ImageArms, image_no_arm, image_arm, ImageCaseArms, image_no_case_arm, image_case_arm, ImageHandlers, image_no_handler, image_handler, image_null, image_assign, image_delay, image_exit, image_raise, image_no_abort, image_put, image_put_line, image_new_line, image_get, image_if, image_case, image_block, image_loop, ImageList, image_list, IsLocal, local_null, local_assign, local_delay, local_exit, local_raise, local_no_abort, local_put, local_put_line, local_new_line, local_get, local_if, local_case, local_block, local_loop, IsEmpty, nothing_there, IsSomething, something_there, AreImages}
use Rattle.normal_laws.proofs.runs.floors.Rows.{row-behind, row-before}
use Rattle.collect_model.specs.Teller.{Teller}
use Rattle.collect_model.specs.CollectStmts.{collect_rewriter}
use Rattle.collect_runs.proofs.translation.Kept.{still_parts, still_stmts, still_arms, still_case_arms}
use Rattle.collect_runs.specs.translation.Rows.{Telling, telling_none, telling_then, telling_rows}

module _ (a : Asked) (x : Teller) where
  abbrev walk : Rewriter ℕ
  walk = collect_rewriter x

  -- ---- a walk gives images

  pub rows : {l : PStmts} → OldStmts a l → Telling a x l (rewritten walk l 0)
  rows old_no_stmt = telling_none
  rows (old_stmt s l h k) =
      subst (λ v. Telling a x (stmt_then s l) (in_front (image_of walk s 0) (rewritten walk l v))) (sym (still_parts x s 0)) (telling_then s l _ h (rows k))

  pub maybe-rows : {o : PMaybe} → OldMaybe a o → ImageMaybe (telling_rows a x) o (inside_maybe walk o 0)
  maybe-rows old_absent = image_absent
  maybe-rows (old_present l h) = image_present l _ (rows h)

  arms-rows : {l : PArms} → OldArms a l → ImageArms (telling_rows a x) l (inside_arms walk l 0)
  arms-rows old_no_arm = image_no_arm
  arms-rows (old_arm e l rest h k j) =
      image_arm e l _ rest _ h (rows k) (subst (λ v. ImageArms (telling_rows a x) rest (inside_arms walk rest v)) (sym (still_stmts x l 0)) (arms-rows j))

  case-rows : {l : PCaseArms} → OldCaseArms a l → ImageCaseArms (telling_rows a x) l (inside_case_arms walk l 0)
  case-rows old_no_case_arm = image_no_case_arm
  case-rows (old_case_arm cs l rest h k j) =
      image_case_arm cs l _ rest _ h (rows k) (subst (λ v. ImageCaseArms (telling_rows a x) rest (inside_case_arms walk rest v)) (sym (still_stmts x l 0)) (case-rows j))

  pub handler-rows : {hs : PHandlers} → OldHandlers a hs → ImageHandlers (telling_rows a x) hs (inside_handlers walk hs 0)
  handler-rows old_no_handler = image_no_handler
  handler-rows (old_handler ws l s rest h k) =
      image_handler ws l _ s s rest _ (rows h) (subst (λ v. ImageHandlers (telling_rows a x) rest (inside_handlers walk rest v)) (sym (still_stmts x l 0)) (handler-rows k))

  -- ---- the laws of images

  there : {s : PStmt} → OldStmt a s → IsSomething (image_of walk s 0)
  there (old_null s) = something_there _ _
  there (old_assign t e s h k) = something_there _ _
  there (old_delay d s) = something_there _ _
  there (old_exit w test s h) = something_there _ _
  there (old_raise w s) = something_there _ _
  there (old_abort cs s h) = something_there _ _
  there (old_call c s h k) = something_there _ _
  there (old_accept head o s h k j) = something_there _ _
  there (old_wait alts o s q h k) = row-behind (alts_leads walk alts 0) (something_there _ _)
  there (old_conditional c l m s h k j i) = something_there _ _
  there (old_timed c l d m s h k j i) = something_there _ _
  there (old_put ps s h) = something_there _ _
  there (old_put_line ps s h) = something_there _ _
  there (old_new_line s) = something_there _ _
  there (old_get t s h) = something_there _ _
  there (old_if arms o s h k) = something_there _ _
  there (old_case e arms o s h k j) = something_there _ _
  there (old_block l hs s h k) = something_there _ _
  there (old_loop w c l s h k) = something_there _ _

  nothing-there : {r : PStmts} → Telling a x no_stmt r → IsEmpty r
  nothing-there telling_none = nothing_there

  row-there : {s : PStmt} {l r : PStmts} → Telling a x (stmt_then s l) r → IsSomething r
  row-there (telling_then s l r' h k) = row-before (there h) r'

  -- a statement that does not synchronize, in front of an image
  stays : {s : PStmt} → IsLocal s → OldStmt a s → {r r' : PStmts} → Telling a x r r' → ImageList (telling_rows a x) s r (in_front (image_of walk s 0) r')
  stays (local_null s) old k = image_list _ _ _ _ (image_null s) k
  stays (local_assign t e s) (old_assign t1 e1 s1 h j) k = image_list _ _ _ _ (image_assign t e s h j) k
  stays (local_delay d s) old k = image_list _ _ _ _ (image_delay d s) k
  stays (local_exit w test s) (old_exit w1 test1 s1 h) k = image_list _ _ _ _ (image_exit w test s h) k
  stays (local_raise w s) old k = image_list _ _ _ _ (image_raise w s) k
  stays (local_no_abort s) old k = image_list _ _ _ _ (image_no_abort s) k
  stays (local_put ps s) (old_put ps1 s1 h) k = image_list _ _ _ _ (image_put ps s h) k
  stays (local_put_line ps s) (old_put_line ps1 s1 h) k = image_list _ _ _ _ (image_put_line ps s h) k
  stays (local_new_line s) old k = image_list _ _ _ _ (image_new_line s) k
  stays (local_get t s) (old_get t1 s1 h) k = image_list _ _ _ _ (image_get t s h) k
  stays (local_if arms o s) (old_if arms1 o1 s1 h j) k =
      image_list _ _ _ _ (image_if arms _ o _ s (arms-rows h) (subst (λ v. ImageMaybe (telling_rows a x) o (inside_maybe walk o v)) (sym (still_arms x arms 0)) (maybe-rows j))) k
  stays (local_case e arms o s) (old_case e1 arms1 o1 s1 i h j) k =
      image_list _ _ _ _ (image_case e arms _ o _ s i (case-rows h) (subst (λ v. ImageMaybe (telling_rows a x) o (inside_maybe walk o v)) (sym (still_case_arms x arms 0)) (maybe-rows j))) k
  stays (local_block its s) (old_block l hs s1 h j) k =
      image_list _ _ _ _ (image_block l _ hs _ s (rows h) (subst (λ v. ImageHandlers (telling_rows a x) hs (inside_handlers walk hs v)) (sym (still_stmts x l 0)) (handler-rows j))) k
  stays (local_loop w c l s) (old_loop w1 c1 l1 s1 h j) k = image_list _ _ _ _ (image_loop w c l _ s h (rows j)) k

  local-there : {s : PStmt} {l r : PStmts} → IsLocal s → Telling a x (stmt_then s l) r → ImageList (telling_rows a x) s l r
  local-there loc (telling_then s l r' h k) = stays loc h k

  rows-joined : {c c' d d' : PStmts} → Telling a x c c' → Telling a x d d' → Telling a x (in_front c d) (in_front c' d')
  rows-joined telling_none k = k
  rows-joined {d = d} {d' = d'} (telling_then s r r' h j) k =
      subst (Telling a x (stmt_then s (in_front r d))) (sym (in_front-joined (image_of walk s 0) r' d')) (telling_then s (in_front r d) (in_front r' d') h (rows-joined j k))

  pub are-images : AreImages (telling_rows a x)
  are-images = record {
    empty = telling_none;
    nothing = λ r h. nothing-there h;
    something = λ s l r h. row-there h;
    local = λ s l r loc h. local-there loc h;
    joined = λ c c' d d' h k. rows-joined h k;
  }
