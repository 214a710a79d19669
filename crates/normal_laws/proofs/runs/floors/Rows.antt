-- The rows of the normal form are images: each statement has something in its place, and one that does not synchronize stays, with its parts rewritten.
use Rattle.std.proofs.Common.{ℕ, ◌+◌, Bool, true, false, List, [], ◌∷◌, ◌++◌, length, Option, Some, None, sym, ap, subst, ◌∙◌}
use Rattle.std.proofs.lemmas.List.{append_assoc}
use Rattle.ada_tree.specs.declared.naming.Span.{Span}
use Rattle.ada_tree.specs.declared.naming.Word.{Word}
use Rattle.ada_tree.specs.PlainExpr.{PExpr}
use Rattle.ada_tree.specs.PlainStmt.{PCallee, PCall, PStmt, SCall, PStmts, no_stmt, stmt_then, PMaybe, PArms, PCaseArms, PHandlers}
use Rattle.ada_tree.specs.PlainDecl.{PDecl}
use Rattle.task_model.specs.Setting.{Setting}
use Rattle.task_model.specs.Frames.{in_front}
use Rattle.normal_model.specs.Walk.{after_parts, after_stmts, after_maybe, after_arms, after_case_arms, after_handlers, rewritten, inside_maybe, inside_arms, inside_case_arms, inside_handlers, image_of}
use Rattle.normal_model.specs.Making.{one, kept_before}
use Rattle.normal_model.specs.Members.{chosen_if, callee_kept}
use Rattle.normal_model.specs.Making.{moving}
use Rattle.normal_model.specs.Calls.{call_before, call_behind, call_to, is_chosen, select_if, plain_image}
use Rattle.normal_model.specs.Aborts.{abort_of, abort_image, callees_aborted}
use Rattle.normal_model.specs.NormalStmts.{normal_rewriter}
use Rattle.normal_model.proofs.WalkLemmas.{in_front-joined}
use Rattle.normal_model.proofs.VariablesLemmas.{Begins, OnlyAdds, stmts-begin, maybe-begins, arms-begin, case_arms-begin, handlers-begin, normal-adds}
use Rattle.task_laws.specs.translation.OldTexts.{OldStmt, old_null, old_assign, old_delay, old_exit, old_raise, old_abort, old_call, old_accept, old_wait, old_conditional, old_timed, old_put, old_put_line, old_new_line, old_get, old_if, old_case, old_block, old_loop, OldStmts, old_no_stmt, old_stmt, OldMaybe, old_absent, old_present, OldArms, old_no_arm, old_arm, OldCaseArms, old_no_case_arm, old_case_arm, OldHandlers, old_no_handler, old_handler}
use Rattle.task_laws.specs.translation.Images.{ImageMaybe, image_absent, image_present, ImageArms, image_no_arm, image_arm, ImageCaseArms, image_no_case_arm, image_case_arm, ImageHandlers, image_no_handler, image_handler, image_null, image_assign, image_delay, image_exit, image_raise, image_no_abort, image_put, image_put_line, image_new_line, image_get, image_if, image_case, image_block, image_loop, ImageList, image_list, IsLocal, local_null, local_assign, local_delay, local_exit, local_raise, local_no_abort, local_put, local_put_line, local_new_line, local_get, local_if, local_case, local_block, local_loop, IsEmpty, nothing_there, IsSomething, something_there, AreImages}
use Rattle.normal_laws.specs.runs.floors.Suited.{Rewritten, rewritten_unit, asked_of}
use Rattle.normal_laws.specs.runs.floors.NormalLists.{Begin, behind_stmt, Normal, normal_none, normal_then, normal_lists}

-- ---- something stands in the place of each statement

pub row-behind : (a : PStmts) {r : PStmts} → IsSomething r → IsSomething (in_front a r)
row-behind no_stmt h = h
row-behind (stmt_then s l) h = something_there s _

pub row-before : {a : PStmts} → IsSomething a → (r : PStmts) → IsSomething (in_front a r)
row-before (something_there s l) r = something_there s _

row-chosen : (o : Option PExpr) (g : Setting) (s : Span) (callee : PCallee) (k : ℕ) (what : Word → PStmts) → ((w : Word) → IsSomething (what w)) → IsSomething (chosen_if o g s callee k what)
row-chosen None g s callee k what h = h _
row-chosen (Some e) g s callee k what h = something_there _ _

row-plain : (g : Setting) (s : Span) (c : PCall) (n : ℕ) → IsSomething (plain_image g s c n)
row-plain g s c n = row-behind (call_before g s c n) (row-before (row-chosen (moving g.types c.task.index) g s c.task n (λ w. one (SCall (call_to g s c n w) s)) (λ w. something_there _ _)) (call_behind g s c n))

row-select : (b : Bool) (form : PCall → PStmts → PStmts → PStmt) (g : Setting) (s : Span) (c : PCall) (n : ℕ) (met other : PStmts) → IsSomething (select_if b form g s c n met other)
row-select true form g s c n met other = something_there _ _
row-select false form g s c n met other = something_there _ _

row-abort : (g : Setting) (s : Span) (cs : List PCallee) (n : ℕ) → IsSomething (abort_image g s cs n)
row-abort g s [] n = something_there _ _
row-abort g s (c ∷ cs) n =
    row-before (row-behind (kept_before g s (callee_kept g s c) n) (row-chosen (moving g.types c.index) g s c n (abort_of s) (λ w. something_there _ _)))
    (callees_aborted g s cs (n + length (callee_kept g s c)))

module _ (w : Rewritten) where
  row-there : {s : PStmt} → OldStmt (asked_of w) s → (vars : List PDecl) → IsSomething (image_of (normal_rewriter (rewritten_unit w)) s vars)
  row-there (old_null s) vars = something_there _ _
  row-there (old_assign t e s h k) vars = something_there _ _
  row-there (old_delay d s) vars = something_there _ _
  row-there (old_exit w1 test s h) vars = something_there _ _
  row-there (old_raise w1 s) vars = something_there _ _
  row-there (old_abort cs s h) vars = row-abort w.programs.original s cs (length vars)
  row-there (old_call c s h a) vars = row-plain w.programs.original s c (length vars)
  row-there (old_accept head o s h a k) vars = row-behind _ (something_there _ _)
  row-there (old_wait alts o s q h k) vars = row-behind _ (row-behind _ (something_there _ _))
  row-there (old_conditional c l m s h a k j) vars = row-behind (call_before w.programs.original s c (length vars)) (row-select (is_chosen w.programs.original c) _ w.programs.original s c (length vars) _ _)
  row-there (old_timed c l d m s h a k j) vars = row-behind (call_before w.programs.original s c (length vars)) (row-select (is_chosen w.programs.original c) _ w.programs.original s c (length vars) _ _)
  row-there (old_put ps s h) vars = something_there _ _
  row-there (old_put_line ps s h) vars = something_there _ _
  row-there (old_new_line s) vars = something_there _ _
  row-there (old_get t s h) vars = something_there _ _
  row-there (old_if arms o s h k) vars = something_there _ _
  row-there (old_case e arms o s h k j) vars = something_there _ _
  row-there (old_block l hs s h k) vars = something_there _ _
  row-there (old_loop w1 c l s h k) vars = something_there _ _

  -- ---- a walk gives images

  -- what is made in a part is made in the whole
  pub part-begins : {xs ys : List PDecl} → Begins xs ys → Begin ys w.vars → Begin xs w.vars
  part-begins {xs} h k = (h.more ++ k.0, k.1 ∙ ap (λ l. l ++ k.0) h.joined ∙ append_assoc xs h.more k.0)

  abbrev adds : OnlyAdds (normal_rewriter (rewritten_unit w))
  adds = normal-adds (rewritten_unit w)

  pub walked : {l : PStmts} → OldStmts (asked_of w) l → (t : List PDecl) → Begin (after_stmts (normal_rewriter (rewritten_unit w)) l t) w.vars → Normal w l (rewritten (normal_rewriter (rewritten_unit w)) l t)
  walked old_no_stmt t b = normal_none
  walked (old_stmt s l h k) t b =
      normal_then t s l (rewritten (normal_rewriter (rewritten_unit w)) l (after_parts (normal_rewriter (rewritten_unit w)) s ((normal_rewriter (rewritten_unit w)).entered_stmt t s))) h
      (part-begins (stmts-begin (normal_rewriter (rewritten_unit w)) adds l _) b) (walked k _ b)

  pub walked-maybe : {o : PMaybe} → OldMaybe (asked_of w) o → (t : List PDecl) → Begin (after_maybe (normal_rewriter (rewritten_unit w)) o t) w.vars → ImageMaybe (normal_lists w) o (inside_maybe (normal_rewriter (rewritten_unit w)) o t)
  walked-maybe old_absent t b = image_absent
  walked-maybe (old_present l h) t b = image_present l _ (walked h t b)

  walked-arms : {a : PArms} → OldArms (asked_of w) a → (t : List PDecl) → Begin (after_arms (normal_rewriter (rewritten_unit w)) a t) w.vars → ImageArms (normal_lists w) a (inside_arms (normal_rewriter (rewritten_unit w)) a t)
  walked-arms old_no_arm t b = image_no_arm
  walked-arms (old_arm e l rest h k j) t b =
      image_arm e l _ rest _ h (walked k t (part-begins (arms-begin (normal_rewriter (rewritten_unit w)) adds rest _) b)) (walked-arms j _ b)

  walked-case_arms : {a : PCaseArms} → OldCaseArms (asked_of w) a → (t : List PDecl) → Begin (after_case_arms (normal_rewriter (rewritten_unit w)) a t) w.vars → ImageCaseArms (normal_lists w) a (inside_case_arms (normal_rewriter (rewritten_unit w)) a t)
  walked-case_arms old_no_case_arm t b = image_no_case_arm
  walked-case_arms (old_case_arm cs l rest h k j) t b =
      image_case_arm cs l _ rest _ h (walked k t (part-begins (case_arms-begin (normal_rewriter (rewritten_unit w)) adds rest _) b)) (walked-case_arms j _ b)

  pub walked-handlers : {hs : PHandlers} → OldHandlers (asked_of w) hs → (t : List PDecl) → Begin (after_handlers (normal_rewriter (rewritten_unit w)) hs t) w.vars → ImageHandlers (normal_lists w) hs (inside_handlers (normal_rewriter (rewritten_unit w)) hs t)
  walked-handlers old_no_handler t b = image_no_handler
  walked-handlers (old_handler ws l s rest h k) t b =
      image_handler ws l _ s s rest _ (walked h t (part-begins (handlers-begin (normal_rewriter (rewritten_unit w)) adds rest _) b)) (walked-handlers k _ b)

  -- ---- the laws of images

  image-nothing : {r : PStmts} → Normal w no_stmt r → IsEmpty r
  image-nothing normal_none = nothing_there

  image-something : {s : PStmt} {l r : PStmts} → Normal w (stmt_then s l) r → IsSomething r
  image-something (normal_then vars s l r' h b k) = row-before (row-there h vars) r'

  -- a statement that does not synchronize, in front of an image
  local-row : {s : PStmt} → IsLocal s → OldStmt (asked_of w) s → (vars : List PDecl) → Begin (behind_stmt w s vars) w.vars → {r r' : PStmts} → Normal w r r' → ImageList (normal_lists w) s r (in_front (image_of (normal_rewriter (rewritten_unit w)) s vars) r')
  local-row (local_null s) old vars b {r} {r'} k = image_list _ _ r r' (image_null s) k
  local-row (local_assign t e s) (old_assign t1 e1 s1 h j) vars b {r} {r'} k = image_list _ _ r r' (image_assign t e s h j) k
  local-row (local_delay d s) old vars b {r} {r'} k = image_list _ _ r r' (image_delay d s) k
  local-row (local_exit w1 test s) (old_exit w2 test1 s1 h) vars b {r} {r'} k = image_list _ _ r r' (image_exit w1 test s h) k
  local-row (local_raise w1 s) old vars b {r} {r'} k = image_list _ _ r r' (image_raise w1 s) k
  local-row (local_no_abort s) old vars b {r} {r'} k = image_list _ _ r r' (image_no_abort s) k
  local-row (local_put ps s) (old_put ps1 s1 h) vars b {r} {r'} k = image_list _ _ r r' (image_put ps s h) k
  local-row (local_put_line ps s) (old_put_line ps1 s1 h) vars b {r} {r'} k = image_list _ _ r r' (image_put_line ps s h) k
  local-row (local_new_line s) old vars b {r} {r'} k = image_list _ _ r r' (image_new_line s) k
  local-row (local_get t s) (old_get t1 s1 h) vars b {r} {r'} k = image_list _ _ r r' (image_get t s h) k
  local-row (local_if arms o s) (old_if arms1 o1 s1 h j) vars b {r} {r'} k = image_list _ _ r r' (image_if arms _ o _ s (walked-arms h vars (part-begins (maybe-begins (normal_rewriter (rewritten_unit w)) adds o _) b)) (walked-maybe j (after_arms (normal_rewriter (rewritten_unit w)) arms vars) b)) k
  local-row (local_case e arms o s) (old_case e1 arms1 o1 s1 i h j) vars b {r} {r'} k = image_list _ _ r r' (image_case e arms _ o _ s i (walked-case_arms h vars (part-begins (maybe-begins (normal_rewriter (rewritten_unit w)) adds o _) b)) (walked-maybe j (after_case_arms (normal_rewriter (rewritten_unit w)) arms vars) b)) k
  local-row (local_block its s) (old_block l hs s1 h j) vars b {r} {r'} k = image_list _ _ r r' (image_block l _ hs _ s (walked h vars (part-begins (handlers-begin (normal_rewriter (rewritten_unit w)) adds hs _) b)) (walked-handlers j (after_stmts (normal_rewriter (rewritten_unit w)) l vars) b)) k
  local-row (local_loop w1 c l s) (old_loop w2 c1 l1 s1 h j) vars b {r} {r'} k = image_list _ _ r r' (image_loop w1 c l _ s h (walked j vars b)) k

  image-local : {s : PStmt} {l r : PStmts} → IsLocal s → Normal w (stmt_then s l) r → ImageList (normal_lists w) s l r
  image-local loc (normal_then vars s l r' h b k) = local-row loc h vars b k

  image-joined : {c c' d d' : PStmts} → Normal w c c' → Normal w d d' → Normal w (in_front c d) (in_front c' d')
  image-joined normal_none k = k
  image-joined {d = d} {d' = d'} (normal_then vars s r r' h b j) k =
      subst (Normal w (stmt_then s (in_front r d))) (sym (in_front-joined (image_of (normal_rewriter (rewritten_unit w)) s vars) r' d')) (normal_then vars s (in_front r d) (in_front r' d') h b (image-joined j k))

  pub normal-images : AreImages (normal_lists w)
  normal-images = record {
    empty = normal_none;
    nothing = λ r h. image-nothing h;
    something = λ s l r h. image-something h;
    local = λ s l r loc h. image-local loc h;
    joined = λ c c' d d' h k. image-joined h k;
  }
