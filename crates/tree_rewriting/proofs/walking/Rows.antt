-- Rows that are rewritten: what a loop adds to them in one turn, and the rows of lists.
use Rattle.std.proofs.Common.{◌≡◌, List, [], ◌∷◌, ◌++◌, Result, Ok, Err, OnOk, refl, sym, ap, ◌∙◌}
use Rattle.ada_tree.specs.declared.statements.Stmt.{Stmt}
use Rattle.ada_tree.specs.PlainStmt.{PStmt, no_stmt, stmt_then, PAlt, alternative, PAlts, no_alt, alt_then, PArm, arm, PArms, no_arm, arm_then, PCaseArm, case_arm, PCaseArms, no_case_arm, case_arm_then, PHandler, handler, PHandlers, no_handler, handler_then, stmts_of, alts_of, arms_of, case_arms_of, handlers_of, plain_stmt, seen}
use Rattle.task_model.specs.Frames.{in_front}
use Rattle.normal_model.specs.Walk.{Rewriter, after_parts, after_stmts, after_alts, after_alt, after_arms, after_case_arms, after_handlers, alts_leads, rewritten, image_of, inside_alts, inside_arms, inside_case_arms, inside_handlers}
use Rattle.tree_rewriting.specs.walking.Rules.{after_arm, inside_arm, after_case_arm, inside_case_arm, after_handler, inside_handler, behind_alt, inside_alt}
use Rattle.normal_model.proofs.WalkLemmas.{in_front-joined, in_front-nil}

-- ---- rows in front of others

-- one more behind a row
pub row-more : (xs : List PStmt) (x : PStmt) → stmts_of (xs ++ x ∷ []) ≡ in_front (stmts_of xs) (stmt_then x no_stmt)
row-more [] x = refl
row-more (y ∷ xs) x = ap (stmt_then y) (row-more xs x)

-- the same behind a list of the code
pub seen-push : (xs : List Stmt) (x : Stmt) → seen (xs ++ x ∷ []) ≡ in_front (seen xs) (stmt_then (plain_stmt x) no_stmt)
seen-push [] x = refl
seen-push (y ∷ xs) x = ap (stmt_then (plain_stmt y)) (seen-push xs x)

-- a statement that went behind others, where that went well
pub pushed : {A E : Type 0} (r : Result A E) (xs ys : List Stmt) (x : Stmt) → OnOk r (ys ≡ xs ++ x ∷ []) → OnOk r (seen ys ≡ in_front (seen xs) (stmt_then (plain_stmt x) no_stmt))
pushed (Ok a) xs ys x h = ap seen h ∙ seen-push xs x
pushed (Err e) xs ys x h = tt

module _ {S : Type 0} (w : Rewriter S) where
  -- ---- statements

  pub after-more : (xs : List PStmt) (x : PStmt) (t : S) → after_stmts w (stmts_of (xs ++ x ∷ [])) t ≡ after_parts w x (w.entered_stmt (after_stmts w (stmts_of xs) t) x)
  after-more [] x t = refl
  after-more (y ∷ xs) x t = after-more xs x (after_parts w y (w.entered_stmt t y))

  pub rewritten-more : (xs : List PStmt) (x : PStmt) (t : S) → rewritten w (stmts_of (xs ++ x ∷ [])) t ≡ in_front (rewritten w (stmts_of xs) t) (image_of w x (after_stmts w (stmts_of xs) t))
  rewritten-more [] x t = in_front-nil (image_of w x t)
  rewritten-more (y ∷ xs) x t =
      ap (in_front (image_of w y t)) (rewritten-more xs x (after_parts w y (w.entered_stmt t y)))
      ∙ sym (in_front-joined (image_of w y t) (rewritten w (stmts_of xs) (after_parts w y (w.entered_stmt t y))) _)

-- ---- rows with one more at their end

abbrev pub arms_snoc : PArms → PArm → PArms
arms_snoc no_arm y = arm_then y no_arm
arms_snoc (arm_then x l) y = arm_then x (arms_snoc l y)

pub arms-snoc : (xs : List PArm) (y : PArm) → arms_of (xs ++ y ∷ []) ≡ arms_snoc (arms_of xs) y
arms-snoc [] y = refl
arms-snoc (x ∷ xs) y = ap (arm_then x) (arms-snoc xs y)

abbrev pub case_arms_snoc : PCaseArms → PCaseArm → PCaseArms
case_arms_snoc no_case_arm y = case_arm_then y no_case_arm
case_arms_snoc (case_arm_then x l) y = case_arm_then x (case_arms_snoc l y)

pub case_arms-snoc : (xs : List PCaseArm) (y : PCaseArm) → case_arms_of (xs ++ y ∷ []) ≡ case_arms_snoc (case_arms_of xs) y
case_arms-snoc [] y = refl
case_arms-snoc (x ∷ xs) y = ap (case_arm_then x) (case_arms-snoc xs y)

abbrev pub handlers_snoc : PHandlers → PHandler → PHandlers
handlers_snoc no_handler y = handler_then y no_handler
handlers_snoc (handler_then x l) y = handler_then x (handlers_snoc l y)

pub handlers-snoc : (xs : List PHandler) (y : PHandler) → handlers_of (xs ++ y ∷ []) ≡ handlers_snoc (handlers_of xs) y
handlers-snoc [] y = refl
handlers-snoc (x ∷ xs) y = ap (handler_then x) (handlers-snoc xs y)

abbrev pub alts_snoc : PAlts → PAlt → PAlts
alts_snoc no_alt y = alt_then y no_alt
alts_snoc (alt_then x l) y = alt_then x (alts_snoc l y)

pub alts-snoc : (xs : List PAlt) (y : PAlt) → alts_of (xs ++ y ∷ []) ≡ alts_snoc (alts_of xs) y
alts-snoc [] y = refl
alts-snoc (x ∷ xs) y = ap (alt_then x) (alts-snoc xs y)

-- what a row with one more at its end becomes, and the state behind it
module _ {S : Type 0} (w : Rewriter S) where
  pub arms-more : (xs : List PArm) (x : PArm) (t : S) → inside_arms w (arms_of (xs ++ x ∷ [])) t ≡ arms_snoc (inside_arms w (arms_of xs) t) (inside_arm w x (after_arms w (arms_of xs) t))
  arms-more [] (arm e l) t = refl
  arms-more (arm e l ∷ xs) x t = ap (arm_then (arm e (rewritten w l t))) (arms-more xs x (after_stmts w l t))

  pub arms-behind : (xs : List PArm) (x : PArm) (t : S) → after_arms w (arms_of (xs ++ x ∷ [])) t ≡ after_arm w x (after_arms w (arms_of xs) t)
  arms-behind [] (arm e l) t = refl
  arms-behind (arm e l ∷ xs) x t = arms-behind xs x (after_stmts w l t)

  pub case_arms-more : (xs : List PCaseArm) (x : PCaseArm) (t : S) → inside_case_arms w (case_arms_of (xs ++ x ∷ [])) t ≡ case_arms_snoc (inside_case_arms w (case_arms_of xs) t) (inside_case_arm w x (after_case_arms w (case_arms_of xs) t))
  case_arms-more [] (case_arm cs l) t = refl
  case_arms-more (case_arm cs l ∷ xs) x t = ap (case_arm_then (case_arm cs (rewritten w l t))) (case_arms-more xs x (after_stmts w l t))

  pub case_arms-behind : (xs : List PCaseArm) (x : PCaseArm) (t : S) → after_case_arms w (case_arms_of (xs ++ x ∷ [])) t ≡ after_case_arm w x (after_case_arms w (case_arms_of xs) t)
  case_arms-behind [] (case_arm cs l) t = refl
  case_arms-behind (case_arm cs l ∷ xs) x t = case_arms-behind xs x (after_stmts w l t)

  pub handlers-more : (xs : List PHandler) (x : PHandler) (t : S) → inside_handlers w (handlers_of (xs ++ x ∷ [])) t ≡ handlers_snoc (inside_handlers w (handlers_of xs) t) (inside_handler w x (after_handlers w (handlers_of xs) t))
  handlers-more [] (handler ws l s) t = refl
  handlers-more (handler ws l s ∷ xs) x t = ap (handler_then (handler ws (rewritten w l t) s)) (handlers-more xs x (after_stmts w l t))

  pub handlers-behind : (xs : List PHandler) (x : PHandler) (t : S) → after_handlers w (handlers_of (xs ++ x ∷ [])) t ≡ after_handler w x (after_handlers w (handlers_of xs) t)
  handlers-behind [] (handler ws l s) t = refl
  handlers-behind (handler ws l s ∷ xs) x t = handlers-behind xs x (after_stmts w l t)

  pub alts-more : (xs : List PAlt) (x : PAlt) (t : S) → inside_alts w (alts_of (xs ++ x ∷ [])) t ≡ alts_snoc (inside_alts w (alts_of xs) t) (inside_alt w x (after_alts w (alts_of xs) t))
  alts-more [] (alternative g k s) t = refl
  alts-more (alternative g k s ∷ xs) x t = ap (alt_then (inside_alt w (alternative g k s) t)) (alts-more xs x (after_alt w (alternative g k s) t))

  pub alts-behind : (xs : List PAlt) (x : PAlt) (t : S) → after_alts w (alts_of (xs ++ x ∷ [])) t ≡ behind_alt w x (after_alts w (alts_of xs) t)
  alts-behind [] (alternative g k s) t = refl
  alts-behind (alternative g k s ∷ xs) x t = alts-behind xs x (after_alt w (alternative g k s) t)

  -- what one more alternative puts in front of the wait
  pub leads-more : (xs : List PAlt) (x : PAlt) (t : S) → alts_leads w (alts_of (xs ++ x ∷ [])) t ≡ in_front (alts_leads w (alts_of xs) t) (w.lead (after_alts w (alts_of xs) t) x)
  leads-more [] x t = in_front-nil (w.lead t x)
  leads-more (alternative g k s ∷ xs) x t =
      ap (in_front (w.lead t (alternative g k s))) (leads-more xs x (after_alt w (alternative g k s) t))
      ∙ sym (in_front-joined (w.lead t (alternative g k s)) (alts_leads w (alts_of xs) (after_alt w (alternative g k s) t)) _)

pub ruleset walked = (in_front-nil, in_front-joined, row-more, seen-push, pushed)
