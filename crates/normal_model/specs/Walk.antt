-- How a rewriter goes through statements: from front to back, the parts of a statement before what stands behind it, with a state on the way (this project's rule). A statement's place is taken by statements that are made from the statement with its parts rewritten already, so a rewriter says what becomes of one statement and never of what stands in it.
use Rattle.ada_tree.specs.PlainStmt.{PStmt, SAccept, SWait, SConditional, STimed, SIf, SCase, SBlock, SLoop, PStmts, no_stmt, stmt_then, PMaybe, absent, present, PAccept, accepting, PAlt, alternative, PAltKind, AAccept, ADelay, ATerminate, PAlts, no_alt, alt_then, PArms, no_arm, arm_then, arm, PCaseArms, no_case_arm, case_arm_then, case_arm, PBody, body, PHandlers, no_handler, handler_then, handler}
use Rattle.task_model.specs.Frames.{in_front}

-- A rewriter of statements, with the state that it has on its way.
pub record Rewriter (S : Type 0) : Type 0 where
  -- the state behind what a statement asks for itself, which comes before what its parts ask for
  pub entered_stmt : S → PStmt → S
  -- the same of an alternative of a selective wait
  pub entered_alternative : S → PAlt → S
  -- what an alternative puts in front of its wait, by the state before the alternative
  pub lead : S → PAlt → PStmts
  -- what stands in the place of an alternative, by the state before it and the alternative with its parts rewritten
  pub left_alternative : S → PAlt → PAlt
  -- what stands in the place of a statement, by the state before it, what its alternatives put in front of it, and the statement with its parts rewritten
  pub replaced_stmt : S → PStmts → PStmt → PStmts

module _ {S : Type 0} (r : Rewriter S) where
  -- ---- the state

  -- the state behind parts of a text, by the one before them
  abbrev mutual
    -- behind the parts of a statement
    pub after_parts : PStmt → S → S
    after_parts (SAccept a s) t = after_accept a t
    after_parts (SWait x o s) t = after_maybe o (after_alts x t)
    after_parts (SConditional c b o s) t = after_stmts o (after_stmts b t)
    after_parts (STimed c b d a s) t = after_stmts a (after_stmts b t)
    after_parts (SIf x o s) t = after_maybe o (after_arms x t)
    after_parts (SCase e x o s) t = after_maybe o (after_case_arms x t)
    after_parts (SBlock b s) t = after_body b t
    after_parts (SLoop w c l s) t = after_stmts l t
    after_parts _ t = t

    pub after_stmts : PStmts → S → S
    after_stmts no_stmt t = t
    after_stmts (stmt_then x l) t = after_stmts l (after_parts x (r.entered_stmt t x))

    pub after_maybe : PMaybe → S → S
    after_maybe absent t = t
    after_maybe (present l) t = after_stmts l t

    pub after_accept : PAccept → S → S
    after_accept (accepting h o) t = after_maybe o t

    pub after_kind : PAltKind → S → S
    after_kind (AAccept a l) t = after_stmts l (after_accept a t)
    after_kind (ADelay d l) t = after_stmts l t
    after_kind ATerminate t = t

    pub after_alts : PAlts → S → S
    after_alts no_alt t = t
    after_alts (alt_then (alternative g k s) l) t = after_alts l (after_kind k (r.entered_alternative t (alternative g k s)))

    pub after_arms : PArms → S → S
    after_arms no_arm t = t
    after_arms (arm_then (arm e l) rest) t = after_arms rest (after_stmts l t)

    pub after_case_arms : PCaseArms → S → S
    after_case_arms no_case_arm t = t
    after_case_arms (case_arm_then (case_arm cs l) rest) t = after_case_arms rest (after_stmts l t)

    pub after_body : PBody → S → S
    after_body (body l hs) t = after_handlers hs (after_stmts l t)

    pub after_handlers : PHandlers → S → S
    after_handlers no_handler t = t
    after_handlers (handler_then (handler ws l s) rest) t = after_handlers rest (after_stmts l t)

  -- the state behind an alternative
  abbrev pub after_alt : PAlt → S → S
  after_alt (alternative g k s) t = after_kind k (r.entered_alternative t (alternative g k s))

  -- ---- what stands in front of a wait

  -- what alternatives put in front of their wait, in written order
  abbrev pub alts_leads : PAlts → S → PStmts
  alts_leads no_alt t = no_stmt
  alts_leads (alt_then x l) t = in_front (r.lead t x) (alts_leads l (after_alt x t))

  -- what the alternatives of a statement put in front of it; only a selective wait has some
  abbrev pub leads : PStmt → S → PStmts
  leads (SWait x o s) t = alts_leads x t
  leads _ t = no_stmt

  -- ---- the text

  -- parts of a text as they are rewritten, by the state before them
  abbrev mutual
    -- a statement with its parts rewritten
    pub parts_rewritten : PStmt → S → PStmt
    parts_rewritten (SAccept a s) t = SAccept (inside_accept a t) s
    parts_rewritten (SWait x o s) t = SWait (inside_alts x t) (inside_maybe o (after_alts x t)) s
    parts_rewritten (SConditional c b o s) t = SConditional c (rewritten b t) (rewritten o (after_stmts b t)) s
    parts_rewritten (STimed c b d a s) t = STimed c (rewritten b t) d (rewritten a (after_stmts b t)) s
    parts_rewritten (SIf x o s) t = SIf (inside_arms x t) (inside_maybe o (after_arms x t)) s
    parts_rewritten (SCase e x o s) t = SCase e (inside_case_arms x t) (inside_maybe o (after_case_arms x t)) s
    parts_rewritten (SBlock b s) t = SBlock (inside_body b t) s
    parts_rewritten (SLoop w c l s) t = SLoop w c (rewritten l t) s
    parts_rewritten x t = x

    -- statements: what stands in the place of the first, and then of those behind it
    pub rewritten : PStmts → S → PStmts
    rewritten no_stmt t = no_stmt
    rewritten (stmt_then x l) t = in_front (r.replaced_stmt t (leads x (r.entered_stmt t x)) (parts_rewritten x (r.entered_stmt t x))) (rewritten l (after_parts x (r.entered_stmt t x)))

    pub inside_maybe : PMaybe → S → PMaybe
    inside_maybe absent t = absent
    inside_maybe (present l) t = present (rewritten l t)

    pub inside_accept : PAccept → S → PAccept
    inside_accept (accepting h o) t = accepting h (inside_maybe o t)

    pub inside_kind : PAltKind → S → PAltKind
    inside_kind (AAccept a l) t = AAccept (inside_accept a t) (rewritten l (after_accept a t))
    inside_kind (ADelay d l) t = ADelay d (rewritten l t)
    inside_kind ATerminate t = ATerminate

    pub inside_alts : PAlts → S → PAlts
    inside_alts no_alt t = no_alt
    inside_alts (alt_then (alternative g k s) l) t =
        alt_then (r.left_alternative t (alternative g (inside_kind k (r.entered_alternative t (alternative g k s))) s)) (inside_alts l (after_kind k (r.entered_alternative t (alternative g k s))))

    pub inside_arms : PArms → S → PArms
    inside_arms no_arm t = no_arm
    inside_arms (arm_then (arm e l) rest) t = arm_then (arm e (rewritten l t)) (inside_arms rest (after_stmts l t))

    pub inside_case_arms : PCaseArms → S → PCaseArms
    inside_case_arms no_case_arm t = no_case_arm
    inside_case_arms (case_arm_then (case_arm cs l) rest) t = case_arm_then (case_arm cs (rewritten l t)) (inside_case_arms rest (after_stmts l t))

    pub inside_body : PBody → S → PBody
    inside_body (body l hs) t = body (rewritten l t) (inside_handlers hs (after_stmts l t))

    pub inside_handlers : PHandlers → S → PHandlers
    inside_handlers no_handler t = no_handler
    inside_handlers (handler_then (handler ws l s) rest) t = handler_then (handler ws (rewritten l t) s) (inside_handlers rest (after_stmts l t))

  -- What stands in the place of a statement, by the state before it.
  abbrev pub image_of : PStmt → S → PStmts
  image_of x t = r.replaced_stmt t (leads x (r.entered_stmt t x)) (parts_rewritten x (r.entered_stmt t x))
