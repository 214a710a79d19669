-- The rewriter of a collecting text keeps its state, and puts nothing in front of a wait.
use Rattle.std.proofs.Common.{◌≡◌, ℕ, refl, ap, ◌∙◌}
use Rattle.ada_tree.specs.PlainStmt.{PStmt, SNull, SAssign, SDelay, SExit, SRaise, SAbort, SCall, SAccept, SWait, SConditional, STimed, SPut, SPutLine, SNewLine, SGet, SIf, SCase, SBlock, SLoop, PStmts, no_stmt, stmt_then, PMaybe, absent, present, PAccept, accepting, alternative, PAltKind, AAccept, ADelay, ATerminate, PAlts, no_alt, alt_then, PArms, no_arm, arm_then, arm, PCaseArms, no_case_arm, case_arm_then, case_arm, PBody, body, PHandlers, no_handler, handler_then, handler}
use Rattle.normal_model.specs.Walk.{Rewriter, after_parts, after_stmts, after_maybe, after_accept, after_kind, after_alts, after_arms, after_case_arms, after_body, after_handlers, alts_leads}
use Rattle.collect_model.specs.Teller.{Teller}
use Rattle.collect_model.specs.CollectStmts.{collect_rewriter}

module _ (y : Teller) where
  abbrev r : Rewriter ℕ
  r = collect_rewriter y

  -- ---- the state

  mutual
    pub still_parts : (x : PStmt) (t : ℕ) → after_parts r x t ≡ t
    still_parts (SAccept a s) t = still_accept a t
    still_parts (SWait x o s) t = ap (after_maybe r o) (still_alts x t) ∙ still_maybe o t
    still_parts (SConditional c b o s) t = ap (after_stmts r o) (still_stmts b t) ∙ still_stmts o t
    still_parts (STimed c b d a s) t = ap (after_stmts r a) (still_stmts b t) ∙ still_stmts a t
    still_parts (SIf x o s) t = ap (after_maybe r o) (still_arms x t) ∙ still_maybe o t
    still_parts (SCase e x o s) t = ap (after_maybe r o) (still_case_arms x t) ∙ still_maybe o t
    still_parts (SBlock b s) t = still_body b t
    still_parts (SLoop w c l s) t = still_stmts l t
    still_parts (SNull s) t = refl
    still_parts (SAssign x e s) t = refl
    still_parts (SDelay d s) t = refl
    still_parts (SExit w e s) t = refl
    still_parts (SRaise w s) t = refl
    still_parts (SAbort xs s) t = refl
    still_parts (SCall c s) t = refl
    still_parts (SPut ps s) t = refl
    still_parts (SPutLine ps s) t = refl
    still_parts (SNewLine s) t = refl
    still_parts (SGet x s) t = refl

    pub still_stmts : (l : PStmts) (t : ℕ) → after_stmts r l t ≡ t
    still_stmts no_stmt t = refl
    still_stmts (stmt_then x l) t = ap (after_stmts r l) (still_parts x t) ∙ still_stmts l t

    pub still_maybe : (o : PMaybe) (t : ℕ) → after_maybe r o t ≡ t
    still_maybe absent t = refl
    still_maybe (present l) t = still_stmts l t

    pub still_accept : (a : PAccept) (t : ℕ) → after_accept r a t ≡ t
    still_accept (accepting h o) t = still_maybe o t

    pub still_kind : (x : PAltKind) (t : ℕ) → after_kind r x t ≡ t
    still_kind (AAccept a l) t = ap (after_stmts r l) (still_accept a t) ∙ still_stmts l t
    still_kind (ADelay d l) t = still_stmts l t
    still_kind ATerminate t = refl

    pub still_alts : (x : PAlts) (t : ℕ) → after_alts r x t ≡ t
    still_alts no_alt t = refl
    still_alts (alt_then (alternative g x s) l) t = ap (after_alts r l) (still_kind x t) ∙ still_alts l t

    pub still_arms : (x : PArms) (t : ℕ) → after_arms r x t ≡ t
    still_arms no_arm t = refl
    still_arms (arm_then (arm e l) rest) t = ap (after_arms r rest) (still_stmts l t) ∙ still_arms rest t

    pub still_case_arms : (x : PCaseArms) (t : ℕ) → after_case_arms r x t ≡ t
    still_case_arms no_case_arm t = refl
    still_case_arms (case_arm_then (case_arm cs l) rest) t = ap (after_case_arms r rest) (still_stmts l t) ∙ still_case_arms rest t

    pub still_body : (b : PBody) (t : ℕ) → after_body r b t ≡ t
    still_body (body l hs) t = ap (after_handlers r hs) (still_stmts l t) ∙ still_handlers hs t

    pub still_handlers : (hs : PHandlers) (t : ℕ) → after_handlers r hs t ≡ t
    still_handlers no_handler t = refl
    still_handlers (handler_then (handler ws l s) rest) t = ap (after_handlers r rest) (still_stmts l t) ∙ still_handlers rest t

  -- ---- what stands in front of a wait

  pub no-leads : (x : PAlts) (t : ℕ) → alts_leads r x t ≡ no_stmt
  no-leads no_alt t = refl
  no-leads (alt_then (alternative g x s) l) t = no-leads l (after_kind r x t)
