-- The places of a unit are counted alike by the rewriter and by itself, and never fewer as it goes on.
use Rattle.std.proofs.Common.{arith, ◌≡◌, ℕ, ◌≤◌, refl, ap, ◌∙◌}
use Rattle.ada_tree.specs.PlainStmt.{PStmt, SNull, SAssign, SDelay, SExit, SRaise, SAbort, SCall, SAccept, SWait, SConditional, STimed, SPut, SPutLine, SNewLine, SGet, SIf, SCase, SBlock, SLoop, PStmts, no_stmt, stmt_then, PMaybe, absent, present, PAccept, accepting, alternative, PAltKind, AAccept, ADelay, ATerminate, PAlts, no_alt, alt_then, PArms, no_arm, arm_then, arm, PCaseArms, no_case_arm, case_arm_then, case_arm, PBody, body, PHandlers, no_handler, handler_then, handler}
use Rattle.normal_model.specs.Walk.{Rewriter, after_parts, after_stmts, after_maybe, after_accept, after_kind, after_alts, after_arms, after_case_arms, after_body, after_handlers}
use Rattle.collect_model.specs.aborts.Places.{with_place, place_counter}
use Rattle.collect_model.specs.aborts.AbortTeller.{AbortTeller}
use Rattle.collect_model.specs.aborts.AbortStmts.{abort_rewriter}

-- ---- never fewer

placed : (n : ℕ) (x : PStmt) → n ≤ with_place n x
placed n (SAccept a s) = omega arith
placed n (SWait alts o s) = omega arith
placed n (SNull s) = omega arith
placed n (SAssign x e s) = omega arith
placed n (SDelay d s) = omega arith
placed n (SExit w e s) = omega arith
placed n (SRaise w s) = omega arith
placed n (SAbort xs s) = omega arith
placed n (SCall c s) = omega arith
placed n (SConditional c b o s) = omega arith
placed n (STimed c b d a s) = omega arith
placed n (SPut ps s) = omega arith
placed n (SPutLine ps s) = omega arith
placed n (SNewLine s) = omega arith
placed n (SGet x s) = omega arith
placed n (SIf x o s) = omega arith
placed n (SCase e x o s) = omega arith
placed n (SBlock b s) = omega arith
placed n (SLoop w c l s) = omega arith

pub at-most : {a b c : ℕ} → a ≤ b → b ≤ c → a ≤ c
at-most h k = omega (h, k, arith)

module _ (y : AbortTeller) where
  abbrev r : Rewriter ℕ
  r = abort_rewriter y

  mutual
    pub grows_parts : (x : PStmt) (t : ℕ) → t ≤ after_parts r x t
    grows_parts (SAccept a s) t = grows_accept a t
    grows_parts (SWait x o s) t = at-most (grows_alts x t) (grows_maybe o (after_alts r x t))
    grows_parts (SConditional c b o s) t = at-most (grows_stmts b t) (grows_stmts o (after_stmts r b t))
    grows_parts (STimed c b d a s) t = at-most (grows_stmts b t) (grows_stmts a (after_stmts r b t))
    grows_parts (SIf x o s) t = at-most (grows_arms x t) (grows_maybe o (after_arms r x t))
    grows_parts (SCase e x o s) t = at-most (grows_case_arms x t) (grows_maybe o (after_case_arms r x t))
    grows_parts (SBlock b s) t = grows_body b t
    grows_parts (SLoop w c l s) t = grows_stmts l t
    grows_parts (SNull s) t = omega arith
    grows_parts (SAssign x e s) t = omega arith
    grows_parts (SDelay d s) t = omega arith
    grows_parts (SExit w e s) t = omega arith
    grows_parts (SRaise w s) t = omega arith
    grows_parts (SAbort xs s) t = omega arith
    grows_parts (SCall c s) t = omega arith
    grows_parts (SPut ps s) t = omega arith
    grows_parts (SPutLine ps s) t = omega arith
    grows_parts (SNewLine s) t = omega arith
    grows_parts (SGet x s) t = omega arith

    pub grows_stmts : (l : PStmts) (t : ℕ) → t ≤ after_stmts r l t
    grows_stmts no_stmt t = omega arith
    grows_stmts (stmt_then x l) t = at-most (placed t x) (at-most (grows_parts x (with_place t x)) (grows_stmts l (after_parts r x (with_place t x))))

    pub grows_maybe : (o : PMaybe) (t : ℕ) → t ≤ after_maybe r o t
    grows_maybe absent t = omega arith
    grows_maybe (present l) t = grows_stmts l t

    pub grows_accept : (a : PAccept) (t : ℕ) → t ≤ after_accept r a t
    grows_accept (accepting h o) t = grows_maybe o t

    pub grows_kind : (x : PAltKind) (t : ℕ) → t ≤ after_kind r x t
    grows_kind (AAccept a l) t = at-most (grows_accept a t) (grows_stmts l (after_accept r a t))
    grows_kind (ADelay d l) t = grows_stmts l t
    grows_kind ATerminate t = omega arith

    pub grows_alts : (x : PAlts) (t : ℕ) → t ≤ after_alts r x t
    grows_alts no_alt t = omega arith
    grows_alts (alt_then (alternative g x s) l) t = at-most (grows_kind x t) (grows_alts l (after_kind r x t))

    pub grows_arms : (x : PArms) (t : ℕ) → t ≤ after_arms r x t
    grows_arms no_arm t = omega arith
    grows_arms (arm_then (arm e l) rest) t = at-most (grows_stmts l t) (grows_arms rest (after_stmts r l t))

    pub grows_case_arms : (x : PCaseArms) (t : ℕ) → t ≤ after_case_arms r x t
    grows_case_arms no_case_arm t = omega arith
    grows_case_arms (case_arm_then (case_arm cs l) rest) t = at-most (grows_stmts l t) (grows_case_arms rest (after_stmts r l t))

    pub grows_body : (b : PBody) (t : ℕ) → t ≤ after_body r b t
    grows_body (body l hs) t = at-most (grows_stmts l t) (grows_handlers hs (after_stmts r l t))

    pub grows_handlers : (hs : PHandlers) (t : ℕ) → t ≤ after_handlers r hs t
    grows_handlers no_handler t = omega arith
    grows_handlers (handler_then (handler ws l s) rest) t = at-most (grows_stmts l t) (grows_handlers rest (after_stmts r l t))

  -- what a statement comes to, by the count before it
  pub grows_stmt : (x : PStmt) (t : ℕ) → t ≤ after_parts r x (with_place t x)
  grows_stmt x t = at-most (placed t x) (grows_parts x (with_place t x))

  -- ---- counted alike

  abbrev p : Rewriter ℕ
  p = place_counter

  mutual
    pub same_parts : (x : PStmt) (t : ℕ) → after_parts r x t ≡ after_parts p x t
    same_parts (SAccept a s) t = same_accept a t
    same_parts (SWait x o s) t = ap (after_maybe r o) (same_alts x t) ∙ same_maybe o (after_alts p x t)
    same_parts (SConditional c b o s) t = ap (after_stmts r o) (same_stmts b t) ∙ same_stmts o (after_stmts p b t)
    same_parts (STimed c b d a s) t = ap (after_stmts r a) (same_stmts b t) ∙ same_stmts a (after_stmts p b t)
    same_parts (SIf x o s) t = ap (after_maybe r o) (same_arms x t) ∙ same_maybe o (after_arms p x t)
    same_parts (SCase e x o s) t = ap (after_maybe r o) (same_case_arms x t) ∙ same_maybe o (after_case_arms p x t)
    same_parts (SBlock b s) t = same_body b t
    same_parts (SLoop w c l s) t = same_stmts l t
    same_parts (SNull s) t = refl
    same_parts (SAssign x e s) t = refl
    same_parts (SDelay d s) t = refl
    same_parts (SExit w e s) t = refl
    same_parts (SRaise w s) t = refl
    same_parts (SAbort xs s) t = refl
    same_parts (SCall c s) t = refl
    same_parts (SPut ps s) t = refl
    same_parts (SPutLine ps s) t = refl
    same_parts (SNewLine s) t = refl
    same_parts (SGet x s) t = refl

    pub same_stmts : (l : PStmts) (t : ℕ) → after_stmts r l t ≡ after_stmts p l t
    same_stmts no_stmt t = refl
    same_stmts (stmt_then x l) t = ap (after_stmts r l) (same_parts x (with_place t x)) ∙ same_stmts l (after_parts p x (with_place t x))

    pub same_maybe : (o : PMaybe) (t : ℕ) → after_maybe r o t ≡ after_maybe p o t
    same_maybe absent t = refl
    same_maybe (present l) t = same_stmts l t

    pub same_accept : (a : PAccept) (t : ℕ) → after_accept r a t ≡ after_accept p a t
    same_accept (accepting h o) t = same_maybe o t

    pub same_kind : (x : PAltKind) (t : ℕ) → after_kind r x t ≡ after_kind p x t
    same_kind (AAccept a l) t = ap (after_stmts r l) (same_accept a t) ∙ same_stmts l (after_accept p a t)
    same_kind (ADelay d l) t = same_stmts l t
    same_kind ATerminate t = refl

    pub same_alts : (x : PAlts) (t : ℕ) → after_alts r x t ≡ after_alts p x t
    same_alts no_alt t = refl
    same_alts (alt_then (alternative g x s) l) t = ap (after_alts r l) (same_kind x t) ∙ same_alts l (after_kind p x t)

    pub same_arms : (x : PArms) (t : ℕ) → after_arms r x t ≡ after_arms p x t
    same_arms no_arm t = refl
    same_arms (arm_then (arm e l) rest) t = ap (after_arms r rest) (same_stmts l t) ∙ same_arms rest (after_stmts p l t)

    pub same_case_arms : (x : PCaseArms) (t : ℕ) → after_case_arms r x t ≡ after_case_arms p x t
    same_case_arms no_case_arm t = refl
    same_case_arms (case_arm_then (case_arm cs l) rest) t = ap (after_case_arms r rest) (same_stmts l t) ∙ same_case_arms rest (after_stmts p l t)

    pub same_body : (b : PBody) (t : ℕ) → after_body r b t ≡ after_body p b t
    same_body (body l hs) t = ap (after_handlers r hs) (same_stmts l t) ∙ same_handlers hs (after_stmts p l t)

    pub same_handlers : (hs : PHandlers) (t : ℕ) → after_handlers r hs t ≡ after_handlers p hs t
    same_handlers no_handler t = refl
    same_handlers (handler_then (handler ws l s) rest) t = ap (after_handlers r rest) (same_stmts l t) ∙ same_handlers rest (after_stmts p l t)
