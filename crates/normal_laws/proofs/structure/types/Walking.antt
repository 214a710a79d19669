-- What each statement and each alternative keeps, a whole walk of a rewriter keeps: a relation of its state to that of another rewriter, which may be the same.
use Rattle.ada_tree.specs.PlainStmt.{PStmt, SNull, SAssign, SDelay, SExit, SRaise, SAbort, SCall, SAccept, SWait, SConditional, STimed, SPut, SPutLine, SNewLine, SGet, SIf, SCase, SBlock, SLoop, PStmts, no_stmt, stmt_then, PMaybe, absent, present, PAccept, accepting, PAlt, alternative, PAltKind, AAccept, ADelay, ATerminate, PAlts, no_alt, alt_then, PArms, no_arm, arm_then, arm, PCaseArms, no_case_arm, case_arm_then, case_arm, PBody, body, PHandlers, no_handler, handler_then, handler}
use Rattle.normal_model.specs.Walk.{Rewriter, after_parts, after_stmts, after_maybe, after_accept, after_kind, after_alts, after_arms, after_case_arms, after_body, after_handlers}

module _ {S T : Type 0} (r : Rewriter S) (q : Rewriter T) (P : S → T → Type 0) (entered : (t : S) (u : T) (x : PStmt) → P t u → P (r.entered_stmt t x) (q.entered_stmt u x))
    (opened : (t : S) (u : T) (x : PAlt) → P t u → P (r.entered_alternative t x) (q.entered_alternative u x)) where
  mutual
    pub parts-keep : (x : PStmt) (t : S) (u : T) → P t u → P (after_parts r x t) (after_parts q x u)
    parts-keep (SAccept a s) t u h = accept-keeps a t u h
    parts-keep (SWait x o s) t u h = maybe-keeps o _ _ (alts-keep x t u h)
    parts-keep (SConditional c b o s) t u h = stmts-keep o _ _ (stmts-keep b t u h)
    parts-keep (STimed c b d a s) t u h = stmts-keep a _ _ (stmts-keep b t u h)
    parts-keep (SIf x o s) t u h = maybe-keeps o _ _ (arms-keep x t u h)
    parts-keep (SCase e x o s) t u h = maybe-keeps o _ _ (case_arms-keep x t u h)
    parts-keep (SBlock b s) t u h = body-keeps b t u h
    parts-keep (SLoop w c l s) t u h = stmts-keep l t u h
    parts-keep (SNull s) t u h = h
    parts-keep (SAssign x e s) t u h = h
    parts-keep (SDelay d s) t u h = h
    parts-keep (SExit w e s) t u h = h
    parts-keep (SRaise w s) t u h = h
    parts-keep (SAbort cs s) t u h = h
    parts-keep (SCall c s) t u h = h
    parts-keep (SPut ps s) t u h = h
    parts-keep (SPutLine ps s) t u h = h
    parts-keep (SNewLine s) t u h = h
    parts-keep (SGet x s) t u h = h

    pub stmts-keep : (l : PStmts) (t : S) (u : T) → P t u → P (after_stmts r l t) (after_stmts q l u)
    stmts-keep no_stmt t u h = h
    stmts-keep (stmt_then x l) t u h = stmts-keep l _ _ (parts-keep x _ _ (entered t u x h))

    pub maybe-keeps : (o : PMaybe) (t : S) (u : T) → P t u → P (after_maybe r o t) (after_maybe q o u)
    maybe-keeps absent t u h = h
    maybe-keeps (present l) t u h = stmts-keep l t u h

    pub accept-keeps : (a : PAccept) (t : S) (u : T) → P t u → P (after_accept r a t) (after_accept q a u)
    accept-keeps (accepting d o) t u h = maybe-keeps o t u h

    pub kind-keeps : (k : PAltKind) (t : S) (u : T) → P t u → P (after_kind r k t) (after_kind q k u)
    kind-keeps (AAccept a l) t u h = stmts-keep l _ _ (accept-keeps a t u h)
    kind-keeps (ADelay d l) t u h = stmts-keep l t u h
    kind-keeps ATerminate t u h = h

    pub alts-keep : (l : PAlts) (t : S) (u : T) → P t u → P (after_alts r l t) (after_alts q l u)
    alts-keep no_alt t u h = h
    alts-keep (alt_then (alternative g k s) l) t u h = alts-keep l _ _ (kind-keeps k _ _ (opened t u (alternative g k s) h))

    pub arms-keep : (l : PArms) (t : S) (u : T) → P t u → P (after_arms r l t) (after_arms q l u)
    arms-keep no_arm t u h = h
    arms-keep (arm_then (arm e l) rest) t u h = arms-keep rest _ _ (stmts-keep l t u h)

    pub case_arms-keep : (l : PCaseArms) (t : S) (u : T) → P t u → P (after_case_arms r l t) (after_case_arms q l u)
    case_arms-keep no_case_arm t u h = h
    case_arms-keep (case_arm_then (case_arm cs l) rest) t u h = case_arms-keep rest _ _ (stmts-keep l t u h)

    pub body-keeps : (b : PBody) (t : S) (u : T) → P t u → P (after_body r b t) (after_body q b u)
    body-keeps (body l hs) t u h = handlers-keep hs _ _ (stmts-keep l t u h)

    pub handlers-keep : (l : PHandlers) (t : S) (u : T) → P t u → P (after_handlers r l t) (after_handlers q l u)
    handlers-keep no_handler t u h = h
    handlers-keep (handler_then (handler ws l s) rest) t u h = handlers-keep rest _ _ (stmts-keep l t u h)
