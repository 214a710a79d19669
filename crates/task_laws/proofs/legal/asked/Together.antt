-- A body that is as each of two ask is as both ask.
use Rattle.std.proofs.Common.{ℕ, ◌+◌, List, [], ◌∷◌, Option, Some, None, IfSome}
use Rattle.std.specs.List.{AllByRecursion}
use Rattle.ada_tree.specs.declared.naming.Span.{Span}
use Rattle.ada_tree.specs.PlainExpr.{PExpr}
use Rattle.ada_tree.specs.PlainStmt.{PCallee, PStmt, SNull, SAssign, SDelay, SExit, SRaise, SAbort, SCall, SAccept, SWait, SConditional, STimed, SPut, SPutLine, SNewLine, SGet, SIf, SCase, SBlock, SLoop, PStmts, no_stmt, stmt_then, PMaybe, absent, present, PAccept, accepting, alternative, PAltKind, AAccept, ADelay, ATerminate, PAlts, no_alt, alt_then, PArms, no_arm, arm_then, arm, PCaseArms, no_case_arm, case_arm_then, case_arm, PBody, body, PHandlers, no_handler, handler_then, handler}
use Rattle.ada_static_rules.specs.Sites.{with_words}
use Rattle.task_laws.specs.legal.asked.Asked.{Asks, AskedStmt, AskedStmts, AskedSome, AskedMaybe, AskedAccept, AskedAlts, AskedKind, AskedArms, AskedCaseArms, AskedBody, AskedHandlers}
use Rattle.task_laws.specs.legal.asked.Kinds.{both}

module _ {C D : Type 0} (a : Asks C) (b : Asks D) where
  abbrev ab : Asks (C × D)
  ab = both a b

  callees : (c : C) (d : D) (k : ℕ) (xs : List PCallee) → AllByRecursion (a.callee c k) xs → AllByRecursion (b.callee d k) xs → AllByRecursion (ab.callee (c, d) k) xs
  callees c d k [] h g = tt
  callees c d k (x ∷ xs) h g = ((h.0, g.0), callees c d k xs h.1 g.1)

  guard : (c : C) (d : D) (k : ℕ) (o : Option PExpr) → IfSome o (a.condition c k) → IfSome o (b.condition d k) → IfSome o (ab.condition (c, d) k)
  guard c d k None h g = tt
  guard c d k (Some e) h g = (h, g)

  mutual
    stmt : (c : C) (d : D) (k : ℕ) (x : PStmt) → AskedStmt a c k x → AskedStmt b d k x → AskedStmt ab (c, d) k x
    stmt c d k (SNull s) h g = (h, g)
    stmt c d k (SAssign x e s) h g = (h, g)
    stmt c d k (SDelay n s) h g = (h, g)
    stmt c d k (SExit w e s) h g = (h, g)
    stmt c d k (SRaise w s) h g = (h, g)
    stmt c d k (SPut xs s) h g = (h, g)
    stmt c d k (SPutLine xs s) h g = (h, g)
    stmt c d k (SNewLine s) h g = (h, g)
    stmt c d k (SGet x s) h g = (h, g)
    stmt c d k (SAbort xs s) h g = ((h.0, g.0), (h.1, g.1), callees c d (k + 1) xs h.2 g.2)
    stmt c d k (SCall x s) h g = ((h.0, g.0), (h.1, g.1), (h.2, g.2))
    stmt c d k (SAccept x s) h g = accept c d k x h g
    stmt c d k (SWait x o s) h g = ((h.0, g.0), (h.1, g.1), (h.2, g.2), alts c d (k + 1) x h.3 g.3, maybe c d (k + 1) o h.4 g.4)
    stmt c d k (SConditional x l o s) h g = ((h.0, g.0), (h.1, g.1), (h.2, g.2), (h.3, g.3), stmts c d (k + 1) l h.4 g.4, some c d (k + 1) o h.5 g.5)
    stmt c d k (STimed x l n o s) h g = ((h.0, g.0), (h.1, g.1), (h.2, g.2), (h.3, g.3), (h.4, g.4), stmts c d (k + 1) l h.5 g.5, stmts c d (k + 1) o h.6 g.6)
    stmt c d k (SIf x o s) h g = ((h.0, g.0), (h.1, g.1), arms c d (k + 1) x h.2 g.2, maybe c d (k + 1) o h.3 g.3)
    stmt c d k (SCase e x o s) h g = ((h.0, g.0), (h.1, g.1), case_arms c d (k + 1) e x h.2 g.2, maybe c d (k + 1) o h.3 g.3)
    stmt c d k (SBlock x s) h g = ((h.0, g.0), body-of c d (k + 1) x h.1 g.1)
    stmt c d k (SLoop w x l s) h g = ((h.0, g.0), (h.1, g.1), some (a.looping c w x) (b.looping d w x) (k + 1) l h.2 g.2)

    stmts : (c : C) (d : D) (k : ℕ) (l : PStmts) → AskedStmts a c k l → AskedStmts b d k l → AskedStmts ab (c, d) k l
    stmts c d k no_stmt h g = tt
    stmts c d k (stmt_then x l) h g = (stmt c d k x h.0 g.0, stmts c d k l h.1 g.1)

    some : (c : C) (d : D) (k : ℕ) (l : PStmts) → AskedSome a c k l → AskedSome b d k l → AskedSome ab (c, d) k l
    some c d k no_stmt h g = (h, g)
    some c d k (stmt_then x l) h g = ((h.0, g.0), stmt c d k x h.1 g.1, stmts c d k l h.2 g.2)

    maybe : (c : C) (d : D) (k : ℕ) (o : PMaybe) → AskedMaybe a c k o → AskedMaybe b d k o → AskedMaybe ab (c, d) k o
    maybe c d k absent h g = tt
    maybe c d k (present l) h g = some c d k l h g

    accept : (c : C) (d : D) (k : ℕ) (x : PAccept) → AskedAccept a c k x → AskedAccept b d k x → AskedAccept ab (c, d) k x
    accept c d k (accepting i o) h g = ((h.0, g.0), maybe (a.accepting c i) (b.accepting d i) (k + 1) o h.1 g.1)

    alts : (c : C) (d : D) (k : ℕ) (x : PAlts) → AskedAlts a c k x → AskedAlts b d k x → AskedAlts ab (c, d) k x
    alts c d k no_alt h g = tt
    alts c d k (alt_then (alternative t x s) l) h g = ((h.0, g.0), guard c d (k + 1) t h.1 g.1, kind c d (k + 1) t s x h.2 g.2, alts c d k l h.3 g.3)

    kind : (c : C) (d : D) (k : ℕ) (t : Option PExpr) (s : Span) (x : PAltKind) → AskedKind a c k t s x → AskedKind b d k t s x → AskedKind ab (c, d) k t s x
    kind c d k t s (AAccept x l) h g = (accept c d k x h.0 g.0, stmts c d k l h.1 g.1)
    kind c d k t s (ADelay n l) h g = ((h.0, g.0), (h.1, g.1), stmts c d k l h.2 g.2)
    kind c d k t s ATerminate h g = tt

    arms : (c : C) (d : D) (k : ℕ) (x : PArms) → AskedArms a c k x → AskedArms b d k x → AskedArms ab (c, d) k x
    arms c d k no_arm h g = tt
    arms c d k (arm_then (arm e l) rest) h g = ((h.0, g.0), some c d k l h.1 g.1, arms c d k rest h.2 g.2)

    case_arms : (c : C) (d : D) (k : ℕ) (e : PExpr) (x : PCaseArms) → AskedCaseArms a c k e x → AskedCaseArms b d k e x → AskedCaseArms ab (c, d) k e x
    case_arms c d k e no_case_arm h g = tt
    case_arms c d k e (case_arm_then (case_arm cs l) rest) h g = ((h.0, g.0), some c d k l h.1 g.1, case_arms c d k e rest h.2 g.2)

    body-of : (c : C) (d : D) (k : ℕ) (x : PBody) → AskedBody a c k x → AskedBody b d k x → AskedBody ab (c, d) k x
    body-of c d k (body l hs) h g = (some c d k l h.0 g.0, (h.1, g.1), handlers c d k [] hs h.2 g.2)

    handlers : (c : C) (d : D) (k : ℕ) (names : List ℕ) (x : PHandlers) → AskedHandlers a c k names x → AskedHandlers b d k names x → AskedHandlers ab (c, d) k names x
    handlers c d k names no_handler h g = tt
    handlers c d k names (handler_then (handler ws l s) rest) h g =
        ((h.0, g.0), (h.1, g.1), some (a.handling c) (b.handling d) (k + 1) l h.2 g.2, handlers c d k (with_words names ws) rest h.3 g.3)

  pub both_asked : (c : C) (d : D) (k : ℕ) (x : PBody) → AskedBody a c k x → AskedBody b d k x → AskedBody ab (c, d) k x
  both_asked c d k x h g = body-of c d k x h g
