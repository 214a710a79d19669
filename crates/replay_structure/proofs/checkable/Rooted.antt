-- In a body of which each statement stands at most so deep, what stands in a statement itself is at most one deeper.
use Rattle.std.proofs.Common.{ℕ, ◌+◌, ◌≤◌, List, [], ◌∷◌, Option, Some, None, IfSome, arith}
use Rattle.std.specs.List.{AllByRecursion}
use Rattle.ada_tree.specs.declared.naming.Span.{Span}
use Rattle.ada_tree.specs.PlainExpr.{PExpr}
use Rattle.ada_tree.specs.PlainStmt.{PCallee, PHead, PStmt, SNull, SAssign, SDelay, SExit, SRaise, SAbort, SCall, SAccept, SWait, SConditional, STimed, SPut, SPutLine, SNewLine, SGet, SIf, SCase, SBlock, SLoop, PStmts, no_stmt, stmt_then, PMaybe, absent, present, PAccept, accepting, alternative, PAltKind, AAccept, ADelay, ATerminate, PAlts, no_alt, alt_then, PArms, no_arm, arm_then, arm, PCaseArms, no_case_arm, case_arm_then, case_arm, PBody, body, PHandlers, no_handler, handler_then, handler}
use Rattle.ada_static_rules.specs.Sites.{with_words}
use Rattle.task_laws.specs.legal.asked.Asked.{Asks, AskedStmt, AskedStmts, AskedSome, AskedMaybe, AskedAccept, AskedAlts, AskedKind, AskedArms, AskedCaseArms, AskedBody, AskedHandlers}
use Rattle.replay_structure.specs.checkable.inner.Depth.{depth_asks}

-- what is asked tells of each statement that it stands at most so deep
pub record Tells {C : Type 0} (b : Asks C) (m : ℕ) : Type 0 where
  pub outer : (c : C) (k : ℕ) (s : Span) → b.outer c k s → k ≤ m
  pub plain : (c : C) (k : ℕ) (x : PStmt) → b.plain c k x → k ≤ m
  pub head : (c : C) (k : ℕ) (h : PHead) → b.head c k h → k ≤ m

module _ {C : Type 0} (b : Asks C) (m : ℕ) (t : Tells b m) where
  abbrev a : Asks (Unit {0})
  a = depth_asks (m + 1)

  callees : (k : ℕ) (xs : List PCallee) → k ≤ m + 1 → AllByRecursion (a.callee tt k) xs
  callees k [] le = tt
  callees k (x ∷ xs) le = (le, callees k xs le)

  guard : (k : ℕ) (o : Option PExpr) → k ≤ m + 1 → IfSome o (a.condition tt k)
  guard k None le = tt
  guard k (Some e) le = le

  more : (k : ℕ) → k ≤ m → k ≤ m + 1
  more k le = omega (arith, le)

  next : (k : ℕ) → k ≤ m → k + 1 ≤ m + 1
  next k le = omega (arith, le)

  mutual
    stmt : (c : C) (k : ℕ) (x : PStmt) → AskedStmt b c k x → AskedStmt a tt k x
    stmt c k (SNull s) h = more k (t.plain c k (SNull s) h)
    stmt c k (SAssign x e s) h = more k (t.plain c k (SAssign x e s) h)
    stmt c k (SDelay n s) h = more k (t.plain c k (SDelay n s) h)
    stmt c k (SExit w e s) h = more k (t.plain c k (SExit w e s) h)
    stmt c k (SRaise w s) h = more k (t.plain c k (SRaise w s) h)
    stmt c k (SPut xs s) h = more k (t.plain c k (SPut xs s) h)
    stmt c k (SPutLine xs s) h = more k (t.plain c k (SPutLine xs s) h)
    stmt c k (SNewLine s) h = more k (t.plain c k (SNewLine s) h)
    stmt c k (SGet x s) h = more k (t.plain c k (SGet x s) h)
    stmt c k (SAbort xs s) h = let le : k ≤ m = t.outer c k s h.0 in (more k le, next k le, callees (k + 1) xs (next k le))
    stmt c k (SCall x s) h = let le : k ≤ m = t.outer c k s h.0 in (more k le, next k le, next k le)
    stmt c k (SAccept x s) h = accept c k x h
    stmt c k (SWait x o s) h = let le : k ≤ m = t.outer c k s h.0 in (more k le, tt, more k le, alts c (k + 1) x h.3, maybe c (k + 1) o h.4)
    stmt c k (SConditional x l o s) h =
        let le : k ≤ m = t.outer c k s h.0 in
        let under : k + 1 ≤ m = t.outer c (k + 1) x.task.name.span h.1 in
        (more k le, more (k + 1) under, omega (arith, under), omega (arith, under), stmts c (k + 1) l h.4, some c (k + 1) o h.5)
    stmt c k (STimed x l n o s) h =
        let le : k ≤ m = t.outer c k s h.0 in
        let under : k + 1 ≤ m = t.outer c (k + 1) x.task.name.span h.1 in
        (more k le, more (k + 1) under, omega (arith, under), omega (arith, under), tt, stmts c (k + 1) l h.5, stmts c (k + 1) o h.6)
    stmt c k (SIf x o s) h = let le : k ≤ m = t.outer c k s h.0 in (more k le, tt, arms c (k + 1) x (next k le) h.2, maybe c (k + 1) o h.3)
    stmt c k (SCase e x o s) h = let le : k ≤ m = t.outer c k s h.0 in (more k le, next k le, case_arms c (k + 1) e x (next k le) h.2, maybe c (k + 1) o h.3)
    stmt c k (SBlock x s) h = (more k (t.outer c k s h.0), body-of c (k + 1) x h.1)
    stmt c k (SLoop w x l s) h = let le : k ≤ m = t.outer c k s h.0 in (more k le, next k le, some (b.looping c w x) (k + 1) l h.2)

    stmts : (c : C) (k : ℕ) (l : PStmts) → AskedStmts b c k l → AskedStmts a tt k l
    stmts c k no_stmt h = tt
    stmts c k (stmt_then x l) h = (stmt c k x h.0, stmts c k l h.1)

    some : (c : C) (k : ℕ) (l : PStmts) → AskedSome b c k l → AskedSome a tt k l
    some c k no_stmt h = tt
    some c k (stmt_then x l) h = (tt, stmt c k x h.1, stmts c k l h.2)

    maybe : (c : C) (k : ℕ) (o : PMaybe) → AskedMaybe b c k o → AskedMaybe a tt k o
    maybe c k absent h = tt
    maybe c k (present l) h = some c k l h

    accept : (c : C) (k : ℕ) (x : PAccept) → AskedAccept b c k x → AskedAccept a tt k x
    accept c k (accepting i o) h = (more k (t.head c k i h.0), maybe (b.accepting c i) (k + 1) o h.1)

    alts : (c : C) (k : ℕ) (x : PAlts) → AskedAlts b c k x → AskedAlts a tt k x
    alts c k no_alt h = tt
    alts c k (alt_then (alternative g x s) l) h = let le : k ≤ m = t.outer c k s h.0 in (more k le, guard (k + 1) g (next k le), kind c (k + 1) g s x (next k le) h.2, alts c k l h.3)

    kind : (c : C) (k : ℕ) (g : Option PExpr) (s : Span) (x : PAltKind) → k ≤ m + 1 → AskedKind b c k g s x → AskedKind a tt k g s x
    kind c k g s (AAccept x l) le h = (accept c k x h.0, stmts c k l h.1)
    kind c k g s (ADelay n l) le h = (le, tt, stmts c k l h.2)
    kind c k g s ATerminate le h = tt

    arms : (c : C) (k : ℕ) (x : PArms) → k ≤ m + 1 → AskedArms b c k x → AskedArms a tt k x
    arms c k no_arm le h = tt
    arms c k (arm_then (arm e l) rest) le h = (le, some c k l h.1, arms c k rest le h.2)

    case_arms : (c : C) (k : ℕ) (e : PExpr) (x : PCaseArms) → k ≤ m + 1 → AskedCaseArms b c k e x → AskedCaseArms a tt k e x
    case_arms c k e no_case_arm le h = tt
    case_arms c k e (case_arm_then (case_arm xs l) rest) le h = (le, some c k l h.1, case_arms c k e rest le h.2)

    body-of : (c : C) (k : ℕ) (x : PBody) → AskedBody b c k x → AskedBody a tt k x
    body-of c k (body l hs) h = (some c k l h.0, tt, handlers c k [] hs h.2)

    handlers : (c : C) (k : ℕ) (names : List ℕ) (x : PHandlers) → AskedHandlers b c k names x → AskedHandlers a tt k names x
    handlers c k names no_handler h = tt
    handlers c k names (handler_then (handler ws l s) rest) h = (more k (t.outer c k s h.0), tt, some (b.handling c) (k + 1) l h.2, handlers c k (with_words names ws) rest h.3)

  -- What stands in the statements of a body is at most one deeper than the deepest statement.
  pub rooted_asked : (c : C) (k : ℕ) (x : PBody) → AskedBody b c k x → AskedBody (depth_asks (m + 1)) tt k x
  rooted_asked c k x h = body-of c k x h
