-- What the rules of every part ask of a body is asked statement by statement, and the other way round.
use Rattle.std.proofs.Common.{ℕ, ◌+◌, List, [], Option}
use Rattle.std.proofs.lemmas.List.Elements.{All-from_recursion, recursion_from_All}
use Rattle.ada_tree.specs.declared.naming.Span.{Span}
use Rattle.ada_tree.specs.PlainExpr.{PExpr}
use Rattle.ada_tree.specs.PlainStmt.{PStmt, SNull, SAssign, SDelay, SExit, SRaise, SAbort, SCall, SAccept, SWait, SConditional, STimed, SPut, SPutLine, SNewLine, SGet, SIf, SCase, SBlock, SLoop, PStmts, no_stmt, stmt_then, PMaybe, absent, present, PAccept, accepting, alternative, PAltKind, AAccept, ADelay, ATerminate, PAlts, no_alt, alt_then, PArms, no_arm, arm_then, arm, PCaseArms, no_case_arm, case_arm_then, case_arm, PBody, body, PHandlers, no_handler, handler_then, handler}
use Rattle.ada_tree.specs.Every.{Rules, EveryCallee, EveryStmt, EveryStmts, EverySome, EveryMaybe, EveryAccept, EveryAltKind, EveryAlts, EveryArms, EveryCaseArms, EveryBody, EveryHandlers}
use Rattle.ada_static_rules.specs.Sites.{with_words}
use Rattle.task_laws.specs.legal.asked.Asked.{Asks, AskedStmt, AskedStmts, AskedSome, AskedMaybe, AskedAccept, AskedAlts, AskedKind, AskedArms, AskedCaseArms, AskedBody, AskedHandlers}
use Rattle.task_laws.specs.legal.asked.Kinds.{place_asks}

module _ (r : Rules) where
  abbrev a : Asks (Unit {0})
  a = place_asks r

  -- ---- from the rules

  mutual
    stmt : (k : ℕ) (x : PStmt) → EveryStmt r k x → AskedStmt a tt k x
    stmt k (SNull s) h = h
    stmt k (SAssign x e s) h = h
    stmt k (SDelay n s) h = h
    stmt k (SExit w e s) h = h
    stmt k (SRaise w s) h = h
    stmt k (SPut xs s) h = h
    stmt k (SPutLine xs s) h = h
    stmt k (SNewLine s) h = h
    stmt k (SGet x s) h = h
    stmt k (SAbort xs s) h = (h.0, h.1, recursion_from_All (EveryCallee r (k + 1)) xs h.2)
    stmt k (SCall x s) h = (h.0, h.1.0, (h.1.1, h.1.2))
    stmt k (SAccept x s) h = accept k x h
    stmt k (SWait x o s) h = (h.0, h.1, tt, alts (k + 1) x h.2, maybe (k + 1) o h.3)
    stmt k (SConditional x l o s) h = (h.0, h.1, h.2.0, (h.2.1, h.2.2), stmts (k + 1) l h.3, some (k + 1) o h.4)
    stmt k (STimed x l n o s) h = (h.0, h.1, h.2.0, (h.2.1, h.2.2), h.4, stmts (k + 1) l h.3, stmts (k + 1) o h.5)
    stmt k (SIf x o s) h = (h.0, h.1, arms (k + 1) x h.2, maybe (k + 1) o h.3)
    stmt k (SCase e x o s) h = (h.0, h.1, case_arms (k + 1) e x h.2, maybe (k + 1) o h.3)
    stmt k (SBlock x s) h = (h.0, body-of (k + 1) x h.1)
    stmt k (SLoop w c l s) h = (h.0, (h.1, h.2), some (k + 1) l h.3)

    stmts : (k : ℕ) (l : PStmts) → EveryStmts r k l → AskedStmts a tt k l
    stmts k no_stmt h = tt
    stmts k (stmt_then x l) h = (stmt k x h.0, stmts k l h.1)

    some : (k : ℕ) (l : PStmts) → EverySome r k l → AskedSome a tt k l
    some k no_stmt h = h
    some k (stmt_then x l) h = (h.0, stmt k x h.1, stmts k l h.2)

    maybe : (k : ℕ) (o : PMaybe) → EveryMaybe r k o → AskedMaybe a tt k o
    maybe k absent h = tt
    maybe k (present l) h = some k l h

    accept : (k : ℕ) (x : PAccept) → EveryAccept r k x → AskedAccept a tt k x
    accept k (accepting i o) h = ((h.0, h.1), maybe (k + 1) o h.2)

    alts : (k : ℕ) (x : PAlts) → EveryAlts r k x → AskedAlts a tt k x
    alts k no_alt h = tt
    alts k (alt_then (alternative g x s) l) h = (h.0.0, h.0.1, kind (k + 1) g s x h.0.2, alts k l h.1)

    kind : (k : ℕ) (g : Option PExpr) (s : Span) (x : PAltKind) → EveryAltKind r k x → AskedKind a tt k g s x
    kind k g s (AAccept x l) h = (accept k x h.0, stmts k l h.1)
    kind k g s (ADelay n l) h = (h.0, h.1, stmts k l h.2)
    kind k g s ATerminate h = tt

    arms : (k : ℕ) (x : PArms) → EveryArms r k x → AskedArms a tt k x
    arms k no_arm h = tt
    arms k (arm_then (arm e l) rest) h = (h.0.0, some k l h.0.1, arms k rest h.1)

    case_arms : (k : ℕ) (e : PExpr) (x : PCaseArms) → EveryCaseArms r k x → AskedCaseArms a tt k e x
    case_arms k e no_case_arm h = tt
    case_arms k e (case_arm_then (case_arm cs l) rest) h = ((h.0.0, h.0.1), some k l h.0.2, case_arms k e rest h.1)

    body-of : (k : ℕ) (x : PBody) → EveryBody r k x → AskedBody a tt k x
    body-of k (body l hs) h = (some k l h.0, h.1, handlers k [] hs h.2)

    handlers : (k : ℕ) (names : List ℕ) (x : PHandlers) → EveryHandlers r k x → AskedHandlers a tt k names x
    handlers k names no_handler h = tt
    handlers k names (handler_then (handler ws l s) rest) h = (h.0.0, h.0.1, some (k + 1) l h.0.2, handlers k (with_words names ws) rest h.1)

  -- ---- to the rules

  mutual
    stmt' : (k : ℕ) (x : PStmt) → AskedStmt a tt k x → EveryStmt r k x
    stmt' k (SNull s) h = h
    stmt' k (SAssign x e s) h = h
    stmt' k (SDelay n s) h = h
    stmt' k (SExit w e s) h = h
    stmt' k (SRaise w s) h = h
    stmt' k (SPut xs s) h = h
    stmt' k (SPutLine xs s) h = h
    stmt' k (SNewLine s) h = h
    stmt' k (SGet x s) h = h
    stmt' k (SAbort xs s) h = (h.0, h.1, All-from_recursion (EveryCallee r (k + 1)) xs h.2)
    stmt' k (SCall x s) h = (h.0, (h.1, h.2.0, h.2.1))
    stmt' k (SAccept x s) h = accept' k x h
    stmt' k (SWait x o s) h = (h.0, h.1, alts' (k + 1) x h.3, maybe' (k + 1) o h.4)
    stmt' k (SConditional x l o s) h = (h.0, h.1, (h.2, h.3.0, h.3.1), stmts' (k + 1) l h.4, some' (k + 1) o h.5)
    stmt' k (STimed x l n o s) h = (h.0, h.1, (h.2, h.3.0, h.3.1), stmts' (k + 1) l h.5, h.4, stmts' (k + 1) o h.6)
    stmt' k (SIf x o s) h = (h.0, h.1, arms' (k + 1) x h.2, maybe' (k + 1) o h.3)
    stmt' k (SCase e x o s) h = (h.0, h.1, case_arms' (k + 1) e x h.2, maybe' (k + 1) o h.3)
    stmt' k (SBlock x s) h = (h.0, body-of' (k + 1) x h.1)
    stmt' k (SLoop w c l s) h = (h.0, h.1.0, h.1.1, some' (k + 1) l h.2)

    stmts' : (k : ℕ) (l : PStmts) → AskedStmts a tt k l → EveryStmts r k l
    stmts' k no_stmt h = tt
    stmts' k (stmt_then x l) h = (stmt' k x h.0, stmts' k l h.1)

    some' : (k : ℕ) (l : PStmts) → AskedSome a tt k l → EverySome r k l
    some' k no_stmt h = h
    some' k (stmt_then x l) h = (h.0, stmt' k x h.1, stmts' k l h.2)

    maybe' : (k : ℕ) (o : PMaybe) → AskedMaybe a tt k o → EveryMaybe r k o
    maybe' k absent h = tt
    maybe' k (present l) h = some' k l h

    accept' : (k : ℕ) (x : PAccept) → AskedAccept a tt k x → EveryAccept r k x
    accept' k (accepting i o) h = (h.0.0, h.0.1, maybe' (k + 1) o h.1)

    alts' : (k : ℕ) (x : PAlts) → AskedAlts a tt k x → EveryAlts r k x
    alts' k no_alt h = tt
    alts' k (alt_then (alternative g x s) l) h = ((h.0, h.1, kind' (k + 1) g s x h.2), alts' k l h.3)

    kind' : (k : ℕ) (g : Option PExpr) (s : Span) (x : PAltKind) → AskedKind a tt k g s x → EveryAltKind r k x
    kind' k g s (AAccept x l) h = (accept' k x h.0, stmts' k l h.1)
    kind' k g s (ADelay n l) h = (h.0, h.1, stmts' k l h.2)
    kind' k g s ATerminate h = tt

    arms' : (k : ℕ) (x : PArms) → AskedArms a tt k x → EveryArms r k x
    arms' k no_arm h = tt
    arms' k (arm_then (arm e l) rest) h = ((h.0, some' k l h.1), arms' k rest h.2)

    case_arms' : (k : ℕ) (e : PExpr) (x : PCaseArms) → AskedCaseArms a tt k e x → EveryCaseArms r k x
    case_arms' k e no_case_arm h = tt
    case_arms' k e (case_arm_then (case_arm cs l) rest) h = ((h.0.0, h.0.1, some' k l h.1), case_arms' k e rest h.2)

    body-of' : (k : ℕ) (x : PBody) → AskedBody a tt k x → EveryBody r k x
    body-of' k (body l hs) h = (some' k l h.0, h.1, handlers' k [] hs h.2)

    handlers' : (k : ℕ) (names : List ℕ) (x : PHandlers) → AskedHandlers a tt k names x → EveryHandlers r k x
    handlers' k names no_handler h = tt
    handlers' k names (handler_then (handler ws l s) rest) h = ((h.0, h.1, some' (k + 1) l h.2), handlers' k (with_words names ws) rest h.3)

  -- A body of which the rules hold is as they ask, and the other way round.
  pub placed_asked : (k : ℕ) (x : PBody) → EveryBody r k x → AskedBody a tt k x
  placed_asked k x h = body-of k x h

  pub asked_placed : (k : ℕ) (x : PBody) → AskedBody a tt k x → EveryBody r k x
  asked_placed k x h = body-of' k x h
