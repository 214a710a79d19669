-- What is asked of the selector of a case is known where its choices are asked, and what is asked of the choices where the selector is.
use Rattle.std.proofs.Common.{ℕ, ◌+◌, Bool, List, [], Option}
use Rattle.std.specs.List.{AllByRecursion}
use Rattle.common_lemmas.proofs.Lists.{all_joined}
use Rattle.ada_tree.specs.declared.naming.Span.{Span}
use Rattle.ada_tree.specs.PlainExpr.{PExpr}
use Rattle.ada_tree.specs.PlainStmt.{PChoice, PStmt, SNull, SAssign, SDelay, SExit, SRaise, SAbort, SCall, SAccept, SWait, SConditional, STimed, SPut, SPutLine, SNewLine, SGet, SIf, SCase, SBlock, SLoop, PStmts, no_stmt, stmt_then, PMaybe, absent, present, PAccept, accepting, alternative, PAltKind, AAccept, ADelay, ATerminate, PAlts, no_alt, alt_then, PArms, no_arm, arm_then, arm, PCaseArms, no_case_arm, case_arm_then, case_arm, PBody, body, PHandlers, no_handler, handler_then, handler}
use Rattle.ada_static_rules.specs.Sites.{arm_choices, is_present, with_words}
use Rattle.task_laws.specs.legal.asked.Asked.{Asks, AskedStmt, AskedStmts, AskedSome, AskedMaybe, AskedAccept, AskedAlts, AskedKind, AskedArms, AskedCaseArms, AskedBody, AskedHandlers}

-- what is asked, and besides Q of the selector where choices stand, and S of all choices where the selector stands
abbrev pub with_cases : {C : Type 0} → Asks C → (C → PExpr → Type 0) → (PChoice → Type 0) → Asks C
with_cases a Q S = record a {
  selector = λ c k e xs others s. a.selector c k e xs others s × AllByRecursion S xs;
  choices = λ c k e xs. a.choices c k e xs × Q c e;
}

module _ {C : Type 0} (a : Asks C) (Q : C → PExpr → Type 0) (S : PChoice → Type 0)
    (told : (c : C) (k : ℕ) (e : PExpr) (xs : List PChoice) (others : Bool) (s : Span) → a.selector c k e xs others s → Q c e)
    (each : (c : C) (k : ℕ) (e : PExpr) (xs : List PChoice) → a.choices c k e xs → AllByRecursion S xs) where
  abbrev b : Asks C
  b = with_cases a Q S

  all-choices : (c : C) (k : ℕ) (e : PExpr) (x : PCaseArms) → AskedCaseArms a c k e x → AllByRecursion S (arm_choices x)
  all-choices c k e no_case_arm h = tt
  all-choices c k e (case_arm_then (case_arm cs l) rest) h = all_joined S cs (arm_choices rest) (each c k e cs h.0) (all-choices c k e rest h.2)

  mutual
    stmt : (c : C) (k : ℕ) (x : PStmt) → AskedStmt a c k x → AskedStmt b c k x
    stmt c k (SNull s) h = h
    stmt c k (SAssign x e s) h = h
    stmt c k (SDelay n s) h = h
    stmt c k (SExit w e s) h = h
    stmt c k (SRaise w s) h = h
    stmt c k (SPut xs s) h = h
    stmt c k (SPutLine xs s) h = h
    stmt c k (SNewLine s) h = h
    stmt c k (SGet x s) h = h
    stmt c k (SAbort xs s) h = h
    stmt c k (SCall x s) h = h
    stmt c k (SAccept x s) h = accept c k x h
    stmt c k (SWait x o s) h = (h.0, h.1, h.2, alts c (k + 1) x h.3, maybe c (k + 1) o h.4)
    stmt c k (SConditional x l o s) h = (h.0, h.1, h.2, h.3, stmts c (k + 1) l h.4, some c (k + 1) o h.5)
    stmt c k (STimed x l n o s) h = (h.0, h.1, h.2, h.3, h.4, stmts c (k + 1) l h.5, stmts c (k + 1) o h.6)
    stmt c k (SIf x o s) h = (h.0, h.1, arms c (k + 1) x h.2, maybe c (k + 1) o h.3)
    stmt c k (SCase e x o s) h =
        (h.0, (h.1, all-choices c (k + 1) e x h.2), case_arms c (k + 1) e x (told c (k + 1) e (arm_choices x) (is_present o) s h.1) h.2, maybe c (k + 1) o h.3)
    stmt c k (SBlock x s) h = (h.0, body-of c (k + 1) x h.1)
    stmt c k (SLoop w x l s) h = (h.0, h.1, some (a.looping c w x) (k + 1) l h.2)

    stmts : (c : C) (k : ℕ) (l : PStmts) → AskedStmts a c k l → AskedStmts b c k l
    stmts c k no_stmt h = tt
    stmts c k (stmt_then x l) h = (stmt c k x h.0, stmts c k l h.1)

    some : (c : C) (k : ℕ) (l : PStmts) → AskedSome a c k l → AskedSome b c k l
    some c k no_stmt h = h
    some c k (stmt_then x l) h = (h.0, stmt c k x h.1, stmts c k l h.2)

    maybe : (c : C) (k : ℕ) (o : PMaybe) → AskedMaybe a c k o → AskedMaybe b c k o
    maybe c k absent h = tt
    maybe c k (present l) h = some c k l h

    accept : (c : C) (k : ℕ) (x : PAccept) → AskedAccept a c k x → AskedAccept b c k x
    accept c k (accepting i o) h = (h.0, maybe (a.accepting c i) (k + 1) o h.1)

    alts : (c : C) (k : ℕ) (x : PAlts) → AskedAlts a c k x → AskedAlts b c k x
    alts c k no_alt h = tt
    alts c k (alt_then (alternative t x s) l) h = (h.0, h.1, kind c (k + 1) t s x h.2, alts c k l h.3)

    kind : (c : C) (k : ℕ) (t : Option PExpr) (s : Span) (x : PAltKind) → AskedKind a c k t s x → AskedKind b c k t s x
    kind c k t s (AAccept x l) h = (accept c k x h.0, stmts c k l h.1)
    kind c k t s (ADelay n l) h = (h.0, h.1, stmts c k l h.2)
    kind c k t s ATerminate h = tt

    arms : (c : C) (k : ℕ) (x : PArms) → AskedArms a c k x → AskedArms b c k x
    arms c k no_arm h = tt
    arms c k (arm_then (arm e l) rest) h = (h.0, some c k l h.1, arms c k rest h.2)

    case_arms : (c : C) (k : ℕ) (e : PExpr) (x : PCaseArms) → Q c e → AskedCaseArms a c k e x → AskedCaseArms b c k e x
    case_arms c k e no_case_arm q h = tt
    case_arms c k e (case_arm_then (case_arm cs l) rest) q h = ((h.0, q), some c k l h.1, case_arms c k e rest q h.2)

    body-of : (c : C) (k : ℕ) (x : PBody) → AskedBody a c k x → AskedBody b c k x
    body-of c k (body l hs) h = (some c k l h.0, h.1, handlers c k [] hs h.2)

    handlers : (c : C) (k : ℕ) (names : List ℕ) (x : PHandlers) → AskedHandlers a c k names x → AskedHandlers b c k names x
    handlers c k names no_handler h = tt
    handlers c k names (handler_then (handler ws l s) rest) h = (h.0, h.1, some (a.handling c) (k + 1) l h.2, handlers c k (with_words names ws) rest h.3)

  pub cases_asked : (c : C) (k : ℕ) (x : PBody) → AskedBody a c k x → AskedBody b c k x
  cases_asked c k x h = body-of c k x h
