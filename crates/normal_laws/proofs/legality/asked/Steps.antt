-- From what is asked of each statement of a body to something else that is asked of it, where the one gives the other; what stands around the
-- statements is related on the way.
use Rattle.std.proofs.Common.{ℕ, ◌+◌, Bool, List, [], Option, Some, None, IfSome}
use Rattle.std.specs.List.{AllByRecursion}
use Rattle.ada_tree.specs.declared.naming.Span.{Span}
use Rattle.ada_tree.specs.declared.naming.Word.{Word}
use Rattle.ada_tree.specs.PlainExpr.{PExpr}
use Rattle.ada_tree.specs.PlainStmt.{PCallee, PCall, PChoice, PScheme, PHead, PStmt, SNull, SAssign, SDelay, SExit, SRaise, SAbort, SCall, SAccept, SWait, SConditional, STimed, SPut, SPutLine, SNewLine, SGet, SIf, SCase, SBlock, SLoop, PStmts, no_stmt, stmt_then, PMaybe, absent, present, PAccept, accepting, alternative, PAltKind, AAccept, ADelay, ATerminate, PAlts, no_alt, alt_then, PArms, no_arm, arm_then, arm, PCaseArms, no_case_arm, case_arm_then, case_arm, PBody, body, PHandlers, no_handler, handler_then, handler}
use Rattle.ada_static_rules.specs.Sites.{arm_choices, is_present, with_words}
use Rattle.task_laws.specs.legal.asked.Asked.{Asks, AskedStmt, AskedStmts, AskedSome, AskedMaybe, AskedAccept, AskedAlts, AskedKind, AskedArms, AskedCaseArms, AskedBody, AskedHandlers}

-- what is asked of one statement by b gives what a asks of it, where what stands around it is related by R
pub record Steps {C D : Type 0} (b : Asks C) (a : Asks D) (R : C → D → Type 0) : Type 0 where
  pub outer : (c : C) (d : D) (k : ℕ) (s : Span) → R c d → b.outer c k s → a.outer d k s
  pub many : (n : ℕ) → b.many n → a.many n
  pub duration : (n : ℕ) → b.duration n → a.duration n
  pub plain : (c : C) (d : D) (k : ℕ) (x : PStmt) → R c d → b.plain c k x → a.plain d k x
  pub callee : (c : C) (d : D) (k : ℕ) (x : PCallee) → R c d → b.callee c k x → a.callee d k x
  pub call : (c : C) (d : D) (k : ℕ) (x : PCall) → R c d → b.callee c k x.task → b.call c k x → a.call d k x
  pub aborts : (c : C) (d : D) (k : ℕ) (xs : List PCallee) → R c d → b.aborts c k xs → AllByRecursion (b.callee c k) xs → a.aborts d k xs
  -- callees of one abort statement
  pub aborted : (c : C) (d : D) (k : ℕ) (xs : List PCallee) → R c d → b.aborts c k xs → AllByRecursion (b.callee c k) xs → AllByRecursion (a.callee d k) xs
  pub condition : (c : C) (d : D) (k : ℕ) (e : PExpr) → R c d → b.condition c k e → a.condition d k e
  pub selector : (c : C) (d : D) (k : ℕ) (e : PExpr) (xs : List PChoice) (others : Bool) (s : Span) → R c d → b.selector c k e xs others s → a.selector d k e xs others s
  pub choices : (c : C) (d : D) (k : ℕ) (e : PExpr) (xs : List PChoice) → R c d → b.choices c k e xs → a.choices d k e xs
  pub loop : (c : C) (d : D) (k : ℕ) (w : Option Word) (x : Option PScheme) → R c d → b.loop c k w x → a.loop d k w x
  pub looping : (c : C) (d : D) (k : ℕ) (w : Option Word) (x : Option PScheme) → R c d → b.loop c k w x → R (b.looping c w x) (a.looping d w x)
  pub head : (c : C) (d : D) (k : ℕ) (h : PHead) → R c d → b.head c k h → a.head d k h
  pub accepting : (c : C) (d : D) (k : ℕ) (h : PHead) → R c d → b.head c k h → R (b.accepting c h) (a.accepting d h)
  pub wait : (c : C) (d : D) (k : ℕ) (x : PAlts) (others : Bool) (s : Span) → R c d → b.wait c k x others s → a.wait d k x others s
  pub delay : (c : C) (d : D) (k : ℕ) (guard : Option PExpr) (s : Span) → R c d → b.delay c k guard s → a.delay d k guard s
  pub handlers : (hs : PHandlers) → b.handlers hs → a.handlers hs
  pub handler : (c : C) (d : D) (k : ℕ) (names : List ℕ) (ws : List Word) → R c d → b.handler c k names ws → a.handler d k names ws
  pub handling : (c : C) (d : D) → R c d → R (b.handling c) (a.handling d)

module _ {C D : Type 0} (b : Asks C) (a : Asks D) (R : C → D → Type 0) (S : Steps b a R) where
  guard : (c : C) (d : D) (k : ℕ) (o : Option PExpr) → R c d → IfSome o (b.condition c k) → IfSome o (a.condition d k)
  guard c d k None r h = tt
  guard c d k (Some e) r h = S.condition c d k e r h

  mutual
    stmt : (c : C) (d : D) (k : ℕ) (x : PStmt) → R c d → AskedStmt b c k x → AskedStmt a d k x
    stmt c d k (SNull s) r h = S.plain c d k (SNull s) r h
    stmt c d k (SAssign x e s) r h = S.plain c d k (SAssign x e s) r h
    stmt c d k (SDelay n s) r h = S.plain c d k (SDelay n s) r h
    stmt c d k (SExit w e s) r h = S.plain c d k (SExit w e s) r h
    stmt c d k (SRaise w s) r h = S.plain c d k (SRaise w s) r h
    stmt c d k (SPut xs s) r h = S.plain c d k (SPut xs s) r h
    stmt c d k (SPutLine xs s) r h = S.plain c d k (SPutLine xs s) r h
    stmt c d k (SNewLine s) r h = S.plain c d k (SNewLine s) r h
    stmt c d k (SGet x s) r h = S.plain c d k (SGet x s) r h
    stmt c d k (SAbort xs s) r h = (S.outer c d k s r h.0, S.aborts c d (k + 1) xs r h.1 h.2, S.aborted c d (k + 1) xs r h.1 h.2)
    stmt c d k (SCall x s) r h = (S.outer c d k s r h.0, S.callee c d (k + 1) x.task r h.1, S.call c d (k + 1) x r h.1 h.2)
    stmt c d k (SAccept x s) r h = accept c d k x r h
    stmt c d k (SWait x o s) r h = (S.outer c d k s r h.0, S.many _ h.1, S.wait c d k x (is_present o) s r h.2, alts c d (k + 1) x r h.3, maybe c d (k + 1) o r h.4)
    stmt c d k (SConditional x l o s) r h = (
      S.outer c d k s r h.0,
      S.outer c d (k + 1) x.task.name.span r h.1,
      S.callee c d (k + 2) x.task r h.2,
      S.call c d (k + 2) x r h.2 h.3,
      stmts c d (k + 1) l r h.4,
      some c d (k + 1) o r h.5,
    )
    stmt c d k (STimed x l n o s) r h = (
      S.outer c d k s r h.0,
      S.outer c d (k + 1) x.task.name.span r h.1,
      S.callee c d (k + 2) x.task r h.2,
      S.call c d (k + 2) x r h.2 h.3,
      S.duration n h.4,
      stmts c d (k + 1) l r h.5,
      stmts c d (k + 1) o r h.6,
    )
    stmt c d k (SIf x o s) r h = (S.outer c d k s r h.0, S.many _ h.1, arms c d (k + 1) x r h.2, maybe c d (k + 1) o r h.3)
    stmt c d k (SCase e x o s) r h = (S.outer c d k s r h.0, S.selector c d (k + 1) e (arm_choices x) (is_present o) s r h.1, case_arms c d (k + 1) e x r h.2, maybe c d (k + 1) o r h.3)
    stmt c d k (SBlock x s) r h = (S.outer c d k s r h.0, body-of c d (k + 1) x r h.1)
    stmt c d k (SLoop w x l s) r h = (S.outer c d k s r h.0, S.loop c d (k + 1) w x r h.1, some (b.looping c w x) (a.looping d w x) (k + 1) l (S.looping c d (k + 1) w x r h.1) h.2)

    stmts : (c : C) (d : D) (k : ℕ) (l : PStmts) → R c d → AskedStmts b c k l → AskedStmts a d k l
    stmts c d k no_stmt r h = tt
    stmts c d k (stmt_then x l) r h = (stmt c d k x r h.0, stmts c d k l r h.1)

    some : (c : C) (d : D) (k : ℕ) (l : PStmts) → R c d → AskedSome b c k l → AskedSome a d k l
    some c d k no_stmt r h = S.many 0 h
    some c d k (stmt_then x l) r h = (S.many _ h.0, stmt c d k x r h.1, stmts c d k l r h.2)

    maybe : (c : C) (d : D) (k : ℕ) (o : PMaybe) → R c d → AskedMaybe b c k o → AskedMaybe a d k o
    maybe c d k absent r h = tt
    maybe c d k (present l) r h = some c d k l r h

    accept : (c : C) (d : D) (k : ℕ) (x : PAccept) → R c d → AskedAccept b c k x → AskedAccept a d k x
    accept c d k (accepting i o) r h = (S.head c d k i r h.0, maybe (b.accepting c i) (a.accepting d i) (k + 1) o (S.accepting c d k i r h.0) h.1)

    alts : (c : C) (d : D) (k : ℕ) (x : PAlts) → R c d → AskedAlts b c k x → AskedAlts a d k x
    alts c d k no_alt r h = tt
    alts c d k (alt_then (alternative t x s) l) r h = (S.outer c d k s r h.0, guard c d (k + 1) t r h.1, kind c d (k + 1) t s x r h.2, alts c d k l r h.3)

    kind : (c : C) (d : D) (k : ℕ) (t : Option PExpr) (s : Span) (x : PAltKind) → R c d → AskedKind b c k t s x → AskedKind a d k t s x
    kind c d k t s (AAccept x l) r h = (accept c d k x r h.0, stmts c d k l r h.1)
    kind c d k t s (ADelay n l) r h = (S.delay c d k t s r h.0, S.duration n h.1, stmts c d k l r h.2)
    kind c d k t s ATerminate r h = tt

    arms : (c : C) (d : D) (k : ℕ) (x : PArms) → R c d → AskedArms b c k x → AskedArms a d k x
    arms c d k no_arm r h = tt
    arms c d k (arm_then (arm e l) rest) r h = (S.condition c d k e r h.0, some c d k l r h.1, arms c d k rest r h.2)

    case_arms : (c : C) (d : D) (k : ℕ) (e : PExpr) (x : PCaseArms) → R c d → AskedCaseArms b c k e x → AskedCaseArms a d k e x
    case_arms c d k e no_case_arm r h = tt
    case_arms c d k e (case_arm_then (case_arm cs l) rest) r h = (S.choices c d k e cs r h.0, some c d k l r h.1, case_arms c d k e rest r h.2)

    body-of : (c : C) (d : D) (k : ℕ) (x : PBody) → R c d → AskedBody b c k x → AskedBody a d k x
    body-of c d k (body l hs) r h = (some c d k l r h.0, S.handlers hs h.1, handlers c d k [] hs r h.2)

    handlers : (c : C) (d : D) (k : ℕ) (names : List ℕ) (x : PHandlers) → R c d → AskedHandlers b c k names x → AskedHandlers a d k names x
    handlers c d k names no_handler r h = tt
    handlers c d k names (handler_then (handler ws l s) rest) r h = (
      S.outer c d k s r h.0,
      S.handler c d k names ws r h.1,
      some (b.handling c) (a.handling d) (k + 1) l (S.handling c d r) h.2,
      handlers c d k (with_words names ws) rest r h.3,
    )

  -- A body that is as the one asks is as the other asks.
  pub steps_asked : (c : C) (d : D) (k : ℕ) (x : PBody) → R c d → AskedBody b c k x → AskedBody a d k x
  steps_asked c d k x r h = body-of c d k x r h
