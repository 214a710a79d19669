-- What the rules 13 to 23 ask at each place of a body is asked statement by statement, and the other way round.
use Rattle.std.proofs.Common.{ℕ, ◌+◌, List, [], ◌∷◌, ◌++◌, flat_map, Option, Some, None, IfSome}
use Rattle.std.specs.List.{AllByRecursion}
use Rattle.ada_tree.specs.declared.naming.Span.{Span}
use Rattle.ada_tree.specs.PlainExpr.{PExpr}
use Rattle.ada_tree.specs.PlainStmt.{PCallee, PStmt, SNull, SAssign, SDelay, SExit, SRaise, SAbort, SCall, SAccept, SWait, SConditional, STimed, SPut, SPutLine, SNewLine, SGet, SIf, SCase, SBlock, SLoop, PStmts, no_stmt, stmt_then, PMaybe, absent, present, PAccept, accepting, alternative, PAltKind, AAccept, ADelay, ATerminate, PAlts, no_alt, alt_then, PArms, no_arm, arm_then, arm, PCaseArms, no_case_arm, case_arm_then, case_arm, PBody, body, PHandlers, no_handler, handler_then, handler}
use Rattle.ada_static_rules.specs.Sites.{with_words}
use Rattle.syn_event.specs.CheckScope.{CheckScope, CheckSite, declares}
use Rattle.syn_event.specs.declared.limits.What.TheVariants.{Alternatives}
use Rattle.syn_event.specs.CheckSites as check
use Rattle.task_laws.specs.legal.asked.Asked.{Asks, AskedStmt, AskedStmts, AskedSome, AskedMaybe, AskedAccept, AskedAlts, AskedKind, AskedArms, AskedCaseArms, AskedBody, AskedHandlers}
use Rattle.task_laws.specs.legal.asked.Kinds.{check_asks, before_sites}
use Rattle.common_lemmas.proofs.Lists.{all_back, all_front, all_joined, all_three, all_first, all_second, all_third}

module _ (P : CheckSite → Type 0) where
  abbrev a : Asks CheckScope
  a = check_asks P

  abbrev At : List CheckSite → Type 0
  At xs = AllByRecursion P xs

  guard : (c : CheckScope) (k : ℕ) (o : Option PExpr) → At (check.if_there (check.expr_sites c k) o) → IfSome o (a.condition c k)
  guard c k None h = tt
  guard c k (Some e) h = h

  guard' : (c : CheckScope) (k : ℕ) (o : Option PExpr) → IfSome o (a.condition c k) → At (check.if_there (check.expr_sites c k) o)
  guard' c k None h = tt
  guard' c k (Some e) h = h

  before : (c : CheckScope) (k : ℕ) (xs : List PCallee) → At (check.aborted_sites c k xs) → At (before_sites c xs)
  before c k [] h = tt
  before c k (x ∷ []) h = tt
  before c k (x ∷ y ∷ rest) h = (h.0, before c k (y ∷ rest) (all_back P (check.callee_sites c k x) (check.aborted_sites c k (y ∷ rest)) h.1))

  callees : (c : CheckScope) (k : ℕ) (xs : List PCallee) → At (check.aborted_sites c k xs) → AllByRecursion (a.callee c k) xs
  callees c k [] h = tt
  callees c k (x ∷ []) h = (h, tt)
  callees c k (x ∷ y ∷ rest) h =
      (all_front P (check.callee_sites c k x) (check.aborted_sites c k (y ∷ rest)) h.1, callees c k (y ∷ rest) (all_back P (check.callee_sites c k x) (check.aborted_sites c k (y ∷ rest)) h.1))

  aborted : (c : CheckScope) (k : ℕ) (xs : List PCallee) → At (before_sites c xs) → AllByRecursion (a.callee c k) xs → At (check.aborted_sites c k xs)
  aborted c k [] h g = tt
  aborted c k (x ∷ []) h g = g.0
  aborted c k (x ∷ y ∷ rest) h g = (h.0, all_joined P (check.callee_sites c k x) (check.aborted_sites c k (y ∷ rest)) g.0 (aborted c k (y ∷ rest) h.1 g.1))

  -- ---- from the places

  mutual
    stmt : (c : CheckScope) (k : ℕ) (x : PStmt) → At (check.stmt_sites c k x) → AskedStmt a c k x
    stmt c k (SNull s) h = h
    stmt c k (SAssign x e s) h = h
    stmt c k (SDelay n s) h = h
    stmt c k (SExit w e s) h = h
    stmt c k (SRaise w s) h = h
    stmt c k (SPut xs s) h = h
    stmt c k (SPutLine xs s) h = h
    stmt c k (SNewLine s) h = h
    stmt c k (SGet x s) h = h
    stmt c k (SAbort xs s) h = (h.0, before c (k + 1) xs h.1, callees c (k + 1) xs h.1)
    stmt c k (SCall x s) h = (h.0, all_front P (check.callee_sites c (k + 1) x.task) (check.if_there (check.args_sites c (k + 1)) x.args) h.1, all_back P (check.callee_sites c (k + 1) x.task) (check.if_there (check.args_sites c (k + 1)) x.args) h.1)
    stmt c k (SAccept x s) h = accept c k x h
    stmt c k (SWait x o s) h = (
      h.0,
      tt,
      (h.1.0, all_first P (check.numbered c Alternatives 0 (check.alt_places x)) (check.alts_sites c (k + 1) x) (check.maybe_sites c (k + 1) o) h.1.1),
      alts c (k + 1) x (all_second P (check.numbered c Alternatives 0 (check.alt_places x)) (check.alts_sites c (k + 1) x) (check.maybe_sites c (k + 1) o) h.1.1),
      maybe c (k + 1) o (all_third P (check.numbered c Alternatives 0 (check.alt_places x)) (check.alts_sites c (k + 1) x) (check.maybe_sites c (k + 1) o) h.1.1),
    )
    stmt c k (SConditional x l o s) h =
        let called : At (check.call_sites c (k + 2) x) = all_first P (check.call_sites c (k + 2) x) (check.stmts_sites c (k + 1) l) (check.stmts_sites c (k + 1) o) h.1.1 in (
          h.0,
          h.1.0,
          all_front P (check.callee_sites c (k + 2) x.task) (check.if_there (check.args_sites c (k + 2)) x.args) called,
          all_back P (check.callee_sites c (k + 2) x.task) (check.if_there (check.args_sites c (k + 2)) x.args) called,
          stmts c (k + 1) l (all_second P (check.call_sites c (k + 2) x) (check.stmts_sites c (k + 1) l) (check.stmts_sites c (k + 1) o) h.1.1),
          some c (k + 1) o (all_third P (check.call_sites c (k + 2) x) (check.stmts_sites c (k + 1) l) (check.stmts_sites c (k + 1) o) h.1.1),
        )
    stmt c k (STimed x l n o s) h =
        let called : At (check.call_sites c (k + 2) x) = all_first P (check.call_sites c (k + 2) x) (check.stmts_sites c (k + 1) l) (check.stmts_sites c (k + 1) o) h.1.1 in (
          h.0,
          h.1.0,
          all_front P (check.callee_sites c (k + 2) x.task) (check.if_there (check.args_sites c (k + 2)) x.args) called,
          all_back P (check.callee_sites c (k + 2) x.task) (check.if_there (check.args_sites c (k + 2)) x.args) called,
          tt,
          stmts c (k + 1) l (all_second P (check.call_sites c (k + 2) x) (check.stmts_sites c (k + 1) l) (check.stmts_sites c (k + 1) o) h.1.1),
          stmts c (k + 1) o (all_third P (check.call_sites c (k + 2) x) (check.stmts_sites c (k + 1) l) (check.stmts_sites c (k + 1) o) h.1.1),
        )
    stmt c k (SIf x o s) h = (h.0, tt, arms c (k + 1) x (all_front P (check.arms_sites c (k + 1) x) (check.maybe_sites c (k + 1) o) h.1), maybe c (k + 1) o (all_back P (check.arms_sites c (k + 1) x) (check.maybe_sites c (k + 1) o) h.1))
    stmt c k (SCase e x o s) h = (h.0, all_first P (check.expr_sites c (k + 1) e) (check.case_arms_sites c (k + 1) x) (check.maybe_sites c (k + 1) o) h.1, case_arms c (k + 1) e x (all_second P (check.expr_sites c (k + 1) e) (check.case_arms_sites c (k + 1) x) (check.maybe_sites c (k + 1) o) h.1), maybe c (k + 1) o (all_third P (check.expr_sites c (k + 1) e) (check.case_arms_sites c (k + 1) x) (check.maybe_sites c (k + 1) o) h.1))
    stmt c k (SBlock x s) h = (h.0, body-of c (k + 1) x h.1)
    stmt c k (SLoop w x l s) h = (h.0, all_front P (check.if_there (λ y. check.site c (declares y) ∷ []) w ++ check.if_there (check.scheme_sites c (k + 1)) x) (check.stmts_sites (a.looping c w x) (k + 1) l) h.1, some (a.looping c w x) (k + 1) l (all_back P (check.if_there (λ y. check.site c (declares y) ∷ []) w ++ check.if_there (check.scheme_sites c (k + 1)) x) (check.stmts_sites (a.looping c w x) (k + 1) l) h.1))

    stmts : (c : CheckScope) (k : ℕ) (l : PStmts) → At (check.stmts_sites c k l) → AskedStmts a c k l
    stmts c k no_stmt h = tt
    stmts c k (stmt_then x l) h = (stmt c k x (all_front P (check.stmt_sites c k x) (check.stmts_sites c k l) h), stmts c k l (all_back P (check.stmt_sites c k x) (check.stmts_sites c k l) h))

    some : (c : CheckScope) (k : ℕ) (l : PStmts) → At (check.stmts_sites c k l) → AskedSome a c k l
    some c k no_stmt h = tt
    some c k (stmt_then x l) h = (tt, stmt c k x (all_front P (check.stmt_sites c k x) (check.stmts_sites c k l) h), stmts c k l (all_back P (check.stmt_sites c k x) (check.stmts_sites c k l) h))

    maybe : (c : CheckScope) (k : ℕ) (o : PMaybe) → At (check.maybe_sites c k o) → AskedMaybe a c k o
    maybe c k absent h = tt
    maybe c k (present l) h = some c k l h

    accept : (c : CheckScope) (k : ℕ) (x : PAccept) → At (check.accept_sites c k x) → AskedAccept a c k x
    accept c k (accepting i o) h = (all_front P (check.head_sites c k i) (check.maybe_sites (a.accepting c i) (k + 1) o) h, maybe (a.accepting c i) (k + 1) o (all_back P (check.head_sites c k i) (check.maybe_sites (a.accepting c i) (k + 1) o) h))

    alts : (c : CheckScope) (k : ℕ) (x : PAlts) → At (check.alts_sites c k x) → AskedAlts a c k x
    alts c k no_alt h = tt
    alts c k (alt_then (alternative g x s) l) h =
        (h.0, guard c (k + 1) g (all_first P (check.if_there (check.expr_sites c (k + 1)) g) (check.alt_sites c (k + 1) g s x) (check.alts_sites c k l) h.1), kind c (k + 1) g s x (all_second P (check.if_there (check.expr_sites c (k + 1)) g) (check.alt_sites c (k + 1) g s x) (check.alts_sites c k l) h.1), alts c k l (all_third P (check.if_there (check.expr_sites c (k + 1)) g) (check.alt_sites c (k + 1) g s x) (check.alts_sites c k l) h.1))

    kind : (c : CheckScope) (k : ℕ) (g : Option PExpr) (s : Span) (x : PAltKind) → At (check.alt_sites c k g s x) → AskedKind a c k g s x
    kind c k g s (AAccept x l) h = (accept c k x (all_front P (check.accept_sites c k x) (check.stmts_sites c k l) h), stmts c k l (all_back P (check.accept_sites c k x) (check.stmts_sites c k l) h))
    kind c k g s (ADelay n l) h = (all_front P (check.delay_sites c k g s) (check.stmts_sites c k l) h, tt, stmts c k l (all_back P (check.delay_sites c k g s) (check.stmts_sites c k l) h))
    kind c k g s ATerminate h = tt

    arms : (c : CheckScope) (k : ℕ) (x : PArms) → At (check.arms_sites c k x) → AskedArms a c k x
    arms c k no_arm h = tt
    arms c k (arm_then (arm e l) rest) h = (all_first P (check.expr_sites c k e) (check.stmts_sites c k l) (check.arms_sites c k rest) h, some c k l (all_second P (check.expr_sites c k e) (check.stmts_sites c k l) (check.arms_sites c k rest) h), arms c k rest (all_third P (check.expr_sites c k e) (check.stmts_sites c k l) (check.arms_sites c k rest) h))

    case_arms : (c : CheckScope) (k : ℕ) (e : PExpr) (x : PCaseArms) → At (check.case_arms_sites c k x) → AskedCaseArms a c k e x
    case_arms c k e no_case_arm h = tt
    case_arms c k e (case_arm_then (case_arm cs l) rest) h =
        (all_first P (flat_map (check.choice_sites c k) cs) (check.stmts_sites c k l) (check.case_arms_sites c k rest) h, some c k l (all_second P (flat_map (check.choice_sites c k) cs) (check.stmts_sites c k l) (check.case_arms_sites c k rest) h), case_arms c k e rest (all_third P (flat_map (check.choice_sites c k) cs) (check.stmts_sites c k l) (check.case_arms_sites c k rest) h))

    body-of : (c : CheckScope) (k : ℕ) (x : PBody) → At (check.body_sites c k x) → AskedBody a c k x
    body-of c k (body l hs) h = (some c k l (all_front P (check.stmts_sites c k l) (check.handlers_sites c k hs) h), tt, handlers c k [] hs (all_back P (check.stmts_sites c k l) (check.handlers_sites c k hs) h))

    handlers : (c : CheckScope) (k : ℕ) (names : List ℕ) (x : PHandlers) → At (check.handlers_sites c k x) → AskedHandlers a c k names x
    handlers c k names no_handler h = tt
    handlers c k names (handler_then (handler ws l s) rest) h = (h.0, tt, some (a.handling c) (k + 1) l (all_front P (check.stmts_sites (a.handling c) (k + 1) l) (check.handlers_sites c k rest) h.1), handlers c k (with_words names ws) rest (all_back P (check.stmts_sites (a.handling c) (k + 1) l) (check.handlers_sites c k rest) h.1))

  -- ---- to the places

  mutual
    stmt' : (c : CheckScope) (k : ℕ) (x : PStmt) → AskedStmt a c k x → At (check.stmt_sites c k x)
    stmt' c k (SNull s) h = h
    stmt' c k (SAssign x e s) h = h
    stmt' c k (SDelay n s) h = h
    stmt' c k (SExit w e s) h = h
    stmt' c k (SRaise w s) h = h
    stmt' c k (SPut xs s) h = h
    stmt' c k (SPutLine xs s) h = h
    stmt' c k (SNewLine s) h = h
    stmt' c k (SGet x s) h = h
    stmt' c k (SAbort xs s) h = (h.0, aborted c (k + 1) xs h.1 h.2)
    stmt' c k (SCall x s) h = (h.0, all_joined P (check.callee_sites c (k + 1) x.task) (check.if_there (check.args_sites c (k + 1)) x.args) h.1 h.2)
    stmt' c k (SAccept x s) h = accept' c k x h
    stmt' c k (SWait x o s) h = (h.0, (h.2.0, all_three P (check.numbered c Alternatives 0 (check.alt_places x)) (check.alts_sites c (k + 1) x) (check.maybe_sites c (k + 1) o) h.2.1 (alts' c (k + 1) x h.3) (maybe' c (k + 1) o h.4)))
    stmt' c k (SConditional x l o s) h =
        (h.0, (h.1, all_three P (check.call_sites c (k + 2) x) (check.stmts_sites c (k + 1) l) (check.stmts_sites c (k + 1) o) (all_joined P (check.callee_sites c (k + 2) x.task) (check.if_there (check.args_sites c (k + 2)) x.args) h.2 h.3) (stmts' c (k + 1) l h.4) (some' c (k + 1) o h.5)))
    stmt' c k (STimed x l n o s) h =
        (h.0, (h.1, all_three P (check.call_sites c (k + 2) x) (check.stmts_sites c (k + 1) l) (check.stmts_sites c (k + 1) o) (all_joined P (check.callee_sites c (k + 2) x.task) (check.if_there (check.args_sites c (k + 2)) x.args) h.2 h.3) (stmts' c (k + 1) l h.5) (stmts' c (k + 1) o h.6)))
    stmt' c k (SIf x o s) h = (h.0, all_joined P (check.arms_sites c (k + 1) x) (check.maybe_sites c (k + 1) o) (arms' c (k + 1) x h.2) (maybe' c (k + 1) o h.3))
    stmt' c k (SCase e x o s) h = (h.0, all_three P (check.expr_sites c (k + 1) e) (check.case_arms_sites c (k + 1) x) (check.maybe_sites c (k + 1) o) h.1 (case_arms' c (k + 1) e x h.2) (maybe' c (k + 1) o h.3))
    stmt' c k (SBlock x s) h = (h.0, body-of' c (k + 1) x h.1)
    stmt' c k (SLoop w x l s) h = (h.0, all_joined P (check.if_there (λ y. check.site c (declares y) ∷ []) w ++ check.if_there (check.scheme_sites c (k + 1)) x) (check.stmts_sites (a.looping c w x) (k + 1) l) h.1 (some' (a.looping c w x) (k + 1) l h.2))

    stmts' : (c : CheckScope) (k : ℕ) (l : PStmts) → AskedStmts a c k l → At (check.stmts_sites c k l)
    stmts' c k no_stmt h = tt
    stmts' c k (stmt_then x l) h = all_joined P (check.stmt_sites c k x) (check.stmts_sites c k l) (stmt' c k x h.0) (stmts' c k l h.1)

    some' : (c : CheckScope) (k : ℕ) (l : PStmts) → AskedSome a c k l → At (check.stmts_sites c k l)
    some' c k no_stmt h = tt
    some' c k (stmt_then x l) h = all_joined P (check.stmt_sites c k x) (check.stmts_sites c k l) (stmt' c k x h.1) (stmts' c k l h.2)

    maybe' : (c : CheckScope) (k : ℕ) (o : PMaybe) → AskedMaybe a c k o → At (check.maybe_sites c k o)
    maybe' c k absent h = tt
    maybe' c k (present l) h = some' c k l h

    accept' : (c : CheckScope) (k : ℕ) (x : PAccept) → AskedAccept a c k x → At (check.accept_sites c k x)
    accept' c k (accepting i o) h = all_joined P (check.head_sites c k i) (check.maybe_sites (a.accepting c i) (k + 1) o) h.0 (maybe' (a.accepting c i) (k + 1) o h.1)

    alts' : (c : CheckScope) (k : ℕ) (x : PAlts) → AskedAlts a c k x → At (check.alts_sites c k x)
    alts' c k no_alt h = tt
    alts' c k (alt_then (alternative g x s) l) h = (h.0, all_three P (check.if_there (check.expr_sites c (k + 1)) g) (check.alt_sites c (k + 1) g s x) (check.alts_sites c k l) (guard' c (k + 1) g h.1) (kind' c (k + 1) g s x h.2) (alts' c k l h.3))

    kind' : (c : CheckScope) (k : ℕ) (g : Option PExpr) (s : Span) (x : PAltKind) → AskedKind a c k g s x → At (check.alt_sites c k g s x)
    kind' c k g s (AAccept x l) h = all_joined P (check.accept_sites c k x) (check.stmts_sites c k l) (accept' c k x h.0) (stmts' c k l h.1)
    kind' c k g s (ADelay n l) h = all_joined P (check.delay_sites c k g s) (check.stmts_sites c k l) h.0 (stmts' c k l h.2)
    kind' c k g s ATerminate h = tt

    arms' : (c : CheckScope) (k : ℕ) (x : PArms) → AskedArms a c k x → At (check.arms_sites c k x)
    arms' c k no_arm h = tt
    arms' c k (arm_then (arm e l) rest) h = all_three P (check.expr_sites c k e) (check.stmts_sites c k l) (check.arms_sites c k rest) h.0 (some' c k l h.1) (arms' c k rest h.2)

    case_arms' : (c : CheckScope) (k : ℕ) (e : PExpr) (x : PCaseArms) → AskedCaseArms a c k e x → At (check.case_arms_sites c k x)
    case_arms' c k e no_case_arm h = tt
    case_arms' c k e (case_arm_then (case_arm cs l) rest) h = all_three P (flat_map (check.choice_sites c k) cs) (check.stmts_sites c k l) (check.case_arms_sites c k rest) h.0 (some' c k l h.1) (case_arms' c k e rest h.2)

    body-of' : (c : CheckScope) (k : ℕ) (x : PBody) → AskedBody a c k x → At (check.body_sites c k x)
    body-of' c k (body l hs) h = all_joined P (check.stmts_sites c k l) (check.handlers_sites c k hs) (some' c k l h.0) (handlers' c k [] hs h.2)

    handlers' : (c : CheckScope) (k : ℕ) (names : List ℕ) (x : PHandlers) → AskedHandlers a c k names x → At (check.handlers_sites c k x)
    handlers' c k names no_handler h = tt
    handlers' c k names (handler_then (handler ws l s) rest) h = (h.0, all_joined P (check.stmts_sites (a.handling c) (k + 1) l) (check.handlers_sites c k rest) (some' (a.handling c) (k + 1) l h.2) (handlers' c k (with_words names ws) rest h.3))

  -- A body of whose places something holds is as that asks, and the other way round.
  pub checked_asked : (c : CheckScope) (k : ℕ) (x : PBody) → At (check.body_sites c k x) → AskedBody a c k x
  checked_asked c k x h = body-of c k x h

  pub asked_checked : (c : CheckScope) (k : ℕ) (x : PBody) → AskedBody a c k x → At (check.body_sites c k x)
  asked_checked c k x h = body-of' c k x h
