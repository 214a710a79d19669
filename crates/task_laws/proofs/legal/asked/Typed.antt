-- What the first twelve rules ask at each place of a body is asked statement by statement, and the other way round.
use Rattle.std.proofs.Common.{ℕ, ◌+◌, List, [], ◌∷◌, ◌++◌, flat_map, Option, Some, None, IfSome}
use Rattle.std.specs.List.{AllByRecursion}
use Rattle.ada_tree.specs.declared.naming.Span.{Span}
use Rattle.ada_tree.specs.PlainExpr.{PExpr}
use Rattle.ada_tree.specs.PlainStmt.{PStmt, SNull, SAssign, SDelay, SExit, SRaise, SAbort, SCall, SAccept, SWait, SConditional, STimed, SPut, SPutLine, SNewLine, SGet, SIf, SCase, SBlock, SLoop, PStmts, no_stmt, stmt_then, PMaybe, absent, present, PAccept, accepting, alternative, PAltKind, AAccept, ADelay, ATerminate, PAlts, no_alt, alt_then, PArms, no_arm, arm_then, arm, PCaseArms, no_case_arm, case_arm_then, case_arm, PBody, body, PHandlers, no_handler, handler_then, handler}
use Rattle.ada_static_rules.specs.Sites.{with_words}
use Rattle.ada_static_rules.specs.Scope.{Scope, meaning}
use Rattle.ada_static_rules.specs.ExprTypes.{kind_of}
use Rattle.ada_static_rules.specs.RuleArgCount.{called_entry}
use Rattle.ada_static_rules.specs.RuleChoiceBad.{selected_range}
use Rattle.ada_static_rules.specs.Demand.{labels, calls, Site}
use Rattle.ada_static_rules.specs.Sites as typed
use Rattle.task_laws.specs.legal.asked.Asked.{Asks, AskedStmt, AskedStmts, AskedSome, AskedMaybe, AskedAccept, AskedAlts, AskedKind, AskedArms, AskedCaseArms, AskedBody, AskedHandlers}
use Rattle.task_laws.specs.legal.asked.Kinds.{type_asks}
use Rattle.common_lemmas.proofs.Lists.{all_back, all_front, all_joined, all_three, all_first, all_second, all_third, all_unflat, all_flat}

module _ (P : Site → Type 0) where
  abbrev a : Asks Scope
  a = type_asks P

  abbrev At : List Site → Type 0
  At xs = AllByRecursion P xs

  guard : (c : Scope) (k : ℕ) (o : Option PExpr) → At (typed.if_there (typed.condition_sites c) o) → IfSome o (a.condition c k)
  guard c k None h = tt
  guard c k (Some e) h = h

  guard' : (c : Scope) (k : ℕ) (o : Option PExpr) → IfSome o (a.condition c k) → At (typed.if_there (typed.condition_sites c) o)
  guard' c k None h = tt
  guard' c k (Some e) h = h

  -- ---- from the places

  mutual
    stmt : (c : Scope) (k : ℕ) (x : PStmt) → At (typed.stmt_sites c x) → AskedStmt a c k x
    stmt c k (SNull s) h = h
    stmt c k (SAssign x e s) h = h
    stmt c k (SDelay n s) h = h
    stmt c k (SExit w e s) h = h
    stmt c k (SRaise w s) h = h
    stmt c k (SPut xs s) h = h
    stmt c k (SPutLine xs s) h = h
    stmt c k (SNewLine s) h = h
    stmt c k (SGet x s) h = h
    stmt c k (SAbort xs s) h = (tt, tt, all_unflat P (typed.callee_sites c) xs h)
    stmt c k (SCall x s) h = (tt, all_front P (typed.callee_sites c x.task) (typed.site c (calls x) ∷ typed.if_there (typed.args_sites c (called_entry (meaning c x.task.name.name) x.entry.name)) x.args) h, all_back P (typed.callee_sites c x.task) (typed.site c (calls x) ∷ typed.if_there (typed.args_sites c (called_entry (meaning c x.task.name.name) x.entry.name)) x.args) h)
    stmt c k (SAccept x s) h = accept c k x h
    stmt c k (SWait x o s) h = (tt, tt, tt, alts c (k + 1) x (all_front P (typed.alts_sites c x) (typed.maybe_sites c o) h), maybe c (k + 1) o (all_back P (typed.alts_sites c x) (typed.maybe_sites c o) h))
    stmt c k (SConditional x l o s) h =
        let called : At (typed.call_sites c x) = all_first P (typed.call_sites c x) (typed.stmts_sites c l) (typed.stmts_sites c o) h in (
          tt,
          tt,
          all_front P (typed.callee_sites c x.task) (typed.site c (calls x) ∷ typed.if_there (typed.args_sites c (called_entry (meaning c x.task.name.name) x.entry.name)) x.args) called,
          all_back P (typed.callee_sites c x.task) (typed.site c (calls x) ∷ typed.if_there (typed.args_sites c (called_entry (meaning c x.task.name.name) x.entry.name)) x.args) called,
          stmts c (k + 1) l (all_second P (typed.call_sites c x) (typed.stmts_sites c l) (typed.stmts_sites c o) h),
          some c (k + 1) o (all_third P (typed.call_sites c x) (typed.stmts_sites c l) (typed.stmts_sites c o) h),
        )
    stmt c k (STimed x l n o s) h =
        let called : At (typed.call_sites c x) = all_first P (typed.call_sites c x) (typed.stmts_sites c l) (typed.stmts_sites c o) h in (
          tt,
          tt,
          all_front P (typed.callee_sites c x.task) (typed.site c (calls x) ∷ typed.if_there (typed.args_sites c (called_entry (meaning c x.task.name.name) x.entry.name)) x.args) called,
          all_back P (typed.callee_sites c x.task) (typed.site c (calls x) ∷ typed.if_there (typed.args_sites c (called_entry (meaning c x.task.name.name) x.entry.name)) x.args) called,
          tt,
          stmts c (k + 1) l (all_second P (typed.call_sites c x) (typed.stmts_sites c l) (typed.stmts_sites c o) h),
          stmts c (k + 1) o (all_third P (typed.call_sites c x) (typed.stmts_sites c l) (typed.stmts_sites c o) h),
        )
    stmt c k (SIf x o s) h = (tt, tt, arms c (k + 1) x (all_front P (typed.arms_sites c x) (typed.maybe_sites c o) h), maybe c (k + 1) o (all_back P (typed.arms_sites c x) (typed.maybe_sites c o) h))
    stmt c k (SCase e x o s) h = (tt, (h.0, all_first P (typed.expr_sites c e) (typed.case_arms_sites c (kind_of c e) (selected_range c e) x) (typed.maybe_sites c o) h.1), case_arms c (k + 1) e x (all_second P (typed.expr_sites c e) (typed.case_arms_sites c (kind_of c e) (selected_range c e) x) (typed.maybe_sites c o) h.1), maybe c (k + 1) o (all_third P (typed.expr_sites c e) (typed.case_arms_sites c (kind_of c e) (selected_range c e) x) (typed.maybe_sites c o) h.1))
    stmt c k (SBlock x s) h = (tt, body-of c (k + 1) x h)
    stmt c k (SLoop w x l s) h = (tt, all_front P (typed.if_there (λ y. typed.site c (labels y) ∷ []) w ++ typed.if_there (typed.scheme_sites c) x) (typed.stmts_sites (a.looping c w x) l) h, some (a.looping c w x) (k + 1) l (all_back P (typed.if_there (λ y. typed.site c (labels y) ∷ []) w ++ typed.if_there (typed.scheme_sites c) x) (typed.stmts_sites (a.looping c w x) l) h))

    stmts : (c : Scope) (k : ℕ) (l : PStmts) → At (typed.stmts_sites c l) → AskedStmts a c k l
    stmts c k no_stmt h = tt
    stmts c k (stmt_then x l) h = (stmt c k x (all_front P (typed.stmt_sites c x) (typed.stmts_sites c l) h), stmts c k l (all_back P (typed.stmt_sites c x) (typed.stmts_sites c l) h))

    some : (c : Scope) (k : ℕ) (l : PStmts) → At (typed.stmts_sites c l) → AskedSome a c k l
    some c k no_stmt h = tt
    some c k (stmt_then x l) h = (tt, stmt c k x (all_front P (typed.stmt_sites c x) (typed.stmts_sites c l) h), stmts c k l (all_back P (typed.stmt_sites c x) (typed.stmts_sites c l) h))

    maybe : (c : Scope) (k : ℕ) (o : PMaybe) → At (typed.maybe_sites c o) → AskedMaybe a c k o
    maybe c k absent h = tt
    maybe c k (present l) h = some c k l h

    accept : (c : Scope) (k : ℕ) (x : PAccept) → At (typed.accept_sites c x) → AskedAccept a c k x
    accept c k (accepting i o) h = (all_front P (typed.head_sites c i) (typed.maybe_sites (a.accepting c i) o) h, maybe (a.accepting c i) (k + 1) o (all_back P (typed.head_sites c i) (typed.maybe_sites (a.accepting c i) o) h))

    alts : (c : Scope) (k : ℕ) (x : PAlts) → At (typed.alts_sites c x) → AskedAlts a c k x
    alts c k no_alt h = tt
    alts c k (alt_then (alternative g x s) l) h =
        (tt, guard c (k + 1) g (all_first P (typed.if_there (typed.condition_sites c) g) (typed.alt_sites c x) (typed.alts_sites c l) h), kind c (k + 1) g s x (all_second P (typed.if_there (typed.condition_sites c) g) (typed.alt_sites c x) (typed.alts_sites c l) h), alts c k l (all_third P (typed.if_there (typed.condition_sites c) g) (typed.alt_sites c x) (typed.alts_sites c l) h))

    kind : (c : Scope) (k : ℕ) (g : Option PExpr) (s : Span) (x : PAltKind) → At (typed.alt_sites c x) → AskedKind a c k g s x
    kind c k g s (AAccept x l) h = (accept c k x (all_front P (typed.accept_sites c x) (typed.stmts_sites c l) h), stmts c k l (all_back P (typed.accept_sites c x) (typed.stmts_sites c l) h))
    kind c k g s (ADelay n l) h = (tt, tt, stmts c k l h)
    kind c k g s ATerminate h = tt

    arms : (c : Scope) (k : ℕ) (x : PArms) → At (typed.arms_sites c x) → AskedArms a c k x
    arms c k no_arm h = tt
    arms c k (arm_then (arm e l) rest) h = (all_first P (typed.condition_sites c e) (typed.stmts_sites c l) (typed.arms_sites c rest) h, some c k l (all_second P (typed.condition_sites c e) (typed.stmts_sites c l) (typed.arms_sites c rest) h), arms c k rest (all_third P (typed.condition_sites c e) (typed.stmts_sites c l) (typed.arms_sites c rest) h))

    case_arms : (c : Scope) (k : ℕ) (e : PExpr) (x : PCaseArms) → At (typed.case_arms_sites c (kind_of c e) (selected_range c e) x) → AskedCaseArms a c k e x
    case_arms c k e no_case_arm h = tt
    case_arms c k e (case_arm_then (case_arm cs l) rest) h =
        (all_first P (flat_map (typed.choice_sites c (kind_of c e) (selected_range c e)) cs) (typed.stmts_sites c l) (typed.case_arms_sites c (kind_of c e) (selected_range c e) rest) h, some c k l (all_second P (flat_map (typed.choice_sites c (kind_of c e) (selected_range c e)) cs) (typed.stmts_sites c l) (typed.case_arms_sites c (kind_of c e) (selected_range c e) rest) h), case_arms c k e rest (all_third P (flat_map (typed.choice_sites c (kind_of c e) (selected_range c e)) cs) (typed.stmts_sites c l) (typed.case_arms_sites c (kind_of c e) (selected_range c e) rest) h))

    body-of : (c : Scope) (k : ℕ) (x : PBody) → At (typed.body_sites c x) → AskedBody a c k x
    body-of c k (body l hs) h = (some c k l (all_front P (typed.stmts_sites c l) (typed.handlers_sites c [] hs) h), tt, handlers c k [] hs (all_back P (typed.stmts_sites c l) (typed.handlers_sites c [] hs) h))

    handlers : (c : Scope) (k : ℕ) (names : List ℕ) (x : PHandlers) → At (typed.handlers_sites c names x) → AskedHandlers a c k names x
    handlers c k names no_handler h = tt
    handlers c k names (handler_then (handler ws l s) rest) h =
        (tt, all_first P (typed.handler_names_sites c names ws) (typed.stmts_sites c l) (typed.handlers_sites c (with_words names ws) rest) h, some c (k + 1) l (all_second P (typed.handler_names_sites c names ws) (typed.stmts_sites c l) (typed.handlers_sites c (with_words names ws) rest) h), handlers c k (with_words names ws) rest (all_third P (typed.handler_names_sites c names ws) (typed.stmts_sites c l) (typed.handlers_sites c (with_words names ws) rest) h))

  -- ---- to the places

  mutual
    stmt' : (c : Scope) (k : ℕ) (x : PStmt) → AskedStmt a c k x → At (typed.stmt_sites c x)
    stmt' c k (SNull s) h = h
    stmt' c k (SAssign x e s) h = h
    stmt' c k (SDelay n s) h = h
    stmt' c k (SExit w e s) h = h
    stmt' c k (SRaise w s) h = h
    stmt' c k (SPut xs s) h = h
    stmt' c k (SPutLine xs s) h = h
    stmt' c k (SNewLine s) h = h
    stmt' c k (SGet x s) h = h
    stmt' c k (SAbort xs s) h = all_flat P (typed.callee_sites c) xs h.2
    stmt' c k (SCall x s) h = all_joined P (typed.callee_sites c x.task) (typed.site c (calls x) ∷ typed.if_there (typed.args_sites c (called_entry (meaning c x.task.name.name) x.entry.name)) x.args) h.1 h.2
    stmt' c k (SAccept x s) h = accept' c k x h
    stmt' c k (SWait x o s) h = all_joined P (typed.alts_sites c x) (typed.maybe_sites c o) (alts' c (k + 1) x h.3) (maybe' c (k + 1) o h.4)
    stmt' c k (SConditional x l o s) h =
        all_three P (typed.call_sites c x) (typed.stmts_sites c l) (typed.stmts_sites c o) (all_joined P (typed.callee_sites c x.task) (typed.site c (calls x) ∷ typed.if_there (typed.args_sites c (called_entry (meaning c x.task.name.name) x.entry.name)) x.args) h.2 h.3) (stmts' c (k + 1) l h.4) (some' c (k + 1) o h.5)
    stmt' c k (STimed x l n o s) h =
        all_three P (typed.call_sites c x) (typed.stmts_sites c l) (typed.stmts_sites c o) (all_joined P (typed.callee_sites c x.task) (typed.site c (calls x) ∷ typed.if_there (typed.args_sites c (called_entry (meaning c x.task.name.name) x.entry.name)) x.args) h.2 h.3) (stmts' c (k + 1) l h.5) (stmts' c (k + 1) o h.6)
    stmt' c k (SIf x o s) h = all_joined P (typed.arms_sites c x) (typed.maybe_sites c o) (arms' c (k + 1) x h.2) (maybe' c (k + 1) o h.3)
    stmt' c k (SCase e x o s) h = (h.1.0, all_three P (typed.expr_sites c e) (typed.case_arms_sites c (kind_of c e) (selected_range c e) x) (typed.maybe_sites c o) h.1.1 (case_arms' c (k + 1) e x h.2) (maybe' c (k + 1) o h.3))
    stmt' c k (SBlock x s) h = body-of' c (k + 1) x h.1
    stmt' c k (SLoop w x l s) h = all_joined P (typed.if_there (λ y. typed.site c (labels y) ∷ []) w ++ typed.if_there (typed.scheme_sites c) x) (typed.stmts_sites (a.looping c w x) l) h.1 (some' (a.looping c w x) (k + 1) l h.2)

    stmts' : (c : Scope) (k : ℕ) (l : PStmts) → AskedStmts a c k l → At (typed.stmts_sites c l)
    stmts' c k no_stmt h = tt
    stmts' c k (stmt_then x l) h = all_joined P (typed.stmt_sites c x) (typed.stmts_sites c l) (stmt' c k x h.0) (stmts' c k l h.1)

    some' : (c : Scope) (k : ℕ) (l : PStmts) → AskedSome a c k l → At (typed.stmts_sites c l)
    some' c k no_stmt h = tt
    some' c k (stmt_then x l) h = all_joined P (typed.stmt_sites c x) (typed.stmts_sites c l) (stmt' c k x h.1) (stmts' c k l h.2)

    maybe' : (c : Scope) (k : ℕ) (o : PMaybe) → AskedMaybe a c k o → At (typed.maybe_sites c o)
    maybe' c k absent h = tt
    maybe' c k (present l) h = some' c k l h

    accept' : (c : Scope) (k : ℕ) (x : PAccept) → AskedAccept a c k x → At (typed.accept_sites c x)
    accept' c k (accepting i o) h = all_joined P (typed.head_sites c i) (typed.maybe_sites (a.accepting c i) o) h.0 (maybe' (a.accepting c i) (k + 1) o h.1)

    alts' : (c : Scope) (k : ℕ) (x : PAlts) → AskedAlts a c k x → At (typed.alts_sites c x)
    alts' c k no_alt h = tt
    alts' c k (alt_then (alternative g x s) l) h = all_three P (typed.if_there (typed.condition_sites c) g) (typed.alt_sites c x) (typed.alts_sites c l) (guard' c (k + 1) g h.1) (kind' c (k + 1) g s x h.2) (alts' c k l h.3)

    kind' : (c : Scope) (k : ℕ) (g : Option PExpr) (s : Span) (x : PAltKind) → AskedKind a c k g s x → At (typed.alt_sites c x)
    kind' c k g s (AAccept x l) h = all_joined P (typed.accept_sites c x) (typed.stmts_sites c l) (accept' c k x h.0) (stmts' c k l h.1)
    kind' c k g s (ADelay n l) h = stmts' c k l h.2
    kind' c k g s ATerminate h = tt

    arms' : (c : Scope) (k : ℕ) (x : PArms) → AskedArms a c k x → At (typed.arms_sites c x)
    arms' c k no_arm h = tt
    arms' c k (arm_then (arm e l) rest) h = all_three P (typed.condition_sites c e) (typed.stmts_sites c l) (typed.arms_sites c rest) h.0 (some' c k l h.1) (arms' c k rest h.2)

    case_arms' : (c : Scope) (k : ℕ) (e : PExpr) (x : PCaseArms) → AskedCaseArms a c k e x → At (typed.case_arms_sites c (kind_of c e) (selected_range c e) x)
    case_arms' c k e no_case_arm h = tt
    case_arms' c k e (case_arm_then (case_arm cs l) rest) h = all_three P (flat_map (typed.choice_sites c (kind_of c e) (selected_range c e)) cs) (typed.stmts_sites c l) (typed.case_arms_sites c (kind_of c e) (selected_range c e) rest) h.0 (some' c k l h.1) (case_arms' c k e rest h.2)

    body-of' : (c : Scope) (k : ℕ) (x : PBody) → AskedBody a c k x → At (typed.body_sites c x)
    body-of' c k (body l hs) h = all_joined P (typed.stmts_sites c l) (typed.handlers_sites c [] hs) (some' c k l h.0) (handlers' c k [] hs h.2)

    handlers' : (c : Scope) (k : ℕ) (names : List ℕ) (x : PHandlers) → AskedHandlers a c k names x → At (typed.handlers_sites c names x)
    handlers' c k names no_handler h = tt
    handlers' c k names (handler_then (handler ws l s) rest) h = all_three P (typed.handler_names_sites c names ws) (typed.stmts_sites c l) (typed.handlers_sites c (with_words names ws) rest) h.1 (some' c (k + 1) l h.2) (handlers' c k (with_words names ws) rest h.3)

  -- A body of whose places something holds is as that asks, and the other way round.
  pub typed_asked : (c : Scope) (k : ℕ) (x : PBody) → At (typed.body_sites c x) → AskedBody a c k x
  typed_asked c k x h = body-of c k x h

  pub asked_typed : (c : Scope) (k : ℕ) (x : PBody) → AskedBody a c k x → At (typed.body_sites c x)
  asked_typed c k x h = body-of' c k x h
