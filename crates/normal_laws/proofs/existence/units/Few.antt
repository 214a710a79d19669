-- A unit gets no more variables than its body weighs.
use Rattle.std.proofs.Common.{◌≡◌, ℕ, zero, suc, ◌+◌, ◌<◌, ◌≤◌, ◌^◌, Bool, true, false, ◌==◌, if◌then◌else◌, List, [], ◌∷◌, length, Option, Some, None, unwrap_or, refl, sym, ap, subst, ◌∙◌, arith, length-append}
use Rattle.std.proofs.lemmas.Bool.{ne_eqb}
use Rattle.ada_tree.specs.declared.naming.NameId.{NameId}
use Rattle.ada_tree.specs.declared.naming.Span.{Span}
use Rattle.ada_tree.specs.PlainExpr.{PExpr, PSubind}
use Rattle.ada_tree.specs.PlainStmt.{PCallee, PArgs, PCall, PHead, PStmt, SNull, SAssign, SDelay, SExit, SRaise, SAbort, SCall, SAccept, SWait, SConditional, STimed, SPut, SPutLine, SNewLine, SGet, SIf, SCase, SBlock, SLoop, PStmts, no_stmt, stmt_then, PMaybe, absent, present, PAccept, accepting, alternative, PAltKind, AAccept, ADelay, ATerminate, PAlts, no_alt, alt_then, arm, PArms, no_arm, arm_then, case_arm, PCaseArms, no_case_arm, case_arm_then, PBody, body, handler, PHandlers, no_handler, handler_then}
use Rattle.ada_tree.specs.PlainDecl.{PDecl, DNumber, DObject, DEnumeration, DArray, DSubtype, DException, DIntIo, DPragma, DTask, DTaskBody, PDecls, no_decl, decl_then}
use Rattle.ada_tree.specs.PlainProgram.{PProgram}
use Rattle.syn_event.specs.declared.numbering.TaskInfo.{TaskInfo}
use Rattle.syn_event.specs.Numbering.{task_at}
use Rattle.task_model.specs.Setting.{Setting, entry_of, lists_in, lists_of, is_family}
use Rattle.task_model.specs.Starting.{unit_among, unit_of_info, unit_of}
use Rattle.normal_model.specs.Making.{kept_subtypes, kept_if, moving}
use Rattle.normal_model.specs.Ranges.{subtype_of_range, array_range, family_range}
use Rattle.normal_model.specs.Members.{callee_kept}
use Rattle.normal_model.specs.Calls.{Slot, slots_called, entry_called, lists_called, actual_subtypes, indices_kept, call_subtypes, flag_subtypes, is_chosen, select_subtypes}
use Rattle.normal_model.specs.RewrittenUnit.{RewrittenUnit}
use Rattle.normal_model.specs.Waits.{accept_kept, head_of, kind_kept, guard_subtypes, alternative_subtypes}
use Rattle.normal_model.specs.Aborts.{abort_subtypes}
use Rattle.normal_model.specs.Variables.{variables_declared, more_variables, statement_variables, alternative_variables}
use Rattle.normal_model.specs.Walk.{Rewriter, after_parts, after_stmts, after_maybe, after_accept, after_kind, after_alts, after_arms, after_case_arms, after_body, after_handlers}
use Rattle.normal_model.specs.NormalStmts.{normal_rewriter}
use Rattle.normal_laws.specs.runs.forms.Normalisable.{numbers_of, setting_for, first_task, variables_of}
use Rattle.normal_laws.specs.existence.units.Weights.{row_weight, args_weight, call_weight, own_weight, parts_weight, stmts_weight, maybe_weight, accept_weight, kind_weight, alts_weight, arms_weight, case_arms_weight, body_weight, handlers_weight, AreLight, IsLight}
use Rattle.normal_model.proofs.Declared.{declared_length, kept_length}

-- ---- one statement

kept-one : (x : PSubind) (o : Option PExpr) → length (kept_if x o) ≤ 1
kept-one x None = omega arith
kept-one x (Some e) = omega arith

actual-length : (xs : List Slot) (es : List PExpr) → length (actual_subtypes xs es) ≤ length es
actual-length [] es = omega arith
actual-length (x ∷ xs) [] = omega arith
actual-length (x ∷ xs) (e ∷ es) = omega (arith, actual-length xs es)

row-length : (o : Option (List PExpr)) → length (unwrap_or o []) ≡ row_weight o
row-length None = refl
row-length (Some es) = refl

lists-length : (b : Bool) (args : PArgs) → length (lists_in b args).actuals ≤ length args.first + row_weight args.second
lists-length true args = omega (arith, row-length args.second)
lists-length false args = omega arith

module _ (g : Setting) where
  called-length : (c : PCall) → length (lists_called g c).actuals ≤ args_weight c.args
  called-length c = by_args c.args
    where
      by_args : (o : Option PArgs) → length (lists_of g.numbers (entry_called g c) o).actuals ≤ args_weight o
      by_args None = omega arith
      by_args (Some args) = lists-length (is_family g.numbers (entry_called g c)) args

  callee-length : (s : Span) (c : PCallee) → length (callee_kept g s c) ≤ 1
  callee-length s c = kept-one (subtype_of_range g.types s (array_range g.program c.name.name)) (moving g.types c.index)

  call-length : (s : Span) (c : PCall) → length (call_subtypes g s c) ≤ 2 + args_weight c.args
  call-length s c =
      let family = kept_if (subtype_of_range g.types s (family_range g (entry_called g c))) (lists_called g c).index in
      let one = callee-length s c.task in
      let two = kept-one (subtype_of_range g.types s (family_range g (entry_called g c))) (lists_called g c).index in
      let both : length (indices_kept g s c) ≡ length (callee_kept g s c.task) + length family = length-append (callee_kept g s c.task) family in
      let kept = kept_length (indices_kept g s c) in
      let actual = actual-length (slots_called g c) (lists_called g c).actuals in
      let called = called-length c in
      let all : length (call_subtypes g s c) ≡ length (kept_subtypes (indices_kept g s c)) + length (actual_subtypes (slots_called g c) (lists_called g c).actuals) =
      length-append (kept_subtypes (indices_kept g s c)) (actual_subtypes (slots_called g c) (lists_called g c).actuals) in
      omega (arith, one, two, both, kept, actual, called, all)

  flag-length : (b : Bool) (s : Span) → length (flag_subtypes b s) ≤ 1
  flag-length true s = omega arith
  flag-length false s = omega arith

  select-length : (s : Span) (c : PCall) → length (select_subtypes g s c) ≤ call_weight c
  select-length s c =
      let all : length (select_subtypes g s c) ≡ length (call_subtypes g s c) + length (flag_subtypes (is_chosen g c) s) = length-append (call_subtypes g s c) (flag_subtypes (is_chosen g c) s) in
      omega (arith, call-length s c, flag-length (is_chosen g c) s, all)

  abort-length : (s : Span) (cs : List PCallee) → length (abort_subtypes g s cs) ≤ length cs
  abort-length s [] = omega arith
  abort-length s (c ∷ cs) =
      let all : length (abort_subtypes g s (c ∷ cs)) ≡ length (kept_subtypes (callee_kept g s c)) + length (abort_subtypes g s cs) = length-append (kept_subtypes (callee_kept g s c)) (abort_subtypes g s cs) in
      omega (arith, all, kept_length (callee_kept g s c), callee-length s c, abort-length s cs)

module _ (u : RewrittenUnit) where
  more-length : (s : Span) (xs : List PSubind) (vars : List PDecl) → length (more_variables u s xs vars) ≡ length vars + length xs
  more-length s xs vars = length-append vars (variables_declared u.setting s xs (length vars)) ∙ ap (λ n. length vars + n) (declared_length u.setting s xs (length vars))

  accept-length : (s : Span) (h : PHead) → length (kept_subtypes (accept_kept u s h)) ≤ 1
  accept-length s h = omega (arith, kept_length (accept_kept u s h), kept-one (subtype_of_range u.setting.types s (family_range u.setting (entry_of u.setting.numbers u.task h.entry.name))) (moving u.setting.types h.index))

  -- a statement asks for no more than it weighs
  entered-length : (vars : List PDecl) (x : PStmt) → length (statement_variables u vars x) ≤ length vars + own_weight x
  entered-length vars (SCall c s) = omega (arith, more-length s (call_subtypes u.setting s c) vars, call-length u.setting s c)
  entered-length vars (SConditional c l o s) = omega (arith, more-length s (select_subtypes u.setting s c) vars, select-length u.setting s c)
  entered-length vars (STimed c l d a s) = omega (arith, more-length s (select_subtypes u.setting s c) vars, select-length u.setting s c)
  entered-length vars (SAccept a s) = omega (arith, more-length s (kept_subtypes (accept_kept u s (head_of a))) vars, accept-length s (head_of a))
  entered-length vars (SAbort cs s) = omega (arith, more-length s (abort_subtypes u.setting s cs) vars, abort-length u.setting s cs)
  entered-length vars (SWait x o s) = omega arith
  entered-length vars (SNull s) = omega arith
  entered-length vars (SAssign x e s) = omega arith
  entered-length vars (SDelay d s) = omega arith
  entered-length vars (SExit w e s) = omega arith
  entered-length vars (SRaise w s) = omega arith
  entered-length vars (SPut ps s) = omega arith
  entered-length vars (SPutLine ps s) = omega arith
  entered-length vars (SNewLine s) = omega arith
  entered-length vars (SGet x s) = omega arith
  entered-length vars (SIf x o s) = omega arith
  entered-length vars (SCase e x o s) = omega arith
  entered-length vars (SBlock c s) = omega arith
  entered-length vars (SLoop w c l s) = omega arith

  guard-length : (s : Span) (o : Option PExpr) → length (guard_subtypes s o) ≤ 1
  guard-length s None = omega arith
  guard-length s (Some e) = omega arith

  kind-length : (s : Span) (k : PAltKind) → length (kept_subtypes (kind_kept u s k)) ≤ 1
  kind-length s (AAccept a l) = accept-length s (head_of a)
  kind-length s (ADelay d l) = omega arith
  kind-length s ATerminate = omega arith

  opened-length : (vars : List PDecl) (o : Option PExpr) (k : PAltKind) (s : Span) → length (alternative_variables u vars (alternative o k s)) ≤ length vars + 2
  opened-length vars o k s =
      let all : length (alternative_subtypes u (alternative o k s)) ≡ length (guard_subtypes s o) + length (kept_subtypes (kind_kept u s k)) = length-append (guard_subtypes s o) (kept_subtypes (kind_kept u s k)) in
      omega (arith, more-length s (alternative_subtypes u (alternative o k s)) vars, all, guard-length s o, kind-length s k)

  -- ---- statements

  abbrev r : Rewriter (List PDecl)
  r = normal_rewriter u

  mutual
    parts-few : (x : PStmt) (t : List PDecl) → length (after_parts r x t) ≤ length t + parts_weight x
    parts-few (SAccept a s) t = accept-few a t
    parts-few (SWait x o s) t = omega (arith, alts-few x t, maybe-few o (after_alts r x t))
    parts-few (SConditional c b o s) t = omega (arith, stmts-few b t, stmts-few o (after_stmts r b t))
    parts-few (STimed c b d a s) t = omega (arith, stmts-few b t, stmts-few a (after_stmts r b t))
    parts-few (SIf x o s) t = omega (arith, arms-few x t, maybe-few o (after_arms r x t))
    parts-few (SCase e x o s) t = omega (arith, case-arms-few x t, maybe-few o (after_case_arms r x t))
    parts-few (SBlock b s) t = body-few b t
    parts-few (SLoop w c l s) t = stmts-few l t
    parts-few (SNull s) t = omega arith
    parts-few (SAssign x e s) t = omega arith
    parts-few (SDelay d s) t = omega arith
    parts-few (SExit w e s) t = omega arith
    parts-few (SRaise w s) t = omega arith
    parts-few (SAbort cs s) t = omega arith
    parts-few (SCall c s) t = omega arith
    parts-few (SPut ps s) t = omega arith
    parts-few (SPutLine ps s) t = omega arith
    parts-few (SNewLine s) t = omega arith
    parts-few (SGet x s) t = omega arith

    stmts-few : (l : PStmts) (t : List PDecl) → length (after_stmts r l t) ≤ length t + stmts_weight l
    stmts-few no_stmt t = omega arith
    stmts-few (stmt_then x l) t = omega (arith, entered-length t x, parts-few x (statement_variables u t x), stmts-few l (after_parts r x (statement_variables u t x)))

    maybe-few : (o : PMaybe) (t : List PDecl) → length (after_maybe r o t) ≤ length t + maybe_weight o
    maybe-few absent t = omega arith
    maybe-few (present l) t = stmts-few l t

    accept-few : (a : PAccept) (t : List PDecl) → length (after_accept r a t) ≤ length t + accept_weight a
    accept-few (accepting h o) t = maybe-few o t

    kind-few : (k : PAltKind) (t : List PDecl) → length (after_kind r k t) ≤ length t + kind_weight k
    kind-few (AAccept a l) t = omega (arith, accept-few a t, stmts-few l (after_accept r a t))
    kind-few (ADelay d l) t = stmts-few l t
    kind-few ATerminate t = omega arith

    alts-few : (x : PAlts) (t : List PDecl) → length (after_alts r x t) ≤ length t + alts_weight x
    alts-few no_alt t = omega arith
    alts-few (alt_then (alternative g k s) l) t =
        omega (arith, opened-length t g k s, kind-few k (alternative_variables u t (alternative g k s)), alts-few l (after_kind r k (alternative_variables u t (alternative g k s))))

    arms-few : (x : PArms) (t : List PDecl) → length (after_arms r x t) ≤ length t + arms_weight x
    arms-few no_arm t = omega arith
    arms-few (arm_then (arm e l) rest) t = omega (arith, stmts-few l t, arms-few rest (after_stmts r l t))

    case-arms-few : (x : PCaseArms) (t : List PDecl) → length (after_case_arms r x t) ≤ length t + case_arms_weight x
    case-arms-few no_case_arm t = omega arith
    case-arms-few (case_arm_then (case_arm cs l) rest) t = omega (arith, stmts-few l t, case-arms-few rest (after_stmts r l t))

    pub body-few : (b : PBody) (t : List PDecl) → length (after_body r b t) ≤ length t + body_weight b
    body-few (body l hs) t = omega (arith, stmts-few l t, handlers-few hs (after_stmts r l t))

    handlers-few : (hs : PHandlers) (t : List PDecl) → length (after_handlers r hs t) ≤ length t + handlers_weight hs
    handlers-few no_handler t = omega arith
    handlers-few (handler_then (handler ws l s) rest) t = omega (arith, stmts-few l t, handlers-few rest (after_stmts r l t))

-- ---- units

among-light : (ds : PDecls) (id : NameId) → AreLight ds → body_weight (unit_among ds id).body < 2 ^ 64
among-light no_decl id h = omega arith
among-light (decl_then (DTaskBody w ds b s) rest) id h = by_test (w.name.0 == id.0) (among-light rest id h.1)
  where
    by_test : (q : Bool) → body_weight (unit_among rest id).body < 2 ^ 64 → body_weight (unwrap_or (if q then Some (record { in_main = false; decls = ds; body = b }) else None) (unit_among rest id)).body < 2 ^ 64
    by_test true k = h.0
    by_test false k = k
among-light (decl_then (DNumber w e s) rest) id h = among-light rest id h
among-light (decl_then (DObject ws c x i s) rest) id h = among-light rest id h
among-light (decl_then (DEnumeration w ws s) rest) id h = among-light rest id h
among-light (decl_then (DArray w i x s) rest) id h = among-light rest id h
among-light (decl_then (DSubtype w x s) rest) id h = among-light rest id h
among-light (decl_then (DException ws s) rest) id h = among-light rest id h
among-light (decl_then (DIntIo w s) rest) id h = among-light rest id h
among-light (decl_then (DPragma e s) rest) id h = among-light rest id h
among-light (decl_then (DTask t s) rest) id h = among-light rest id h

unit-light : (p : PProgram) → IsLight p → (t : ℕ) → body_weight (unit_of p (numbers_of p) t).body < 2 ^ 64
unit-light p h zero = h.0
unit-light p h (suc t) =
    subst (λ (b : Bool). body_weight (if b then record { in_main = true; decls = p.decls; body = p.body } else unit_of_info p (task_at (numbers_of p) (suc t))).body < 2 ^ 64) (sym (ne_eqb (suc t) 0 (λ e. omega (arith, e))))
    (by_info (task_at (numbers_of p) (suc t)))
  where
    by_info : (info : Option TaskInfo) → body_weight (unit_of_info p info).body < 2 ^ 64
    by_info None = omega arith
    by_info (Some info) = among-light p.decls info.unit h.1

-- A unit of a light program gets fewer than 2^64 variables.
pub light-has-few : (p : PProgram) → IsLight p → (t : ℕ) → length (variables_of p t) < 2 ^ 64
light-has-few p h zero = omega (arith, h.0, body-few (record { setting = setting_for p; task = 0 }) p.body [])
light-has-few p h (suc t) = omega (arith, unit-light p h (suc t), body-few (record { setting = setting_for p; task = first_task p (suc t) }) (unit_of p (numbers_of p) (suc t)).body [])
