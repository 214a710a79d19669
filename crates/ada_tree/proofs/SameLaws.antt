-- A tree is the same as itself.
use Rattle.std.proofs.Common.{◌≡◌, ℕ, List, [], ◌∷◌, Option, Some, None, refl, sym, subst}
use Rattle.std.specs.List.{AllZip}
use Rattle.ada_tree.specs.PlainExpr.{PExpr, EInteger, EName, EIndex, EAttribute, EAttributeOf, EParen, EUnary, EBinary, PBounds, PSubind, PDrange, RGiven, RMarked}
use Rattle.ada_tree.specs.PlainStmt.{PCallee, PArgs, PCall, PFormal, PPart, PWords, PValue, PChoice, PScheme, LWhile, LFor, PHead, PStmt, SNull, SAssign, SDelay, SExit, SRaise, SAbort, SCall, SAccept, SWait, SConditional, STimed, SPut, SPutLine, SNewLine, SGet, SIf, SCase, SBlock, SLoop, PStmts, no_stmt, stmt_then, PMaybe, absent, present, PAccept, accepting, PAlt, alternative, PAltKind, AAccept, ADelay, ATerminate, PAlts, no_alt, alt_then, PArm, arm, PArms, no_arm, arm_then, PCaseArm, case_arm, PCaseArms, no_case_arm, case_arm_then, PBody, body, PHandler, handler, PHandlers, no_handler, handler_then}
use Rattle.ada_tree.specs.PlainDecl.{PShape, OPlain, OArray, PInit, IOne, IList, IOthers, PPriority, PEntry, PTask, PDecl, DNumber, DObject, DEnumeration, DArray, DSubtype, DException, DIntIo, DPragma, DTask, DTaskBody, PDecls, no_decl, decl_then}
use Rattle.ada_tree.specs.PlainProgram.{PProgram}
use Rattle.ada_tree.specs.Same.{SameOption, SameWord, SameExpr, SameBounds, SameSubind, SameDrange, SameCallee, SameArgs, SameCall, SameFormal, SamePart, SameChoice, SameScheme, SameHead, SameStmt, SameStmts, SameMaybe, SameAccept, SameAlt, SameAltKind, SameAlts, SameArm, SameArms, SameCaseArm, SameCaseArms, SameBody, SameHandler, SameHandlers, SameShape, SameInit, SamePriority, SameEntry, SameTask, SameDecl, SameDecls, Same}

option_self : {A : Type 0} (R : A → A → Type 0) → ((x : A) → R x x) → (o : Option A) → SameOption R o o
option_self R each None = tt
option_self R each (Some x) = each x

list_self : {A : Type 0} (R : A → A → Type 0) → ((x : A) → R x x) → (xs : List A) → AllZip R xs xs
list_self R each [] = tt
list_self R each (x ∷ xs) = (each x, list_self R each xs)

module _ (n : List (List ℕ)) where
  pub expr_self : (e : PExpr) → SameExpr n n e e
  expr_self (EInteger k s) = refl
  expr_self (EName a s) = refl
  expr_self (EIndex w e s) = (refl, expr_self e)
  expr_self (EAttribute m w s) = (refl, refl)
  expr_self (EAttributeOf m w e s) = (refl, refl, expr_self e)
  expr_self (EParen e s) = expr_self e
  expr_self (EUnary op e s) = (refl, expr_self e)
  expr_self (EBinary op l r s) = (refl, expr_self l, expr_self r)

  bounds_self : (b : PBounds) → SameBounds n n b b
  bounds_self b = (expr_self b.first, expr_self b.last)

  subind_self : (x : PSubind) → SameSubind n n x x
  subind_self x = (refl, option_self (SameBounds n n) bounds_self x.bounds)

  drange_self : (r : PDrange) → SameDrange n n r r
  drange_self (RGiven b) = bounds_self b
  drange_self (RMarked x) = subind_self x

  index_self : (o : Option PExpr) → SameOption (SameExpr n n) o o
  index_self = option_self (SameExpr n n) expr_self

  exprs_self : (es : List PExpr) → AllZip (SameExpr n n) es es
  exprs_self = list_self (SameExpr n n) expr_self

  callee_self : (x : PCallee) → SameCallee n n x x
  callee_self x = (refl, index_self x.index)

  args_self : (x : PArgs) → SameArgs n n x x
  args_self x = (exprs_self x.first, option_self (AllZip (SameExpr n n)) exprs_self x.second)

  call_self : (x : PCall) → SameCall n n x x
  call_self x = (callee_self x.task, refl, option_self (SameArgs n n) args_self x.args)

  formal_self : (x : PFormal) → SameFormal n n x x
  formal_self x = (list_self (SameWord n n) (λ _. refl) x.names, refl, refl)

  part_self : (x : PPart) → SamePart n n x x
  part_self (PWords t s) = refl
  part_self (PValue e) = expr_self e

  choice_self : (x : PChoice) → SameChoice n n x x
  choice_self x = (expr_self x.first, index_self x.last)

  scheme_self : (x : PScheme) → SameScheme n n x x
  scheme_self (LWhile e) = expr_self e
  scheme_self (LFor w r x) = (refl, refl, drange_self x)

  head_self : (x : PHead) → SameHead n n x x
  head_self x = (refl, index_self x.index, list_self (SameFormal n n) formal_self x.formals)

  mutual
    pub stmt_self : (x : PStmt) → SameStmt n n x x
    stmt_self (SNull s) = tt
    stmt_self (SAssign x e s) = ((refl, index_self x.index), expr_self e)
    stmt_self (SDelay d s) = refl
    stmt_self (SExit w e s) = (option_self (SameWord n n) (λ _. refl) w, index_self e)
    stmt_self (SRaise w s) = option_self (SameWord n n) (λ _. refl) w
    stmt_self (SAbort cs s) = list_self (SameCallee n n) callee_self cs
    stmt_self (SCall c s) = call_self c
    stmt_self (SAccept a s) = accept_self a
    stmt_self (SWait x o s) = (alts_self x, maybe_self o)
    stmt_self (SConditional c k o s) = (call_self c, stmts_self k, stmts_self o)
    stmt_self (STimed c k d o s) = (call_self c, stmts_self k, refl, stmts_self o)
    stmt_self (SPut ps s) = list_self (SamePart n n) part_self ps
    stmt_self (SPutLine ps s) = list_self (SamePart n n) part_self ps
    stmt_self (SNewLine s) = tt
    stmt_self (SGet x s) = (refl, index_self x.index)
    stmt_self (SIf x o s) = (arms_self x, maybe_self o)
    stmt_self (SCase e x o s) = (expr_self e, case_arms_self x, maybe_self o)
    stmt_self (SBlock b s) = body_self b
    stmt_self (SLoop w c k s) = (option_self (SameWord n n) (λ _. refl) w, option_self (SameScheme n n) scheme_self c, stmts_self k)

    pub stmts_self : (k : PStmts) → SameStmts n n k k
    stmts_self no_stmt = tt
    stmts_self (stmt_then x k) = (stmt_self x, stmts_self k)

    maybe_self : (o : PMaybe) → SameMaybe n n o o
    maybe_self absent = tt
    maybe_self (present k) = stmts_self k

    accept_self : (a : PAccept) → SameAccept n n a a
    accept_self (accepting h o) = (head_self h, maybe_self o)

    alt_self : (x : PAlt) → SameAlt n n x x
    alt_self (alternative g k s) = (index_self g, alt_kind_self k)

    alt_kind_self : (k : PAltKind) → SameAltKind n n k k
    alt_kind_self (AAccept a k) = (accept_self a, stmts_self k)
    alt_kind_self (ADelay d k) = (refl, stmts_self k)
    alt_kind_self ATerminate = tt

    alts_self : (k : PAlts) → SameAlts n n k k
    alts_self no_alt = tt
    alts_self (alt_then x k) = (alt_self x, alts_self k)

    arm_self : (x : PArm) → SameArm n n x x
    arm_self (arm e k) = (expr_self e, stmts_self k)

    arms_self : (k : PArms) → SameArms n n k k
    arms_self no_arm = tt
    arms_self (arm_then x k) = (arm_self x, arms_self k)

    case_arm_self : (x : PCaseArm) → SameCaseArm n n x x
    case_arm_self (case_arm cs k) = (list_self (SameChoice n n) choice_self cs, stmts_self k)

    case_arms_self : (k : PCaseArms) → SameCaseArms n n k k
    case_arms_self no_case_arm = tt
    case_arms_self (case_arm_then x k) = (case_arm_self x, case_arms_self k)

    pub body_self : (b : PBody) → SameBody n n b b
    body_self (body k hs) = (stmts_self k, handlers_self hs)

    handler_self : (x : PHandler) → SameHandler n n x x
    handler_self (handler ws k s) = (list_self (SameWord n n) (λ _. refl) ws, stmts_self k)

    handlers_self : (k : PHandlers) → SameHandlers n n k k
    handlers_self no_handler = tt
    handlers_self (handler_then x k) = (handler_self x, handlers_self k)

  shape_self : (x : PShape) → SameShape n n x x
  shape_self (OPlain x) = subind_self x
  shape_self (OArray r x) = (drange_self r, subind_self x)

  init_self : (x : PInit) → SameInit n n x x
  init_self (IOne e) = expr_self e
  init_self (IList es s) = exprs_self es
  init_self (IOthers e s) = expr_self e

  priority_self : (x : PPriority) → SamePriority n n x x
  priority_self x = (refl, expr_self x.value)

  entry_self : (x : PEntry) → SameEntry n n x x
  entry_self x = (refl, option_self (SameDrange n n) drange_self x.family, list_self (SameFormal n n) formal_self x.formals)

  task_self : (x : PTask) → SameTask n n x x
  task_self x = (refl, refl, list_self (SameEntry n n) entry_self x.entries, list_self (SamePriority n n) priority_self x.priorities)

  mutual
    pub decl_self : (x : PDecl) → SameDecl n n x x
    decl_self (DNumber w e s) = (refl, expr_self e)
    decl_self (DObject ws c x i s) = (list_self (SameWord n n) (λ _. refl) ws, refl, shape_self x, option_self (SameInit n n) init_self i)
    decl_self (DEnumeration w ws s) = (refl, list_self (SameWord n n) (λ _. refl) ws)
    decl_self (DArray w r x s) = (refl, drange_self r, subind_self x)
    decl_self (DSubtype w x s) = (refl, subind_self x)
    decl_self (DException ws s) = list_self (SameWord n n) (λ _. refl) ws
    decl_self (DIntIo w s) = refl
    decl_self (DPragma e s) = expr_self e
    decl_self (DTask x s) = task_self x
    decl_self (DTaskBody w ds b s) = (refl, decls_self ds, body_self b)

    pub decls_self : (k : PDecls) → SameDecls n n k k
    decls_self no_decl = tt
    decls_self (decl_then x k) = (decl_self x, decls_self k)

-- a program is the same as itself
pub Same-refl : (p : PProgram) → Same p p
Same-refl p = (refl, refl, decls_self p.names p.decls, body_self p.names p.body)

-- equal programs are the same
pub Same-from_equal : (p q : PProgram) → q ≡ p → Same p q
Same-from_equal p q e = subst (Same p) (sym e) (Same-refl p)
