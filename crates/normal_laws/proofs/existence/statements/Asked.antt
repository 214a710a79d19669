-- What is asked of the statements of a body holds of each of them, wherever it stands.
use Rattle.std.proofs.Common.{ℕ, ◌+◌, List, [], ◌∷◌, Option}
use Rattle.std.specs.List.{AllByRecursion}
use Rattle.ada_tree.specs.declared.naming.Span.{Span}
use Rattle.ada_tree.specs.PlainExpr.{PExpr}
use Rattle.ada_tree.specs.PlainStmt.{PStmt, SNull, SAssign, SDelay, SExit, SRaise, SAbort, SCall, SAccept, SWait, SConditional, STimed, SPut, SPutLine, SNewLine, SGet, SIf, SCase, SBlock, SLoop, PStmts, no_stmt, stmt_then, PMaybe, absent, present, PAccept, accepting, alternative, PAltKind, AAccept, ADelay, ATerminate, PAlts, no_alt, alt_then, PArms, no_arm, arm_then, arm, PCaseArms, no_case_arm, case_arm_then, case_arm, PBody, body, PHandlers, no_handler, handler_then, handler}
use Rattle.ada_static_rules.specs.Sites.{with_words}
use Rattle.task_laws.specs.legal.asked.Asked.{Asks, AskedStmt, AskedStmts, AskedSome, AskedMaybe, AskedAccept, AskedAlts, AskedKind, AskedArms, AskedCaseArms, AskedBody, AskedHandlers}
use Rattle.task_laws.specs.statements.Each.{Loops, InParts, InStmts, InMaybe, InAccept, InAltKind, InAlts, InArms, InCaseArms, InBody, InHandlers}

-- of each member of a list nothing is asked
pub nothing-asked : {A : Type 0} (xs : List A) → AllByRecursion (λ x. Unit {0}) xs
nothing-asked [] = tt
nothing-asked (x ∷ xs) = (tt, nothing-asked xs)

module _ {C : Type 0} (a : Asks C) (Each : Loops → PStmt → Type 0) (each : (x : PStmt) (c : C) (k : ℕ) (loops : Loops) → AskedStmt a c k x → Each loops x) where
  mutual
    parts : (x : PStmt) (c : C) (k : ℕ) (loops : Loops) → AskedStmt a c k x → InParts Each loops x
    parts (SAccept x s) c k loops h = accept x c k h
    parts (SWait x o s) c k loops h = (alts x c (k + 1) loops h.3, maybe o c (k + 1) loops h.4)
    parts (SConditional x l o s) c k loops h = (row l c (k + 1) loops h.4, some o c (k + 1) loops h.5)
    parts (STimed x l d o s) c k loops h = (row l c (k + 1) loops h.5, row o c (k + 1) loops h.6)
    parts (SIf x o s) c k loops h = (arms x c (k + 1) loops h.2, maybe o c (k + 1) loops h.3)
    parts (SCase e x o s) c k loops h = (case-arms x e c (k + 1) loops h.2, maybe o c (k + 1) loops h.3)
    parts (SBlock b s) c k loops h = in-body b c (k + 1) loops h.1
    parts (SLoop w x l s) c k loops h = some l (a.looping c w x) (k + 1) (w ∷ loops) h.2
    parts (SNull s) c k loops h = tt
    parts (SAssign t e s) c k loops h = tt
    parts (SDelay d s) c k loops h = tt
    parts (SExit w e s) c k loops h = tt
    parts (SRaise w s) c k loops h = tt
    parts (SAbort xs s) c k loops h = tt
    parts (SCall x s) c k loops h = tt
    parts (SPut ps s) c k loops h = tt
    parts (SPutLine ps s) c k loops h = tt
    parts (SNewLine s) c k loops h = tt
    parts (SGet t s) c k loops h = tt

    row : (l : PStmts) (c : C) (k : ℕ) (loops : Loops) → AskedStmts a c k l → InStmts Each loops l
    row no_stmt c k loops h = tt
    row (stmt_then x l) c k loops h = ((each x c k loops h.0, parts x c k loops h.0), row l c k loops h.1)

    some : (l : PStmts) (c : C) (k : ℕ) (loops : Loops) → AskedSome a c k l → InStmts Each loops l
    some no_stmt c k loops h = tt
    some (stmt_then x l) c k loops h = ((each x c k loops h.1, parts x c k loops h.1), row l c k loops h.2)

    maybe : (o : PMaybe) (c : C) (k : ℕ) (loops : Loops) → AskedMaybe a c k o → InMaybe Each loops o
    maybe absent c k loops h = tt
    maybe (present l) c k loops h = some l c k loops h

    accept : (x : PAccept) (c : C) (k : ℕ) → AskedAccept a c k x → InAccept Each x
    accept (accepting head o) c k h = maybe o (a.accepting c head) (k + 1) [] h.1

    alts : (x : PAlts) (c : C) (k : ℕ) (loops : Loops) → AskedAlts a c k x → InAlts Each loops x
    alts no_alt c k loops h = tt
    alts (alt_then (alternative g w s) rest) c k loops h = (kind w g s c (k + 1) loops h.2, alts rest c k loops h.3)

    kind : (w : PAltKind) (g : Option PExpr) (s : Span) (c : C) (k : ℕ) (loops : Loops) → AskedKind a c k g s w → InAltKind Each loops w
    kind (AAccept x l) g s c k loops h = (accept x c k h.0, row l c k loops h.1)
    kind (ADelay d l) g s c k loops h = row l c k loops h.2
    kind ATerminate g s c k loops h = tt

    arms : (x : PArms) (c : C) (k : ℕ) (loops : Loops) → AskedArms a c k x → InArms Each loops x
    arms no_arm c k loops h = tt
    arms (arm_then (arm e l) rest) c k loops h = (some l c k loops h.1, arms rest c k loops h.2)

    case-arms : (x : PCaseArms) (e : PExpr) (c : C) (k : ℕ) (loops : Loops) → AskedCaseArms a c k e x → InCaseArms Each loops x
    case-arms no_case_arm e c k loops h = tt
    case-arms (case_arm_then (case_arm xs l) rest) e c k loops h = (some l c k loops h.1, case-arms rest e c k loops h.2)

    in-body : (b : PBody) (c : C) (k : ℕ) (loops : Loops) → AskedBody a c k b → InBody Each loops b
    in-body (body l hs) c k loops h = (some l c k loops h.0, handlers hs [] c k loops h.2)

    handlers : (hs : PHandlers) (names : List ℕ) (c : C) (k : ℕ) (loops : Loops) → AskedHandlers a c k names hs → InHandlers Each loops hs
    handlers no_handler names c k loops h = tt
    handlers (handler_then (handler ws l s) rest) names c k loops h = (some l (a.handling c) (k + 1) loops h.2, handlers rest (with_words names ws) c k loops h.3)

  -- what is asked of the statements of a body holds of each statement in it
  pub body-each : (b : PBody) (c : C) (k : ℕ) (loops : Loops) → AskedBody a c k b → InBody Each loops b
  body-each b c k loops h = in-body b c k loops h
