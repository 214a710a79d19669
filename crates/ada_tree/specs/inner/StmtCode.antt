-- The codes of the mirror of statements and its rows, by which a struct whose contracts show one, as a frame of a task, may have a model.
use Rattle.std.specs.Prelude.{◌≡◌, ℕ, List, [], Option, None, refl}
use Rattle.std.specs.Coded.{Coded, code_by}
use Rattle.ada_tree.specs.declared.naming.Span.{Span}
use Rattle.ada_tree.specs.declared.naming.Word.{Word}
use Rattle.ada_tree.specs.PlainExpr.{PExpr, EInteger}
use Rattle.ada_tree.specs.PlainStmt.{PTarget, PCallee, PCall, PPart, PChoice, PScheme, PHead, PStmt, SNull, SAssign, SDelay, SExit, SRaise, SAbort, SCall, SAccept, SWait, SConditional, STimed, SPut, SPutLine, SNewLine, SGet, SIf, SCase, SBlock, SLoop, PStmts, no_stmt, stmt_then, PMaybe, absent, present, PAccept, accepting, PAlt, alternative, PAltKind, AAccept, ADelay, ATerminate, PAlts, no_alt, alt_then, PArm, arm, PArms, no_arm, arm_then, PCaseArm, case_arm, PCaseArms, no_case_arm, case_arm_then, PBody, body, PHandler, handler, PHandlers, no_handler, handler_then}
use Rattle.ada_tree.specs.inner.BinaryCode.{Binary, tip, node, coded_binary}

-- what a node holds beside its parts; a node that holds nothing but two parts has HBoth
pub data StmtHead : Type 0 where
  HBoth : StmtHead
  HNull : Span → StmtHead
  HAssign : PTarget → PExpr → Span → StmtHead
  HDelay : ℕ → Span → StmtHead
  HExit : Option Word → Option PExpr → Span → StmtHead
  HRaise : Option Word → Span → StmtHead
  HAbort : List PCallee → Span → StmtHead
  HCall : PCall → Span → StmtHead
  HAccept : Span → StmtHead
  HWait : Span → StmtHead
  HConditional : PCall → Span → StmtHead
  HTimed : PCall → ℕ → Span → StmtHead
  HPut : List PPart → Span → StmtHead
  HPutLine : List PPart → Span → StmtHead
  HNewLine : Span → StmtHead
  HGet : PTarget → Span → StmtHead
  HIf : Span → StmtHead
  HCase : PExpr → Span → StmtHead
  HBlock : Span → StmtHead
  HLoop : Option Word → Option PScheme → Span → StmtHead
  HAccepting : PHead → StmtHead
  HAlternative : Option PExpr → Span → StmtHead
  HDelayed : ℕ → StmtHead
  HArm : PExpr → StmtHead
  HCaseArm : List PChoice → StmtHead
  HHandler : List Word → Span → StmtHead

abbrev mutual
  pub stmt_to : PStmt → Binary StmtHead
  stmt_to (SNull s) = node (HNull s) tip tip
  stmt_to (SAssign t e s) = node (HAssign t e s) tip tip
  stmt_to (SDelay d s) = node (HDelay d s) tip tip
  stmt_to (SExit w e s) = node (HExit w e s) tip tip
  stmt_to (SRaise w s) = node (HRaise w s) tip tip
  stmt_to (SAbort cs s) = node (HAbort cs s) tip tip
  stmt_to (SCall c s) = node (HCall c s) tip tip
  stmt_to (SAccept a s) = node (HAccept s) (accept_to a) tip
  stmt_to (SWait k o s) = node (HWait s) (alts_to k) (maybe_to o)
  stmt_to (SConditional c k l s) = node (HConditional c s) (stmts_to k) (stmts_to l)
  stmt_to (STimed c k d l s) = node (HTimed c d s) (stmts_to k) (stmts_to l)
  stmt_to (SPut ps s) = node (HPut ps s) tip tip
  stmt_to (SPutLine ps s) = node (HPutLine ps s) tip tip
  stmt_to (SNewLine s) = node (HNewLine s) tip tip
  stmt_to (SGet t s) = node (HGet t s) tip tip
  stmt_to (SIf k o s) = node (HIf s) (arms_to k) (maybe_to o)
  stmt_to (SCase e k o s) = node (HCase e s) (case_arms_to k) (maybe_to o)
  stmt_to (SBlock b s) = node (HBlock s) (body_to b) tip
  stmt_to (SLoop w c k s) = node (HLoop w c s) (stmts_to k) tip

  pub stmts_to : PStmts → Binary StmtHead
  stmts_to no_stmt = tip
  stmts_to (stmt_then x k) = node HBoth (stmt_to x) (stmts_to k)

  pub maybe_to : PMaybe → Binary StmtHead
  maybe_to absent = tip
  maybe_to (present k) = node HBoth (stmts_to k) tip

  pub accept_to : PAccept → Binary StmtHead
  accept_to (accepting h o) = node (HAccepting h) (maybe_to o) tip

  pub alt_to : PAlt → Binary StmtHead
  alt_to (alternative g k s) = node (HAlternative g s) (alt_kind_to k) tip

  pub alt_kind_to : PAltKind → Binary StmtHead
  alt_kind_to (AAccept a k) = node HBoth (accept_to a) (stmts_to k)
  alt_kind_to (ADelay d k) = node (HDelayed d) (stmts_to k) tip
  alt_kind_to ATerminate = tip

  pub alts_to : PAlts → Binary StmtHead
  alts_to no_alt = tip
  alts_to (alt_then x k) = node HBoth (alt_to x) (alts_to k)

  pub arm_to : PArm → Binary StmtHead
  arm_to (arm e k) = node (HArm e) (stmts_to k) tip

  pub arms_to : PArms → Binary StmtHead
  arms_to no_arm = tip
  arms_to (arm_then x k) = node HBoth (arm_to x) (arms_to k)

  pub case_arm_to : PCaseArm → Binary StmtHead
  case_arm_to (case_arm cs k) = node (HCaseArm cs) (stmts_to k) tip

  pub case_arms_to : PCaseArms → Binary StmtHead
  case_arms_to no_case_arm = tip
  case_arms_to (case_arm_then x k) = node HBoth (case_arm_to x) (case_arms_to k)

  pub body_to : PBody → Binary StmtHead
  body_to (body k hs) = node HBoth (stmts_to k) (handlers_to hs)

  pub handler_to : PHandler → Binary StmtHead
  handler_to (handler ws k s) = node (HHandler ws s) (stmts_to k) tip

  pub handlers_to : PHandlers → Binary StmtHead
  handlers_to no_handler = tip
  handlers_to (handler_then x k) = node HBoth (handler_to x) (handlers_to k)

abbrev nowhere : Span
nowhere = record { start = 0; end = 0 }

-- what a tree is stored for; the last clause of each is for trees that are stored for nothing of its type
abbrev mutual
  pub stmt_from : Binary StmtHead → PStmt
  stmt_from (node (HNull s) a b) = SNull s
  stmt_from (node (HAssign t e s) a b) = SAssign t e s
  stmt_from (node (HDelay d s) a b) = SDelay d s
  stmt_from (node (HExit w e s) a b) = SExit w e s
  stmt_from (node (HRaise w s) a b) = SRaise w s
  stmt_from (node (HAbort cs s) a b) = SAbort cs s
  stmt_from (node (HCall c s) a b) = SCall c s
  stmt_from (node (HAccept s) a b) = SAccept (accept_from a) s
  stmt_from (node (HWait s) a b) = SWait (alts_from a) (maybe_from b) s
  stmt_from (node (HConditional c s) a b) = SConditional c (stmts_from a) (stmts_from b) s
  stmt_from (node (HTimed c d s) a b) = STimed c (stmts_from a) d (stmts_from b) s
  stmt_from (node (HPut ps s) a b) = SPut ps s
  stmt_from (node (HPutLine ps s) a b) = SPutLine ps s
  stmt_from (node (HNewLine s) a b) = SNewLine s
  stmt_from (node (HGet t s) a b) = SGet t s
  stmt_from (node (HIf s) a b) = SIf (arms_from a) (maybe_from b) s
  stmt_from (node (HCase e s) a b) = SCase e (case_arms_from a) (maybe_from b) s
  stmt_from (node (HBlock s) a b) = SBlock (body_from a) s
  stmt_from (node (HLoop w c s) a b) = SLoop w c (stmts_from a) s
  stmt_from _ = SNull nowhere

  pub stmts_from : Binary StmtHead → PStmts
  stmts_from tip = no_stmt
  stmts_from (node h a b) = stmt_then (stmt_from a) (stmts_from b)

  pub maybe_from : Binary StmtHead → PMaybe
  maybe_from tip = absent
  maybe_from (node h a b) = present (stmts_from a)

  pub accept_from : Binary StmtHead → PAccept
  accept_from (node (HAccepting h) a b) = accepting h (maybe_from a)
  accept_from _ = accepting record { entry = record { name = record { 0 = 0 }; span = nowhere }; index = None; formals = []; span = nowhere } absent

  pub alt_from : Binary StmtHead → PAlt
  alt_from (node (HAlternative g s) a b) = alternative g (alt_kind_from a) s
  alt_from _ = alternative None ATerminate nowhere

  pub alt_kind_from : Binary StmtHead → PAltKind
  alt_kind_from tip = ATerminate
  alt_kind_from (node (HDelayed d) a b) = ADelay d (stmts_from a)
  alt_kind_from (node _ a b) = AAccept (accept_from a) (stmts_from b)

  pub alts_from : Binary StmtHead → PAlts
  alts_from tip = no_alt
  alts_from (node h a b) = alt_then (alt_from a) (alts_from b)

  pub arm_from : Binary StmtHead → PArm
  arm_from (node (HArm e) a b) = arm e (stmts_from a)
  arm_from _ = arm (EInteger 0 nowhere) no_stmt

  pub arms_from : Binary StmtHead → PArms
  arms_from tip = no_arm
  arms_from (node h a b) = arm_then (arm_from a) (arms_from b)

  pub case_arm_from : Binary StmtHead → PCaseArm
  case_arm_from (node (HCaseArm cs) a b) = case_arm cs (stmts_from a)
  case_arm_from _ = case_arm [] no_stmt

  pub case_arms_from : Binary StmtHead → PCaseArms
  case_arms_from tip = no_case_arm
  case_arms_from (node h a b) = case_arm_then (case_arm_from a) (case_arms_from b)

  pub body_from : Binary StmtHead → PBody
  body_from tip = body no_stmt no_handler
  body_from (node h a b) = body (stmts_from a) (handlers_from b)

  pub handler_from : Binary StmtHead → PHandler
  handler_from (node (HHandler ws s) a b) = handler ws (stmts_from a) s
  handler_from _ = handler [] no_stmt nowhere

  pub handlers_from : Binary StmtHead → PHandlers
  handlers_from tip = no_handler
  handlers_from (node h a b) = handler_then (handler_from a) (handlers_from b)

mutual
  pub stmt_back : (x : PStmt) → stmt_from (stmt_to x) ≡ x
  stmt_back (SNull s) = refl
  stmt_back (SAssign t e s) = refl
  stmt_back (SDelay d s) = refl
  stmt_back (SExit w e s) = refl
  stmt_back (SRaise w s) = refl
  stmt_back (SAbort cs s) = refl
  stmt_back (SCall c s) = refl
  stmt_back (SAccept a s) = λ i. SAccept (accept_back a i) s
  stmt_back (SWait k o s) = λ i. SWait (alts_back k i) (maybe_back o i) s
  stmt_back (SConditional c k l s) = λ i. SConditional c (stmts_back k i) (stmts_back l i) s
  stmt_back (STimed c k d l s) = λ i. STimed c (stmts_back k i) d (stmts_back l i) s
  stmt_back (SPut ps s) = refl
  stmt_back (SPutLine ps s) = refl
  stmt_back (SNewLine s) = refl
  stmt_back (SGet t s) = refl
  stmt_back (SIf k o s) = λ i. SIf (arms_back k i) (maybe_back o i) s
  stmt_back (SCase e k o s) = λ i. SCase e (case_arms_back k i) (maybe_back o i) s
  stmt_back (SBlock b s) = λ i. SBlock (body_back b i) s
  stmt_back (SLoop w c k s) = λ i. SLoop w c (stmts_back k i) s

  pub stmts_back : (k : PStmts) → stmts_from (stmts_to k) ≡ k
  stmts_back no_stmt = refl
  stmts_back (stmt_then x k) = λ i. stmt_then (stmt_back x i) (stmts_back k i)

  pub maybe_back : (o : PMaybe) → maybe_from (maybe_to o) ≡ o
  maybe_back absent = refl
  maybe_back (present k) = λ i. present (stmts_back k i)

  pub accept_back : (a : PAccept) → accept_from (accept_to a) ≡ a
  accept_back (accepting h o) = λ i. accepting h (maybe_back o i)

  pub alt_back : (x : PAlt) → alt_from (alt_to x) ≡ x
  alt_back (alternative g k s) = λ i. alternative g (alt_kind_back k i) s

  pub alt_kind_back : (k : PAltKind) → alt_kind_from (alt_kind_to k) ≡ k
  alt_kind_back (AAccept a k) = λ i. AAccept (accept_back a i) (stmts_back k i)
  alt_kind_back (ADelay d k) = λ i. ADelay d (stmts_back k i)
  alt_kind_back ATerminate = refl

  pub alts_back : (k : PAlts) → alts_from (alts_to k) ≡ k
  alts_back no_alt = refl
  alts_back (alt_then x k) = λ i. alt_then (alt_back x i) (alts_back k i)

  pub arm_back : (x : PArm) → arm_from (arm_to x) ≡ x
  arm_back (arm e k) = λ i. arm e (stmts_back k i)

  pub arms_back : (k : PArms) → arms_from (arms_to k) ≡ k
  arms_back no_arm = refl
  arms_back (arm_then x k) = λ i. arm_then (arm_back x i) (arms_back k i)

  pub case_arm_back : (x : PCaseArm) → case_arm_from (case_arm_to x) ≡ x
  case_arm_back (case_arm cs k) = λ i. case_arm cs (stmts_back k i)

  pub case_arms_back : (k : PCaseArms) → case_arms_from (case_arms_to k) ≡ k
  case_arms_back no_case_arm = refl
  case_arms_back (case_arm_then x k) = λ i. case_arm_then (case_arm_back x i) (case_arms_back k i)

  pub body_back : (b : PBody) → body_from (body_to b) ≡ b
  body_back (body k hs) = λ i. body (stmts_back k i) (handlers_back hs i)

  pub handler_back : (x : PHandler) → handler_from (handler_to x) ≡ x
  handler_back (handler ws k s) = λ i. handler ws (stmts_back k i) s

  pub handlers_back : (k : PHandlers) → handlers_from (handlers_to k) ≡ k
  handlers_back no_handler = refl
  handlers_back (handler_then x k) = λ i. handler_then (handler_back x i) (handlers_back k i)

module _ (h : Coded StmtHead) where
  abbrev pub coded_stmts : Coded PStmts
  coded_stmts = code_by (Binary StmtHead) (coded_binary h) stmts_to stmts_from stmts_back

  abbrev pub coded_handlers : Coded PHandlers
  coded_handlers = code_by (Binary StmtHead) (coded_binary h) handlers_to handlers_from handlers_back
