-- Statements in which the original's names alone stand, in whatever they evaluate, assign, open or count (this project's rule).
use Rattle.std.specs.Prelude.{ℕ, List, [], ◌∷◌, Option, Some, None}
use Rattle.ada_tree.specs.declared.naming.Span.{Span}
use Rattle.ada_tree.specs.declared.naming.Word.{Word}
use Rattle.ada_tree.specs.PlainExpr.{PExpr}
use Rattle.ada_tree.specs.PlainStmt.{PTarget, PCallee, PArgs, PCall, PFormal, PPart, PChoice, PScheme, PHead, PStmt, SNull, SAssign, SDelay, SExit, SRaise, SAbort, SCall, SAccept, SWait, SConditional, STimed, SPut, SPutLine, SNewLine, SGet, SIf, SCase, SBlock, SLoop, PStmts, no_stmt, stmt_then, PMaybe, absent, present, accepting, alternative, PAltKind, AAccept, ADelay, ATerminate, PAlts, no_alt, alt_then, PArms, no_arm, arm_then, arm, PCaseArms, no_case_arm, case_arm_then, case_arm, PBody, body, PHandlers, no_handler, handler_then, handler}
use Rattle.task_laws.specs.translation.Translations.{Programs, IsOld, IsFree}
use Rattle.task_laws.specs.translation.OldNames.{OldExpr, OldOption, OldTarget, OldParts, OldChoices, OldScheme}

-- ---- what is asked

-- What a rewriter asks of calls, of the callees that an abort names, of the heads of accepts and of the alternatives of a wait, beside old names.
pub record Asked : Type 1 where
  pub programs : Programs
  pub call : PCall → Type 0
  pub callee : PCallee → Type 0
  pub head : PHead → Type 0
  pub wait : PAlts → Type 0

-- nothing is asked beside old names
abbrev pub only_names : Programs → Asked
only_names b = record { programs = b; call = λ c. Unit {0}; callee = λ c. Unit {0}; head = λ h. Unit {0}; wait = λ x. Unit {0} }

-- ---- calls, heads and callees

pub data OldExprs (b : Programs) : List PExpr → Type 0 where
  old_no_expr : OldExprs b []
  old_expr : (e : PExpr) (rest : List PExpr) → OldExpr b e → OldExprs b rest → OldExprs b (e ∷ rest)

-- a list of expressions that may be left out
pub data OldList (b : Programs) : Option (List PExpr) → Type 0 where
  old_no_list : OldList b None
  old_list : (es : List PExpr) → OldExprs b es → OldList b (Some es)

-- the lists of a call
pub data OldArgs (b : Programs) : Option PArgs → Type 0 where
  old_no_args : OldArgs b None
  old_args : (args : PArgs) → OldExprs b args.first → OldList b args.second → OldArgs b (Some args)

pub record OldCall (b : Programs) (c : PCall) : Type 0 where
  pub member : OldOption b c.task.index
  pub args : OldArgs b c.args

pub data OldCallees (a : Asked) : List PCallee → Type 0 where
  old_no_callee : OldCallees a []
  old_callee : (c : PCallee) (rest : List PCallee) → OldOption a.programs c.index → a.callee c → OldCallees a rest → OldCallees a (c ∷ rest)

pub data OldWords (b : Programs) : List Word → Type 0 where
  old_no_word : OldWords b []
  old_word : (w : Word) (rest : List Word) → IsOld b w.name → IsFree b w.name → OldWords b rest → OldWords b (w ∷ rest)

-- formals: their names and their marks
pub data OldFormals (b : Programs) : List PFormal → Type 0 where
  old_no_formal : OldFormals b []
  old_formal : (f : PFormal) (rest : List PFormal) → OldWords b f.names → IsOld b f.mark.name → OldFormals b rest → OldFormals b (f ∷ rest)

pub record OldHead (b : Programs) (h : PHead) : Type 0 where
  pub index : OldOption b h.index
  pub formals : OldFormals b h.formals

-- ---- statements

mutual
  pub data OldStmt (a : Asked) : PStmt → Type 0 where
    old_null : (s : Span) → OldStmt a (SNull s)
    old_assign : (t : PTarget) (e : PExpr) (s : Span) → OldTarget a.programs t → OldExpr a.programs e → OldStmt a (SAssign t e s)
    old_delay : (d : ℕ) (s : Span) → OldStmt a (SDelay d s)
    old_exit : (w : Option Word) (test : Option PExpr) (s : Span) → OldOption a.programs test → OldStmt a (SExit w test s)
    old_raise : (w : Option Word) (s : Span) → OldStmt a (SRaise w s)
    old_abort : (cs : List PCallee) (s : Span) → OldCallees a cs → OldStmt a (SAbort cs s)
    old_call : (c : PCall) (s : Span) → OldCall a.programs c → a.call c → OldStmt a (SCall c s)
    old_accept : (h : PHead) (o : PMaybe) (s : Span) → OldHead a.programs h → a.head h → OldMaybe a o → OldStmt a (SAccept (accepting h o) s)
    old_wait : (alts : PAlts) (o : PMaybe) (s : Span) → a.wait alts → OldAlts a alts → OldMaybe a o → OldStmt a (SWait alts o s)
    old_conditional : (c : PCall) (l m : PStmts) (s : Span) → OldCall a.programs c → a.call c → OldStmts a l → OldStmts a m → OldStmt a (SConditional c l m s)
    old_timed : (c : PCall) (l : PStmts) (d : ℕ) (m : PStmts) (s : Span) → OldCall a.programs c → a.call c → OldStmts a l → OldStmts a m → OldStmt a (STimed c l d m s)
    old_put : (ps : List PPart) (s : Span) → OldParts a.programs ps → OldStmt a (SPut ps s)
    old_put_line : (ps : List PPart) (s : Span) → OldParts a.programs ps → OldStmt a (SPutLine ps s)
    old_new_line : (s : Span) → OldStmt a (SNewLine s)
    old_get : (t : PTarget) (s : Span) → OldTarget a.programs t → OldStmt a (SGet t s)
    old_if : (arms : PArms) (o : PMaybe) (s : Span) → OldArms a arms → OldMaybe a o → OldStmt a (SIf arms o s)
    old_case : (e : PExpr) (arms : PCaseArms) (o : PMaybe) (s : Span) → OldExpr a.programs e → OldCaseArms a arms → OldMaybe a o → OldStmt a (SCase e arms o s)
    old_block : (l : PStmts) (hs : PHandlers) (s : Span) → OldStmts a l → OldHandlers a hs → OldStmt a (SBlock (body l hs) s)
    old_loop : (w : Option Word) (c : Option PScheme) (l : PStmts) (s : Span) → OldScheme a.programs c → OldStmts a l → OldStmt a (SLoop w c l s)

  pub data OldStmts (a : Asked) : PStmts → Type 0 where
    old_no_stmt : OldStmts a no_stmt
    old_stmt : (s : PStmt) (rest : PStmts) → OldStmt a s → OldStmts a rest → OldStmts a (stmt_then s rest)

  pub data OldMaybe (a : Asked) : PMaybe → Type 0 where
    old_absent : OldMaybe a absent
    old_present : (l : PStmts) → OldStmts a l → OldMaybe a (present l)

  pub data OldAlts (a : Asked) : PAlts → Type 0 where
    old_no_alt : OldAlts a no_alt
    old_alt : (guard : Option PExpr) (k : PAltKind) (s : Span) (rest : PAlts) → OldOption a.programs guard → OldKind a k → OldAlts a rest → OldAlts a (alt_then (alternative guard k s) rest)

  pub data OldKind (a : Asked) : PAltKind → Type 0 where
    old_accepts : (h : PHead) (o : PMaybe) (l : PStmts) → OldHead a.programs h → a.head h → OldMaybe a o → OldStmts a l → OldKind a (AAccept (accepting h o) l)
    old_delays : (d : ℕ) (l : PStmts) → OldStmts a l → OldKind a (ADelay d l)
    old_terminates : OldKind a ATerminate

  pub data OldArms (a : Asked) : PArms → Type 0 where
    old_no_arm : OldArms a no_arm
    old_arm : (e : PExpr) (l : PStmts) (rest : PArms) → OldExpr a.programs e → OldStmts a l → OldArms a rest → OldArms a (arm_then (arm e l) rest)

  pub data OldCaseArms (a : Asked) : PCaseArms → Type 0 where
    old_no_case_arm : OldCaseArms a no_case_arm
    old_case_arm : (cs : List PChoice) (l : PStmts) (rest : PCaseArms) → OldChoices a.programs cs → OldStmts a l → OldCaseArms a rest → OldCaseArms a (case_arm_then (case_arm cs l) rest)

  pub data OldHandlers (a : Asked) : PHandlers → Type 0 where
    old_no_handler : OldHandlers a no_handler
    old_handler : (ws : List Word) (l : PStmts) (s : Span) (rest : PHandlers) → OldStmts a l → OldHandlers a rest → OldHandlers a (handler_then (handler ws l s) rest)

-- a body
pub data OldBody (a : Asked) : PBody → Type 0 where
  old_body : (l : PStmts) (hs : PHandlers) → OldStmts a l → OldHandlers a hs → OldBody a (body l hs)
