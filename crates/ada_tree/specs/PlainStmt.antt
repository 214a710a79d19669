-- The plain mirror of statements, bodies, handlers, alternatives and arms, with the view of each type in it. A list of one of these is a row of the family; `stmts_of` and its kin make the row of a list.
use Rattle.std.specs.Prelude.{ℕ, Bool, List, [], ◌∷◌, Option, Some, None, Vec, map, option_map, string_bytes}
use Rattle.std.specs.declared.alloc.Global.{Global}
use Rattle.ada_tree.specs.declared.naming.Span.{Span}
use Rattle.ada_tree.specs.declared.naming.Word.{Word}
use Rattle.ada_tree.specs.declared.statements.Target.{Target}
use Rattle.ada_tree.specs.declared.statements.Callee.{Callee}
use Rattle.ada_tree.specs.declared.statements.Call as call
use Rattle.ada_tree.specs.declared.statements.Args.{Args}
use Rattle.ada_tree.specs.declared.statements.Formal.{Formal}
use Rattle.ada_tree.specs.declared.statements.ParMode.{ParMode}
use Rattle.ada_tree.specs.declared.statements.Part.{Part}
use Rattle.ada_tree.specs.declared.statements.Part.TheVariants.{Words, Value}
use Rattle.ada_tree.specs.declared.statements.CaseChoice.{CaseChoice}
use Rattle.ada_tree.specs.declared.statements.Scheme.{Scheme}
use Rattle.ada_tree.specs.declared.statements.Scheme.TheVariants.{While, For}
use Rattle.ada_tree.specs.declared.statements.Stmt.{Stmt}
use Rattle.ada_tree.specs.declared.statements.StmtKind.{StmtKind, Null, Assign, Delay, Exit, Raise, Abort, Call, Accept, Wait', Conditional', Timed', Put, PutLine, NewLine, Get, If', Case', Block, Loop', None', Some', Held-StmtKind-Wait-1, Row_of-Stmt, end_of-Stmt, more_of-Stmt, Row_of-Alt, end_of-Alt, more_of-Alt, Row_of-Arm, end_of-Arm, more_of-Arm, Row_of-CaseArm, end_of-CaseArm, more_of-CaseArm}
use Rattle.ada_tree.specs.declared.statements.AltKind.{AltKind, Terminate}
use Rattle.ada_tree.specs.declared.statements.AltKind as alt
use Rattle.ada_tree.specs.declared.statements.Alt.{Alt}
use Rattle.ada_tree.specs.declared.statements.Accept as accept
use Rattle.ada_tree.specs.declared.statements.Arm.{Arm, Arm'}
use Rattle.ada_tree.specs.declared.statements.Body.{Body, Body', Row_of-Handler, end_of-Handler, more_of-Handler}
use Rattle.ada_tree.specs.declared.statements.CaseArm.{CaseArm, CaseArm'}
use Rattle.ada_tree.specs.declared.statements.Handler.{Handler, Handler'}
use Rattle.ada_tree.specs.PlainExpr.{PExpr, PDrange, plain_expr, plain_drange}

-- a variable or a component
pub record PTarget : Type 0 where
  pub name : Word
  pub index : Option PExpr

-- a task, or a member of an array of tasks
pub record PCallee : Type 0 where
  pub name : Word
  pub index : Option PExpr

-- the lists in parentheses behind an entry's name
pub record PArgs : Type 0 where
  pub first : List PExpr
  pub second : Option (List PExpr)

-- an entry call
pub record PCall : Type 0 where
  pub task : PCallee
  pub entry : Word
  pub args : Option PArgs

-- parameters of one mode and one type
pub record PFormal : Type 0 where
  pub names : List Word
  pub mode : ParMode
  pub mark : Word

-- a part of what PUT writes
pub data PPart : Type 0 where
  PWords : List ℕ → Span → PPart
  PValue : PExpr → PPart

-- a choice of a case statement
pub record PChoice : Type 0 where
  pub first : PExpr
  pub last : Option PExpr

-- how a loop goes on: while a condition holds, or for the values of a range, backwards where the truth value is true
pub data PScheme : Type 0 where
  LWhile : PExpr → PScheme
  LFor : Word → Bool → PDrange → PScheme

-- an accept statement without its statements
pub record PHead : Type 0 where
  pub entry : Word
  pub index : Option PExpr
  pub formals : List PFormal
  pub span : Span

mutual
  -- a statement with its place in the text (5.1)
  pub data PStmt : Type 0 where
    SNull : Span → PStmt
    SAssign : PTarget → PExpr → Span → PStmt
    SDelay : ℕ → Span → PStmt
    SExit : Option Word → Option PExpr → Span → PStmt
    SRaise : Option Word → Span → PStmt
    SAbort : List PCallee → Span → PStmt
    SCall : PCall → Span → PStmt
    SAccept : PAccept → Span → PStmt
    SWait : PAlts → PMaybe → Span → PStmt
    SConditional : PCall → PStmts → PStmts → Span → PStmt
    STimed : PCall → PStmts → ℕ → PStmts → Span → PStmt
    SPut : List PPart → Span → PStmt
    SPutLine : List PPart → Span → PStmt
    SNewLine : Span → PStmt
    SGet : PTarget → Span → PStmt
    SIf : PArms → PMaybe → Span → PStmt
    SCase : PExpr → PCaseArms → PMaybe → Span → PStmt
    SBlock : PBody → Span → PStmt
    SLoop : Option Word → Option PScheme → PStmts → Span → PStmt

  -- statements in their order (5.1)
  pub data PStmts : Type 0 where
    no_stmt : PStmts
    stmt_then : PStmt → PStmts → PStmts

  -- statements that may be left out: an else part, those of `when others`, or the body of an accept statement
  pub data PMaybe : Type 0 where
    absent : PMaybe
    present : PStmts → PMaybe

  -- an accept statement: its head, and its statements where it has some (9.5)
  pub data PAccept : Type 0 where
    accepting : PHead → PMaybe → PAccept

  -- an alternative: its guard, its kind and its place
  pub data PAlt : Type 0 where
    alternative : Option PExpr → PAltKind → Span → PAlt

  -- what an alternative of a selective wait is: an accept, a delay or a terminate alternative (9.7.1)
  pub data PAltKind : Type 0 where
    AAccept : PAccept → PStmts → PAltKind
    ADelay : ℕ → PStmts → PAltKind
    ATerminate : PAltKind

  -- the alternatives of a selective wait in their order (9.7.1)
  pub data PAlts : Type 0 where
    no_alt : PAlts
    alt_then : PAlt → PAlts → PAlts

  -- a condition with its statements
  pub data PArm : Type 0 where
    arm : PExpr → PStmts → PArm

  -- the conditions of an if statement with their statements, in their order (5.3)
  pub data PArms : Type 0 where
    no_arm : PArms
    arm_then : PArm → PArms → PArms

  -- the choices of a `when` with its statements
  pub data PCaseArm : Type 0 where
    case_arm : List PChoice → PStmts → PCaseArm

  -- the alternatives of a case statement in their order, without `when others` (5.4)
  pub data PCaseArms : Type 0 where
    no_case_arm : PCaseArms
    case_arm_then : PCaseArm → PCaseArms → PCaseArms

  -- statements with their handlers
  pub data PBody : Type 0 where
    body : PStmts → PHandlers → PBody

  -- the names of a handler, none for `others`, with its statements and its place
  pub data PHandler : Type 0 where
    handler : List Word → PStmts → Span → PHandler

  -- the exception handlers of a body or block, in their order (11.2)
  pub data PHandlers : Type 0 where
    no_handler : PHandlers
    handler_then : PHandler → PHandlers → PHandlers

-- the row of a list
abbrev pub stmts_of : List PStmt → PStmts
stmts_of [] = no_stmt
stmts_of (x ∷ xs) = stmt_then x (stmts_of xs)

abbrev pub alts_of : List PAlt → PAlts
alts_of [] = no_alt
alts_of (x ∷ xs) = alt_then x (alts_of xs)

abbrev pub arms_of : List PArm → PArms
arms_of [] = no_arm
arms_of (x ∷ xs) = arm_then x (arms_of xs)

abbrev pub case_arms_of : List PCaseArm → PCaseArms
case_arms_of [] = no_case_arm
case_arms_of (x ∷ xs) = case_arm_then x (case_arms_of xs)

abbrev pub handlers_of : List PHandler → PHandlers
handlers_of [] = no_handler
handlers_of (x ∷ xs) = handler_then x (handlers_of xs)

-- statements that may be left out, as an option of a list
abbrev pub maybe_of : Option (List PStmt) → PMaybe
maybe_of None = absent
maybe_of (Some xs) = present (stmts_of xs)

-- the views of the types outside the family
abbrev pub plain_target : Target → PTarget
plain_target x = record { name = x.name; index = option_map plain_expr x.index }

abbrev pub plain_callee : Callee → PCallee
plain_callee x = record { name = x.name; index = option_map plain_expr x.index }

abbrev pub plain_args : Args → PArgs
plain_args x = record { first = map plain_expr x.first.items; second = option_map (λ v. map plain_expr v.items) x.second }

abbrev pub plain_call : call.Call → PCall
plain_call x = record { task = plain_callee x.task; entry = x.entry; args = option_map plain_args x.args }

abbrev pub plain_formal : Formal → PFormal
plain_formal x = record { names = x.names.items; mode = x.mode; mark = x.mark }

abbrev pub plain_part : Part → PPart
plain_part (Words t s) = PWords (string_bytes t) s
plain_part (Value e) = PValue (plain_expr e)

abbrev pub plain_choice : CaseChoice → PChoice
plain_choice x = record { first = plain_expr x.first; last = option_map plain_expr x.last }

abbrev pub plain_scheme : Scheme → PScheme
plain_scheme (While e) = LWhile (plain_expr e)
plain_scheme (For w b r) = LFor w b (plain_drange r)

-- the views of the types of the family; `stmt_at` is the statement of a kind that stands at a place
abbrev mutual
  pub stmt_at : StmtKind → Span → PStmt
  stmt_at Null s = SNull s
  stmt_at (Assign t e) s = SAssign (plain_target t) (plain_expr e) s
  stmt_at (Delay d) s = SDelay d s
  stmt_at (Exit w e) s = SExit w (option_map plain_expr e) s
  stmt_at (Raise w) s = SRaise w s
  stmt_at (Abort cs) s = SAbort (map plain_callee cs.items) s
  stmt_at (Call c) s = SCall (plain_call c) s
  stmt_at (Accept a) s = SAccept (plain_accept a) s
  stmt_at (Wait' n k o) s = SWait (plain_alts k) (plain_maybe o) s
  stmt_at (Conditional' c n k m l) s = SConditional (plain_call c) (plain_stmts k) (plain_stmts l) s
  stmt_at (Timed' c n k d m l) s = STimed (plain_call c) (plain_stmts k) d (plain_stmts l) s
  stmt_at (Put ps) s = SPut (map plain_part ps.items) s
  stmt_at (PutLine ps) s = SPutLine (map plain_part ps.items) s
  stmt_at NewLine s = SNewLine s
  stmt_at (Get t) s = SGet (plain_target t) s
  stmt_at (If' n k o) s = SIf (plain_arms k) (plain_maybe o) s
  stmt_at (Case' e n k o) s = SCase (plain_expr e) (plain_case_arms k) (plain_maybe o) s
  stmt_at (Block b) s = SBlock (plain_body b) s
  stmt_at (Loop' w c n k) s = SLoop w (option_map plain_scheme c) (plain_stmts k) s

  pub plain_stmts : {n : _} → Row_of-Stmt n → PStmts
  plain_stmts end_of-Stmt = no_stmt
  plain_stmts (more_of-Stmt k s rest) = stmt_then (stmt_at k s) (plain_stmts rest)

  pub plain_maybe : Held-StmtKind-Wait-1 → PMaybe
  plain_maybe None' = absent
  plain_maybe (Some' n k) = present (plain_stmts k)

  pub plain_accept : accept.Accept → PAccept
  plain_accept (accept.Accept' w e fs o s) =
      accepting record { entry = w; index = option_map plain_expr e; formals = map plain_formal fs.items; span = s } (plain_maybe o)

  pub plain_alt_kind : AltKind → PAltKind
  plain_alt_kind (alt.Accept' a n k) = AAccept (plain_accept a) (plain_stmts k)
  plain_alt_kind (alt.Delay' d n k) = ADelay d (plain_stmts k)
  plain_alt_kind Terminate = ATerminate

  pub plain_alts : {n : _} → Row_of-Alt n → PAlts
  plain_alts end_of-Alt = no_alt
  plain_alts (more_of-Alt g k s rest) = alt_then (alternative (option_map plain_expr g) (plain_alt_kind k) s) (plain_alts rest)

  pub plain_arm : Arm → PArm
  plain_arm (Arm' e n k) = arm (plain_expr e) (plain_stmts k)

  pub plain_arms : {n : _} → Row_of-Arm n → PArms
  plain_arms end_of-Arm = no_arm
  plain_arms (more_of-Arm x rest) = arm_then (plain_arm x) (plain_arms rest)

  pub plain_case_arm : CaseArm → PCaseArm
  plain_case_arm (CaseArm' cs n k) = case_arm (map plain_choice cs.items) (plain_stmts k)

  pub plain_case_arms : {n : _} → Row_of-CaseArm n → PCaseArms
  plain_case_arms end_of-CaseArm = no_case_arm
  plain_case_arms (more_of-CaseArm x rest) = case_arm_then (plain_case_arm x) (plain_case_arms rest)

  pub plain_body : Body → PBody
  plain_body (Body' n k m hs) = body (plain_stmts k) (plain_handlers hs)

  pub plain_handler : Handler → PHandler
  plain_handler (Handler' ws n k s) = handler ws.items (plain_stmts k) s

  pub plain_handlers : {n : _} → Row_of-Handler n → PHandlers
  plain_handlers end_of-Handler = no_handler
  plain_handlers (more_of-Handler x rest) = handler_then (plain_handler x) (plain_handlers rest)

abbrev pub plain_stmt : Stmt → PStmt
plain_stmt x = stmt_at x.kind x.span

abbrev pub plain_alt : Alt → PAlt
plain_alt x = alternative (option_map plain_expr x.guard) (plain_alt_kind x.kind) x.span

-- the statements of a list of the code, as a row
abbrev pub seen : List Stmt → PStmts
seen xs = stmts_of (map plain_stmt xs)

-- the statements of a list of the code that may be left out
abbrev pub seen_maybe : Option (Vec Stmt Global) → PMaybe
seen_maybe o = maybe_of (option_map (λ v. map plain_stmt v.items) o)
