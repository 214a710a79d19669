-- How many variables the normal form of statements may have, counted by what stands in them: of a call its lists and three, of an alternative two, of
-- an accept and of each name in an abort one (this project's rule).
use Rattle.std.specs.Prelude.{ℕ, ◌+◌, ◌<◌, ◌^◌, List, length, Option, Some, None}
use Rattle.ada_tree.specs.PlainExpr.{PExpr}
use Rattle.ada_tree.specs.PlainStmt.{PArgs, PCall, PStmt, SAbort, SCall, SAccept, SWait, SConditional, STimed, SIf, SCase, SBlock, SLoop, PStmts, no_stmt, stmt_then, PMaybe, absent, present, PAccept, accepting, alternative, PAltKind, AAccept, ADelay, ATerminate, PAlts, no_alt, alt_then, arm, PArms, no_arm, arm_then, case_arm, PCaseArms, no_case_arm, case_arm_then, PBody, body, handler, PHandlers, no_handler, handler_then}
use Rattle.ada_tree.specs.PlainDecl.{DTaskBody, PDecls, no_decl, decl_then}
use Rattle.ada_tree.specs.PlainProgram.{PProgram}

-- the expressions of a list that may be left out
abbrev pub row_weight : Option (List PExpr) → ℕ
row_weight None = 0
row_weight (Some es) = length es

abbrev pub args_weight : Option PArgs → ℕ
args_weight None = 0
args_weight (Some args) = length args.first + row_weight args.second

abbrev pub call_weight : PCall → ℕ
call_weight c = 3 + args_weight c.args

-- what a statement asks for itself
abbrev pub own_weight : PStmt → ℕ
own_weight (SCall c s) = call_weight c
own_weight (SConditional c l o s) = call_weight c
own_weight (STimed c l d a s) = call_weight c
own_weight (SAccept a s) = 1
own_weight (SAbort cs s) = length cs
own_weight _ = 0

abbrev mutual
  -- and what its parts ask for
  pub parts_weight : PStmt → ℕ
  parts_weight (SAccept a s) = accept_weight a
  parts_weight (SWait x o s) = alts_weight x + maybe_weight o
  parts_weight (SConditional c b o s) = stmts_weight b + stmts_weight o
  parts_weight (STimed c b d a s) = stmts_weight b + stmts_weight a
  parts_weight (SIf x o s) = arms_weight x + maybe_weight o
  parts_weight (SCase e x o s) = case_arms_weight x + maybe_weight o
  parts_weight (SBlock b s) = body_weight b
  parts_weight (SLoop w c l s) = stmts_weight l
  parts_weight _ = 0

  pub stmts_weight : PStmts → ℕ
  stmts_weight no_stmt = 0
  stmts_weight (stmt_then x l) = own_weight x + parts_weight x + stmts_weight l

  pub maybe_weight : PMaybe → ℕ
  maybe_weight absent = 0
  maybe_weight (present l) = stmts_weight l

  pub accept_weight : PAccept → ℕ
  accept_weight (accepting h o) = maybe_weight o

  pub kind_weight : PAltKind → ℕ
  kind_weight (AAccept a l) = accept_weight a + stmts_weight l
  kind_weight (ADelay d l) = stmts_weight l
  kind_weight ATerminate = 0

  pub alts_weight : PAlts → ℕ
  alts_weight no_alt = 0
  alts_weight (alt_then (alternative g k s) l) = 2 + kind_weight k + alts_weight l

  pub arms_weight : PArms → ℕ
  arms_weight no_arm = 0
  arms_weight (arm_then (arm e l) rest) = stmts_weight l + arms_weight rest

  pub case_arms_weight : PCaseArms → ℕ
  case_arms_weight no_case_arm = 0
  case_arms_weight (case_arm_then (case_arm cs l) rest) = stmts_weight l + case_arms_weight rest

  pub body_weight : PBody → ℕ
  body_weight (body l hs) = stmts_weight l + handlers_weight hs

  pub handlers_weight : PHandlers → ℕ
  handlers_weight no_handler = 0
  handlers_weight (handler_then (handler ws l s) rest) = stmts_weight l + handlers_weight rest

-- the bodies of tasks are light
abbrev pub AreLight : PDecls → Type 0
AreLight no_decl = Unit {0}
AreLight (decl_then (DTaskBody w ds b s) rest) = (body_weight b < 2 ^ 64) × AreLight rest
AreLight (decl_then _ rest) = AreLight rest

-- Each body of the program is light: it has fewer than 2^64 such parts.
abbrev pub IsLight : PProgram → Type 0
IsLight p = (body_weight p.body < 2 ^ 64) × AreLight p.decls
