-- How much room the choices of a wait take (this project's rule): room for the widest wait of a unit's body is made once, so that no look at a wait takes memory.
use Rattle.std.specs.Prelude.{ℕ, suc, max}
use Rattle.ada_tree.specs.PlainStmt.{PStmt, SNull, SAssign, SDelay, SExit, SRaise, SAbort, SCall, SAccept, SWait, SConditional, STimed, SPut, SPutLine, SNewLine, SGet, SIf, SCase, SBlock, SLoop, PStmts, no_stmt, stmt_then, PMaybe, absent, present, PAccept, accepting, alternative, PAltKind, AAccept, ADelay, ATerminate, PAlts, no_alt, alt_then, arm, PArms, no_arm, arm_then, case_arm, PCaseArms, no_case_arm, case_arm_then, PBody, body, PHandlers, no_handler, handler_then, handler}

-- the number of alternatives
abbrev pub alternatives_in : PAlts → ℕ
alternatives_in no_alt = 0
alternatives_in (alt_then a rest) = suc (alternatives_in rest)

-- The room that the choices of a statement take at most: a selective wait has one choice for each alternative, and one for its else part; an accept statement has one (9.5, 9.7.1).
abbrev pub room_at : PStmt → ℕ
room_at (SAccept accept s) = 1
room_at (SWait alts otherwise s) = suc (alternatives_in alts)
room_at _ = 0

-- The room that the statements among these take at most, those inside of others among them.
abbrev mutual
  pub widest_stmt : PStmt → ℕ
  widest_stmt (SNull s) = 0
  widest_stmt (SAssign t e s) = 0
  widest_stmt (SDelay d s) = 0
  widest_stmt (SExit w e s) = 0
  widest_stmt (SRaise w s) = 0
  widest_stmt (SAbort cs s) = 0
  widest_stmt (SCall c s) = 0
  widest_stmt (SAccept a s) = max 1 (widest_accept a)
  widest_stmt (SWait alts otherwise s) = max (suc (alternatives_in alts)) (max (widest_alts alts) (widest_maybe otherwise))
  widest_stmt (SConditional c more otherwise s) = max (widest_stmts more) (widest_stmts otherwise)
  widest_stmt (STimed c more d after s) = max (widest_stmts more) (widest_stmts after)
  widest_stmt (SPut ps s) = 0
  widest_stmt (SPutLine ps s) = 0
  widest_stmt (SNewLine s) = 0
  widest_stmt (SGet t s) = 0
  widest_stmt (SIf arms otherwise s) = max (widest_arms arms) (widest_maybe otherwise)
  widest_stmt (SCase e arms others s) = max (widest_case_arms arms) (widest_maybe others)
  widest_stmt (SBlock b s) = widest_body b
  widest_stmt (SLoop w scheme stmts s) = widest_stmts stmts

  pub widest_stmts : PStmts → ℕ
  widest_stmts no_stmt = 0
  widest_stmts (stmt_then s rest) = max (widest_stmt s) (widest_stmts rest)

  pub widest_maybe : PMaybe → ℕ
  widest_maybe absent = 0
  widest_maybe (present stmts) = widest_stmts stmts

  pub widest_accept : PAccept → ℕ
  widest_accept (accepting head stmts) = widest_maybe stmts

  pub widest_kind : PAltKind → ℕ
  widest_kind (AAccept accept stmts) = max (widest_accept accept) (widest_stmts stmts)
  widest_kind (ADelay d stmts) = widest_stmts stmts
  widest_kind ATerminate = 0

  pub widest_alts : PAlts → ℕ
  widest_alts no_alt = 0
  widest_alts (alt_then (alternative guard what s) rest) = max (widest_kind what) (widest_alts rest)

  pub widest_arms : PArms → ℕ
  widest_arms no_arm = 0
  widest_arms (arm_then (arm e stmts) rest) = max (widest_stmts stmts) (widest_arms rest)

  pub widest_case_arms : PCaseArms → ℕ
  widest_case_arms no_case_arm = 0
  widest_case_arms (case_arm_then (case_arm choices stmts) rest) = max (widest_stmts stmts) (widest_case_arms rest)

  pub widest_body : PBody → ℕ
  widest_body (body stmts handlers) = max (widest_stmts stmts) (widest_handlers handlers)

  pub widest_handlers : PHandlers → ℕ
  widest_handlers no_handler = 0
  widest_handlers (handler_then (handler names stmts s) rest) = max (widest_stmts stmts) (widest_handlers rest)
