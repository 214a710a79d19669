-- The callees of a body, in the order of the text: what stands before the entry in each call, and each name in an abort statement.
use Rattle.std.specs.Prelude.{List, [], ◌∷◌, ◌++◌}
use Rattle.ada_tree.specs.PlainStmt.{PCallee, PStmt, SNull, SAssign, SDelay, SExit, SRaise, SAbort, SCall, SAccept, SWait, SConditional, STimed, SPut, SPutLine, SNewLine, SGet, SIf, SCase, SBlock, SLoop, PStmts, no_stmt, stmt_then, PMaybe, absent, present, PAccept, accepting, alternative, PAltKind, AAccept, ADelay, ATerminate, PAlts, no_alt, alt_then, arm, PArms, no_arm, arm_then, case_arm, PCaseArms, no_case_arm, case_arm_then, PBody, body, handler, PHandlers, no_handler, handler_then}

abbrev mutual
  -- the callees of a statement and of all that stands in it: the task of each entry call (9.5) and each name of an abort (9.10)
  pub stmt_callees : PStmt → List PCallee
  stmt_callees (SNull s) = []
  stmt_callees (SAssign t e s) = []
  stmt_callees (SDelay d s) = []
  stmt_callees (SExit w e s) = []
  stmt_callees (SRaise w s) = []
  stmt_callees (SAbort cs s) = cs
  stmt_callees (SCall c s) = c.task ∷ []
  stmt_callees (SAccept a s) = accept_callees a
  stmt_callees (SWait x o s) = alts_callees x ++ maybe_callees o
  stmt_callees (SConditional c b o s) = c.task ∷ stmts_callees b ++ stmts_callees o
  stmt_callees (STimed c b d a s) = c.task ∷ stmts_callees b ++ stmts_callees a
  stmt_callees (SPut ps s) = []
  stmt_callees (SPutLine ps s) = []
  stmt_callees (SNewLine s) = []
  stmt_callees (SGet t s) = []
  stmt_callees (SIf x o s) = arms_callees x ++ maybe_callees o
  stmt_callees (SCase e x o s) = case_arms_callees x ++ maybe_callees o
  stmt_callees (SBlock b s) = body_callees b
  stmt_callees (SLoop w c l s) = stmts_callees l

  -- the callees of a sequence of statements, in the order of the text (5.1)
  pub stmts_callees : PStmts → List PCallee
  stmts_callees no_stmt = []
  stmts_callees (stmt_then x l) = stmt_callees x ++ stmts_callees l

  -- the callees of statements that may be left out: none where they are
  pub maybe_callees : PMaybe → List PCallee
  maybe_callees absent = []
  maybe_callees (present l) = stmts_callees l

  -- the callees of an accept statement (9.5): those of its body, where it has one
  pub accept_callees : PAccept → List PCallee
  accept_callees (accepting h o) = maybe_callees o

  -- the callees of the alternatives of a selective wait, in the order of the text (9.7.1)
  pub alts_callees : PAlts → List PCallee
  alts_callees no_alt = []
  alts_callees (alt_then (alternative g x s) l) = alt_callees x ++ alts_callees l

  -- the callees of what stands in one alternative of a selective wait (9.7.1); a terminate alternative has none
  pub alt_callees : PAltKind → List PCallee
  alt_callees (AAccept a l) = accept_callees a ++ stmts_callees l
  alt_callees (ADelay d l) = stmts_callees l
  alt_callees ATerminate = []

  -- the callees of the arms of an if statement (5.3): those of the statements of each
  pub arms_callees : PArms → List PCallee
  arms_callees no_arm = []
  arms_callees (arm_then (arm e l) rest) = stmts_callees l ++ arms_callees rest

  -- the callees of the arms of a case statement (5.4): those of the statements of each
  pub case_arms_callees : PCaseArms → List PCallee
  case_arms_callees no_case_arm = []
  case_arms_callees (case_arm_then (case_arm choices l) rest) = stmts_callees l ++ case_arms_callees rest

  -- the callees of a body or block: those of its statements, then those of its handlers (5.6, 11.2)
  pub body_callees : PBody → List PCallee
  body_callees (body l hs) = stmts_callees l ++ handlers_callees hs

  -- the callees of handlers (11.2): those of the statements of each
  pub handlers_callees : PHandlers → List PCallee
  handlers_callees no_handler = []
  handlers_callees (handler_then (handler ws l s) rest) = stmts_callees l ++ handlers_callees rest
