-- The callees of the parts of a statement, and those of one member of each list of the tree.
use Rattle.std.specs.Prelude.{List, [], ◌∷◌}
use Rattle.ada_tree.specs.PlainStmt.{PCallee, PStmt, SAbort, SCall, SAccept, SWait, SConditional, STimed, SIf, SCase, SBlock, SLoop, PAlt, alternative, PArm, arm, PCaseArm, case_arm, PHandler, handler}
use Rattle.syn_event.specs.Callees.{stmts_callees, maybe_callees, accept_callees, alts_callees, alt_callees, arms_callees, case_arms_callees, body_callees}

-- those of a statement itself
abbrev pub own_callees : PStmt → List PCallee
own_callees (SAbort cs s) = cs
own_callees (SCall c s) = c.task ∷ []
own_callees (SConditional c b o s) = c.task ∷ []
own_callees (STimed c b d a s) = c.task ∷ []
own_callees _ = []

-- those of the statements that come first in it
abbrev pub inner_callees : PStmt → List PCallee
inner_callees (SAccept a s) = accept_callees a
inner_callees (SWait x o s) = alts_callees x
inner_callees (SConditional c b o s) = stmts_callees b
inner_callees (STimed c b d a s) = stmts_callees b
inner_callees (SIf x o s) = arms_callees x
inner_callees (SCase e x o s) = case_arms_callees x
inner_callees (SBlock b s) = body_callees b
inner_callees (SLoop w c l s) = stmts_callees l
inner_callees _ = []

-- those of the statements behind these
abbrev pub rest_callees : PStmt → List PCallee
rest_callees (SWait x o s) = maybe_callees o
rest_callees (SConditional c b o s) = stmts_callees o
rest_callees (STimed c b d a s) = stmts_callees a
rest_callees (SIf x o s) = maybe_callees o
rest_callees (SCase e x o s) = maybe_callees o
rest_callees _ = []

abbrev pub each_alt : PAlt → List PCallee
each_alt (alternative g x s) = alt_callees x

abbrev pub each_arm : PArm → List PCallee
each_arm (arm e l) = stmts_callees l

abbrev pub each_case_arm : PCaseArm → List PCallee
each_case_arm (case_arm choices l) = stmts_callees l

abbrev pub each_handler : PHandler → List PCallee
each_handler (handler ws l s) = stmts_callees l
