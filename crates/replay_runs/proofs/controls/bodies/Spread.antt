-- What holds of each accept statement in a body holds of each in each statement of it.
use Rattle.std.specs.Prelude.{[], ◌∷◌}
use Rattle.ada_tree.specs.PlainStmt.{PHead, PStmt, SNull, SAssign, SDelay, SExit, SRaise, SAbort, SCall, SAccept, SWait, SConditional, STimed, SPut, SPutLine, SNewLine, SGet, SIf, SCase, SBlock, SLoop, PStmts, no_stmt, stmt_then, PMaybe, absent, present, accepting, alternative, PAltKind, AAccept, ADelay, ATerminate, PAlts, no_alt, alt_then, PArms, no_arm, arm_then, arm, PCaseArms, no_case_arm, case_arm_then, case_arm, PBody, body, PHandlers, no_handler, handler_then, handler}
use Rattle.task_laws.specs.invariants.AcceptHeads.{InStmt, InStmts, InMaybe, InAltKind, InAlts, InArms, InCaseArms, InBody, InHandlers}
use Rattle.task_laws.specs.statements.Each as each

module _ (Head : PHead → Type 0) where
  abbrev pub Accepts : each.Loops → PStmt → Type 0
  Accepts loops s = InStmt Head s

  mutual
    in-parts : (loops : each.Loops) (x : PStmt) → InStmt Head x → each.InParts Accepts loops x
    in-parts loops (SAccept (accepting head o) s) h = in-maybe [] o h.1
    in-parts loops (SWait x o s) h = (in-alts loops x h.0, in-maybe loops o h.1)
    in-parts loops (SConditional c b o s) h = (in-stmts loops b h.0, in-stmts loops o h.1)
    in-parts loops (STimed c b d a s) h = (in-stmts loops b h.0, in-stmts loops a h.1)
    in-parts loops (SIf x o s) h = (in-arms loops x h.0, in-maybe loops o h.1)
    in-parts loops (SCase e x o s) h = (in-case-arms loops x h.0, in-maybe loops o h.1)
    in-parts loops (SBlock b s) h = spread loops b h
    in-parts loops (SLoop w c l s) h = in-stmts (w ∷ loops) l h
    in-parts loops (SNull s) h = tt
    in-parts loops (SAssign x e s) h = tt
    in-parts loops (SDelay d s) h = tt
    in-parts loops (SExit w e s) h = tt
    in-parts loops (SRaise w s) h = tt
    in-parts loops (SAbort xs s) h = tt
    in-parts loops (SCall c s) h = tt
    in-parts loops (SPut ps s) h = tt
    in-parts loops (SPutLine ps s) h = tt
    in-parts loops (SNewLine s) h = tt
    in-parts loops (SGet x s) h = tt

    in-stmts : (loops : each.Loops) (l : PStmts) → InStmts Head l → each.InStmts Accepts loops l
    in-stmts loops no_stmt h = tt
    in-stmts loops (stmt_then x l) h = ((h.0, in-parts loops x h.0), in-stmts loops l h.1)

    in-maybe : (loops : each.Loops) (o : PMaybe) → InMaybe Head o → each.InMaybe Accepts loops o
    in-maybe loops absent h = tt
    in-maybe loops (present l) h = in-stmts loops l h

    in-kind : (loops : each.Loops) (x : PAltKind) → InAltKind Head x → each.InAltKind Accepts loops x
    in-kind loops (AAccept (accepting head o) l) h = (in-maybe [] o h.0.1, in-stmts loops l h.1)
    in-kind loops (ADelay d l) h = in-stmts loops l h
    in-kind loops ATerminate h = tt

    in-alts : (loops : each.Loops) (x : PAlts) → InAlts Head x → each.InAlts Accepts loops x
    in-alts loops no_alt h = tt
    in-alts loops (alt_then (alternative g x s) l) h = (in-kind loops x h.0, in-alts loops l h.1)

    in-arms : (loops : each.Loops) (x : PArms) → InArms Head x → each.InArms Accepts loops x
    in-arms loops no_arm h = tt
    in-arms loops (arm_then (arm e l) rest) h = (in-stmts loops l h.0, in-arms loops rest h.1)

    in-case-arms : (loops : each.Loops) (x : PCaseArms) → InCaseArms Head x → each.InCaseArms Accepts loops x
    in-case-arms loops no_case_arm h = tt
    in-case-arms loops (case_arm_then (case_arm cs l) rest) h = (in-stmts loops l h.0, in-case-arms loops rest h.1)

    pub spread : (loops : each.Loops) (b : PBody) → InBody Head b → each.InBody Accepts loops b
    spread loops (body l hs) h = (in-stmts loops l h.0, in-handlers loops hs h.1)

    in-handlers : (loops : each.Loops) (hs : PHandlers) → InHandlers Head hs → each.InHandlers Accepts loops hs
    in-handlers loops no_handler h = tt
    in-handlers loops (handler_then (handler ws l s) rest) h = (in-stmts loops l h.0, in-handlers loops rest h.1)
