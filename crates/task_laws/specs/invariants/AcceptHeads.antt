-- What holds of every accept statement in statements, whatever it is (9.5).
use Rattle.std.specs.Prelude.{List, [], ◌∷◌}
use Rattle.ada_tree.specs.PlainStmt.{PHead, PStmt, SNull, SAssign, SDelay, SExit, SRaise, SAbort, SCall, SAccept, SWait, SConditional, STimed, SPut, SPutLine, SNewLine, SGet, SIf, SCase, SBlock, SLoop, PStmts, no_stmt, stmt_then, PMaybe, absent, present, PAccept, accepting, PAlt, alternative, PAltKind, AAccept, ADelay, ATerminate, PAlts, no_alt, alt_then, PArm, arm, PArms, no_arm, arm_then, PCaseArm, case_arm, PCaseArms, no_case_arm, case_arm_then, PBody, body, PHandler, handler, PHandlers, no_handler, handler_then}
use Rattle.task_model.specs.Frames.{Around, OwnBody, Block, Handling, Loop, Opened, PFrame}

module _ (Head : PHead → Type 0) where
  abbrev mutual
    pub InStmt : PStmt → Type 0
    InStmt (SNull s) = Unit {0}
    InStmt (SAssign target e s) = Unit {0}
    InStmt (SDelay duration s) = Unit {0}
    InStmt (SExit w test s) = Unit {0}
    InStmt (SRaise w s) = Unit {0}
    InStmt (SAbort callees s) = Unit {0}
    InStmt (SCall call s) = Unit {0}
    InStmt (SAccept accept s) = InAccept accept
    InStmt (SWait alts otherwise s) = InAlts alts × InMaybe otherwise
    InStmt (SConditional call more otherwise s) = InStmts more × InStmts otherwise
    InStmt (STimed call more duration after s) = InStmts more × InStmts after
    InStmt (SPut parts s) = Unit {0}
    InStmt (SPutLine parts s) = Unit {0}
    InStmt (SNewLine s) = Unit {0}
    InStmt (SGet target s) = Unit {0}
    InStmt (SIf arms otherwise s) = InArms arms × InMaybe otherwise
    InStmt (SCase e arms others s) = InCaseArms arms × InMaybe others
    InStmt (SBlock b s) = InBody b
    InStmt (SLoop name scheme stmts s) = InStmts stmts

    pub InStmts : PStmts → Type 0
    InStmts no_stmt = Unit {0}
    InStmts (stmt_then s rest) = InStmt s × InStmts rest

    pub InMaybe : PMaybe → Type 0
    InMaybe absent = Unit {0}
    InMaybe (present stmts) = InStmts stmts

    pub InAccept : PAccept → Type 0
    InAccept (accepting head stmts) = Head head × InMaybe stmts

    pub InAlt : PAlt → Type 0
    InAlt (alternative guard what s) = InAltKind what

    pub InAltKind : PAltKind → Type 0
    InAltKind (AAccept accept stmts) = InAccept accept × InStmts stmts
    InAltKind (ADelay duration stmts) = InStmts stmts
    InAltKind ATerminate = Unit {0}

    pub InAlts : PAlts → Type 0
    InAlts no_alt = Unit {0}
    InAlts (alt_then alt rest) = InAlt alt × InAlts rest

    pub InArm : PArm → Type 0
    InArm (arm e stmts) = InStmts stmts

    pub InArms : PArms → Type 0
    InArms no_arm = Unit {0}
    InArms (arm_then a rest) = InArm a × InArms rest

    pub InCaseArm : PCaseArm → Type 0
    InCaseArm (case_arm choices stmts) = InStmts stmts

    pub InCaseArms : PCaseArms → Type 0
    InCaseArms no_case_arm = Unit {0}
    InCaseArms (case_arm_then a rest) = InCaseArm a × InCaseArms rest

    pub InBody : PBody → Type 0
    InBody (body stmts handlers) = InStmts stmts × InHandlers handlers

    pub InHandler : PHandler → Type 0
    InHandler (handler names stmts s) = InStmts stmts

    pub InHandlers : PHandlers → Type 0
    InHandlers no_handler = Unit {0}
    InHandlers (handler_then h rest) = InHandler h × InHandlers rest

  -- of every accept statement in what a frame stands in
  abbrev pub InPlace : Around → Type 0
  InPlace (OwnBody handlers taken) = InHandlers handlers
  InPlace (Block handlers) = InHandlers handlers
  InPlace (Handling x) = Unit {0}
  InPlace (Loop name turns stmts) = InStmts stmts
  InPlace (Opened caller formals pending) = Unit {0}

  -- and in frames
  abbrev pub InParts : List PFrame → Type 0
  InParts [] = Unit {0}
  InParts (part ∷ parts) = (InStmts part.rest × InPlace part.place) × InParts parts
