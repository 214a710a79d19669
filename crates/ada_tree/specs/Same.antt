-- When two trees are the same: equal but for places, names compared by their texts in the names of the two programs, n and m (this project's rule).
use Rattle.std.specs.Prelude.{◌≡◌, ℕ, List, Option, None, Some, slice_get}
use Rattle.std.specs.List.{AllZip}
use Rattle.ada_tree.specs.declared.naming.NameId.{NameId}
use Rattle.ada_tree.specs.declared.naming.Word.{Word}
use Rattle.ada_tree.specs.PlainExpr.{PExpr, EInteger, EName, EIndex, EAttribute, EAttributeOf, EParen, EUnary, EBinary, PBounds, PSubind, PDrange, RGiven, RMarked}
use Rattle.ada_tree.specs.PlainStmt.{PTarget, PCallee, PArgs, PCall, PFormal, PPart, PWords, PValue, PChoice, PScheme, LWhile, LFor, PHead, PStmt, SNull, SAssign, SDelay, SExit, SRaise, SAbort, SCall, SAccept, SWait, SConditional, STimed, SPut, SPutLine, SNewLine, SGet, SIf, SCase, SBlock, SLoop, PStmts, no_stmt, stmt_then, PMaybe, absent, present, PAccept, accepting, PAlt, alternative, PAltKind, AAccept, ADelay, ATerminate, PAlts, no_alt, alt_then, PArm, arm, PArms, no_arm, arm_then, PCaseArm, case_arm, PCaseArms, no_case_arm, case_arm_then, PBody, body, PHandler, handler, PHandlers, no_handler, handler_then}
use Rattle.ada_tree.specs.PlainDecl.{PShape, OPlain, OArray, PInit, IOne, IList, IOthers, PPriority, PEntry, PTask, PDecl, DNumber, DObject, DEnumeration, DArray, DSubtype, DException, DIntIo, DPragma, DTask, DTaskBody, PDecls, no_decl, decl_then}
use Rattle.ada_tree.specs.PlainProgram.{PProgram}

-- both are left out, or both stand there and R holds of them
abbrev pub SameOption : {A B : Type 0} → (A → B → Type 0) → Option A → Option B → Type 0
SameOption R None None = Unit {0}
SameOption R (Some x) (Some y) = R x y
SameOption R _ _ = ⊥

module _ (n m : List (List ℕ)) where
  -- two ids of one text
  abbrev pub SameName : NameId → NameId → Type 0
  SameName a b = slice_get n a.0 ≡ slice_get m b.0

  -- two words are the same: their names have one text
  abbrev pub SameWord : Word → Word → Type 0
  SameWord a b = SameName a.name b.name

  -- two expressions are the same (4.4): of one kind, with equal numbers and operators, and the same names and operands
  abbrev pub SameExpr : PExpr → PExpr → Type 0
  SameExpr (EInteger a s) (EInteger b t) = a ≡ b
  SameExpr (EName a s) (EName b t) = SameName a b
  SameExpr (EIndex w e s) (EIndex v f t) = SameWord w v × SameExpr e f
  SameExpr (EAttribute x w s) (EAttribute y v t) = SameWord x y × SameWord w v
  SameExpr (EAttributeOf x w e s) (EAttributeOf y v f t) = SameWord x y × SameWord w v × SameExpr e f
  SameExpr (EParen e s) (EParen f t) = SameExpr e f
  SameExpr (EUnary op e s) (EUnary oq f t) = (op ≡ oq) × SameExpr e f
  SameExpr (EBinary op l r s) (EBinary oq k q t) = (op ≡ oq) × SameExpr l k × SameExpr r q
  SameExpr _ _ = ⊥

  -- two pairs of bounds are the same (3.5): the first ones, and the last ones
  abbrev pub SameBounds : PBounds → PBounds → Type 0
  SameBounds a b = SameExpr a.first b.first × SameExpr a.last b.last

  -- two subtype indications are the same (3.3.2): their marks, and their bounds, or both have none
  abbrev pub SameSubind : PSubind → PSubind → Type 0
  SameSubind a b = SameWord a.mark b.mark × SameOption SameBounds a.bounds b.bounds

  -- two discrete ranges are the same (3.6.1): both are bounds or both are subtype indications, and these are the same
  abbrev pub SameDrange : PDrange → PDrange → Type 0
  SameDrange (RGiven a) (RGiven b) = SameBounds a b
  SameDrange (RMarked a) (RMarked b) = SameSubind a b
  SameDrange _ _ = ⊥

  -- two variables or components are the same (5.2): their names, and their indices, or both have none
  abbrev pub SameTarget : PTarget → PTarget → Type 0
  SameTarget a b = SameWord a.name b.name × SameOption SameExpr a.index b.index

  -- two tasks in calls or abort statements are the same (9.5, 9.10): their names, and their indices, or both have none
  abbrev pub SameCallee : PCallee → PCallee → Type 0
  SameCallee a b = SameWord a.name b.name × SameOption SameExpr a.index b.index

  -- the lists after the names of two called entries are the same (9.5): the first ones, and the second ones, or both have none
  abbrev pub SameArgs : PArgs → PArgs → Type 0
  SameArgs a b = AllZip SameExpr a.first b.first × SameOption (AllZip SameExpr) a.second b.second

  -- two entry calls are the same (9.5): their tasks, the names of their entries, and their arguments, or both have none
  abbrev pub SameCall : PCall → PCall → Type 0
  SameCall a b = SameCallee a.task b.task × SameWord a.entry b.entry × SameOption SameArgs a.args b.args

  -- two parameter specifications are the same (6.1): their names, their mode and their mark
  abbrev pub SameFormal : PFormal → PFormal → Type 0
  SameFormal a b = AllZip SameWord a.names b.names × (a.mode ≡ b.mode) × SameWord a.mark b.mark

  -- two parts of what PUT writes are the same (14.3): both are one string, or both are the same expression
  abbrev pub SamePart : PPart → PPart → Type 0
  SamePart (PWords a s) (PWords b t) = a ≡ b
  SamePart (PValue e) (PValue f) = SameExpr e f
  SamePart _ _ = ⊥

  -- two choices of a case statement are the same (5.4): the first values, and the last ones, or both have none
  abbrev pub SameChoice : PChoice → PChoice → Type 0
  SameChoice a b = SameExpr a.first b.first × SameOption SameExpr a.last b.last

  -- two iteration schemes are the same (5.5): the conditions, or the parameters, the directions and the ranges
  abbrev pub SameScheme : PScheme → PScheme → Type 0
  SameScheme (LWhile e) (LWhile f) = SameExpr e f
  SameScheme (LFor w r x) (LFor v q y) = SameWord w v × (r ≡ q) × SameDrange x y
  SameScheme _ _ = ⊥

  -- two accept statements are the same before their bodies (9.5): their entries, their indices, or both have none, and their formals
  abbrev pub SameHead : PHead → PHead → Type 0
  SameHead a b = SameWord a.entry b.entry × SameOption SameExpr a.index b.index × AllZip SameFormal a.formals b.formals

  abbrev mutual
    -- two statements are of one kind, and their parts are the same (5.1)
    pub SameStmt : PStmt → PStmt → Type 0
    SameStmt (SNull s) (SNull t) = Unit {0}
    SameStmt (SAssign x e s) (SAssign y f t) = SameTarget x y × SameExpr e f
    SameStmt (SDelay c s) (SDelay d t) = c ≡ d
    SameStmt (SExit w e s) (SExit v f t) = SameOption SameWord w v × SameOption SameExpr e f
    SameStmt (SRaise w s) (SRaise v t) = SameOption SameWord w v
    SameStmt (SAbort x s) (SAbort y t) = AllZip SameCallee x y
    SameStmt (SCall x s) (SCall y t) = SameCall x y
    SameStmt (SAccept x s) (SAccept y t) = SameAccept x y
    SameStmt (SWait x o s) (SWait y p t) = SameAlts x y × SameMaybe o p
    SameStmt (SConditional x k o s) (SConditional y l p t) = SameCall x y × SameStmts k l × SameStmts o p
    SameStmt (STimed x k c o s) (STimed y l d p t) = SameCall x y × SameStmts k l × (c ≡ d) × SameStmts o p
    SameStmt (SPut x s) (SPut y t) = AllZip SamePart x y
    SameStmt (SPutLine x s) (SPutLine y t) = AllZip SamePart x y
    SameStmt (SNewLine s) (SNewLine t) = Unit {0}
    SameStmt (SGet x s) (SGet y t) = SameTarget x y
    SameStmt (SIf x o s) (SIf y p t) = SameArms x y × SameMaybe o p
    SameStmt (SCase e x o s) (SCase f y p t) = SameExpr e f × SameCaseArms x y × SameMaybe o p
    SameStmt (SBlock x s) (SBlock y t) = SameBody x y
    SameStmt (SLoop w c k s) (SLoop v d l t) = SameOption SameWord w v × SameOption SameScheme c d × SameStmts k l
    SameStmt _ _ = ⊥

    -- two sequences of statements are as long and the same one by one (5.1)
    pub SameStmts : PStmts → PStmts → Type 0
    SameStmts no_stmt no_stmt = Unit {0}
    SameStmts (stmt_then x k) (stmt_then y l) = SameStmt x y × SameStmts k l
    SameStmts _ _ = ⊥

    -- two sequences of statements that may be left out are the same: both are left out, or both stand there and are the same
    pub SameMaybe : PMaybe → PMaybe → Type 0
    SameMaybe absent absent = Unit {0}
    SameMaybe (present k) (present l) = SameStmts k l
    SameMaybe _ _ = ⊥

    -- two accept statements are the same (9.5): the entries, indices and formals, and the bodies, or both have none
    pub SameAccept : PAccept → PAccept → Type 0
    SameAccept (accepting h o) (accepting g p) = SameHead h g × SameMaybe o p

    -- two alternatives of a selective wait are the same (9.7.1): their guards, or both have none, and what stands in them
    pub SameAlt : PAlt → PAlt → Type 0
    SameAlt (alternative g k s) (alternative h l t) = SameOption SameExpr g h × SameAltKind k l

    -- two alternatives without their guards are of one kind and the same (9.7.1): the accept or the delay, and the statements
    pub SameAltKind : PAltKind → PAltKind → Type 0
    SameAltKind (AAccept x k) (AAccept y l) = SameAccept x y × SameStmts k l
    SameAltKind (ADelay c k) (ADelay d l) = (c ≡ d) × SameStmts k l
    SameAltKind ATerminate ATerminate = Unit {0}
    SameAltKind _ _ = ⊥

    -- two lists of alternatives of a selective wait are as long and the same one by one (9.7.1)
    pub SameAlts : PAlts → PAlts → Type 0
    SameAlts no_alt no_alt = Unit {0}
    SameAlts (alt_then x k) (alt_then y l) = SameAlt x y × SameAlts k l
    SameAlts _ _ = ⊥

    -- two arms of an if statement are the same (5.3): their conditions and their statements
    pub SameArm : PArm → PArm → Type 0
    SameArm (arm e k) (arm f l) = SameExpr e f × SameStmts k l

    -- two lists of arms of an if statement are as long and the same one by one (5.3)
    pub SameArms : PArms → PArms → Type 0
    SameArms no_arm no_arm = Unit {0}
    SameArms (arm_then x k) (arm_then y l) = SameArm x y × SameArms k l
    SameArms _ _ = ⊥

    -- two arms of a case statement are the same (5.4): their choices and their statements
    pub SameCaseArm : PCaseArm → PCaseArm → Type 0
    SameCaseArm (case_arm x k) (case_arm y l) = AllZip SameChoice x y × SameStmts k l

    -- two lists of arms of a case statement are as long and the same one by one (5.4)
    pub SameCaseArms : PCaseArms → PCaseArms → Type 0
    SameCaseArms no_case_arm no_case_arm = Unit {0}
    SameCaseArms (case_arm_then x k) (case_arm_then y l) = SameCaseArm x y × SameCaseArms k l
    SameCaseArms _ _ = ⊥

    -- two bodies or blocks are the same (5.6): their statements and their handlers
    pub SameBody : PBody → PBody → Type 0
    SameBody (body k x) (body l y) = SameStmts k l × SameHandlers x y

    -- two exception handlers are the same (11.2): the names of their exceptions, and their statements
    pub SameHandler : PHandler → PHandler → Type 0
    SameHandler (handler w k s) (handler v l t) = AllZip SameWord w v × SameStmts k l

    -- two lists of exception handlers are as long and the same one by one (11.2)
    pub SameHandlers : PHandlers → PHandlers → Type 0
    SameHandlers no_handler no_handler = Unit {0}
    SameHandlers (handler_then x k) (handler_then y l) = SameHandler x y × SameHandlers k l
    SameHandlers _ _ = ⊥

  -- the shapes of two objects are the same (3.2.1): their index ranges, or both have none, and their subtype indications
  abbrev pub SameShape : PShape → PShape → Type 0
  SameShape (OPlain x) (OPlain y) = SameSubind x y
  SameShape (OArray r x) (OArray q y) = SameDrange r q × SameSubind x y
  SameShape _ _ = ⊥

  -- two initial values are the same (3.2.1): both are one value, a list, or a value for all others, with the same expressions
  abbrev pub SameInit : PInit → PInit → Type 0
  SameInit (IOne e) (IOne f) = SameExpr e f
  SameInit (IList x s) (IList y t) = AllZip SameExpr x y
  SameInit (IOthers e s) (IOthers f t) = SameExpr e f
  SameInit _ _ = ⊥

  -- two pragmas PRIORITY of a task are the same (9.8): their places among the entries, and their values
  abbrev pub SamePriority : PPriority → PPriority → Type 0
  SamePriority a b = (a.place ≡ b.place) × SameExpr a.value b.value

  -- two entry declarations are the same (9.5): their names, their family ranges, or both have none, and their formals
  abbrev pub SameEntry : PEntry → PEntry → Type 0
  SameEntry a b = SameWord a.name b.name × SameOption SameDrange a.family b.family × AllZip SameFormal a.formals b.formals

  -- two task declarations are the same (9.1): their names, whether they are task types, their entries and their priorities
  abbrev pub SameTask : PTask → PTask → Type 0
  SameTask a b = SameWord a.name b.name × (a.of_kind ≡ b.of_kind) × AllZip SameEntry a.entries b.entries × AllZip SamePriority a.priorities b.priorities

  abbrev mutual
    -- two declarations are of one kind, and their parts are the same (3.1)
    pub SameDecl : PDecl → PDecl → Type 0
    SameDecl (DNumber w e s) (DNumber v f t) = SameWord w v × SameExpr e f
    SameDecl (DObject w c x i s) (DObject v d y j t) = AllZip SameWord w v × (c ≡ d) × SameShape x y × SameOption SameInit i j
    SameDecl (DEnumeration w x s) (DEnumeration v y t) = SameWord w v × AllZip SameWord x y
    SameDecl (DArray w r x s) (DArray v q y t) = SameWord w v × SameDrange r q × SameSubind x y
    SameDecl (DSubtype w x s) (DSubtype v y t) = SameWord w v × SameSubind x y
    SameDecl (DException w s) (DException v t) = AllZip SameWord w v
    SameDecl (DIntIo w s) (DIntIo v t) = SameWord w v
    SameDecl (DPragma e s) (DPragma f t) = SameExpr e f
    SameDecl (DTask x s) (DTask y t) = SameTask x y
    SameDecl (DTaskBody w x b s) (DTaskBody v y c t) = SameWord w v × SameDecls x y × SameBody b c
    SameDecl _ _ = ⊥

    -- two lists of declarations are as long and the same one by one (3.9)
    pub SameDecls : PDecls → PDecls → Type 0
    SameDecls no_decl no_decl = Unit {0}
    SameDecls (decl_then x k) (decl_then y l) = SameDecl x y × SameDecls k l
    SameDecls _ _ = ⊥

-- two programs are the same
abbrev pub Same : PProgram → PProgram → Type 0
Same p q = (p.text_io ≡ q.text_io) × SameWord p.names q.names p.name q.name × SameDecls p.names q.names p.decls q.decls × SameBody p.names q.names p.body q.body
