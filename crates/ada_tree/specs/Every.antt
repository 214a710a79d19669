-- Rules that are asked of every part of a program, and how deep each part stands (this project's rule: what stands in a compound statement, an alternative or a handler is one deeper than it, and an operand, index, argument or content of parentheses one deeper than the node above it).
use Rattle.std.specs.Prelude.{ℕ, ◌+◌, Bool, List, Option, length, map, IfSome, All}
use Rattle.ada_tree.specs.declared.naming.NameId.{NameId}
use Rattle.ada_tree.specs.declared.naming.Word.{Word}
use Rattle.ada_tree.specs.declared.expressions.UnaryOp.{UnaryOp}
use Rattle.ada_tree.specs.declared.expressions.BinaryOp.{BinaryOp}
use Rattle.ada_tree.specs.PlainExpr.{PExpr, EInteger, EName, EIndex, EAttribute, EAttributeOf, EParen, EUnary, EBinary, PBounds, PSubind, PDrange, RGiven, RMarked}
use Rattle.ada_tree.specs.PlainStmt.{PTarget, PCallee, PArgs, PCall, PFormal, PPart, PWords, PValue, PChoice, PScheme, LWhile, LFor, PHead, PStmt, SNull, SAssign, SDelay, SExit, SRaise, SAbort, SCall, SAccept, SWait, SConditional, STimed, SPut, SPutLine, SNewLine, SGet, SIf, SCase, SBlock, SLoop, PStmts, no_stmt, stmt_then, PMaybe, absent, present, PAccept, accepting, PAlt, alternative, PAltKind, AAccept, ADelay, ATerminate, PAlts, no_alt, alt_then, PArm, arm, PArms, no_arm, arm_then, PCaseArm, case_arm, PCaseArms, no_case_arm, case_arm_then, PBody, body, PHandler, handler, PHandlers, no_handler, handler_then}
use Rattle.ada_tree.specs.PlainDecl.{PShape, OPlain, OArray, PInit, IOne, IList, IOthers, PPriority, PEntry, PTask, PDecl, DNumber, DObject, DEnumeration, DArray, DSubtype, DException, DIntIo, DPragma, DTask, DTaskBody, PDecls, no_decl, decl_then}
use Rattle.ada_tree.specs.PlainProgram.{PProgram}

-- what is asked of each part
pub record Rules : Type 1 where
  -- of each name, integer literal, duration in thousandths and content of a string
  pub name : NameId → Type 0
  pub integer : ℕ → Type 0
  pub duration : ℕ → Type 0
  pub words : List ℕ → Type 0
  -- of each operator with its operands, and of the two bounds of each range
  pub unary : UnaryOp → PExpr → Type 0
  pub binary : BinaryOp → PExpr → PExpr → Type 0
  pub bounds : PExpr → PExpr → Type 0
  -- of each list: how many parts the grammar asks at least, and how many it has
  pub parts : ℕ → ℕ → Type 0
  -- of the handlers of each body
  pub handlers : PHandlers → Type 0
  -- of each task: how many entries it has, and the places of its pragmas among them
  pub pragmas : ℕ → List ℕ → Type 0
  -- of each object: whether it is a constant, and its value
  pub object : Bool → Option PInit → Type 0
  -- of the declarations of each task body, and of the program's own
  pub inner : PDecls → Type 0
  pub outer : PDecls → Type 0
  -- of the nesting of each part
  pub nested : ℕ → Type 0

-- nothing is asked
abbrev pub no_rules : Rules
no_rules = record {
  name = λ _. Unit {0};
  integer = λ _. Unit {0};
  duration = λ _. Unit {0};
  words = λ _. Unit {0};
  unary = λ _ _. Unit {0};
  binary = λ _ _ _. Unit {0};
  bounds = λ _ _. Unit {0};
  parts = λ _ _. Unit {0};
  handlers = λ _. Unit {0};
  pragmas = λ _ _. Unit {0};
  object = λ _ _. Unit {0};
  inner = λ _. Unit {0};
  outer = λ _. Unit {0};
  nested = λ _. Unit {0};
}

-- how many members a row has
abbrev pub stmts_count : PStmts → ℕ
stmts_count no_stmt = 0
stmts_count (stmt_then x k) = 1 + stmts_count k

abbrev pub alts_count : PAlts → ℕ
alts_count no_alt = 0
alts_count (alt_then x k) = 1 + alts_count k

abbrev pub arms_count : PArms → ℕ
arms_count no_arm = 0
arms_count (arm_then x k) = 1 + arms_count k

-- the rules hold in a part; k is its nesting
module _ (rules : Rules) where
  abbrev pub EveryWord : Word → Type 0
  EveryWord w = rules.name w.name

  abbrev pub EveryExpr : ℕ → PExpr → Type 0
  EveryExpr k (EInteger n s) = rules.nested k × rules.integer n
  EveryExpr k (EName a s) = rules.nested k × rules.name a
  EveryExpr k (EIndex w e s) = rules.nested k × EveryWord w × EveryExpr (k + 1) e
  EveryExpr k (EAttribute m w s) = rules.nested k × EveryWord m × EveryWord w
  EveryExpr k (EAttributeOf m w e s) = rules.nested k × EveryWord m × EveryWord w × EveryExpr (k + 1) e
  EveryExpr k (EParen e s) = rules.nested k × EveryExpr (k + 1) e
  EveryExpr k (EUnary op e s) = rules.nested k × rules.unary op e × EveryExpr (k + 1) e
  EveryExpr k (EBinary op l r s) = rules.nested k × rules.binary op l r × EveryExpr (k + 1) l × EveryExpr (k + 1) r

  abbrev pub EveryBounds : ℕ → PBounds → Type 0
  EveryBounds k b = rules.bounds b.first b.last × EveryExpr k b.first × EveryExpr k b.last

  abbrev pub EverySubind : ℕ → PSubind → Type 0
  EverySubind k x = EveryWord x.mark × IfSome x.bounds (EveryBounds k)

  abbrev pub EveryDrange : ℕ → PDrange → Type 0
  EveryDrange k (RGiven b) = EveryBounds k b
  EveryDrange k (RMarked x) = EverySubind k x

  abbrev pub EveryTarget : ℕ → PTarget → Type 0
  EveryTarget k x = EveryWord x.name × IfSome x.index (EveryExpr k)

  abbrev pub EveryCallee : ℕ → PCallee → Type 0
  EveryCallee k x = EveryWord x.name × IfSome x.index (EveryExpr k)

  -- expressions in parentheses, one at least
  abbrev pub EveryExprs : ℕ → List PExpr → Type 0
  EveryExprs k es = rules.parts 1 (length es) × All (EveryExpr k) es

  abbrev pub EveryArgs : ℕ → PArgs → Type 0
  EveryArgs k x = EveryExprs k x.first × IfSome x.second (EveryExprs k)

  abbrev pub EveryCall : ℕ → PCall → Type 0
  EveryCall k x = EveryCallee k x.task × EveryWord x.entry × IfSome x.args (EveryArgs k)

  -- names of a declaration, one at least
  abbrev pub EveryNames : List Word → Type 0
  EveryNames ws = rules.parts 1 (length ws) × All EveryWord ws

  abbrev pub EveryFormal : PFormal → Type 0
  EveryFormal x = EveryNames x.names × EveryWord x.mark

  abbrev pub EveryPart : ℕ → PPart → Type 0
  EveryPart k (PWords t s) = rules.words t
  EveryPart k (PValue e) = EveryExpr k e

  -- what PUT writes, one part at least
  abbrev pub EveryText : ℕ → List PPart → Type 0
  EveryText k ps = rules.parts 1 (length ps) × All (EveryPart k) ps

  abbrev pub EveryChoice : ℕ → PChoice → Type 0
  EveryChoice k x = EveryExpr k x.first × IfSome x.last (λ l. rules.bounds x.first l × EveryExpr k l)

  abbrev pub EveryScheme : ℕ → PScheme → Type 0
  EveryScheme k (LWhile e) = EveryExpr k e
  EveryScheme k (LFor w r x) = EveryWord w × EveryDrange k x

  abbrev pub EveryHead : ℕ → PHead → Type 0
  EveryHead k x = EveryWord x.entry × IfSome x.index (EveryExpr (k + 1)) × All EveryFormal x.formals

  abbrev mutual
    pub EveryStmt : ℕ → PStmt → Type 0
    EveryStmt k (SNull s) = rules.nested k
    EveryStmt k (SAssign x e s) = rules.nested k × EveryTarget (k + 1) x × EveryExpr (k + 1) e
    EveryStmt k (SDelay d s) = rules.nested k × rules.duration d
    EveryStmt k (SExit w e s) = rules.nested k × IfSome w EveryWord × IfSome e (EveryExpr (k + 1))
    EveryStmt k (SRaise w s) = rules.nested k × IfSome w EveryWord
    EveryStmt k (SAbort cs s) = rules.nested k × rules.parts 1 (length cs) × All (EveryCallee (k + 1)) cs
    EveryStmt k (SCall c s) = rules.nested k × EveryCall (k + 1) c
    EveryStmt k (SAccept a s) = EveryAccept k a
    EveryStmt k (SWait x o s) = rules.nested k × rules.parts 1 (alts_count x) × EveryAlts (k + 1) x × EveryMaybe (k + 1) o
    EveryStmt k (SConditional c b o s) = rules.nested k × rules.nested (k + 1) × EveryCall (k + 2) c × EveryStmts (k + 1) b × EverySome (k + 1) o
    EveryStmt k (STimed c b d a s) = rules.nested k × rules.nested (k + 1) × EveryCall (k + 2) c × EveryStmts (k + 1) b × rules.duration d × EveryStmts (k + 1) a
    EveryStmt k (SPut ps s) = rules.nested k × EveryText (k + 1) ps
    EveryStmt k (SPutLine ps s) = rules.nested k × EveryText (k + 1) ps
    EveryStmt k (SNewLine s) = rules.nested k
    EveryStmt k (SGet x s) = rules.nested k × EveryTarget (k + 1) x
    EveryStmt k (SIf x o s) = rules.nested k × rules.parts 1 (arms_count x) × EveryArms (k + 1) x × EveryMaybe (k + 1) o
    EveryStmt k (SCase e x o s) = rules.nested k × EveryExpr (k + 1) e × EveryCaseArms (k + 1) x × EveryMaybe (k + 1) o
    EveryStmt k (SBlock b s) = rules.nested k × EveryBody (k + 1) b
    EveryStmt k (SLoop w c l s) = rules.nested k × IfSome w EveryWord × IfSome c (EveryScheme (k + 1)) × EverySome (k + 1) l

    -- statements that may be none
    pub EveryStmts : ℕ → PStmts → Type 0
    EveryStmts k no_stmt = Unit {0}
    EveryStmts k (stmt_then x l) = EveryStmt k x × EveryStmts k l

    -- statements, one at least
    pub EverySome : ℕ → PStmts → Type 0
    EverySome k no_stmt = rules.parts 1 0
    EverySome k (stmt_then x l) = rules.parts 1 (1 + stmts_count l) × EveryStmt k x × EveryStmts k l

    pub EveryMaybe : ℕ → PMaybe → Type 0
    EveryMaybe k absent = Unit {0}
    EveryMaybe k (present l) = EverySome k l

    pub EveryAccept : ℕ → PAccept → Type 0
    EveryAccept k (accepting h o) = rules.nested k × EveryHead k h × EveryMaybe (k + 1) o

    pub EveryAlt : ℕ → PAlt → Type 0
    EveryAlt k (alternative g x s) = rules.nested k × IfSome g (EveryExpr (k + 1)) × EveryAltKind (k + 1) x

    pub EveryAltKind : ℕ → PAltKind → Type 0
    EveryAltKind k (AAccept a l) = EveryAccept k a × EveryStmts k l
    EveryAltKind k (ADelay d l) = rules.nested k × rules.duration d × EveryStmts k l
    EveryAltKind k ATerminate = Unit {0}

    pub EveryAlts : ℕ → PAlts → Type 0
    EveryAlts k no_alt = Unit {0}
    EveryAlts k (alt_then x l) = EveryAlt k x × EveryAlts k l

    pub EveryArm : ℕ → PArm → Type 0
    EveryArm k (arm e l) = EveryExpr k e × EverySome k l

    pub EveryArms : ℕ → PArms → Type 0
    EveryArms k no_arm = Unit {0}
    EveryArms k (arm_then x l) = EveryArm k x × EveryArms k l

    pub EveryCaseArm : ℕ → PCaseArm → Type 0
    EveryCaseArm k (case_arm cs l) = rules.parts 1 (length cs) × All (EveryChoice k) cs × EverySome k l

    pub EveryCaseArms : ℕ → PCaseArms → Type 0
    EveryCaseArms k no_case_arm = Unit {0}
    EveryCaseArms k (case_arm_then x l) = EveryCaseArm k x × EveryCaseArms k l

    -- a body whose statements have the nesting k
    pub EveryBody : ℕ → PBody → Type 0
    EveryBody k (body l hs) = EverySome k l × rules.handlers hs × EveryHandlers k hs

    pub EveryHandler : ℕ → PHandler → Type 0
    EveryHandler k (handler ws l s) = rules.nested k × All EveryWord ws × EverySome (k + 1) l

    pub EveryHandlers : ℕ → PHandlers → Type 0
    EveryHandlers k no_handler = Unit {0}
    EveryHandlers k (handler_then x l) = EveryHandler k x × EveryHandlers k l

  abbrev pub EveryShape : PShape → Type 0
  EveryShape (OPlain x) = EverySubind 2 x
  EveryShape (OArray r x) = EveryDrange 2 r × EverySubind 2 x

  abbrev pub EveryInit : PInit → Type 0
  EveryInit (IOne e) = EveryExpr 2 e
  EveryInit (IList es s) = rules.parts 2 (length es) × All (EveryExpr 2) es
  EveryInit (IOthers e s) = EveryExpr 2 e

  abbrev pub EveryEntry : PEntry → Type 0
  EveryEntry x = rules.nested 1 × EveryWord x.name × IfSome x.family (EveryDrange 2) × All EveryFormal x.formals

  abbrev pub EveryPriority : PPriority → Type 0
  EveryPriority x = rules.nested 1 × EveryExpr 2 x.value

  abbrev pub EveryTask : PTask → Type 0
  EveryTask x = EveryWord x.name × All EveryEntry x.entries × All EveryPriority x.priorities × rules.pragmas (length x.entries) (map (λ y. y.place) x.priorities)

  abbrev mutual
    pub EveryDecl : PDecl → Type 0
    EveryDecl (DNumber w e s) = rules.nested 1 × EveryWord w × EveryExpr 2 e
    EveryDecl (DObject ws c x i s) = rules.nested 1 × EveryNames ws × EveryShape x × rules.object c i × IfSome i EveryInit
    EveryDecl (DEnumeration w ws s) = rules.nested 1 × EveryWord w × EveryNames ws
    EveryDecl (DArray w r x s) = rules.nested 1 × EveryWord w × EveryDrange 2 r × EverySubind 2 x
    EveryDecl (DSubtype w x s) = rules.nested 1 × EveryWord w × EverySubind 2 x
    EveryDecl (DException ws s) = rules.nested 1 × EveryNames ws
    EveryDecl (DIntIo w s) = rules.nested 1 × EveryWord w
    EveryDecl (DPragma e s) = rules.nested 1 × EveryExpr 2 e
    EveryDecl (DTask x s) = rules.nested 1 × EveryTask x
    EveryDecl (DTaskBody w ds b s) = rules.nested 1 × EveryWord w × rules.inner ds × EveryDecls ds × EveryBody 1 b

    pub EveryDecls : PDecls → Type 0
    EveryDecls no_decl = Unit {0}
    EveryDecls (decl_then x l) = EveryDecl x × EveryDecls l

  -- the rules hold in the whole program
  abbrev pub EveryProgram : PProgram → Type 0
  EveryProgram p = EveryWord p.name × rules.outer p.decls × EveryDecls p.decls × EveryBody 1 p.body
