-- What is asked of every part of a program, where less is asked. So a program that is well placed has names, numbers and strings that the source can hold.
use Rattle.std.proofs.Common.{ℕ, ◌+◌, Bool, List, length, map, Option, Some, None, IfSome, All}
use Rattle.std.proofs.lemmas.List.Elements.{All-weaker}
use Rattle.ada_tree.specs.declared.naming.NameId.{NameId}
use Rattle.ada_tree.specs.declared.naming.Word.{Word}
use Rattle.ada_tree.specs.declared.expressions.UnaryOp.{UnaryOp}
use Rattle.ada_tree.specs.declared.expressions.BinaryOp.{BinaryOp}
use Rattle.ada_tree.specs.PlainExpr.{PExpr, EInteger, EName, EIndex, EAttribute, EAttributeOf, EParen, EUnary, EBinary, PBounds, PSubind, PDrange, RGiven, RMarked}
use Rattle.ada_tree.specs.PlainStmt.{PTarget, PCallee, PArgs, PCall, PFormal, PPart, PWords, PValue, PChoice, PScheme, LWhile, LFor, PHead, PStmt, SNull, SAssign, SDelay, SExit, SRaise, SAbort, SCall, SAccept, SWait, SConditional, STimed, SPut, SPutLine, SNewLine, SGet, SIf, SCase, SBlock, SLoop, PStmts, no_stmt, stmt_then, PMaybe, absent, present, PAccept, accepting, PAlt, alternative, PAltKind, AAccept, ADelay, ATerminate, PAlts, no_alt, alt_then, PArm, arm, PArms, no_arm, arm_then, PCaseArm, case_arm, PCaseArms, no_case_arm, case_arm_then, PBody, body, PHandler, handler, PHandlers, no_handler, handler_then}
use Rattle.ada_tree.specs.PlainDecl.{PShape, OPlain, OArray, PInit, IOne, IList, IOthers, PPriority, PEntry, PTask, PDecl, DNumber, DObject, DEnumeration, DArray, DSubtype, DException, DIntIo, DPragma, DTask, DTaskBody, PDecls, no_decl, decl_then}
use Rattle.ada_tree.specs.PlainProgram.{PProgram}
use Rattle.ada_tree.specs.Every.{Rules, EveryWord, EveryExpr, EveryBounds, EverySubind, EveryDrange, EveryTarget, EveryCallee, EveryExprs, EveryArgs, EveryCall, EveryNames, EveryFormal, EveryPart, EveryText, EveryChoice, EveryScheme, EveryHead, EveryStmt, EveryStmts, EverySome, EveryMaybe, EveryAccept, EveryAlt, EveryAltKind, EveryAlts, EveryArm, EveryArms, EveryCaseArm, EveryCaseArms, EveryBody, EveryHandler, EveryHandlers, EveryShape, EveryInit, EveryEntry, EveryPriority, EveryTask, EveryDecl, EveryDecls, EveryProgram}
use Rattle.ada_tree.specs.WellPlaced.{well_placed, tokens, IsWellPlaced, HasTokens}

-- what is asked by `q` is asked by `r`
pub record Asks (r q : Rules) : Type 0 where
  pub name : (id : NameId) → r.name id → q.name id
  pub integer : (n : ℕ) → r.integer n → q.integer n
  pub duration : (n : ℕ) → r.duration n → q.duration n
  pub words : (t : List ℕ) → r.words t → q.words t
  pub unary : (op : UnaryOp) (e : PExpr) → r.unary op e → q.unary op e
  pub binary : (op : BinaryOp) (a b : PExpr) → r.binary op a b → q.binary op a b
  pub bounds : (a b : PExpr) → r.bounds a b → q.bounds a b
  pub parts : (n k : ℕ) → r.parts n k → q.parts n k
  pub handlers : (hs : PHandlers) → r.handlers hs → q.handlers hs
  pub pragmas : (n : ℕ) (places : List ℕ) → r.pragmas n places → q.pragmas n places
  pub object : (c : Bool) (o : Option PInit) → r.object c o → q.object c o
  pub inner : (ds : PDecls) → r.inner ds → q.inner ds
  pub outer : (ds : PDecls) → r.outer ds → q.outer ds
  pub nested : (k : ℕ) → r.nested k → q.nested k

if_weaker : {A : Type 0} (P Q : A → Type 0) → ((x : A) → P x → Q x) → (o : Option A) → IfSome o P → IfSome o Q
if_weaker P Q f (Some x) h = f x h
if_weaker P Q f None h = h

module _ (r q : Rules) (asks : Asks r q) where
  word : (w : Word) → EveryWord r w → EveryWord q w
  word w h = asks.name w.name h

  words : (ws : List Word) → All (EveryWord r) ws → All (EveryWord q) ws
  words ws h = All-weaker (EveryWord r) (EveryWord q) word ws h

  expr : (k : ℕ) (e : PExpr) → EveryExpr r k e → EveryExpr q k e
  expr k (EInteger n s) h = (asks.nested k h.0, asks.integer n h.1)
  expr k (EName a s) h = (asks.nested k h.0, asks.name a h.1)
  expr k (EIndex w e s) h = (asks.nested k h.0, word w h.1, expr (k + 1) e h.2)
  expr k (EAttribute m w s) h = (asks.nested k h.0, word m h.1, word w h.2)
  expr k (EAttributeOf m w e s) h = (asks.nested k h.0, word m h.1, word w h.2, expr (k + 1) e h.3)
  expr k (EParen e s) h = (asks.nested k h.0, expr (k + 1) e h.1)
  expr k (EUnary op e s) h = (asks.nested k h.0, asks.unary op e h.1, expr (k + 1) e h.2)
  expr k (EBinary op a b s) h = (asks.nested k h.0, asks.binary op a b h.1, expr (k + 1) a h.2, expr (k + 1) b h.3)

  may_expr : (k : ℕ) (o : Option PExpr) → IfSome o (EveryExpr r k) → IfSome o (EveryExpr q k)
  may_expr k o h = if_weaker (EveryExpr r k) (EveryExpr q k) (expr k) o h

  bounds : (k : ℕ) (b : PBounds) → EveryBounds r k b → EveryBounds q k b
  bounds k b h = (asks.bounds b.first b.last h.0, expr k b.first h.1, expr k b.last h.2)

  subind : (k : ℕ) (x : PSubind) → EverySubind r k x → EverySubind q k x
  subind k x h = (word x.mark h.0, if_weaker (EveryBounds r k) (EveryBounds q k) (bounds k) x.bounds h.1)

  drange : (k : ℕ) (x : PDrange) → EveryDrange r k x → EveryDrange q k x
  drange k (RGiven b) h = bounds k b h
  drange k (RMarked x) h = subind k x h

  target : (k : ℕ) (x : PTarget) → EveryTarget r k x → EveryTarget q k x
  target k x h = (word x.name h.0, may_expr k x.index h.1)

  callee : (k : ℕ) (x : PCallee) → EveryCallee r k x → EveryCallee q k x
  callee k x h = (word x.name h.0, may_expr k x.index h.1)

  exprs : (k : ℕ) (es : List PExpr) → EveryExprs r k es → EveryExprs q k es
  exprs k es h = (asks.parts 1 (length es) h.0, All-weaker (EveryExpr r k) (EveryExpr q k) (expr k) es h.1)

  args : (k : ℕ) (x : PArgs) → EveryArgs r k x → EveryArgs q k x
  args k x h = (exprs k x.first h.0, if_weaker (EveryExprs r k) (EveryExprs q k) (exprs k) x.second h.1)

  call : (k : ℕ) (x : PCall) → EveryCall r k x → EveryCall q k x
  call k x h = (callee k x.task h.0, word x.entry h.1, if_weaker (EveryArgs r k) (EveryArgs q k) (args k) x.args h.2)

  names : (ws : List Word) → EveryNames r ws → EveryNames q ws
  names ws h = (asks.parts 1 (length ws) h.0, words ws h.1)

  formal : (x : PFormal) → EveryFormal r x → EveryFormal q x
  formal x h = (names x.names h.0, word x.mark h.1)

  text_part : (k : ℕ) (x : PPart) → EveryPart r k x → EveryPart q k x
  text_part k (PWords t s) h = asks.words t h
  text_part k (PValue e) h = expr k e h

  text : (k : ℕ) (ps : List PPart) → EveryText r k ps → EveryText q k ps
  text k ps h = (asks.parts 1 (length ps) h.0, All-weaker (EveryPart r k) (EveryPart q k) (text_part k) ps h.1)

  choice : (k : ℕ) (x : PChoice) → EveryChoice r k x → EveryChoice q k x
  choice k x h =
      (expr k x.first h.0, if_weaker (λ l. r.bounds x.first l × EveryExpr r k l) (λ l. q.bounds x.first l × EveryExpr q k l) (λ l g. (asks.bounds x.first l g.0, expr k l g.1)) x.last h.1)

  scheme : (k : ℕ) (x : PScheme) → EveryScheme r k x → EveryScheme q k x
  scheme k (LWhile e) h = expr k e h
  scheme k (LFor w b x) h = (word w h.0, drange k x h.1)

  head : (k : ℕ) (x : PHead) → EveryHead r k x → EveryHead q k x
  head k x h = (word x.entry h.0, may_expr (k + 1) x.index h.1, All-weaker (EveryFormal r) (EveryFormal q) formal x.formals h.2)

  may_word : (o : Option Word) → IfSome o (EveryWord r) → IfSome o (EveryWord q)
  may_word o h = if_weaker (EveryWord r) (EveryWord q) word o h

  mutual
    stmt : (x : PStmt) (k : ℕ) → EveryStmt r k x → EveryStmt q k x
    stmt (SNull s) k h = asks.nested k h
    stmt (SAssign x e s) k h = (asks.nested k h.0, target (k + 1) x h.1, expr (k + 1) e h.2)
    stmt (SDelay d s) k h = (asks.nested k h.0, asks.duration d h.1)
    stmt (SExit w e s) k h = (asks.nested k h.0, may_word w h.1, may_expr (k + 1) e h.2)
    stmt (SRaise w s) k h = (asks.nested k h.0, may_word w h.1)
    stmt (SAbort cs s) k h = (asks.nested k h.0, asks.parts 1 (length cs) h.1, All-weaker (EveryCallee r (k + 1)) (EveryCallee q (k + 1)) (callee (k + 1)) cs h.2)
    stmt (SCall c s) k h = (asks.nested k h.0, call (k + 1) c h.1)
    stmt (SAccept a s) k h = accept a k h
    stmt (SWait x o s) k h = (asks.nested k h.0, asks.parts 1 _ h.1, alts x (k + 1) h.2, maybe o (k + 1) h.3)
    stmt (SConditional c b o s) k h = (asks.nested k h.0, asks.nested (k + 1) h.1, call (k + 2) c h.2, stmts b (k + 1) h.3, some o (k + 1) h.4)
    stmt (STimed c b d a s) k h = (asks.nested k h.0, asks.nested (k + 1) h.1, call (k + 2) c h.2, stmts b (k + 1) h.3, asks.duration d h.4, stmts a (k + 1) h.5)
    stmt (SPut ps s) k h = (asks.nested k h.0, text (k + 1) ps h.1)
    stmt (SPutLine ps s) k h = (asks.nested k h.0, text (k + 1) ps h.1)
    stmt (SNewLine s) k h = asks.nested k h
    stmt (SGet x s) k h = (asks.nested k h.0, target (k + 1) x h.1)
    stmt (SIf x o s) k h = (asks.nested k h.0, asks.parts 1 _ h.1, arms x (k + 1) h.2, maybe o (k + 1) h.3)
    stmt (SCase e x o s) k h = (asks.nested k h.0, expr (k + 1) e h.1, case_arms x (k + 1) h.2, maybe o (k + 1) h.3)
    stmt (SBlock b s) k h = (asks.nested k h.0, unit b (k + 1) h.1)
    stmt (SLoop w c l s) k h = (asks.nested k h.0, may_word w h.1, if_weaker (EveryScheme r (k + 1)) (EveryScheme q (k + 1)) (scheme (k + 1)) c h.2, some l (k + 1) h.3)

    stmts : (l : PStmts) (k : ℕ) → EveryStmts r k l → EveryStmts q k l
    stmts no_stmt k h = tt
    stmts (stmt_then x l) k h = (stmt x k h.0, stmts l k h.1)

    some : (l : PStmts) (k : ℕ) → EverySome r k l → EverySome q k l
    some no_stmt k h = asks.parts 1 0 h
    some (stmt_then x l) k h = (asks.parts 1 _ h.0, stmt x k h.1, stmts l k h.2)

    maybe : (o : PMaybe) (k : ℕ) → EveryMaybe r k o → EveryMaybe q k o
    maybe absent k h = tt
    maybe (present l) k h = some l k h

    accept : (a : PAccept) (k : ℕ) → EveryAccept r k a → EveryAccept q k a
    accept (accepting x o) k h = (asks.nested k h.0, head k x h.1, maybe o (k + 1) h.2)

    alt : (x : PAlt) (k : ℕ) → EveryAlt r k x → EveryAlt q k x
    alt (alternative g x s) k h = (asks.nested k h.0, may_expr (k + 1) g h.1, alt_kind x (k + 1) h.2)

    alt_kind : (x : PAltKind) (k : ℕ) → EveryAltKind r k x → EveryAltKind q k x
    alt_kind (AAccept a l) k h = (accept a k h.0, stmts l k h.1)
    alt_kind (ADelay d l) k h = (asks.nested k h.0, asks.duration d h.1, stmts l k h.2)
    alt_kind ATerminate k h = tt

    alts : (l : PAlts) (k : ℕ) → EveryAlts r k l → EveryAlts q k l
    alts no_alt k h = tt
    alts (alt_then x l) k h = (alt x k h.0, alts l k h.1)

    one_arm : (x : PArm) (k : ℕ) → EveryArm r k x → EveryArm q k x
    one_arm (arm e l) k h = (expr k e h.0, some l k h.1)

    arms : (l : PArms) (k : ℕ) → EveryArms r k l → EveryArms q k l
    arms no_arm k h = tt
    arms (arm_then x l) k h = (one_arm x k h.0, arms l k h.1)

    one_case_arm : (x : PCaseArm) (k : ℕ) → EveryCaseArm r k x → EveryCaseArm q k x
    one_case_arm (case_arm cs l) k h = (asks.parts 1 (length cs) h.0, All-weaker (EveryChoice r k) (EveryChoice q k) (choice k) cs h.1, some l k h.2)

    case_arms : (l : PCaseArms) (k : ℕ) → EveryCaseArms r k l → EveryCaseArms q k l
    case_arms no_case_arm k h = tt
    case_arms (case_arm_then x l) k h = (one_case_arm x k h.0, case_arms l k h.1)

    unit : (b : PBody) (k : ℕ) → EveryBody r k b → EveryBody q k b
    unit (body l hs) k h = (some l k h.0, asks.handlers hs h.1, handlers hs k h.2)

    one_handler : (x : PHandler) (k : ℕ) → EveryHandler r k x → EveryHandler q k x
    one_handler (handler ws l s) k h = (asks.nested k h.0, words ws h.1, some l (k + 1) h.2)

    handlers : (l : PHandlers) (k : ℕ) → EveryHandlers r k l → EveryHandlers q k l
    handlers no_handler k h = tt
    handlers (handler_then x l) k h = (one_handler x k h.0, handlers l k h.1)

  shape : (x : PShape) → EveryShape r x → EveryShape q x
  shape (OPlain x) h = subind 2 x h
  shape (OArray i x) h = (drange 2 i h.0, subind 2 x h.1)

  initial : (x : PInit) → EveryInit r x → EveryInit q x
  initial (IOne e) h = expr 2 e h
  initial (IList es s) h = (asks.parts 2 (length es) h.0, All-weaker (EveryExpr r 2) (EveryExpr q 2) (expr 2) es h.1)
  initial (IOthers e s) h = expr 2 e h

  entry : (x : PEntry) → EveryEntry r x → EveryEntry q x
  entry x h = (asks.nested 1 h.0, word x.name h.1, if_weaker (EveryDrange r 2) (EveryDrange q 2) (drange 2) x.family h.2, All-weaker (EveryFormal r) (EveryFormal q) formal x.formals h.3)

  priority : (x : PPriority) → EveryPriority r x → EveryPriority q x
  priority x h = (asks.nested 1 h.0, expr 2 x.value h.1)

  task : (x : PTask) → EveryTask r x → EveryTask q x
  task x h = (
    word x.name h.0,
    All-weaker (EveryEntry r) (EveryEntry q) entry x.entries h.1,
    All-weaker (EveryPriority r) (EveryPriority q) priority x.priorities h.2,
    asks.pragmas (length x.entries) (map (λ (y : PPriority). y.place) x.priorities) h.3,
  )

  mutual
    decl : (d : PDecl) → EveryDecl r d → EveryDecl q d
    decl (DNumber w e s) h = (asks.nested 1 h.0, word w h.1, expr 2 e h.2)
    decl (DObject ws c x i s) h = (asks.nested 1 h.0, names ws h.1, shape x h.2, asks.object c i h.3, if_weaker (EveryInit r) (EveryInit q) initial i h.4)
    decl (DEnumeration w ws s) h = (asks.nested 1 h.0, word w h.1, names ws h.2)
    decl (DArray w i x s) h = (asks.nested 1 h.0, word w h.1, drange 2 i h.2, subind 2 x h.3)
    decl (DSubtype w x s) h = (asks.nested 1 h.0, word w h.1, subind 2 x h.2)
    decl (DException ws s) h = (asks.nested 1 h.0, names ws h.1)
    decl (DIntIo w s) h = (asks.nested 1 h.0, word w h.1)
    decl (DPragma e s) h = (asks.nested 1 h.0, expr 2 e h.1)
    decl (DTask x s) h = (asks.nested 1 h.0, task x h.1)
    decl (DTaskBody w ds b s) h = (asks.nested 1 h.0, word w h.1, asks.inner ds h.2, decls ds h.3, unit b 1 h.4)

    decls : (l : PDecls) → EveryDecls r l → EveryDecls q l
    decls no_decl h = tt
    decls (decl_then x l) h = (decl x h.0, decls l h.1)

  pub less : (p : PProgram) → EveryProgram r p → EveryProgram q p
  less p h = (word p.name h.0, asks.outer p.decls h.1, decls p.decls h.2, unit p.body 1 h.3)

-- A program that is well placed has names, numbers and strings that the source can hold.
pub placed_tokens : (p : PProgram) → IsWellPlaced p → HasTokens p
placed_tokens p placed =
    less (well_placed p.names) (tokens p.names)
    record {
      name = λ id h. h;
      integer = λ n h. h;
      duration = λ n h. h;
      words = λ t h. h;
      unary = λ op e h. tt;
      binary = λ op a b h. tt;
      bounds = λ a b h. tt;
      parts = λ n k h. tt;
      handlers = λ hs h. tt;
      pragmas = λ n places h. tt;
      object = λ c o h. tt;
      inner = λ ds h. tt;
      outer = λ ds h. tt;
      nested = λ k h. tt;
    }
    p placed
