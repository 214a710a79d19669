-- What two rules ask of every part of a program, asked together.
use Rattle.std.proofs.Common.{ℕ, ◌+◌, Bool, List, [], ◌∷◌, length, map, Option, Some, None, IfSome, All}
use Rattle.std.specs.List.{AllByRecursion}
use Rattle.std.proofs.lemmas.List.Elements.{All-from_recursion, recursion_from_All}
use Rattle.ada_tree.specs.declared.naming.NameId.{NameId}
use Rattle.ada_tree.specs.declared.naming.Word.{Word}
use Rattle.ada_tree.specs.declared.expressions.UnaryOp.{UnaryOp}
use Rattle.ada_tree.specs.declared.expressions.BinaryOp.{BinaryOp}
use Rattle.ada_tree.specs.PlainExpr.{PExpr, EInteger, EName, EIndex, EAttribute, EAttributeOf, EParen, EUnary, EBinary, PBounds, PSubind, PDrange, RGiven, RMarked}
use Rattle.ada_tree.specs.PlainStmt.{PTarget, PCallee, PArgs, PCall, PFormal, PPart, PWords, PValue, PChoice, PScheme, LWhile, LFor, PHead, PStmt, SNull, SAssign, SDelay, SExit, SRaise, SAbort, SCall, SAccept, SWait, SConditional, STimed, SPut, SPutLine, SNewLine, SGet, SIf, SCase, SBlock, SLoop, PStmts, no_stmt, stmt_then, PMaybe, absent, present, PAccept, accepting, PAlt, alternative, PAltKind, AAccept, ADelay, ATerminate, PAlts, no_alt, alt_then, PArm, arm, PArms, no_arm, arm_then, PCaseArm, case_arm, PCaseArms, no_case_arm, case_arm_then, PBody, body, PHandler, handler, PHandlers, no_handler, handler_then}
use Rattle.ada_tree.specs.PlainDecl.{PShape, OPlain, OArray, PInit, IOne, IList, IOthers, PPriority, PEntry, PTask, PDecl, DNumber, DObject, DEnumeration, DArray, DSubtype, DException, DIntIo, DPragma, DTask, DTaskBody, PDecls, no_decl, decl_then}
use Rattle.ada_tree.specs.PlainProgram.{PProgram}
use Rattle.ada_tree.specs.Every.{Rules, EveryWord, EveryExpr, EveryBounds, EverySubind, EveryDrange, EveryTarget, EveryCallee, EveryExprs, EveryArgs, EveryCall, EveryNames, EveryFormal, EveryPart, EveryText, EveryChoice, EveryScheme, EveryHead, EveryStmt, EveryStmts, EverySome, EveryMaybe, EveryAccept, EveryAlt, EveryAltKind, EveryAlts, EveryArm, EveryArms, EveryCaseArm, EveryCaseArms, EveryBody, EveryHandler, EveryHandlers, EveryShape, EveryInit, EveryEntry, EveryPriority, EveryTask, EveryDecl, EveryDecls, EveryProgram}

-- what `r` and `q` ask together `t` asks
pub record AskBoth (r q t : Rules) : Type 0 where
  pub name : (id : NameId) → r.name id → q.name id → t.name id
  pub integer : (n : ℕ) → r.integer n → q.integer n → t.integer n
  pub duration : (n : ℕ) → r.duration n → q.duration n → t.duration n
  pub words : (text : List ℕ) → r.words text → q.words text → t.words text
  pub unary : (op : UnaryOp) (e : PExpr) → r.unary op e → q.unary op e → t.unary op e
  pub binary : (op : BinaryOp) (a b : PExpr) → r.binary op a b → q.binary op a b → t.binary op a b
  pub bounds : (a b : PExpr) → r.bounds a b → q.bounds a b → t.bounds a b
  pub parts : (n k : ℕ) → r.parts n k → q.parts n k → t.parts n k
  pub handlers : (hs : PHandlers) → r.handlers hs → q.handlers hs → t.handlers hs
  pub pragmas : (n : ℕ) (places : List ℕ) → r.pragmas n places → q.pragmas n places → t.pragmas n places
  pub object : (c : Bool) (o : Option PInit) → r.object c o → q.object c o → t.object c o
  pub inner : (ds : PDecls) → r.inner ds → q.inner ds → t.inner ds
  pub outer : (ds : PDecls) → r.outer ds → q.outer ds → t.outer ds
  pub nested : (k : ℕ) → r.nested k → q.nested k → t.nested k

if_both : {A : Type 0} (P Q S : A → Type 0) → ((x : A) → P x → Q x → S x) → (o : Option A) → IfSome o P → IfSome o Q → IfSome o S
if_both P Q S f (Some x) h g = f x h g
if_both P Q S f None h g = h

rows-both : {A : Type 0} (P Q S : A → Type 0) → ((x : A) → P x → Q x → S x) → (xs : List A) → AllByRecursion P xs → AllByRecursion Q xs → AllByRecursion S xs
rows-both P Q S f [] h g = tt
rows-both P Q S f (x ∷ xs) h g = (f x h.0 g.0, rows-both P Q S f xs h.1 g.1)

pub all-both : {A : Type 0} (P Q S : A → Type 0) → ((x : A) → P x → Q x → S x) → (xs : List A) → All P xs → All Q xs → All S xs
all-both P Q S f xs h g = All-from_recursion S xs (rows-both P Q S f xs (recursion_from_All P xs h) (recursion_from_All Q xs g))

module _ (r q t : Rules) (asks : AskBoth r q t) where
  word : (w : Word) → EveryWord r w → EveryWord q w → EveryWord t w
  word w h g = asks.name w.name h g

  words : (ws : List Word) → All (EveryWord r) ws → All (EveryWord q) ws → All (EveryWord t) ws
  words ws h g = all-both (EveryWord r) (EveryWord q) (EveryWord t) word ws h g

  expr : (k : ℕ) (e : PExpr) → EveryExpr r k e → EveryExpr q k e → EveryExpr t k e
  expr k (EInteger n s) h g = (asks.nested k h.0 g.0, asks.integer n h.1 g.1)
  expr k (EName a s) h g = (asks.nested k h.0 g.0, asks.name a h.1 g.1)
  expr k (EIndex w e s) h g = (asks.nested k h.0 g.0, word w h.1 g.1, expr (k + 1) e h.2 g.2)
  expr k (EAttribute m w s) h g = (asks.nested k h.0 g.0, word m h.1 g.1, word w h.2 g.2)
  expr k (EAttributeOf m w e s) h g = (asks.nested k h.0 g.0, word m h.1 g.1, word w h.2 g.2, expr (k + 1) e h.3 g.3)
  expr k (EParen e s) h g = (asks.nested k h.0 g.0, expr (k + 1) e h.1 g.1)
  expr k (EUnary op e s) h g = (asks.nested k h.0 g.0, asks.unary op e h.1 g.1, expr (k + 1) e h.2 g.2)
  expr k (EBinary op a b s) h g = (asks.nested k h.0 g.0, asks.binary op a b h.1 g.1, expr (k + 1) a h.2 g.2, expr (k + 1) b h.3 g.3)

  may_expr : (k : ℕ) (o : Option PExpr) → IfSome o (EveryExpr r k) → IfSome o (EveryExpr q k) → IfSome o (EveryExpr t k)
  may_expr k o h g = if_both (EveryExpr r k) (EveryExpr q k) (EveryExpr t k) (expr k) o h g

  bounds : (k : ℕ) (b : PBounds) → EveryBounds r k b → EveryBounds q k b → EveryBounds t k b
  bounds k b h g = (asks.bounds b.first b.last h.0 g.0, expr k b.first h.1 g.1, expr k b.last h.2 g.2)

  subind : (k : ℕ) (x : PSubind) → EverySubind r k x → EverySubind q k x → EverySubind t k x
  subind k x h g = (word x.mark h.0 g.0, if_both (EveryBounds r k) (EveryBounds q k) (EveryBounds t k) (bounds k) x.bounds h.1 g.1)

  drange : (k : ℕ) (x : PDrange) → EveryDrange r k x → EveryDrange q k x → EveryDrange t k x
  drange k (RGiven b) h g = bounds k b h g
  drange k (RMarked x) h g = subind k x h g

  target : (k : ℕ) (x : PTarget) → EveryTarget r k x → EveryTarget q k x → EveryTarget t k x
  target k x h g = (word x.name h.0 g.0, may_expr k x.index h.1 g.1)

  callee : (k : ℕ) (x : PCallee) → EveryCallee r k x → EveryCallee q k x → EveryCallee t k x
  callee k x h g = (word x.name h.0 g.0, may_expr k x.index h.1 g.1)

  exprs : (k : ℕ) (es : List PExpr) → EveryExprs r k es → EveryExprs q k es → EveryExprs t k es
  exprs k es h g = (asks.parts 1 (length es) h.0 g.0, all-both (EveryExpr r k) (EveryExpr q k) (EveryExpr t k) (expr k) es h.1 g.1)

  args : (k : ℕ) (x : PArgs) → EveryArgs r k x → EveryArgs q k x → EveryArgs t k x
  args k x h g = (exprs k x.first h.0 g.0, if_both (EveryExprs r k) (EveryExprs q k) (EveryExprs t k) (exprs k) x.second h.1 g.1)

  call : (k : ℕ) (x : PCall) → EveryCall r k x → EveryCall q k x → EveryCall t k x
  call k x h g = (callee k x.task h.0 g.0, word x.entry h.1 g.1, if_both (EveryArgs r k) (EveryArgs q k) (EveryArgs t k) (args k) x.args h.2 g.2)

  names : (ws : List Word) → EveryNames r ws → EveryNames q ws → EveryNames t ws
  names ws h g = (asks.parts 1 (length ws) h.0 g.0, words ws h.1 g.1)

  formal : (x : PFormal) → EveryFormal r x → EveryFormal q x → EveryFormal t x
  formal x h g = (names x.names h.0 g.0, word x.mark h.1 g.1)

  text_part : (k : ℕ) (x : PPart) → EveryPart r k x → EveryPart q k x → EveryPart t k x
  text_part k (PWords text s) h g = asks.words text h g
  text_part k (PValue e) h g = expr k e h g

  text : (k : ℕ) (ps : List PPart) → EveryText r k ps → EveryText q k ps → EveryText t k ps
  text k ps h g = (asks.parts 1 (length ps) h.0 g.0, all-both (EveryPart r k) (EveryPart q k) (EveryPart t k) (text_part k) ps h.1 g.1)

  choice : (k : ℕ) (x : PChoice) → EveryChoice r k x → EveryChoice q k x → EveryChoice t k x
  choice k x h g =
      (expr k x.first h.0 g.0, if_both (λ l. r.bounds x.first l × EveryExpr r k l) (λ l. q.bounds x.first l × EveryExpr q k l) (λ l. t.bounds x.first l × EveryExpr t k l) (λ l a b. (asks.bounds x.first l a.0 b.0, expr k l a.1 b.1)) x.last h.1 g.1)

  scheme : (k : ℕ) (x : PScheme) → EveryScheme r k x → EveryScheme q k x → EveryScheme t k x
  scheme k (LWhile e) h g = expr k e h g
  scheme k (LFor w b x) h g = (word w h.0 g.0, drange k x h.1 g.1)

  head : (k : ℕ) (x : PHead) → EveryHead r k x → EveryHead q k x → EveryHead t k x
  head k x h g = (word x.entry h.0 g.0, may_expr (k + 1) x.index h.1 g.1, all-both (EveryFormal r) (EveryFormal q) (EveryFormal t) formal x.formals h.2 g.2)

  may_word : (o : Option Word) → IfSome o (EveryWord r) → IfSome o (EveryWord q) → IfSome o (EveryWord t)
  may_word o h g = if_both (EveryWord r) (EveryWord q) (EveryWord t) word o h g

  mutual
    stmt : (x : PStmt) (k : ℕ) → EveryStmt r k x → EveryStmt q k x → EveryStmt t k x
    stmt (SNull s) k h g = asks.nested k h g
    stmt (SAssign x e s) k h g = (asks.nested k h.0 g.0, target (k + 1) x h.1 g.1, expr (k + 1) e h.2 g.2)
    stmt (SDelay d s) k h g = (asks.nested k h.0 g.0, asks.duration d h.1 g.1)
    stmt (SExit w e s) k h g = (asks.nested k h.0 g.0, may_word w h.1 g.1, may_expr (k + 1) e h.2 g.2)
    stmt (SRaise w s) k h g = (asks.nested k h.0 g.0, may_word w h.1 g.1)
    stmt (SAbort cs s) k h g = (asks.nested k h.0 g.0, asks.parts 1 (length cs) h.1 g.1, all-both (EveryCallee r (k + 1)) (EveryCallee q (k + 1)) (EveryCallee t (k + 1)) (callee (k + 1)) cs h.2 g.2)
    stmt (SCall c s) k h g = (asks.nested k h.0 g.0, call (k + 1) c h.1 g.1)
    stmt (SAccept a s) k h g = accept a k h g
    stmt (SWait x o s) k h g = (asks.nested k h.0 g.0, asks.parts 1 _ h.1 g.1, alts x (k + 1) h.2 g.2, maybe o (k + 1) h.3 g.3)
    stmt (SConditional c b o s) k h g = (asks.nested k h.0 g.0, asks.nested (k + 1) h.1 g.1, call (k + 2) c h.2 g.2, stmts b (k + 1) h.3 g.3, some o (k + 1) h.4 g.4)
    stmt (STimed c b d a s) k h g = (asks.nested k h.0 g.0, asks.nested (k + 1) h.1 g.1, call (k + 2) c h.2 g.2, stmts b (k + 1) h.3 g.3, asks.duration d h.4 g.4, stmts a (k + 1) h.5 g.5)
    stmt (SPut ps s) k h g = (asks.nested k h.0 g.0, text (k + 1) ps h.1 g.1)
    stmt (SPutLine ps s) k h g = (asks.nested k h.0 g.0, text (k + 1) ps h.1 g.1)
    stmt (SNewLine s) k h g = asks.nested k h g
    stmt (SGet x s) k h g = (asks.nested k h.0 g.0, target (k + 1) x h.1 g.1)
    stmt (SIf x o s) k h g = (asks.nested k h.0 g.0, asks.parts 1 _ h.1 g.1, arms x (k + 1) h.2 g.2, maybe o (k + 1) h.3 g.3)
    stmt (SCase e x o s) k h g = (asks.nested k h.0 g.0, expr (k + 1) e h.1 g.1, case_arms x (k + 1) h.2 g.2, maybe o (k + 1) h.3 g.3)
    stmt (SBlock b s) k h g = (asks.nested k h.0 g.0, unit b (k + 1) h.1 g.1)
    stmt (SLoop w c l s) k h g = (asks.nested k h.0 g.0, may_word w h.1 g.1, if_both (EveryScheme r (k + 1)) (EveryScheme q (k + 1)) (EveryScheme t (k + 1)) (scheme (k + 1)) c h.2 g.2, some l (k + 1) h.3 g.3)

    stmts : (l : PStmts) (k : ℕ) → EveryStmts r k l → EveryStmts q k l → EveryStmts t k l
    stmts no_stmt k h g = tt
    stmts (stmt_then x l) k h g = (stmt x k h.0 g.0, stmts l k h.1 g.1)

    some : (l : PStmts) (k : ℕ) → EverySome r k l → EverySome q k l → EverySome t k l
    some no_stmt k h g = asks.parts 1 0 h g
    some (stmt_then x l) k h g = (asks.parts 1 _ h.0 g.0, stmt x k h.1 g.1, stmts l k h.2 g.2)

    maybe : (o : PMaybe) (k : ℕ) → EveryMaybe r k o → EveryMaybe q k o → EveryMaybe t k o
    maybe absent k h g = tt
    maybe (present l) k h g = some l k h g

    accept : (a : PAccept) (k : ℕ) → EveryAccept r k a → EveryAccept q k a → EveryAccept t k a
    accept (accepting x o) k h g = (asks.nested k h.0 g.0, head k x h.1 g.1, maybe o (k + 1) h.2 g.2)

    alt : (x : PAlt) (k : ℕ) → EveryAlt r k x → EveryAlt q k x → EveryAlt t k x
    alt (alternative guard x s) k h g = (asks.nested k h.0 g.0, may_expr (k + 1) guard h.1 g.1, alt_kind x (k + 1) h.2 g.2)

    alt_kind : (x : PAltKind) (k : ℕ) → EveryAltKind r k x → EveryAltKind q k x → EveryAltKind t k x
    alt_kind (AAccept a l) k h g = (accept a k h.0 g.0, stmts l k h.1 g.1)
    alt_kind (ADelay d l) k h g = (asks.nested k h.0 g.0, asks.duration d h.1 g.1, stmts l k h.2 g.2)
    alt_kind ATerminate k h g = tt

    alts : (l : PAlts) (k : ℕ) → EveryAlts r k l → EveryAlts q k l → EveryAlts t k l
    alts no_alt k h g = tt
    alts (alt_then x l) k h g = (alt x k h.0 g.0, alts l k h.1 g.1)

    one_arm : (x : PArm) (k : ℕ) → EveryArm r k x → EveryArm q k x → EveryArm t k x
    one_arm (arm e l) k h g = (expr k e h.0 g.0, some l k h.1 g.1)

    arms : (l : PArms) (k : ℕ) → EveryArms r k l → EveryArms q k l → EveryArms t k l
    arms no_arm k h g = tt
    arms (arm_then x l) k h g = (one_arm x k h.0 g.0, arms l k h.1 g.1)

    one_case_arm : (x : PCaseArm) (k : ℕ) → EveryCaseArm r k x → EveryCaseArm q k x → EveryCaseArm t k x
    one_case_arm (case_arm cs l) k h g = (asks.parts 1 (length cs) h.0 g.0, all-both (EveryChoice r k) (EveryChoice q k) (EveryChoice t k) (choice k) cs h.1 g.1, some l k h.2 g.2)

    case_arms : (l : PCaseArms) (k : ℕ) → EveryCaseArms r k l → EveryCaseArms q k l → EveryCaseArms t k l
    case_arms no_case_arm k h g = tt
    case_arms (case_arm_then x l) k h g = (one_case_arm x k h.0 g.0, case_arms l k h.1 g.1)

    unit : (b : PBody) (k : ℕ) → EveryBody r k b → EveryBody q k b → EveryBody t k b
    unit (body l hs) k h g = (some l k h.0 g.0, asks.handlers hs h.1 g.1, handlers hs k h.2 g.2)

    one_handler : (x : PHandler) (k : ℕ) → EveryHandler r k x → EveryHandler q k x → EveryHandler t k x
    one_handler (handler ws l s) k h g = (asks.nested k h.0 g.0, words ws h.1 g.1, some l (k + 1) h.2 g.2)

    handlers : (l : PHandlers) (k : ℕ) → EveryHandlers r k l → EveryHandlers q k l → EveryHandlers t k l
    handlers no_handler k h g = tt
    handlers (handler_then x l) k h g = (one_handler x k h.0 g.0, handlers l k h.1 g.1)

  shape : (x : PShape) → EveryShape r x → EveryShape q x → EveryShape t x
  shape (OPlain x) h g = subind 2 x h g
  shape (OArray i x) h g = (drange 2 i h.0 g.0, subind 2 x h.1 g.1)

  initial : (x : PInit) → EveryInit r x → EveryInit q x → EveryInit t x
  initial (IOne e) h g = expr 2 e h g
  initial (IList es s) h g = (asks.parts 2 (length es) h.0 g.0, all-both (EveryExpr r 2) (EveryExpr q 2) (EveryExpr t 2) (expr 2) es h.1 g.1)
  initial (IOthers e s) h g = expr 2 e h g

  entry : (x : PEntry) → EveryEntry r x → EveryEntry q x → EveryEntry t x
  entry x h g = (asks.nested 1 h.0 g.0, word x.name h.1 g.1, if_both (EveryDrange r 2) (EveryDrange q 2) (EveryDrange t 2) (drange 2) x.family h.2 g.2, all-both (EveryFormal r) (EveryFormal q) (EveryFormal t) formal x.formals h.3 g.3)

  priority : (x : PPriority) → EveryPriority r x → EveryPriority q x → EveryPriority t x
  priority x h g = (asks.nested 1 h.0 g.0, expr 2 x.value h.1 g.1)

  task : (x : PTask) → EveryTask r x → EveryTask q x → EveryTask t x
  task x h g = (
    word x.name h.0 g.0,
    all-both (EveryEntry r) (EveryEntry q) (EveryEntry t) entry x.entries h.1 g.1,
    all-both (EveryPriority r) (EveryPriority q) (EveryPriority t) priority x.priorities h.2 g.2,
    asks.pragmas (length x.entries) (map (λ (y : PPriority). y.place) x.priorities) h.3 g.3,
  )

  mutual
    decl : (d : PDecl) → EveryDecl r d → EveryDecl q d → EveryDecl t d
    decl (DNumber w e s) h g = (asks.nested 1 h.0 g.0, word w h.1 g.1, expr 2 e h.2 g.2)
    decl (DObject ws c x i s) h g = (asks.nested 1 h.0 g.0, names ws h.1 g.1, shape x h.2 g.2, asks.object c i h.3 g.3, if_both (EveryInit r) (EveryInit q) (EveryInit t) initial i h.4 g.4)
    decl (DEnumeration w ws s) h g = (asks.nested 1 h.0 g.0, word w h.1 g.1, names ws h.2 g.2)
    decl (DArray w i x s) h g = (asks.nested 1 h.0 g.0, word w h.1 g.1, drange 2 i h.2 g.2, subind 2 x h.3 g.3)
    decl (DSubtype w x s) h g = (asks.nested 1 h.0 g.0, word w h.1 g.1, subind 2 x h.2 g.2)
    decl (DException ws s) h g = (asks.nested 1 h.0 g.0, names ws h.1 g.1)
    decl (DIntIo w s) h g = (asks.nested 1 h.0 g.0, word w h.1 g.1)
    decl (DPragma e s) h g = (asks.nested 1 h.0 g.0, expr 2 e h.1 g.1)
    decl (DTask x s) h g = (asks.nested 1 h.0 g.0, task x h.1 g.1)
    decl (DTaskBody w ds b s) h g = (asks.nested 1 h.0 g.0, word w h.1 g.1, asks.inner ds h.2 g.2, decls ds h.3 g.3, unit b 1 h.4 g.4)

    decls : (l : PDecls) → EveryDecls r l → EveryDecls q l → EveryDecls t l
    decls no_decl h g = tt
    decls (decl_then x l) h g = (decl x h.0 g.0, decls l h.1 g.1)

  pub together : (p : PProgram) → EveryProgram r p → EveryProgram q p → EveryProgram t p
  together p h g = (word p.name h.0 g.0, asks.outer p.decls h.1 g.1, decls p.decls h.2 g.2, unit p.body 1 h.3 g.3)
