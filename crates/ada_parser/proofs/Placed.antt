-- What the grammar spells is well placed: what is drawn from a piece of a text whose items the rules allow.
use Rattle.std.proofs.Common.{◌≡◌, ℕ, zero, suc, ◌+◌, ◌≤◌, Bool, List, [], ◌∷◌, ◌++◌, length, map, All, Option, Some, None, IfSome, sym, subst, arith, max, true, false}
use Rattle.std.specs.List.{AllByRecursion}
use Rattle.std.proofs.lemmas.List.Elements.{All-nil, All-cons}
use Rattle.ada_tree.specs.declared.naming.Span.{Span}
use Rattle.ada_tree.specs.declared.naming.Word.{Word}
use Rattle.ada_tree.specs.declared.expressions.UnaryOp.{UnaryOp}
use Rattle.ada_tree.specs.declared.expressions.BinaryOp.{BinaryOp}
use Rattle.ada_tree.specs.PlainExpr.{PExpr, EInteger, EName, EIndex, EAttribute, EAttributeOf, EParen, EUnary, EBinary, PBounds, PSubind, PDrange, RGiven, RMarked}
use Rattle.ada_tree.specs.PlainStmt.{PTarget, PCallee, PArgs, PCall, PFormal, PPart, PWords, PValue, PChoice, PScheme, LWhile, LFor, PHead, PStmt, SNull, SAssign, SDelay, SExit, SRaise, SAbort, SCall, SAccept, SWait, SConditional, STimed, SPut, SPutLine, SNewLine, SGet, SIf, SCase, SBlock, SLoop, PStmts, no_stmt, stmt_then, PMaybe, absent, present, PAccept, accepting, PAlt, alternative, PAltKind, AAccept, ADelay, ATerminate, PAlts, no_alt, alt_then, PArm, arm, PArms, no_arm, arm_then, PCaseArm, case_arm, PCaseArms, no_case_arm, case_arm_then, PBody, body, PHandler, handler, PHandlers, no_handler, handler_then}
use Rattle.ada_tree.specs.PlainDecl.{PShape, OPlain, OArray, PInit, IOne, IList, IOthers, PEntry, PTask, PDecl, DNumber, DObject, DEnumeration, DArray, DSubtype, DException, DIntIo, DPragma, DTask, DTaskBody, PDecls, no_decl, decl_then}
use Rattle.ada_tree.specs.PlainProgram.{PProgram}
use Rattle.ada_tree.specs.Every.{Rules, EveryWord, EveryExpr, EveryBounds, EverySubind, EveryDrange, EveryTarget, EveryCallee, EveryExprs, EveryArgs, EveryCall, EveryNames, EveryFormal, EveryPart, EveryText, EveryChoice, EveryScheme, EveryHead, stmts_count, alts_count, arms_count, EveryStmt, EveryStmts, EverySome, EveryMaybe, EveryAccept, EveryAlt, EveryAltKind, EveryAlts, EveryArm, EveryArms, EveryCaseArm, EveryCaseArms, EveryBody, EveryHandler, EveryHandlers, EveryShape, EveryInit, EveryEntry, EveryPriority, EveryTask, EveryDecl, EveryDecls, EveryProgram}
use Rattle.ada_tree.specs.WellPlaced.{level, simple, UnaryFits, BinaryFits, OthersLast, GoUp, IsGiven, AreObjects, BodiesLast}
use Rattle.ada_lexer.specs.declared.symbols.Symbol.TheVariants as key
use Rattle.ada_expr_parser.specs.declared.items.ItemKind.{ItemKind}
use Rattle.ada_expr_parser.specs.declared.items.ItemKind.TheVariants as item
use Rattle.ada_expr_parser.specs.declared.items.Item.{Item}
use Rattle.ada_phrase_parser.specs.Spelling.{Source, Spelling, ◌▷◌, IfThere, Where, Key, Named, Duration, said_at, StringAt, Behind, Separated, ListOf, Inside, Placed}
use Rattle.ada_expr_parser.specs.declared.levels.Level.{Level}
use Rattle.ada_expr_parser.specs.declared.levels.Level.TheVariants.{Logical}
use Rattle.ada_expr_parser.specs.Trees.{levels}
use Rattle.ada_expr_parser.specs.Grammar.{Spells, IsExpr, IsBounds, IsRangeOf, IsSubind, IsIndex, AreMore, AreEnclosed, IsSecondList, AreArgs, IsChoiceOf}
use Rattle.ada_phrase_parser.specs.Phrases.{Names, Expression, NestedExpr, IsFormal, Formals, AcceptHead, Guard, IsPart, PutText, Choice, WhenChoices, WhenRaised, Drange, IsScheme, LoopName, DelayOf}
use Rattle.ada_stmt_parser.specs.Statements.{Target, Callee, Call, IsStmt, AnyStmts, Stmts, ElsePart, OthersPart, IsAccept, IsAlt, IsAltKind, IsAlts, MoreAlts, IsArm, IsArms, MoreArms, IsCaseArm, IsCaseArms, IsBody, HandlerPart, MoreHandlers, IsHandler}
use Rattle.ada_task_parser.specs.Tasks.{IsPriority, IsEntry, Member, MEntry, MPriority, entries_in, priorities_in, IsMember, TaskRest, IsTask}
use Rattle.ada_parser.specs.Declarations.{Subind, ArrayOf, IsShape, IsList, IsInit, IsObject, IsDecl, Decls}
use Rattle.ada_parser.specs.Units.{IsUnit}
use Rattle.ada_parser.specs.Reads.{program_unit}

-- rules that ask no more of the shape of a tree than the grammar gives
pub record Suits (rules : Rules) : Type 0 where
  pub unary : (op : UnaryOp) (e : PExpr) → UnaryFits op e → rules.unary op e
  pub binary : (op : BinaryOp) (l r : PExpr) → BinaryFits op l r → rules.binary op l r
  pub bounds : (first last : PExpr) → simple ≤ level first → simple ≤ level last → rules.bounds first last
  pub parts : (asked has : ℕ) → asked ≤ has → rules.parts asked has
  pub handlers : (hs : PHandlers) → OthersLast hs → rules.handlers hs
  pub pragmas : (entries : ℕ) (places : List ℕ) → GoUp 0 entries places → rules.pragmas entries places
  pub object : (constant : Bool) (i : Option PInit) → IsGiven constant i → rules.object constant i
  pub inner : (ds : PDecls) → AreObjects ds → rules.inner ds
  pub outer : (ds : PDecls) → BodiesLast ds → rules.outer ds
  pub nested : (k : ℕ) → k ≤ 300 → rules.nested k

module _ (rules : Rules) (source : Source) where
  -- the rules hold of what an item says
  abbrev pub KindFits : ItemKind → Span → Type 0
  KindFits (item.Name id) at = rules.name id
  KindFits (item.Integer n) at = rules.integer n
  KindFits (item.Duration n) at = rules.duration n
  KindFits item.Text at = rules.words (said_at source at)
  KindFits _ at = Unit {0}

  abbrev pub IsFit : Item → Type 0
  IsFit x = KindFits x.kind x.span

  abbrev pub AreFit : List Item → Type 0
  AreFit items = AllByRecursion IsFit items

module _ (rules : Rules) (source : Source) (suits : Suits rules) where
  abbrev Fit : List Item → Type 0
  Fit items = AreFit rules source items

  -- each such piece, of items that fit, gives this
  abbrev pub Draws : Spelling → Type 0 → Type 0
  Draws P A = (text : List Item) → Fit text → P text → A

  pub fit_parts : (front back : List Item) → Fit (front ++ back) → Fit front × Fit back
  fit_parts [] back fit = (tt, fit)
  fit_parts (x ∷ front) back fit = let (before, behind) = fit_parts front back fit.1 in ((fit.0, before), behind)

  pub both : {P Q : Spelling} {A B : Type 0} → Draws P A → Draws Q B → Draws (P ▷ Q) (A × B)
  both p q text fit (front, back, is, one, other) =
      let (before, behind) = fit_parts front back (subst Fit is fit) in
      (p front before one, q back behind other)

  pub only : {P Q : Spelling} {A : Type 0} → Draws P A → Draws (P ▷ Q) A
  only p text fit (front, back, is, one, other) = p front (fit_parts front back (subst Fit is fit)).0 one

  pub behind : {P Q : Spelling} {B : Type 0} → Draws Q B → Draws (P ▷ Q) B
  behind q text fit (front, back, is, one, other) = q back (fit_parts front back (subst Fit is fit)).1 other

  pub also : {P : Spelling} {A B : Type 0} → B → Draws P A → Draws P (B × A)
  also b p text fit is = (b, p text fit is)

  pub at_place : (s : Span) {P : Spelling} {A : Type 0} → Draws P A → Draws (Placed s P) A
  at_place s p text fit (is, place) = p text fit is

  pub where_holds : {Fact : Type 0} {P : Spelling} {A B : Type 0} → (Fact → B) → Draws P A → Draws (Where Fact P) (B × A)
  where_holds f p text fit (fact, is) = (f fact, p text fit is)

  pub there : {A : Type 0} {P : A → Spelling} {F : A → Type 0} → ((a : A) → Draws (P a) (F a)) → (o : Option A) → Draws (IfThere o P) (IfSome o F)
  there p None text fit is = tt
  there p (Some a) text fit is = p a text fit is

  pub named : (w : Word) → Draws (Named w) (EveryWord rules w)
  named w text fit is = (subst Fit is fit).0

  pub duration : (n : ℕ) → Draws (Duration n) (rules.duration n)
  duration n text fit (at, is) = (subst Fit is fit).0

  pub string : (t : List ℕ) (at : Span) → Draws (StringAt source t at) (rules.words t)
  string t at text fit (is, says, graphic) = subst rules.words (sym says) (subst Fit is fit).0

  -- one level deeper
  pub inside : (k d : ℕ) → k + d ≤ 300 → {P : ℕ → Spelling} {A : Type 0} → ((i : ℕ) → k + 1 + i ≤ 300 → Draws (P i) A) → Draws (Inside d P) A
  inside k zero low p text fit is = absurd is
  inside k (suc i) low p text fit is = p i (omega (arith, low)) text fit is

  pub nests : (k d : ℕ) → k + d ≤ 300 → rules.nested k
  nests k d low = suits.nested k (omega (arith, low))

  pub more : {A : Type 0} (Between : Spelling) {Part : A → Spelling} (F : A → Type 0) → ((a : A) → Draws (Part a) (F a)) → (list : List A) → Draws (Behind Between Part list) (All F list)
  more Between F p [] text fit is = All-nil F
  more Between F p (a ∷ list) text fit is = let (one, others) = behind (both (p a) (more Between F p list)) text fit is in All-cons F a list one others

  pub separated : {A : Type 0} (Between : Spelling) {Part : A → Spelling} (F : A → Type 0) → ((a : A) → Draws (Part a) (F a)) → (list : List A) → Draws (Separated Between Part list) (rules.parts 1 (length list) × All F list)
  separated Between F p [] text fit is = absurd is
  separated Between F p (a ∷ list) text fit is =
      let (one, others) = both (p a) (more Between F p list) text fit is in
      (suits.parts 1 (length (a ∷ list)) (omega arith), All-cons F a list one others)

  -- ---- expressions and what is built of them: each operand is at a level that fits, and each node is nested as deep as its levels say

  pub expr_placed : (e : PExpr) (k : ℕ) → k + levels e ≤ 300 → Draws (Spells e) (EveryExpr rules k e)
  expr_placed (EInteger n s) k low text fit is = (nests k 0 (omega (arith, low)), (subst Fit is fit).0)
  expr_placed (EName a s) k low text fit is = (nests k 0 (omega (arith, low)), (subst Fit is fit).0)
  expr_placed (EIndex w e s) k low text fit (part, lead, close, spells, is, place) =
      let f = subst Fit is fit in
      (nests k (levels e + 1) low, f.0, expr_placed e (k + 1) (omega (arith, low)) part (fit_parts part _ f.1.1).0 spells)
  expr_placed (EAttribute m w s) k low text fit (tick, is, place) =
      let f = subst Fit is fit in
      (nests k 0 (omega (arith, low)), f.0, f.1.1.0)
  expr_placed (EAttributeOf m w e s) k low text fit (part, tick, lead, close, spells, is, place) =
      let f = subst Fit is fit in
      (nests k (levels e + 1) low, f.0, f.1.1.0, expr_placed e (k + 1) (omega (arith, low)) part (fit_parts part _ f.1.1.1.1).0 spells)
  expr_placed (EParen e s) k low text fit (part, lead, close, spells, is, place) =
      let f = subst Fit is fit in
      (nests k (levels e + 1) low, expr_placed e (k + 1) (omega (arith, low)) part (fit_parts part _ f.1).0 spells)
  expr_placed (EUnary op e s) k low text fit (part, at, spells, fits, is, place) =
      let f = subst Fit is fit in
      (nests k (levels e + 1) low, suits.unary op e fits, expr_placed e (k + 1) (omega (arith, low)) part f.1 spells)
  expr_placed (EBinary op l r s) k low text fit (front, sign, back, left, operator, right, fits, is, place) =
      let (before, f) = fit_parts front (sign ++ back) (subst Fit is fit) in (
        nests k (max (levels l) (levels r) + 1) low,
        suits.binary op l r fits,
        expr_placed l (k + 1) (omega (arith, low)) front before left,
        expr_placed r (k + 1) (omega (arith, low)) back (fit_parts sign back f).1 right,
      )

  -- an expression of a level, at most d levels below its root, which has the nesting k
  pub of_level : (l : Level) (e : PExpr) (k d : ℕ) → k + d ≤ 300 → Draws (λ text. IsExpr l d e text) (EveryExpr rules k e)
  of_level l e k d low text fit is = expr_placed e k (let nested = is.nested in omega (arith, low, nested)) text fit is.spells

  pub expression_placed : (e : PExpr) (k d : ℕ) → k + d ≤ 300 → Draws (Expression d e) (EveryExpr rules k e)
  expression_placed e k d low text fit is = of_level Logical e k d low text fit is

  -- an expression one level deeper than what has the nesting k
  pub operand_placed : (e : PExpr) (k d : ℕ) → k + d ≤ 300 → Draws (NestedExpr d e) (EveryExpr rules (k + 1) e)
  operand_placed e k d low = inside k d low (λ i deep. expression_placed e (k + 1) i deep)

  pub bounds_placed : (b : PBounds) (k d : ℕ) → k + d ≤ 300 → Draws (λ text. IsBounds d b text) (EveryBounds rules k b)
  bounds_placed b k d low text fit is =
      let (before, f) = fit_parts is.front _ (subst Fit is.text_is fit) in
      (suits.bounds b.first b.last is.first.fits is.last.fits, of_level _ b.first k d low is.front before is.first, of_level _ b.last k d low is.back f.1 is.last)

  range_placed : (o : Option PBounds) (k d : ℕ) → k + d ≤ 300 → Draws (IsRangeOf d o) (IfSome o (EveryBounds rules k))
  range_placed None k d low text fit is = tt
  range_placed (Some b) k d low text fit (at, back, bounds, is) = bounds_placed b k d low back (subst Fit is fit).1 bounds

  pub subind_placed : (x : PSubind) (k d : ℕ) → k + d ≤ 300 → Draws (λ text. IsSubind d x text) (EverySubind rules k x)
  subind_placed x k d low text fit is =
      let f = subst Fit is.text_is fit in
      (f.0, range_placed x.bounds k d low is.back f.1 is.bounds)

  pub drange_placed : (x : PDrange) (k d : ℕ) → k + d ≤ 300 → Draws (Drange d x) (EveryDrange rules k x)
  drange_placed (RGiven b) k d low text fit is = bounds_placed b k d low text fit is
  drange_placed (RMarked x) k d low text fit is = subind_placed x k d low text fit is

  -- an index, an argument or a part of a list has the nesting k, where d levels stand below what is one less deep
  pub index_placed : (o : Option PExpr) (k d : ℕ) → k + d ≤ 301 → Draws (IsIndex d o) (IfSome o (EveryExpr rules k))
  index_placed None k d low text fit is = tt
  index_placed (Some e) k d low text fit is =
      let f = subst Fit is.text_is fit in
      expr_placed e k (let nested = is.nested in omega (arith, low, nested)) is.part (fit_parts is.part _ f.1).0 is.spells

  pub target_placed : (x : PTarget) (k d : ℕ) → k + d ≤ 301 → Draws (Target d x) (EveryTarget rules k x)
  target_placed x k d low text fit is =
      let f = subst Fit is.text_is fit in
      (f.0, index_placed x.index k d low is.back f.1 is.index)

  pub callee_placed : (x : PCallee) (k d : ℕ) → k + d ≤ 301 → Draws (Callee d x) (EveryCallee rules k x)
  callee_placed x k d low text fit is = target_placed record { name = x.name; index = x.index } k d low text fit is

  more_placed : (es : List PExpr) (k d : ℕ) → k + d ≤ 301 → Draws (AreMore d es) (All (EveryExpr rules k) es)
  more_placed [] k d low text fit is = All-nil (EveryExpr rules k)
  more_placed (e ∷ es) k d low text fit (at, front, back, spells, nested, others, is) =
      let (before, f) = fit_parts front back (subst Fit is fit).1 in
      All-cons (EveryExpr rules k) e es (expr_placed e k (omega (arith, low, nested)) front before spells) (more_placed es k d low back f others)

  pub enclosed_placed : (es : List PExpr) (k d : ℕ) → k + d ≤ 301 → Draws (AreEnclosed d es) (EveryExprs rules k es)
  enclosed_placed [] k d low text fit is = absurd is
  enclosed_placed (e ∷ es) k d low text fit (lead, front, back, close, spells, nested, others, is) =
      let (before, f) = fit_parts front _ (subst Fit is fit).1 in (
        suits.parts 1 (length (e ∷ es)) (omega arith),
        All-cons (EveryExpr rules k) e es (expr_placed e k (omega (arith, low, nested)) front before spells) (more_placed es k d low back (fit_parts back _ f).0 others),
      )

  second_placed : (o : Option (List PExpr)) (k d : ℕ) → k + d ≤ 301 → Draws (IsSecondList d o) (IfSome o (EveryExprs rules k))
  second_placed None k d low text fit is = tt
  second_placed (Some es) k d low text fit is = enclosed_placed es k d low text fit is

  args_placed : (o : Option PArgs) (k d : ℕ) → k + d ≤ 301 → Draws (AreArgs d o) (IfSome o (EveryArgs rules k))
  args_placed None k d low text fit is = tt
  args_placed (Some x) k d low text fit (front, back, one, other, is) =
      let (before, f) = fit_parts front back (subst Fit is fit) in
      (enclosed_placed x.first k d low front before one, second_placed x.second k d low back f other)

  pub call_placed : (x : PCall) (k d : ℕ) → k + d ≤ 301 → Draws (Call d x) (EveryCall rules k x)
  call_placed x k d low text fit is =
      let (before, f) = fit_parts is.front _ (subst Fit is.text_is fit) in
      (callee_placed x.task k d low is.front before is.task, f.1.0, args_placed x.args k d low is.back f.1.1 is.args)

  choice_placed_of : (first : PExpr) (last : Option PExpr) (k d : ℕ) → k + d ≤ 300 → Draws (IsChoiceOf d first last) (EveryExpr rules k first × IfSome last (λ l. rules.bounds first l × EveryExpr rules k l))
  choice_placed_of first None k d low text fit is = (of_level Logical first k d low text fit is, tt)
  choice_placed_of first (Some last) k d low text fit is =
      let (bounds, one, other) = bounds_placed record { first = first; last = last } k d low text fit is in
      (one, (bounds, other))

  pub choice_placed : (x : PChoice) (k d : ℕ) → k + d ≤ 300 → Draws (Choice d x) (EveryChoice rules k x)
  choice_placed x k d low text fit is = choice_placed_of x.first x.last k d low text fit is

  -- ---- phrases

  pub names_placed : (ws : List Word) → Draws (Names ws) (EveryNames rules ws)
  names_placed ws = separated (Key key.Comma) (EveryWord rules) (λ w. named w) ws

  formal_placed : (x : PFormal) → Draws (IsFormal x) (EveryFormal rules x)
  formal_placed x = both (names_placed x.names) (behind (behind (named x.mark)))

  pub formals_placed : (xs : List PFormal) → Draws (Formals xs) (All (EveryFormal rules) xs)
  formals_placed [] text fit is = All-nil (EveryFormal rules)
  formals_placed (x ∷ xs) text fit is = (behind (only (separated (Key key.Semicolon) (EveryFormal rules) (λ y. formal_placed y) (x ∷ xs))) text fit is).1

  pub head_placed : (x : PHead) (k d : ℕ) → k + d ≤ 300 → Draws (AcceptHead d x) (EveryHead rules k x)
  head_placed x k d low text fit is =
      let (entry, (index, formals)) = behind (both (named x.entry) (both (index_placed x.index (k + 1) d (omega (arith, low))) (formals_placed x.formals))) text fit is in
      (entry, index, formals)

  pub guard_placed : (g : Option PExpr) (k d : ℕ) → k + d ≤ 300 → Draws (Guard d g) (IfSome g (EveryExpr rules (k + 1)))
  guard_placed g k d low = there (λ e. behind (only (operand_placed e k d low))) g

  part_placed : (x : PPart) (k d : ℕ) → k + d ≤ 300 → Draws (IsPart source d x) (EveryPart rules (k + 1) x)
  part_placed (PWords t at) k d low = string t at
  part_placed (PValue e) k d low = operand_placed e k d low

  pub put_placed : (ps : List PPart) (k d : ℕ) → k + d ≤ 300 → Draws (PutText source d ps) (EveryText rules (k + 1) ps)
  put_placed ps k d low = behind (only (separated (Key key.Ampersand) (EveryPart rules (k + 1)) (λ x. part_placed x k d low) ps))

  pub choices_placed : (xs : List PChoice) (k d : ℕ) → k + d ≤ 300 → Draws (WhenChoices d xs) (rules.parts 1 (length xs) × All (EveryChoice rules k) xs)
  choices_placed xs k d low = behind (only (separated (Key key.Bar) (EveryChoice rules k) (λ x. choice_placed x k d low) xs))

  pub raised_placed : (ws : List Word) → Draws (WhenRaised ws) (All (EveryWord rules) ws)
  raised_placed [] text fit is = All-nil (EveryWord rules)
  raised_placed (w ∷ ws) text fit is = (behind (only (separated (Key key.Bar) (EveryWord rules) (λ x. named x) (w ∷ ws))) text fit is).1

  pub scheme_placed : (x : PScheme) (k d : ℕ) → k + d ≤ 300 → Draws (IsScheme d x) (EveryScheme rules k x)
  scheme_placed (LWhile e) k d low = behind (expression_placed e k d low)
  scheme_placed (LFor w backwards x) k d low =
      behind (both (named w) (behind (behind (drange_placed x k d low))))

  pub loop_name_placed : (w : Option Word) → Draws (LoopName w) (IfSome w (EveryWord rules))
  loop_name_placed w = there (λ x. only (named x)) w

  pub delay_placed : (n : ℕ) → Draws (DelayOf n) (rules.duration n)
  delay_placed n = behind (only (duration n))

  -- ---- statements: at a nesting k, at most d levels stand below each

  mutual
    pub stmt_placed : (x : PStmt) (k d : ℕ) → k + d ≤ 300 → Draws (IsStmt source d x) (EveryStmt rules k x)
    stmt_placed (SNull s) k d low text fit is = nests k d low
    stmt_placed (SAssign x e s) k d low text fit is =
        let (target, value) = at_place s (both (target_placed x (k + 1) d (omega (arith, low))) (behind (only (operand_placed e k d low)))) text fit is in
        (nests k d low, target, value)
    stmt_placed (SDelay n s) k d low text fit is = (nests k d low, at_place s (delay_placed n) text fit is)
    stmt_placed (SExit w e s) k d low text fit is =
        let (name, test) = at_place s (behind (both (there (λ x. named x) w) (only (there (λ x. behind (operand_placed x k d low)) e)))) text fit is in
        (nests k d low, name, test)
    stmt_placed (SRaise w s) k d low text fit is = (nests k d low, at_place s (behind (only (there (λ x. named x) w))) text fit is)
    stmt_placed (SAbort tasks s) k d low text fit is =
        let (some, all) = at_place s (behind (only (separated (Key key.Comma) (EveryCallee rules (k + 1)) (λ c. callee_placed c (k + 1) d (omega (arith, low))) tasks))) text fit is in
        (nests k d low, some, all)
    stmt_placed (SCall c s) k d low text fit is = (nests k d low, at_place s (only (call_placed c (k + 1) d (omega (arith, low)))) text fit is)
    stmt_placed (SAccept a s) k d low text fit is = at_place s (accept_placed a k d low) text fit is
    stmt_placed (SWait alts o s) k d low text fit is =
        let ((some, all), rest) = at_place s (behind (only (inside k d low (λ i deep. both (alts_placed alts (k + 1) i deep) (else_placed o (k + 1) i deep))))) text fit is in
        (nests k d low, some, all, rest)
    stmt_placed (SConditional c l o s) k d low text fit is =
        let (nest, (call, (then, rest))) =
        at_place s (behind (only (inside k d low (λ i deep. also (nests (k + 1) i deep) (both (call_placed c (k + 2) i (omega (arith, deep))) (behind (both (any_placed l (k + 1) i deep) (behind (some_placed o (k + 1) i deep)))))))))
        text fit is
        in
        (nests k d low, nest, call, then, rest)
    stmt_placed (STimed c l n m s) k d low text fit is =
        let (nest, (call, (then, (time, rest)))) =
        at_place s (behind (only (inside k d low (λ i deep. also (nests (k + 1) i deep) (both (call_placed c (k + 2) i (omega (arith, deep))) (behind (both (any_placed l (k + 1) i deep) (behind (both (delay_placed n) (any_placed m (k + 1) i deep))))))))))
        text fit is
        in
        (nests k d low, nest, call, then, time, rest)
    stmt_placed (SPut parts s) k d low text fit is = (nests k d low, at_place s (behind (only (put_placed parts k d low))) text fit is)
    stmt_placed (SPutLine parts s) k d low text fit is = (nests k d low, at_place s (behind (only (put_placed parts k d low))) text fit is)
    stmt_placed (SNewLine s) k d low text fit is = nests k d low
    stmt_placed (SGet x s) k d low text fit is = (nests k d low, at_place s (behind (behind (only (target_placed x (k + 1) d (omega (arith, low)))))) text fit is)
    stmt_placed (SIf arms o s) k d low text fit is =
        let ((some, all), rest) = at_place s (behind (only (inside k d low (λ i deep. both (arms_placed arms (k + 1) i deep) (else_placed o (k + 1) i deep))))) text fit is in
        (nests k d low, some, all, rest)
    stmt_placed (SCase e arms o s) k d low text fit is =
        let (value, (all, rest)) =
        at_place s (behind (only (inside k d low (λ i deep. both (expression_placed e (k + 1) i deep) (behind (both (case_arms_placed arms (k + 1) i deep) (others_placed o (k + 1) i deep))))))) text fit is
        in
        (nests k d low, value, all, rest)
    stmt_placed (SBlock b s) k d low text fit is = (nests k d low, at_place s (only (inside k d low (body_placed b (k + 1)))) text fit is)
    stmt_placed (SLoop w c l s) k d low text fit is =
        let (name, (scheme, all)) =
        at_place s (both (loop_name_placed w) (only (inside k d low (λ i deep. both (there (λ x. scheme_placed x (k + 1) i deep) c) (behind (some_placed l (k + 1) i deep)))))) text fit is
        in
        (nests k d low, name, scheme, all)

    pub any_placed : (l : PStmts) (k d : ℕ) → k + d ≤ 300 → Draws (AnyStmts source d l) (EveryStmts rules k l)
    any_placed no_stmt k d low text fit is = tt
    any_placed (stmt_then x l) k d low text fit is = both (stmt_placed x k d low) (any_placed l k d low) text fit is

    pub some_placed : (l : PStmts) (k d : ℕ) → k + d ≤ 300 → Draws (Stmts source d l) (EverySome rules k l)
    some_placed no_stmt k d low text fit is = absurd is
    some_placed (stmt_then x l) k d low text fit is =
        let (one, others) = both (stmt_placed x k d low) (any_placed l k d low) text fit is in
        (suits.parts 1 (1 + stmts_count l) (omega arith), one, others)

    else_placed : (o : PMaybe) (k d : ℕ) → k + d ≤ 300 → Draws (ElsePart source d o) (EveryMaybe rules k o)
    else_placed absent k d low text fit is = tt
    else_placed (present l) k d low text fit is = behind (some_placed l k d low) text fit is

    others_placed : (o : PMaybe) (k d : ℕ) → k + d ≤ 300 → Draws (OthersPart source d o) (EveryMaybe rules k o)
    others_placed absent k d low text fit is = tt
    others_placed (present l) k d low text fit is = behind (some_placed l k d low) text fit is

    accept_placed : (a : PAccept) (k d : ℕ) → k + d ≤ 300 → Draws (IsAccept source d a) (EveryAccept rules k a)
    accept_placed (accepting h absent) k d low text fit is = (nests k d low, at_place h.span (only (head_placed h k d low)) text fit is, tt)
    accept_placed (accepting h (present l)) k d low text fit is =
        let (head, all) = at_place h.span (both (head_placed h k d low) (behind (only (inside k d low (some_placed l (k + 1)))))) text fit is in
        (nests k d low, head, all)

    alt_placed : (x : PAlt) (k d : ℕ) → k + d ≤ 300 → Draws (IsAlt source d x) (EveryAlt rules k x)
    alt_placed (alternative g x s) k d low text fit is =
        let (guard, kind) = at_place s (both (guard_placed g k d low) (alt_kind_placed x k d low)) text fit is in
        (nests k d low, guard, kind)

    alt_kind_placed : (x : PAltKind) (k d : ℕ) → k + d ≤ 300 → Draws (IsAltKind source d x) (EveryAltKind rules (k + 1) x)
    alt_kind_placed (AAccept a l) k d low text fit is = inside k d low (λ i deep. both (accept_placed a (k + 1) i deep) (any_placed l (k + 1) i deep)) text fit is
    alt_kind_placed (ADelay n l) k d low text fit is =
        let (nest, (time, rest)) = inside k d low (λ i deep. also (nests (k + 1) i deep) (both (delay_placed n) (any_placed l (k + 1) i deep))) text fit is in
        (nest, time, rest)
    alt_kind_placed ATerminate k d low text fit is = tt

    alts_placed : (x : PAlts) (k d : ℕ) → k + d ≤ 300 → Draws (IsAlts source d x) (rules.parts 1 (alts_count x) × EveryAlts rules k x)
    alts_placed no_alt k d low text fit is = absurd is
    alts_placed (alt_then x l) k d low text fit is = also (suits.parts 1 (1 + alts_count l) (omega arith)) (both (alt_placed x k d low) (more_alts_placed l k d low)) text fit is

    more_alts_placed : (x : PAlts) (k d : ℕ) → k + d ≤ 300 → Draws (MoreAlts source d x) (EveryAlts rules k x)
    more_alts_placed no_alt k d low text fit is = tt
    more_alts_placed (alt_then x l) k d low text fit is = behind (both (alt_placed x k d low) (more_alts_placed l k d low)) text fit is

    arm_placed : (x : PArm) (k d : ℕ) → k + d ≤ 300 → Draws (IsArm source d x) (EveryArm rules k x)
    arm_placed (arm e l) k d low = both (expression_placed e k d low) (behind (some_placed l k d low))

    arms_placed : (x : PArms) (k d : ℕ) → k + d ≤ 300 → Draws (IsArms source d x) (rules.parts 1 (arms_count x) × EveryArms rules k x)
    arms_placed no_arm k d low text fit is = absurd is
    arms_placed (arm_then x l) k d low text fit is = also (suits.parts 1 (1 + arms_count l) (omega arith)) (both (arm_placed x k d low) (more_arms_placed l k d low)) text fit is

    more_arms_placed : (x : PArms) (k d : ℕ) → k + d ≤ 300 → Draws (MoreArms source d x) (EveryArms rules k x)
    more_arms_placed no_arm k d low text fit is = tt
    more_arms_placed (arm_then x l) k d low text fit is = behind (both (arm_placed x k d low) (more_arms_placed l k d low)) text fit is

    case_arm_placed : (x : PCaseArm) (k d : ℕ) → k + d ≤ 300 → Draws (IsCaseArm source d x) (EveryCaseArm rules k x)
    case_arm_placed (case_arm choices l) k d low text fit is =
        let ((some, all), rest) = both (choices_placed choices k d low) (some_placed l k d low) text fit is in
        (some, all, rest)

    case_arms_placed : (x : PCaseArms) (k d : ℕ) → k + d ≤ 300 → Draws (IsCaseArms source d x) (EveryCaseArms rules k x)
    case_arms_placed no_case_arm k d low text fit is = tt
    case_arms_placed (case_arm_then x l) k d low text fit is = both (case_arm_placed x k d low) (case_arms_placed l k d low) text fit is

    pub body_placed : (b : PBody) (k d : ℕ) → k + d ≤ 300 → Draws (IsBody source d b) (EveryBody rules k b)
    body_placed (body l hs) k d low text fit (last, is) =
        let (all, rest) = behind (both (some_placed l k d low) (handler_part_placed hs k d low)) text fit is in
        (all, suits.handlers hs last, rest)

    handler_part_placed : (x : PHandlers) (k d : ℕ) → k + d ≤ 300 → Draws (HandlerPart source d x) (EveryHandlers rules k x)
    handler_part_placed no_handler k d low text fit is = tt
    handler_part_placed (handler_then x l) k d low text fit is = behind (both (handler_placed x k d low) (handlers_placed l k d low)) text fit is

    handlers_placed : (x : PHandlers) (k d : ℕ) → k + d ≤ 300 → Draws (MoreHandlers source d x) (EveryHandlers rules k x)
    handlers_placed no_handler k d low text fit is = tt
    handlers_placed (handler_then x l) k d low text fit is = both (handler_placed x k d low) (handlers_placed l k d low) text fit is

    handler_placed : (x : PHandler) (k d : ℕ) → k + d ≤ 300 → Draws (IsHandler source d x) (EveryHandler rules k x)
    handler_placed (handler ws l s) k d low text fit is =
        let (names, all) = at_place s (both (raised_placed ws) (inside k d low (some_placed l (k + 1)))) text fit is in
        (nests k d low, names, all)

  -- ---- tasks: the roots of their expressions have the nesting 2

  priority_placed : (e : PExpr) (d : ℕ) → 2 + d ≤ 300 → Draws (IsPriority source d e) (EveryExpr rules 2 e)
  priority_placed e d low = behind (behind (behind (only (expression_placed e 2 d low))))

  entry_placed : (x : PEntry) (d : ℕ) → 2 + d ≤ 300 → Draws (IsEntry d x) (EveryEntry rules x)
  entry_placed x d low text fit is =
      let (name, (family, formals)) = at_place x.span (behind (both (named x.name) (both (there (λ r. behind (only (drange_placed r 2 d low))) x.family) (only (formals_placed x.formals))))) text fit is in
      (nests 1 0 (omega arith), name, family, formals)

  -- what the members of a task give, where this many entries stand before them
  abbrev MembersGive : ℕ → List Member → Type 0
  MembersGive before members = All (EveryEntry rules) (entries_in members) × All (EveryPriority rules) (priorities_in before members)

  members_placed : (members : List Member) (before d : ℕ) → 2 + d ≤ 300 → Draws (ListOf (IsMember source d) members) (MembersGive before members)
  members_placed [] before d low text fit is = (All-nil (EveryEntry rules), All-nil (EveryPriority rules))
  members_placed (MEntry x ∷ members) before d low text fit is =
      let (one, (entries, priorities)) = both (entry_placed x d low) (members_placed members (before + 1) d low) text fit is in
      (All-cons (EveryEntry rules) x (entries_in members) one entries, priorities)
  members_placed (MPriority e ∷ members) before d low text fit is =
      let (one, (entries, priorities)) = both (priority_placed e d low) (members_placed members before d low) text fit is in
      (entries, All-cons (EveryPriority rules) record { place = before; value = e } (priorities_in before members) (nests 1 0 (omega arith), one) priorities)

  -- the pragmas stand in order among the entries
  go_up : (members : List Member) (first before total : ℕ) → first ≤ before → before + length (entries_in members) ≡ total → GoUp first total (map (λ y. y.place) (priorities_in before members))
  go_up [] first before total low is = tt
  go_up (MEntry x ∷ members) first before total low is = go_up members first (before + 1) total (omega (arith, low)) (omega (arith, is))
  go_up (MPriority e ∷ members) first before total low is = (low, omega (arith, is), go_up members before before total (omega arith) is)

  rest_placed : (name : Word) (members : List Member) (d : ℕ) → 2 + d ≤ 300 → Draws (TaskRest source d name members) (MembersGive 0 members)
  rest_placed name [] d low text fit is = (All-nil (EveryEntry rules), All-nil (EveryPriority rules))
  rest_placed name (x ∷ members) d low text fit is = behind (only (members_placed (x ∷ members) 0 d low)) text fit is

  task_placed : (t : PTask) (d : ℕ) → 2 + d ≤ 300 → Draws (IsTask source d t) (EveryTask rules t)
  task_placed t d low text fit (members, are, is) =
      let (name, (entries, priorities)) = behind (both (named t.name) (rest_placed t.name members d low)) text fit is in (
        name,
        subst (All (EveryEntry rules)) (sym are.entries) entries,
        subst (All (EveryPriority rules)) (sym are.priorities) priorities,
        suits.pragmas (length t.entries) (map (λ y. y.place) t.priorities) (rw (are.entries, are.priorities) (go_up members 0 0 (length (entries_in members)) (omega arith) (omega arith))),
      )

  -- ---- declarations

  subind_at : (x : PSubind) (d : ℕ) → 2 + d ≤ 300 → Draws (Subind d x) (EverySubind rules 2 x)
  subind_at x d low text fit is = subind_placed x 2 d low text fit is

  array_placed : (r : PDrange) (x : PSubind) (d : ℕ) → 2 + d ≤ 300 → Draws (ArrayOf d r x) (EveryDrange rules 2 r × EverySubind rules 2 x)
  array_placed r x d low = behind (behind (both (drange_placed r 2 d low) (behind (behind (subind_at x d low)))))

  shape_placed : (x : PShape) (d : ℕ) → 2 + d ≤ 300 → Draws (IsShape d x) (EveryShape rules x)
  shape_placed (OPlain x) d low = subind_at x d low
  shape_placed (OArray r x) d low = array_placed r x d low

  list_placed : (es : List PExpr) (d : ℕ) → 2 + d ≤ 300 → Draws (IsList d es) (rules.parts 2 (length es) × All (EveryExpr rules 2) es)
  list_placed es d low text fit (some, is) = (suits.parts 2 (length es) some, (enclosed_placed es 2 (suc d) (omega (arith, low)) text fit is).1)

  init_placed : (x : PInit) (d : ℕ) → 2 + d ≤ 300 → Draws (IsInit d x) (EveryInit rules x)
  init_placed (IOne e) d low = expression_placed e 2 d low
  init_placed (IList es s) d low = at_place s (list_placed es d low)
  init_placed (IOthers e s) d low = at_place s (behind (behind (behind (only (expression_placed e 2 d low)))))

  object_placed : (c : Bool) (x : PShape) (i : Option PInit) (d : ℕ) → 2 + d ≤ 300 → Draws (IsObject d c x i) (EveryShape rules x × (rules.object c i × IfSome i (EveryInit rules)))
  object_placed false x i d low text fit is =
      let (shape, value) = both (shape_placed x d low) (there (λ y. behind (init_placed y d low)) i) text fit is in
      (shape, (suits.object false i tt, value))
  object_placed true x None d low text fit is = absurd is
  object_placed true x (Some i) d low text fit is =
      let (shape, value) = behind (both (shape_placed x d low) (behind (init_placed i d low))) text fit is in
      (shape, (suits.object true (Some i) tt, value))

  mutual
    decl_placed : (x : PDecl) (d : ℕ) → 2 + d ≤ 300 → Draws (IsDecl source d x) (EveryDecl rules x)
    decl_placed (DNumber w e s) d low text fit is =
        let (name, value) = at_place s (both (named w) (behind (behind (behind (only (expression_placed e 2 d low)))))) text fit is in
        (nests 1 0 (omega arith), name, value)
    decl_placed (DObject ws c x i s) d low text fit is =
        let (names, (shape, (given, value))) = at_place s (both (names_placed ws) (behind (only (object_placed c x i d low)))) text fit is in
        (nests 1 0 (omega arith), names, shape, given, value)
    decl_placed (DEnumeration w ws s) d low text fit is =
        let (name, names) = at_place s (behind (both (named w) (behind (behind (only (names_placed ws)))))) text fit is in
        (nests 1 0 (omega arith), name, names)
    decl_placed (DArray w r x s) d low text fit is =
        let (name, (range, element)) = at_place s (behind (both (named w) (behind (only (array_placed r x d low))))) text fit is in
        (nests 1 0 (omega arith), name, range, element)
    decl_placed (DSubtype w x s) d low text fit is =
        let (name, mark) = at_place s (behind (both (named w) (behind (only (subind_at x d low))))) text fit is in
        (nests 1 0 (omega arith), name, mark)
    decl_placed (DException ws s) d low text fit is = (nests 1 0 (omega arith), at_place s (only (names_placed ws)) text fit is)
    decl_placed (DIntIo w s) d low text fit is = (nests 1 0 (omega arith), at_place s (behind (only (named w))) text fit is)
    decl_placed (DPragma e s) d low text fit is = (nests 1 0 (omega arith), at_place s (priority_placed e d low) text fit is)
    decl_placed (DTask t s) d low text fit is = (nests 1 0 (omega arith), at_place s (task_placed t d low) text fit is)
    decl_placed (DTaskBody w ds b s) d low text fit is =
        let (name, (inner, all)) = at_place s (behind (behind (both (named w) (behind (both (where_holds (suits.inner ds) (decls_placed ds d low)) (only (body_placed b 1 (suc d) (omega (arith, low))))))))) text fit is in
        (nests 1 0 (omega arith), name, inner.0, inner.1, all)

    decls_placed : (ds : PDecls) (d : ℕ) → 2 + d ≤ 300 → Draws (Decls source d ds) (EveryDecls rules ds)
    decls_placed no_decl d low text fit is = tt
    decls_placed (decl_then x l) d low text fit is = both (decl_placed x d low) (decls_placed l d low) text fit is

  -- ---- units

  -- a unit with at most 298 levels below the roots of its expressions
  pub unit_placed : (p : PProgram) (d : ℕ) → 2 + d ≤ 300 → Draws (IsUnit source d (program_unit p)) (EveryProgram rules p)
  unit_placed p d low text fit is =
      let (name, ((order, decls), all)) = behind (behind (both (named p.name) (behind (both (where_holds (suits.outer p.decls) (decls_placed p.decls d low)) (only (body_placed p.body 1 (suc d) (omega (arith, low)))))))) text fit is in
      (name, order, decls, all)
