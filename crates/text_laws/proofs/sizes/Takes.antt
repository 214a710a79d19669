-- What the grammar spells takes at least as many items as it weighs: how many items each piece of a text has at least.
use Rattle.std.proofs.Common.{◌≡◌, ℕ, zero, suc, ◌+◌, ◌≤◌, List, [], ◌∷◌, ◌++◌, length, length-append, Option, Some, None, ap, arith}
use Rattle.ada_tree.specs.declared.naming.Span.{Span}
use Rattle.ada_tree.specs.declared.naming.Word.{Word}
use Rattle.ada_tree.specs.PlainExpr.{PExpr}
use Rattle.ada_tree.specs.PlainStmt.{PCallee, PArgs, PCall, PHead, PStmt, SAbort, SCall, SAccept, SWait, SConditional, STimed, SIf, SCase, SBlock, SLoop, PStmts, no_stmt, stmt_then, PMaybe, absent, present, PAccept, accepting, alternative, PAltKind, AAccept, ADelay, ATerminate, PAlts, no_alt, alt_then, arm, PArms, no_arm, arm_then, case_arm, PCaseArms, no_case_arm, case_arm_then, PBody, body, handler, PHandlers, no_handler, handler_then}
use Rattle.ada_tree.specs.PlainDecl.{PDecl, DTaskBody, PDecls, no_decl, decl_then}
use Rattle.ada_lexer.specs.declared.symbols.Symbol.{Symbol}
use Rattle.ada_expr_parser.specs.declared.items.Item.{Item}
use Rattle.ada_expr_parser.specs.Grammar.{AreMore, AreEnclosed, IsSecondList, AreArgs}
use Rattle.ada_phrase_parser.specs.Spelling.{Source, Spelling, ◌▷◌, Where, Key, Named, Behind, Separated, Inside, Placed}
use Rattle.ada_phrase_parser.specs.Phrases.{AcceptHead, DelayOf}
use Rattle.ada_stmt_parser.specs.Statements.{Callee, Call, IsStmt, AnyStmts, Stmts, ElsePart, OthersPart, IsAccept, IsAltKind, IsAlts, MoreAlts, IsArms, MoreArms, IsCaseArms, IsBody, HandlerPart, MoreHandlers}
use Rattle.ada_parser.specs.Declarations.{IsDecl, Decls}
use Rattle.ada_parser.specs.Units.{PUnit, IsUnit}
use Rattle.normal_laws.specs.existence.units.Weights.{row_weight, args_weight, call_weight, own_weight, parts_weight, stmts_weight, maybe_weight, accept_weight, kind_weight, alts_weight, arms_weight, case_arms_weight, body_weight, handlers_weight}
use Rattle.text_laws.specs.sizes.Weight.{decl_weight, decls_weight}

-- each such piece has at least so many items
abbrev pub Takes : Spelling → ℕ → Type 0
Takes P n = (text : List Item) → P text → n ≤ length text

-- ---- the words of the grammar

parts-take : (text front back : List Item) (m n : ℕ) → text ≡ front ++ back → m ≤ length front → n ≤ length back → m + n ≤ length text
parts-take text front back m n is one other = omega (arith, ap length is, length-append front back)

both : {P Q : Spelling} {m n : ℕ} → Takes P m → Takes Q n → Takes (P ▷ Q) (m + n)
both {m = m} {n = n} p q text (front, back, is, one, other) = parts-take text front back m n is (p front one) (q back other)

only : {P Q : Spelling} {m : ℕ} → Takes P m → Takes (P ▷ Q) m
only {m = m} p text (front, back, is, one, other) = let least : m + 0 ≤ length text = parts-take text front back m 0 is (p front one) (omega arith) in omega (arith, least)

behind : {P Q : Spelling} {n : ℕ} → Takes Q n → Takes (P ▷ Q) n
behind {n = n} q text (front, back, is, one, other) = let least : 0 + n ≤ length text = parts-take text front back 0 n is (omega arith) (q back other) in omega (arith, least)

at-place : (s : Span) {P : Spelling} {n : ℕ} → Takes P n → Takes (Placed s P) n
at-place s p text (is, place) = p text is

where-holds : {Fact : Type 0} {P : Spelling} {n : ℕ} → Takes P n → Takes (Where Fact P) n
where-holds p text (fact, is) = p text is

inside : (d : ℕ) {P : ℕ → Spelling} {n : ℕ} → ((i : ℕ) → Takes (P i) n) → Takes (Inside d P) n
inside zero p text is = absurd is
inside (suc i) p text is = p i text is

symbol-takes : (s : Symbol) → Takes (Key s) 1
symbol-takes s text (at, is) = omega (arith, ap length is)

word-takes : (w : Word) → Takes (Named w) 1
word-takes w text is = omega (arith, ap length is)

more-take : {A : Type 0} (Between : Spelling) {Part : A → Spelling} → ((a : A) → Takes (Part a) 1) → (list : List A) → Takes (Behind Between Part list) (length list)
more-take Between p [] text is = omega arith
more-take Between p (a ∷ list) text is = let least : 1 + length list ≤ length text = behind (both (p a) (more-take Between p list)) text is in omega (arith, least)

separated-take : {A : Type 0} (Between : Spelling) {Part : A → Spelling} → ((a : A) → Takes (Part a) 1) → (list : List A) → Takes (Separated Between Part list) (length list)
separated-take Between p [] text is = absurd is
separated-take Between p (a ∷ list) text is = let least : 1 + length list ≤ length text = both (p a) (more-take Between p list) text is in omega (arith, least)

-- ---- calls

callee-takes : (x : PCallee) (d : ℕ) → Takes (Callee d x) 1
callee-takes x d text is = omega (arith, ap length is.text_is)

further-take : (es : List PExpr) (d : ℕ) → Takes (AreMore d es) (length es)
further-take [] d text is = omega arith
further-take (e ∷ es) d text (at, front, back, spells, nested, others, is) =
    let least : length es ≤ length back = further-take es d back others in
    omega (arith, ap length is, length-append front back, least)

enclosed-take : (es : List PExpr) (d : ℕ) → Takes (AreEnclosed d es) (length es)
enclosed-take [] d text is = absurd is
enclosed-take (e ∷ es) d text (lead, front, back, close, spells, nested, others, is) =
    let least : length es ≤ length back = further-take es d back others in
    omega (arith, ap length is, length-append {A = Item}, least)

args-take : (o : Option PArgs) (d : ℕ) → Takes (AreArgs d o) (args_weight o)
args-take None d text is = omega arith
args-take (Some x) d text (front, back, one, other, is) = parts-take text front back _ _ is (enclosed-take x.first d front one) (second x.second back other)
  where
    second : (o : Option (List PExpr)) → Takes (IsSecondList d o) (row_weight o)
    second None text is = omega arith
    second (Some es) text is = enclosed-take es d text is

call-takes : (c : PCall) (d : ℕ) → Takes (Call d c) (call_weight c)
call-takes c d text is =
    let task : 1 ≤ length is.front = callee-takes c.task d is.front is.task in
    let args : args_weight c.args ≤ length is.back = args-take c.args d is.back is.args in
    omega (arith, ap length is.text_is, length-append {A = Item}, task, args)

-- ---- phrases

head-takes : (h : PHead) (d : ℕ) → Takes (AcceptHead d h) 2
head-takes h d = both (symbol-takes _) (only (word-takes h.entry))

delay-takes : (n : ℕ) → Takes (DelayOf n) 2
delay-takes n text is = both (symbol-takes _) (behind (symbol-takes _)) text is

-- ---- statements

module _ (source : Source) where
  mutual
    stmt-takes : (x : PStmt) (d : ℕ) → Takes (IsStmt source d x) (own_weight x + parts_weight x)
    stmt-takes (SAbort tasks s) d text is =
        let least : length tasks ≤ length text = at-place s (behind (only (separated-take _ (λ c. callee-takes c d) tasks))) text is in
        omega (arith, least)
    stmt-takes (SCall c s) d text is = let least : call_weight c ≤ length text = at-place s (only (call-takes c d)) text is in omega (arith, least)
    stmt-takes (SAccept a s) d text is = let least : 3 + accept_weight a ≤ length text = at-place s (accept-takes a d) text is in omega (arith, least)
    stmt-takes (SWait alts o s) d text is =
        let least : alts_weight alts + maybe_weight o ≤ length text = at-place s (behind (only (inside d (λ i. both (alts-take alts i) (else-takes o i))))) text is in
        omega (arith, least)
    stmt-takes (SConditional c l o s) d text is =
        let least : call_weight c + (stmts_weight l + stmts_weight o) ≤ length text =
        at-place s (behind (only (inside d (λ i. both (call-takes c i) (behind (both (any-take l i) (behind (some-take o i)))))))) text is in
        omega (arith, least)
    stmt-takes (STimed c l n m s) d text is =
        let least : call_weight c + (stmts_weight l + stmts_weight m) ≤ length text =
        at-place s (behind (only (inside d (λ i. both (call-takes c i) (behind (both (any-take l i) (behind (behind (any-take m i))))))))) text is in
        omega (arith, least)
    stmt-takes (SIf arms o s) d text is =
        let least : arms_weight arms + maybe_weight o ≤ length text = at-place s (behind (only (inside d (λ i. both (arms-take arms i) (else-takes o i))))) text is in
        omega (arith, least)
    stmt-takes (SCase e arms o s) d text is =
        let least : case_arms_weight arms + maybe_weight o ≤ length text =
        at-place s (behind (only (inside d (λ i. behind (behind (both (case-arms-take arms i) (others-take o i))))))) text is in
        omega (arith, least)
    stmt-takes (SBlock b s) d text is = let least : body_weight b ≤ length text = at-place s (only (inside d (λ i. body-takes b i))) text is in omega (arith, least)
    stmt-takes (SLoop w c l s) d text is =
        let least : stmts_weight l ≤ length text = at-place s (behind (only (inside d (λ i. behind (behind (some-take l i)))))) text is in
        omega (arith, least)
    stmt-takes _ d text is = omega arith

    any-take : (l : PStmts) (d : ℕ) → Takes (AnyStmts source d l) (stmts_weight l)
    any-take no_stmt d text is = omega arith
    any-take (stmt_then x l) d text is = both (stmt-takes x d) (any-take l d) text is

    some-take : (l : PStmts) (d : ℕ) → Takes (Stmts source d l) (stmts_weight l)
    some-take no_stmt d text is = absurd is
    some-take (stmt_then x l) d text is = both (stmt-takes x d) (any-take l d) text is

    else-takes : (o : PMaybe) (d : ℕ) → Takes (ElsePart source d o) (maybe_weight o)
    else-takes absent d text is = omega arith
    else-takes (present l) d text is = behind (some-take l d) text is

    others-take : (o : PMaybe) (d : ℕ) → Takes (OthersPart source d o) (maybe_weight o)
    others-take absent d text is = omega arith
    others-take (present l) d text is = behind (some-take l d) text is

    accept-takes : (a : PAccept) (d : ℕ) → Takes (IsAccept source d a) (3 + accept_weight a)
    accept-takes (accepting h absent) d text is = let least : 2 + 1 ≤ length text = at-place h.span (both (head-takes h d) (symbol-takes _)) text is in omega (arith, least)
    accept-takes (accepting h (present l)) d text is =
        let least : 2 + (1 + stmts_weight l) ≤ length text = at-place h.span (both (head-takes h d) (both (symbol-takes _) (only (inside d (some-take l))))) text is in
        omega (arith, least)

    kind-takes : (k : PAltKind) (d : ℕ) → Takes (IsAltKind source d k) (2 + kind_weight k)
    kind-takes (AAccept a l) d text is =
        let least : 3 + accept_weight a + stmts_weight l ≤ length text = inside d (λ i. both (accept-takes a i) (any-take l i)) text is in
        omega (arith, least)
    kind-takes (ADelay n l) d text is = let least : 2 + stmts_weight l ≤ length text = inside d (λ i. both (delay-takes n) (any-take l i)) text is in omega (arith, least)
    kind-takes ATerminate d text is = let least : 1 + 1 ≤ length text = both (symbol-takes _) (symbol-takes _) text is in omega (arith, least)

    alts-take : (x : PAlts) (d : ℕ) → Takes (IsAlts source d x) (alts_weight x)
    alts-take no_alt d text is = absurd is
    alts-take (alt_then (alternative g k s) l) d text is = both (at-place s (behind (kind-takes k d))) (more-alts-take l d) text is

    more-alts-take : (x : PAlts) (d : ℕ) → Takes (MoreAlts source d x) (alts_weight x)
    more-alts-take no_alt d text is = omega arith
    more-alts-take (alt_then (alternative g k s) l) d text is = behind (both (at-place s (behind (kind-takes k d))) (more-alts-take l d)) text is

    arms-take : (x : PArms) (d : ℕ) → Takes (IsArms source d x) (arms_weight x)
    arms-take no_arm d text is = absurd is
    arms-take (arm_then (arm e l) rest) d text is = both (behind (behind (some-take l d))) (more-arms-take rest d) text is

    more-arms-take : (x : PArms) (d : ℕ) → Takes (MoreArms source d x) (arms_weight x)
    more-arms-take no_arm d text is = omega arith
    more-arms-take (arm_then (arm e l) rest) d text is = behind (both (behind (behind (some-take l d))) (more-arms-take rest d)) text is

    case-arms-take : (x : PCaseArms) (d : ℕ) → Takes (IsCaseArms source d x) (case_arms_weight x)
    case-arms-take no_case_arm d text is = omega arith
    case-arms-take (case_arm_then (case_arm cs l) rest) d text is = both (behind (some-take l d)) (case-arms-take rest d) text is

    pub body-takes : (b : PBody) (d : ℕ) → Takes (IsBody source d b) (body_weight b)
    body-takes (body l hs) d text is = where-holds (behind (both (some-take l d) (handler-part-takes hs d))) text is

    handler-part-takes : (x : PHandlers) (d : ℕ) → Takes (HandlerPart source d x) (handlers_weight x)
    handler-part-takes no_handler d text is = omega arith
    handler-part-takes (handler_then (handler ws l s) rest) d text is = behind (both (at-place s (behind (inside d (some-take l)))) (handlers-take rest d)) text is

    handlers-take : (x : PHandlers) (d : ℕ) → Takes (MoreHandlers source d x) (handlers_weight x)
    handlers-take no_handler d text is = omega arith
    handlers-take (handler_then (handler ws l s) rest) d text is = both (at-place s (behind (inside d (some-take l)))) (handlers-take rest d) text is

  -- ---- declarations and units

  decl-takes : (x : PDecl) (d : ℕ) → Takes (IsDecl source d x) (decl_weight x)
  decl-takes (DTaskBody w ds b s) d text is = at-place s (behind (behind (behind (behind (behind (only (body-takes b (suc d)))))))) text is
  decl-takes _ d text is = omega arith

  decls-take : (ds : PDecls) (d : ℕ) → Takes (Decls source d ds) (decls_weight ds)
  decls-take no_decl d text is = omega arith
  decls-take (decl_then x rest) d text is = both (decl-takes x d) (decls-take rest d) text is

  -- A unit takes at least as many items as its bodies weigh.
  pub unit-takes : (u : PUnit) (d : ℕ) → Takes (IsUnit source d u) (decls_weight u.decls + body_weight u.body)
  unit-takes u d text is = behind (behind (behind (behind (both (where-holds (decls-take u.decls d)) (only (body-takes u.body (suc d))))))) text is
