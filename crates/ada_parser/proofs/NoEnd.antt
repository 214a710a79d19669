-- No piece of the grammar has the end of a text among its items: so what is read of a text leaves its end.
use Rattle.std.proofs.Common.{◌≡◌, ℕ, zero, suc, Bool, true, false, ⊎_elim, List, [], ◌∷◌, ◌++◌, Option, Some, None, refl, sym, subst}
use Rattle.ada_tree.specs.declared.naming.Span.{Span}
use Rattle.ada_tree.specs.declared.naming.Word.{Word}
use Rattle.ada_tree.specs.declared.expressions.BinaryOp.{BinaryOp}
use Rattle.ada_tree.specs.declared.expressions.BinaryOp.TheVariants.{And, Or, Xor, AndThen, OrElse, Equal, NotEqual, Less, LessEqual, Greater, GreaterEqual, Plus, Minus, Times, Divide, Mod, Rem}
use Rattle.ada_tree.specs.declared.statements.ParMode.{ParMode}
use Rattle.ada_tree.specs.declared.statements.ParMode.TheVariants.{Take, Give, Both}
use Rattle.ada_tree.specs.PlainExpr.{PExpr, EInteger, EName, EIndex, EAttribute, EAttributeOf, EParen, EUnary, EBinary, PBounds, PSubind, PDrange, RGiven, RMarked}
use Rattle.ada_tree.specs.PlainStmt.{PTarget, PCallee, PArgs, PCall, PFormal, PPart, PWords, PValue, PChoice, PScheme, LWhile, LFor, PHead, PStmt, SNull, SAssign, SDelay, SExit, SRaise, SAbort, SCall, SAccept, SWait, SConditional, STimed, SPut, SPutLine, SNewLine, SGet, SIf, SCase, SBlock, SLoop, PStmts, no_stmt, stmt_then, PMaybe, absent, present, PAccept, accepting, PAlt, alternative, PAltKind, AAccept, ADelay, ATerminate, PAlts, no_alt, alt_then, PArm, arm, PArms, no_arm, arm_then, PCaseArm, case_arm, PCaseArms, no_case_arm, case_arm_then, PBody, body, PHandler, handler, PHandlers, no_handler, handler_then}
use Rattle.ada_tree.specs.PlainDecl.{PShape, OPlain, OArray, PInit, IOne, IList, IOthers, PEntry, PDecl, DNumber, DObject, DEnumeration, DArray, DSubtype, DException, DIntIo, DPragma, DTask, DTaskBody, PDecls, no_decl, decl_then}
use Rattle.ada_lexer.specs.declared.symbols.Symbol.{Symbol}
use Rattle.ada_lexer.specs.declared.symbols.Symbol.TheVariants as key
use Rattle.ada_expr_parser.specs.declared.items.ItemKind.TheVariants as item
use Rattle.ada_expr_parser.specs.declared.items.Item.{Item}
use Rattle.ada_expr_parser.specs.Grammar.{symbol_item, word_item, number_item, SpellsSecond, SpellsOperator, Spells, IsBounds, IsRangeOf, IsIndex, AreMore, AreEnclosed, IsSecondList, AreArgs, IsChoiceOf}
use Rattle.ada_phrase_parser.specs.Spelling.{Source, Spelling, Nothing, ◌▷◌, Either, May, IfThere, Where, Key, Named, Again, WithId, Duration, StringAt, Behind, Separated, ListOf, Inside, Placed}
use Rattle.ada_phrase_parser.specs.Phrases.{Names, EndOf, Expression, NestedExpr, Mode, IsFormal, Formals, AcceptHead, Guard, IsPart, PutText, Choice, WhenChoices, WhenOthers, WhenRaised, Reverse, Drange, IsScheme, DelayOf}
use Rattle.ada_stmt_parser.specs.Statements.{Target, Callee, Call, IsStmt, AnyStmts, Stmts, ElsePart, OthersPart, IsAccept, IsAlt, IsAltKind, IsAlts, MoreAlts, IsArm, IsArms, MoreArms, IsCaseArm, IsCaseArms, IsBody, HandlerPart, MoreHandlers, IsHandler}
use Rattle.ada_task_parser.specs.Tasks.{IsPriority, IsEntry, Member, MEntry, MPriority, IsMember, TaskWord, TaskRest}
use Rattle.ada_parser.specs.Declarations.{Subind, ArrayOf, IsShape, IsInit, IsObject, IsInstance, UnitEnd, IsDecl, Decls}
use Rattle.ada_parser.specs.Units.{PUnit, Context, Units}
use Rattle.ada_parser.specs.Reads.{is_end}

-- no item is the end
abbrev pub Free : List Item → Type 0
Free [] = Unit {0}
Free (x ∷ more) = (is_end x ≡ false) × Free more

free_both : (front back : List Item) → Free front → Free back → Free (front ++ back)
free_both [] back one other = other
free_both (x ∷ front) back (is, one) other = (is, free_both front back one other)

-- an item with others before and behind it
pub free_item : (front : List Item) (x : Item) (back : List Item) → Free (front ++ (x ∷ back)) → is_end x ≡ false
free_item [] x back free = free.0
free_item (y ∷ front) x back free = free_item front x back free.1

-- a piece in which no item is the end
abbrev pub NoEnd : Spelling → Type 0
NoEnd P = (text : List Item) → P text → Free text

only : (x : Item) → is_end x ≡ false → NoEnd (λ text. text ≡ x ∷ [])
only x is text from = subst Free (sym from) (is, tt)

nothing : NoEnd Nothing
nothing text none = subst Free (sym none) tt

never : NoEnd (λ text. ⊥)
never text is = absurd is

then : {P Q : Spelling} → NoEnd P → NoEnd Q → NoEnd (P ▷ Q)
then one other text (front, back, from, left, right) = subst Free (sym from) (free_both front back (one front left) (other back right))

mark : (s : Symbol) → NoEnd (Key s)
mark s text (at, from) = only (symbol_item s at) refl text from

named : (w : Word) → NoEnd (Named w)
named w text from = only (word_item w) refl text from

with_id : (id : ℕ) → NoEnd (WithId id)
with_id id text (at, from) = only (word_item (record { name = record { 0 = id }; span = at })) refl text from

again : (w : Word) → NoEnd (Again w)
again w text (at, from) = only (word_item (record { name = w.name; span = at })) refl text from

duration : (n : ℕ) → NoEnd (Duration n)
duration n text (at, from) = only (record { kind = item.Duration n; span = at }) refl text from

string : (source : Source) (t : List ℕ) (at : Span) → NoEnd (StringAt source t at)
string source t at text is = only (record { kind = item.Text; span = at }) refl text is.0

either : {P Q : Spelling} → NoEnd P → NoEnd Q → NoEnd (Either P Q)
either one other text is = ⊎_elim (one text) (other text) is

may : {P : Spelling} → NoEnd P → NoEnd (May P)
may one = either nothing one

there : {A : Type 0} (P : A → Spelling) (o : Option A) → ((a : A) → NoEnd (P a)) → NoEnd (IfThere o P)
there P None each = nothing
there P (Some a) each = each a

besides : {Fact : Type 0} {P : Spelling} → NoEnd P → NoEnd (Where Fact P)
besides one text (fact, is) = one text is

standing : (s : Span) {P : Spelling} → NoEnd P → NoEnd (Placed s P)
standing s one text (is, place) = one text is

module _ {A : Type 0} (P : A → Spelling) (each : (a : A) → NoEnd (P a)) where
  behind : (s : Symbol) (list : List A) → NoEnd (Behind (Key s) P list)
  behind s [] = nothing
  behind s (a ∷ list) = then (mark s) (then (each a) (behind s list))

  separated : (s : Symbol) (list : List A) → NoEnd (Separated (Key s) P list)
  separated s [] = never
  separated s (a ∷ list) = then (each a) (behind s list)

  row : (list : List A) → NoEnd (ListOf P list)
  row [] = nothing
  row (a ∷ list) = then (each a) (row list)

inside : (d : ℕ) (P : ℕ → Spelling) → ((i : ℕ) → NoEnd (P i)) → NoEnd (Inside d P)
inside zero P each = never
inside (suc d) P each = each d

-- ---- expressions

second : (op : BinaryOp) → NoEnd (SpellsSecond op)
second AndThen = λ text (at, from). only (symbol_item key.Then at) refl text from
second OrElse = λ text (at, from). only (symbol_item key.Else at) refl text from
second And = nothing
second Or = nothing
second Xor = nothing
second Equal = nothing
second NotEqual = nothing
second Less = nothing
second LessEqual = nothing
second Greater = nothing
second GreaterEqual = nothing
second Plus = nothing
second Minus = nothing
second Times = nothing
second Divide = nothing
second Mod = nothing
second Rem = nothing

operator : (op : BinaryOp) → NoEnd (SpellsOperator op)
operator op text (at, more, is, from) = subst Free (sym from) (refl, second op more is)

closed : (part : List Item) (close : Span) → Free part → Free (part ++ symbol_item key.RightParen close ∷ [])
closed part close free = free_both part (symbol_item key.RightParen close ∷ []) free (refl, tt)

spelled : (e : PExpr) → NoEnd (Spells e)
spelled (EInteger n s) text from = only (number_item n s) refl text from
spelled (EName a s) text from = subst Free (sym from) (refl, tt)
spelled (EIndex w e s) text (part, lead, close, is, from, place) = subst Free (sym from) (refl, (refl, closed part close (spelled e part is)))
spelled (EAttribute m w s) text (tick, from, place) = subst Free (sym from) (refl, (refl, (refl, tt)))
spelled (EAttributeOf m w e s) text (part, tick, lead, close, is, from, place) = subst Free (sym from) (refl, (refl, (refl, (refl, closed part close (spelled e part is)))))
spelled (EParen e s) text (part, lead, close, is, from, place) = subst Free (sym from) (refl, closed part close (spelled e part is))
spelled (EUnary op e s) text (part, at, is, fits, from, place) = subst Free (sym from) (refl, spelled e part is)
spelled (EBinary op l r s) text (front, sign, back, left, is, right, fits, from, place) =
    subst Free (sym from) (free_both front (sign ++ back) (spelled l front left) (free_both sign back (operator op sign is) (spelled r back right)))

expression : (d : ℕ) (e : PExpr) → NoEnd (Expression d e)
expression d e text is = spelled e text is.spells

operand : (d : ℕ) (e : PExpr) → NoEnd (NestedExpr d e)
operand d e = inside d (λ i. Expression i e) (λ i. expression i e)

bounds : (d : ℕ) (b : PBounds) → NoEnd (IsBounds d b)
bounds d b text is = subst Free (sym is.text_is) (free_both is.front (symbol_item key.DotDot is.at ∷ is.back) (spelled b.first is.front is.first.spells) (refl, spelled b.last is.back is.last.spells))

range_of : (d : ℕ) (b : Option PBounds) → NoEnd (IsRangeOf d b)
range_of d None = nothing
range_of d (Some b) = λ text (at, back, is, from). subst Free (sym from) (refl, bounds d b back is)

subind : (d : ℕ) (x : PSubind) → NoEnd (Subind d x)
subind d x text is = subst Free (sym is.text_is) (refl, range_of d x.bounds is.back is.bounds)

drange : (d : ℕ) (x : PDrange) → NoEnd (Drange d x)
drange d (RGiven b) = bounds d b
drange d (RMarked x) = subind d x

index : (d : ℕ) (e : Option PExpr) → NoEnd (IsIndex d e)
index d None = nothing
index d (Some e) = λ text is. subst Free (sym is.text_is) (refl, closed is.part is.close (spelled e is.part is.spells))

target : (d : ℕ) (x : PTarget) → NoEnd (Target d x)
target d x text is = subst Free (sym is.text_is) (refl, index d x.index is.back is.index)

callee : (d : ℕ) (x : PCallee) → NoEnd (Callee d x)
callee d x = target d (record { name = x.name; index = x.index })

more : (d : ℕ) (es : List PExpr) → NoEnd (AreMore d es)
more d [] = nothing
more d (e ∷ es) = λ text (at, front, back, is, low, many, from). subst Free (sym from) (refl, free_both front back (spelled e front is) (more d es back many))

enclosed : (d : ℕ) (es : List PExpr) → NoEnd (AreEnclosed d es)
enclosed d [] = never
enclosed d (e ∷ es) = λ text (lead, front, back, close, is, low, many, from).
    subst Free (sym from) (refl, free_both front (back ++ symbol_item key.RightParen close ∷ []) (spelled e front is) (closed back close (more d es back many)))

second_list : (d : ℕ) (es : Option (List PExpr)) → NoEnd (IsSecondList d es)
second_list d None = nothing
second_list d (Some es) = enclosed d es

args : (d : ℕ) (x : Option PArgs) → NoEnd (AreArgs d x)
args d None = nothing
args d (Some x) = λ text (front, back, is, other, from). subst Free (sym from) (free_both front back (enclosed d x.first front is) (second_list d x.second back other))

call : (d : ℕ) (x : PCall) → NoEnd (Call d x)
call d x text is = subst Free (sym is.text_is) (free_both is.front (symbol_item key.Dot is.dot ∷ word_item x.entry ∷ is.back) (callee d x.task is.front is.task) (refl, (refl, args d x.args is.back is.args)))

choice_of : (d : ℕ) (first : PExpr) (last : Option PExpr) → NoEnd (IsChoiceOf d first last)
choice_of d first None = expression d first
choice_of d first (Some last) = bounds d (record { first = first; last = last })

choice : (d : ℕ) (x : PChoice) → NoEnd (Choice d x)
choice d x = choice_of d x.first x.last

-- ---- pieces of statements

names : (ws : List Word) → NoEnd (Names ws)
names ws = separated Named named key.Comma ws

end_of : (w : Word) → NoEnd (EndOf w)
end_of w = then (mark key.End) (then (may (again w)) (mark key.Semicolon))

mode : (m : ParMode) → NoEnd (Mode m)
mode Take = may (mark key.In)
mode Give = mark key.Out
mode Both = then (mark key.In) (mark key.Out)

formal : (x : PFormal) → NoEnd (IsFormal x)
formal x = then (names x.names) (then (mark key.Colon) (then (mode x.mode) (named x.mark)))

formals : (fs : List PFormal) → NoEnd (Formals fs)
formals [] = nothing
formals (x ∷ fs) = then (mark key.LeftParen) (then (separated IsFormal formal key.Semicolon (x ∷ fs)) (mark key.RightParen))

head : (d : ℕ) (x : PHead) → NoEnd (AcceptHead d x)
head d x = then (mark key.Accept) (then (named x.entry) (then (index d x.index) (formals x.formals)))

guard : (d : ℕ) (g : Option PExpr) → NoEnd (Guard d g)
guard d g = there (λ e. Key key.When ▷ NestedExpr d e ▷ Key key.Arrow) g (λ e. then (mark key.When) (then (operand d e) (mark key.Arrow)))

part : (source : Source) (d : ℕ) (x : PPart) → NoEnd (IsPart source d x)
part source d (PWords t at) = string source t at
part source d (PValue e) = operand d e

put_text : (source : Source) (d : ℕ) (xs : List PPart) → NoEnd (PutText source d xs)
put_text source d xs = then (mark key.LeftParen) (then (separated (IsPart source d) (part source d) key.Ampersand xs) (mark key.RightParen))

when_choices : (d : ℕ) (xs : List PChoice) → NoEnd (WhenChoices d xs)
when_choices d xs = then (mark key.When) (then (separated (Choice d) (choice d) key.Bar xs) (mark key.Arrow))

when_others : NoEnd WhenOthers
when_others = then (mark key.When) (then (mark key.Others) (mark key.Arrow))

when_raised : (ws : List Word) → NoEnd (WhenRaised ws)
when_raised [] = when_others
when_raised (w ∷ ws) = then (mark key.When) (then (separated Named named key.Bar (w ∷ ws)) (mark key.Arrow))

reverse : (b : Bool) → NoEnd (Reverse b)
reverse true = mark key.Reverse
reverse false = nothing

scheme : (d : ℕ) (x : PScheme) → NoEnd (IsScheme d x)
scheme d (LWhile e) = then (mark key.While) (expression d e)
scheme d (LFor w backwards x) = then (mark key.For) (then (named w) (then (mark key.In) (then (reverse backwards) (drange d x))))

delay_of : (n : ℕ) → NoEnd (DelayOf n)
delay_of n = then (mark key.Delay) (then (duration n) (mark key.Semicolon))

-- ---- statements

module _ (source : Source) where
  mutual
    stmt : (d : ℕ) (x : PStmt) → NoEnd (IsStmt source d x)
    stmt d (SNull s) = standing s (then (mark key.Null) (mark key.Semicolon))
    stmt d (SAssign x e s) = standing s (then (target d x) (then (mark key.Becomes) (then (operand d e) (mark key.Semicolon))))
    stmt d (SDelay n s) = standing s (delay_of n)
    stmt d (SExit w e s) = standing s (then (mark key.Exit) (then (there Named w named) (then (there (λ test. Key key.When ▷ NestedExpr d test) e (λ test. then (mark key.When) (operand d test))) (mark key.Semicolon))))
    stmt d (SRaise w s) = standing s (then (mark key.Raise) (then (there Named w named) (mark key.Semicolon)))
    stmt d (SAbort tasks s) = standing s (then (mark key.Abort) (then (separated (Callee d) (callee d) key.Comma tasks) (mark key.Semicolon)))
    stmt d (SCall c s) = standing s (then (call d c) (mark key.Semicolon))
    stmt d (SAccept a s) = standing s (accept d a)
    stmt d (SWait xs o s) = standing s (then (mark key.Select) (then (inside d (λ i. IsAlts source i xs ▷ ElsePart source i o) (λ i. then (alts i xs) (else_part i o))) (then (mark key.End) (then (mark key.Select) (mark key.Semicolon)))))
    stmt d (SConditional c l o s) = standing s (then (mark key.Select) (then
        (inside d (λ i. Call i c ▷ Key key.Semicolon ▷ AnyStmts source i l ▷ Key key.Else ▷ Stmts source i o) (λ i. then (call i c) (then (mark key.Semicolon) (then (any_stmts i l) (then (mark key.Else) (stmts i o))))))
        (then (mark key.End) (then (mark key.Select) (mark key.Semicolon)))))
    stmt d (STimed c l n m s) = standing s (then (mark key.Select) (then
        (inside d (λ i. Call i c ▷ Key key.Semicolon ▷ AnyStmts source i l ▷ Key key.Or ▷ DelayOf n ▷ AnyStmts source i m)
        (λ i. then (call i c) (then (mark key.Semicolon) (then (any_stmts i l) (then (mark key.Or) (then (delay_of n) (any_stmts i m)))))))
        (then (mark key.End) (then (mark key.Select) (mark key.Semicolon)))))
    stmt d (SPut xs s) = standing s (then (with_id _) (then (put_text source d xs) (mark key.Semicolon)))
    stmt d (SPutLine xs s) = standing s (then (with_id _) (then (put_text source d xs) (mark key.Semicolon)))
    stmt d (SNewLine s) = standing s (then (with_id _) (mark key.Semicolon))
    stmt d (SGet x s) = standing s (then (with_id _) (then (mark key.LeftParen) (then (target d x) (then (mark key.RightParen) (mark key.Semicolon)))))
    stmt d (SIf xs o s) = standing s (then (mark key.If) (then (inside d (λ i. IsArms source i xs ▷ ElsePart source i o) (λ i. then (arms i xs) (else_part i o))) (then (mark key.End) (then (mark key.If) (mark key.Semicolon)))))
    stmt d (SCase e xs o s) = standing s (then (mark key.Case) (then
        (inside d (λ i. Expression i e ▷ Key key.Is ▷ IsCaseArms source i xs ▷ OthersPart source i o) (λ i. then (expression i e) (then (mark key.Is) (then (case_arms i xs) (others_part i o)))))
        (then (mark key.End) (then (mark key.Case) (mark key.Semicolon)))))
    stmt d (SBlock b s) = standing s (then (inside d (λ i. IsBody source i b) (λ i. content i b)) (then (mark key.End) (mark key.Semicolon)))
    stmt d (SLoop w c l s) = standing s (then (there (λ v. Named v ▷ Key key.Colon) w (λ v. then (named v) (mark key.Colon))) (then
        (inside d (λ i. IfThere c (IsScheme i) ▷ Key key.Loop ▷ Stmts source i l) (λ i. then (there (IsScheme i) c (scheme i)) (then (mark key.Loop) (stmts i l))))
        (then (mark key.End) (then (mark key.Loop) (then (there Again w again) (mark key.Semicolon))))))

    any_stmts : (d : ℕ) (l : PStmts) → NoEnd (AnyStmts source d l)
    any_stmts d no_stmt = nothing
    any_stmts d (stmt_then x l) = then (stmt d x) (any_stmts d l)

    stmts : (d : ℕ) (l : PStmts) → NoEnd (Stmts source d l)
    stmts d no_stmt = never
    stmts d (stmt_then x l) = then (stmt d x) (any_stmts d l)

    else_part : (d : ℕ) (o : PMaybe) → NoEnd (ElsePart source d o)
    else_part d absent = nothing
    else_part d (present l) = then (mark key.Else) (stmts d l)

    others_part : (d : ℕ) (o : PMaybe) → NoEnd (OthersPart source d o)
    others_part d absent = nothing
    others_part d (present l) = then when_others (stmts d l)

    accept : (d : ℕ) (a : PAccept) → NoEnd (IsAccept source d a)
    accept d (accepting h absent) = standing h.span (then (head d h) (mark key.Semicolon))
    accept d (accepting h (present l)) = standing h.span (then (head d h) (then (mark key.Do) (then (inside d (λ i. Stmts source i l) (λ i. stmts i l)) (end_of h.entry))))

    alt : (d : ℕ) (x : PAlt) → NoEnd (IsAlt source d x)
    alt d (alternative g x s) = standing s (then (guard d g) (alt_kind d x))

    alt_kind : (d : ℕ) (x : PAltKind) → NoEnd (IsAltKind source d x)
    alt_kind d (AAccept a l) = inside d (λ i. IsAccept source i a ▷ AnyStmts source i l) (λ i. then (accept i a) (any_stmts i l))
    alt_kind d (ADelay n l) = inside d (λ i. DelayOf n ▷ AnyStmts source i l) (λ i. then (delay_of n) (any_stmts i l))
    alt_kind d ATerminate = then (mark key.Terminate) (mark key.Semicolon)

    alts : (d : ℕ) (xs : PAlts) → NoEnd (IsAlts source d xs)
    alts d no_alt = never
    alts d (alt_then x l) = then (alt d x) (more_alts d l)

    more_alts : (d : ℕ) (xs : PAlts) → NoEnd (MoreAlts source d xs)
    more_alts d no_alt = nothing
    more_alts d (alt_then x l) = then (mark key.Or) (then (alt d x) (more_alts d l))

    an_arm : (d : ℕ) (x : PArm) → NoEnd (IsArm source d x)
    an_arm d (arm e l) = then (expression d e) (then (mark key.Then) (stmts d l))

    arms : (d : ℕ) (xs : PArms) → NoEnd (IsArms source d xs)
    arms d no_arm = never
    arms d (arm_then x l) = then (an_arm d x) (more_arms d l)

    more_arms : (d : ℕ) (xs : PArms) → NoEnd (MoreArms source d xs)
    more_arms d no_arm = nothing
    more_arms d (arm_then x l) = then (mark key.Elsif) (then (an_arm d x) (more_arms d l))

    a_case_arm : (d : ℕ) (x : PCaseArm) → NoEnd (IsCaseArm source d x)
    a_case_arm d (case_arm choices l) = then (when_choices d choices) (stmts d l)

    case_arms : (d : ℕ) (xs : PCaseArms) → NoEnd (IsCaseArms source d xs)
    case_arms d no_case_arm = nothing
    case_arms d (case_arm_then x l) = then (a_case_arm d x) (case_arms d l)

    content : (d : ℕ) (b : PBody) → NoEnd (IsBody source d b)
    content d (body l hs) = besides (then (mark key.Begin) (then (stmts d l) (handler_part d hs)))

    handler_part : (d : ℕ) (hs : PHandlers) → NoEnd (HandlerPart source d hs)
    handler_part d no_handler = nothing
    handler_part d (handler_then x l) = then (mark key.Exception) (then (a_handler d x) (more_handlers d l))

    more_handlers : (d : ℕ) (hs : PHandlers) → NoEnd (MoreHandlers source d hs)
    more_handlers d no_handler = nothing
    more_handlers d (handler_then x l) = then (a_handler d x) (more_handlers d l)

    a_handler : (d : ℕ) (x : PHandler) → NoEnd (IsHandler source d x)
    a_handler d (handler ws l s) = standing s (then (when_raised ws) (inside d (λ i. Stmts source i l) (λ i. stmts i l)))

  -- ---- tasks and declarations

  priority : (d : ℕ) (e : PExpr) → NoEnd (IsPriority source d e)
  priority d e = then (mark key.Pragma) (then (with_id _) (then (mark key.LeftParen) (then (expression d e) (then (mark key.RightParen) (mark key.Semicolon)))))

  entry : (d : ℕ) (x : PEntry) → NoEnd (IsEntry d x)
  entry d x = standing x.span (then (mark key.Entry) (then (named x.name) (then
      (there (λ r. Key key.LeftParen ▷ Drange d r ▷ Key key.RightParen) x.family (λ r. then (mark key.LeftParen) (then (drange d r) (mark key.RightParen))))
      (then (formals x.formals) (mark key.Semicolon)))))

  member : (d : ℕ) (m : Member) → NoEnd (IsMember source d m)
  member d (MEntry x) = entry d x
  member d (MPriority e) = priority d e

  task_word : (k : Bool) → NoEnd (TaskWord k)
  task_word true = then (mark key.Task) (mark key.«Type»)
  task_word false = mark key.Task

  task_rest : (d : ℕ) (w : Word) (ms : List Member) → NoEnd (TaskRest source d w ms)
  task_rest d w [] = either (mark key.Semicolon) (then (mark key.Is) (end_of w))
  task_rest d w (m ∷ ms) = then (mark key.Is) (then (row (IsMember source d) (member d) (m ∷ ms)) (end_of w))

  array_of : (d : ℕ) (r : PDrange) (x : PSubind) → NoEnd (ArrayOf d r x)
  array_of d r x = then (mark key.Array) (then (mark key.LeftParen) (then (drange d r) (then (mark key.RightParen) (then (mark key.Of) (subind d x)))))

  shape : (d : ℕ) (x : PShape) → NoEnd (IsShape d x)
  shape d (OPlain x) = subind d x
  shape d (OArray r x) = array_of d r x

  init : (d : ℕ) (i : PInit) → NoEnd (IsInit d i)
  init d (IOne e) = expression d e
  init d (IList es s) = standing s (besides (enclosed (suc d) es))
  init d (IOthers e s) = standing s (then (mark key.LeftParen) (then (mark key.Others) (then (mark key.Arrow) (then (expression d e) (mark key.RightParen)))))

  object : (d : ℕ) (c : Bool) (x : PShape) (i : Option PInit) → NoEnd (IsObject d c x i)
  object d false x i = then (shape d x) (there (λ y. Key key.Becomes ▷ IsInit d y) i (λ y. then (mark key.Becomes) (init d y)))
  object d true x None = never
  object d true x (Some i) = then (mark key.Constant) (then (shape d x) (then (mark key.Becomes) (init d i)))

  instance : (w : Word) → NoEnd (IsInstance w)
  instance w = then (mark key.Package) (then (named w) (then (mark key.Is) (then (mark key.New) (then (may (then (with_id _) (mark key.Dot))) (then (with_id _) (then (mark key.LeftParen) (then (with_id _)
      (then (mark key.RightParen) (then (mark key.Semicolon) (then (mark key.Use) (then (again w) (mark key.Semicolon))))))))))))

  unit_end : (d : ℕ) (w : Word) (b : PBody) → NoEnd (UnitEnd source d w b)
  unit_end d w b = then (content d b) (end_of w)

  mutual
    decl : (d : ℕ) (x : PDecl) → NoEnd (IsDecl source d x)
    decl d (DNumber w e s) = standing s (then (named w) (then (mark key.Colon) (then (mark key.Constant) (then (mark key.Becomes) (then (expression d e) (mark key.Semicolon))))))
    decl d (DObject ws c x i s) = standing s (then (names ws) (then (mark key.Colon) (then (object d c x i) (mark key.Semicolon))))
    decl d (DEnumeration w ws s) = standing s (then (mark key.«Type») (then (named w) (then (mark key.Is) (then (mark key.LeftParen) (then (names ws) (then (mark key.RightParen) (mark key.Semicolon)))))))
    decl d (DArray w r x s) = standing s (then (mark key.«Type») (then (named w) (then (mark key.Is) (then (array_of d r x) (mark key.Semicolon)))))
    decl d (DSubtype w x s) = standing s (then (mark key.Subtype) (then (named w) (then (mark key.Is) (then (subind d x) (mark key.Semicolon)))))
    decl d (DException ws s) = standing s (then (names ws) (then (mark key.Colon) (then (mark key.Exception) (mark key.Semicolon))))
    decl d (DIntIo w s) = standing s (instance w)
    decl d (DPragma e s) = standing s (priority d e)
    decl d (DTask t s) = λ text ((ms, are, is), place). then (task_word t.of_kind) (then (named t.name) (task_rest d t.name ms)) text is
    decl d (DTaskBody w ds b s) = standing s (then (mark key.Task) (then (mark key.Body) (then (named w) (then (mark key.Is) (then (besides (decls d ds)) (unit_end (suc d) w b))))))

    decls : (d : ℕ) (ds : PDecls) → NoEnd (Decls source d ds)
    decls d no_decl = nothing
    decls d (decl_then x l) = then (decl d x) (decls d l)

  context : (b : Bool) → NoEnd (Context b)
  context false = nothing
  context true = then (mark key.With) (then (with_id _) (then (mark key.Semicolon) (then (mark key.Use) (then (with_id _) (mark key.Semicolon)))))

  -- no text of a unit has the end among its items
  pub unit_free : (d : ℕ) (p : PUnit) → NoEnd (Units source d p)
  unit_free d p = then (context p.text_io) (then (mark key.Procedure) (then (named p.name) (then (mark key.Is) (then (besides (decls d p.decls)) (unit_end (suc d) p.name p.body)))))
