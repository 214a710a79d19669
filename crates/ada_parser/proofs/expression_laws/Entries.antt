-- The laws of entry calls (9.5).
use Rattle.std.proofs.Common.{◌≡◌, ℕ, zero, suc, Bool, true, false, inl, inr, List, [], ◌∷◌, ◌++◌, Option, Some, None, refl, sym, ap, ◌∙◌, subst, arith}
use Rattle.std.specs.Prelude.{is_some, if◌then◌else◌, nat_eq}
use Rattle.std.proofs.lemmas.List.{append-nil, append_assoc}
use Rattle.ada_tree.specs.declared.naming.Span.{Span}
use Rattle.ada_tree.specs.declared.naming.Word.{Word}
use Rattle.ada_tree.specs.PlainExpr.{PExpr, EInteger}
use Rattle.ada_tree.specs.PlainStmt.{PTarget, PCallee, PArgs, PCall}
use Rattle.ada_lexer.specs.declared.symbols.Symbol.TheVariants as key
use Rattle.ada_expr_parser.specs.declared.items.Item.{Item}
use Rattle.ada_expr_parser.specs.declared.levels.Level.TheVariants.{Logical}
use Rattle.ada_expr_parser.specs.Tests.{same, symbol, word}
use Rattle.ada_expr_parser.specs.Parts as parts
use Rattle.ada_expr_parser.specs.Grammar.{symbol_item, word_item, number_item, IsTarget, AreMore, AreEnclosed, IsSecondList, AreArgs, IsCall}
use Rattle.ada_expr_parser.specs.readers.Readers.{Answer, Found, Fault, Reader, pure, bind, go_on, token, below, below_token}
use Rattle.ada_expr_parser.specs.readers.Grammars.{Texts, Is, One, Then, Or, Below, Raised, Many, Starts, first_of}
use Rattle.ada_expr_parser.specs.readers.Lawful.{Lawful}
use Rattle.ada_expr_parser.proofs.readers.Binding.{law_pure, law_bind, law_then}
use Rattle.ada_expr_parser.proofs.readers.Listing.{law_token, law_items}
use Rattle.ada_expr_parser.proofs.readers.Deepening.{law_below, law_raised}
use Rattle.ada_expr_parser.proofs.readers.Fitting.{starts_is, starts_token, starts_then, law_fit, law_same, opens_token}
use Rattle.ada_parser.specs.expression_laws.Stopping.{Ends, EndsTarget}
use Rattle.ada_parser.proofs.expression_laws.Tokens.{symbol_is, symbol_takes}
use Rattle.ada_parser.proofs.expression_laws.Primaries.{no_place, some_word, close_ends}
use Rattle.ada_parser.proofs.expression_laws.Plainly.{after_symbol, symbol_then, after_word, word_then, made, make, ExprTexts}
use Rattle.ada_parser.proofs.expression_laws.Calling.{law_inner, comma_ends, a_number, law_target}
use Rattle.common_lemmas.proofs.Options.{some_there}

-- ---- expressions with commas between

abbrev CommaTexts : Texts Item PExpr
CommaTexts = Then (One (symbol key.Comma)) (λ comma. ExprTexts Logical)

abbrev EndsList : Item → Type 0
EndsList x = Ends Logical x × (symbol key.Comma x ≡ None)

law_next : (d e : ℕ) → d ≡ suc e → Lawful e (parts.next_expr d) (parts.next_expr (suc d)) CommaTexts (Ends Logical)
law_next d e is = law_then (law_token (symbol_item key.Comma no_place) no_place (symbol_takes key.Comma no_place)) (λ comma. law_inner d e is)

comma_item : (k : Item) → parts.is_comma k ≡ true → Ends Logical k
comma_item k is = let (at, some) = some_there (symbol key.Comma k) is in subst (Ends Logical) (sym (symbol_is key.Comma k at some)) (comma_ends at)

law_more : (d e : ℕ) → d ≡ suc e → Lawful e (parts.more_exprs d) (parts.more_exprs (suc d)) (Many CommaTexts) EndsList
law_more d e is = law_items (law_next d e is) (opens_token (λ k at some. ap is_some some)) comma_item (λ x stop. stop.0) (λ x stop. ap is_some stop.1)

more_starts : (e : ℕ) → Starts e (Many CommaTexts) EndsList (Ends Logical)
more_starts e = record { begins_with = begins } where
  begins : (list : List PExpr) (text : List Item) (x : Item) → Many CommaTexts e list text → EndsList x → Ends Logical (first_of x text)
  begins [] text x none stop = rw none stop.0
  begins (a ∷ list) text x (front, back, from, one, many) stop =
      let (at, more, split, rest) = after_symbol key.Comma (λ comma. ExprTexts Logical) e a front one in
      rw from (rw split (comma_ends at))

abbrev ExprsTexts : Texts Item (List PExpr)
ExprsTexts = Then (ExprTexts Logical) (λ e. Then (Many CommaTexts) (λ more. Is (e ∷ more)))

law_exprs : (d e : ℕ) → d ≡ suc e → Lawful e (parts.exprs d) (parts.exprs (suc d)) ExprsTexts EndsList
law_exprs d e is = law_bind (law_inner d e is)
    (λ a. law_bind (law_more d e is) (λ more. law_pure e (a ∷ more) EndsList) (λ more. starts_is (λ x stop. stop)))
    (λ a. starts_then (more_starts e) (λ more. starts_is (λ x stop. stop)))

pub close_list : (at : Span) → EndsList (symbol_item key.RightParen at)
unfolding same
close_list at = (close_ends at, refl)

-- ---- lists in parentheses

abbrev HeldTexts : {A : Type 0} → (List PExpr → Texts Item A) → Texts Item A
HeldTexts Next = Then ExprsTexts (λ es. Then (One (symbol key.RightParen)) (λ close. Raised (Next es)))

abbrev EnclosedTexts : Texts Item (Option (List PExpr))
EnclosedTexts = Or (Then (One (symbol key.LeftParen)) (λ lead. Below (HeldTexts (λ es. Is (Some es))))) (Is None)

law_held : {A : Type 0} (d e : ℕ) (next next' : List PExpr → Reader Item A) (Next : List PExpr → Texts Item A) (S : Item → Type 0) → d ≡ suc e → ((es : List PExpr) → Lawful (suc e) (next es) (next' es) (Next es) S) →
    Lawful e (bind (parts.exprs d) (λ es. bind (token (symbol key.RightParen)) (λ close. next es))) (bind (parts.exprs (suc d)) (λ es. bind (token (symbol key.RightParen)) (λ close. next' es))) (HeldTexts Next) S
law_held d e next next' Next S is law = law_bind (law_exprs d e is)
    (λ es. law_then (law_token (symbol_item key.RightParen no_place) no_place (symbol_takes key.RightParen no_place)) (λ close. law_raised (law es)))
    (λ es. starts_token (λ k at some. subst EndsList (sym (symbol_is key.RightParen k at some)) (close_list at)))

some_held : {A : Type 0} (a : A) (Next : List PExpr → Texts Item A) → Next (EInteger 0 no_place ∷ []) 1 a [] → (e : ℕ) × (a : A) × (f : List Item) × HeldTexts Next e a f
some_held a Next rest = (
  0,
  a,
  number_item 0 no_place ∷ symbol_item key.RightParen no_place ∷ [],
  (
    EInteger 0 no_place ∷ [],
    number_item 0 no_place ∷ [],
    symbol_item key.RightParen no_place ∷ [],
    refl,
    (EInteger 0 no_place, number_item 0 no_place ∷ [], [], refl, a_number 0, ([], [], [], refl, refl, (refl, refl))),
    symbol_then key.RightParen (λ close. Raised (Next (EInteger 0 no_place ∷ []))) 0 a no_place [] rest,
  ),
)

law_enclosed : (d : ℕ) → Lawful d (parts.enclosed d) (parts.enclosed (suc d)) EnclosedTexts EndsTarget
law_enclosed d = law_below
    (λ e lead. bind (parts.exprs d) (λ es. bind (token (symbol key.RightParen)) (λ close. pure (Some es))))
    (λ e lead. bind (parts.exprs (suc d)) (λ es. bind (token (symbol key.RightParen)) (λ close. pure (Some es))))
    (λ lead. some_held (Some (EInteger 0 no_place ∷ [])) (λ es. Is (Some es)) (refl, refl)) d
    (λ e is lead. law_held d e (λ es. pure (Some es)) (λ es. pure (Some es)) (λ es. Is (Some es)) EndsTarget is (λ es. law_pure (suc e) (Some es) EndsTarget))
    (law_pure d None EndsTarget) (starts_is (λ x stop. stop))

-- in plain words
more_is : (e : ℕ) (list : List PExpr) (text : List Item) → Many CommaTexts e list text → AreMore (suc e) list text
more_is e [] text none = none
more_is e (a ∷ list) text (front, back, from, one, many) =
    let (at, more, split, is) = after_symbol key.Comma (λ comma. ExprTexts Logical) e a front one in
    (at, more, back, is.spells, (let low = is.nested in omega (arith, low)), more_is e list back many, from ∙ ap (λ l. l ++ back) split)

is_more : (e : ℕ) (list : List PExpr) (text : List Item) → AreMore (suc e) list text → Many CommaTexts e list text
is_more e [] text none = none
is_more e (a ∷ list) text (at, front, back, spells, low, many, from) =
    (symbol_item key.Comma at ∷ front, back, from, symbol_then key.Comma (λ comma. ExprTexts Logical) e a at front (record { spells = spells; fits = omega arith; nested = omega (arith, low) }), is_more e list back many)

-- a list in parentheses and what stands behind it
held_is : {A : Type 0} (Next : List PExpr → Texts Item A) (d : ℕ) (a : A) (text : List Item) → Then (One (symbol key.LeftParen)) (λ lead. Below (HeldTexts Next)) d a text →
    (es : List PExpr) × (front : List Item) × (back : List Item) × (text ≡ front ++ back) × AreEnclosed d es front × Next es d a back
held_is Next zero a text (lead, one, back, from, token, never) = absurd never
held_is Next (suc e) a text is =
    let (lead, body, from, (es, inside, behind, split, (first, f, g, parted, spelled, (more, m, none, whole, many, (same, empty))), shut)) = after_symbol key.LeftParen (λ lead. Below (HeldTexts Next)) (suc e) a text is in
    let (close, back, ended, rest) = after_symbol key.RightParen (λ close. Raised (Next es)) e a behind shut in
    let lines : text ≡ (symbol_item key.LeftParen lead ∷ (f ++ (m ++ symbol_item key.RightParen close ∷ []))) ++ back =
    from ∙ ap (λ l. symbol_item key.LeftParen lead ∷ l)
    (split ∙ ap (λ l. l ++ behind) (parted ∙ ap (λ l. f ++ l) (whole ∙ ap (λ l. m ++ l) empty ∙ append-nil m)) ∙ ap (λ l. (f ++ m) ++ l) ended
    ∙ append_assoc f m (symbol_item key.RightParen close ∷ back) ∙ ap (λ l. f ++ l) (sym (append_assoc m (symbol_item key.RightParen close ∷ []) back))
    ∙ sym (append_assoc f (m ++ symbol_item key.RightParen close ∷ []) back)) in (
      es,
      symbol_item key.LeftParen lead ∷ (f ++ (m ++ symbol_item key.RightParen close ∷ [])),
      back,
      lines,
      subst (λ l. AreEnclosed (suc e) l (symbol_item key.LeftParen lead ∷ (f ++ (m ++ symbol_item key.RightParen close ∷ [])))) (sym same)
          (lead, f, m, close, spelled.spells, (let low = spelled.nested in omega (arith, low)), more_is e more m many, refl),
      rest,
    )

is_held : {A : Type 0} (Next : List PExpr → Texts Item A) (d : ℕ) (a : A) (es : List PExpr) (front back : List Item) → AreEnclosed d es front → Next es d a back →
    Then (One (symbol key.LeftParen)) (λ lead. Below (HeldTexts Next)) d a (front ++ back)
is_held Next d a [] front back never rest = absurd never
is_held Next zero a (first ∷ more) front back (lead, f, m, close, spells, low, many, from) rest = absurd (omega (arith, low))
is_held Next (suc e) a (first ∷ more) front back (lead, f, m, close, spells, low, many, from) rest =
    rw from (symbol_then key.LeftParen (λ lead. Below (HeldTexts Next)) (suc e) a lead ((f ++ (m ++ symbol_item key.RightParen close ∷ [])) ++ back) (
      first ∷ more,
      f ++ m,
      symbol_item key.RightParen close ∷ back,
      append_assoc f (m ++ symbol_item key.RightParen close ∷ []) back ∙ ap (λ l. f ++ l) (append_assoc m (symbol_item key.RightParen close ∷ []) back) ∙ sym (append_assoc f m (symbol_item key.RightParen close ∷ back)),
      (first, f, m, refl, record { spells = spells; fits = omega arith; nested = omega (arith, low) }, (more, m, [], sym (append-nil m), is_more e more m many, (refl, refl))),
      symbol_then key.RightParen (λ close. Raised (Next (first ∷ more))) e a close back rest,
    ))

list_is : (d : ℕ) (m : Option (List PExpr)) (text : List Item) → EnclosedTexts d m text → IsSecondList d m text
list_is d m text (inl held) =
    let (es, front, back, from, is, (same, none)) = held_is (λ es. Is (Some es)) d m text held in
    rw same (subst (AreEnclosed d es) (sym (from ∙ ap (λ l. front ++ l) none ∙ append-nil front)) is)
list_is d m text (inr (same, none)) = rw same none

is_list : (d : ℕ) (m : Option (List PExpr)) (text : List Item) → IsSecondList d m text → EnclosedTexts d m text
is_list d None text none = inr (refl, none)
is_list d (Some es) text is = inl (subst (Then (One (symbol key.LeftParen)) (λ lead. Below (HeldTexts (λ es. Is (Some es)))) d (Some es)) (append-nil text)
    (is_held (λ es. Is (Some es)) d (Some es) es text [] is (refl, refl)))

-- ---- the lists behind an entry's name

abbrev both : List PExpr → Option (List PExpr) → Option PArgs
both first other = Some (record { first = first; second = other })

abbrev SecondTexts : List PExpr → Texts Item (Option PArgs)
SecondTexts first = Then EnclosedTexts (λ other. Is (both first other))

law_second : (d : ℕ) (first : List PExpr) → Lawful d (parts.args_behind d (Some first)) (parts.args_behind (suc d) (Some first)) (SecondTexts first) EndsTarget
law_second d first = law_bind (law_enclosed d) (λ other. law_pure d (both first other) EndsTarget) (λ other. starts_is (λ x stop. stop))

-- the lists with the second behind the first: the same reader
abbrev lists : ℕ → Reader Item (Option PArgs)
lists d = below d (symbol key.LeftParen) (λ e lead. bind (parts.exprs d) (λ es. bind (token (symbol key.RightParen)) (λ close. parts.args_behind d (Some es)))) (pure None)

close_then : (d : ℕ) (es : List PExpr) (answer : Answer Item Span) →
    go_on (go_on answer (λ close. pure (Some es))) (parts.args_behind d) ≡ go_on answer (λ close. parts.args_behind d (Some es))
close_then d es (Found close rest) = refl
close_then d es (Fault deep rest) = refl

exprs_then : (d : ℕ) (answer : Answer Item (List PExpr)) →
    go_on (go_on answer (λ es. bind (token (symbol key.RightParen)) (λ close. pure (Some es)))) (parts.args_behind d) ≡
    go_on answer (λ es. bind (token (symbol key.RightParen)) (λ close. parts.args_behind d (Some es)))
exprs_then d (Found es rest) = close_then d es (token (symbol key.RightParen) rest)
exprs_then d (Fault deep rest) = refl

zero_or : (d : ℕ) (b : Bool) (k : Item) (ts : List Item) →
    go_on (if b then Fault true (k ∷ ts) else bind (parts.exprs d) (λ es. bind (token (symbol key.RightParen)) (λ close. pure (Some es))) ts) (parts.args_behind d) ≡
    (if b then Fault true (k ∷ ts) else bind (parts.exprs d) (λ es. bind (token (symbol key.RightParen)) (λ close. parts.args_behind d (Some es))) ts)
zero_or d true k ts = refl
zero_or d false k ts = exprs_then d (parts.exprs d ts)

token_then : (d : ℕ) (m : Option Span) (k : Item) (ts : List Item) →
    go_on (below_token d m (λ e lead. bind (parts.exprs d) (λ es. bind (token (symbol key.RightParen)) (λ close. pure (Some es)))) (pure None) k ts) (parts.args_behind d) ≡
    below_token d m (λ e lead. bind (parts.exprs d) (λ es. bind (token (symbol key.RightParen)) (λ close. parts.args_behind d (Some es)))) (pure None) k ts
token_then d (Some lead) k ts = zero_or d (nat_eq d 0) k ts
token_then d None k ts = refl

lists_same : (d : ℕ) (ts : List Item) → parts.args d ts ≡ lists d ts
lists_same d [] = refl
lists_same d (k ∷ ts) = token_then d (symbol key.LeftParen k) k ts

abbrev ArgsTexts : Texts Item (Option PArgs)
ArgsTexts = Or (Then (One (symbol key.LeftParen)) (λ lead. Below (HeldTexts SecondTexts))) (Is None)

second_at : (d e : ℕ) (es : List PExpr) → d ≡ suc e → Lawful (suc e) (parts.args_behind d (Some es)) (parts.args_behind (suc d) (Some es)) (SecondTexts es) EndsTarget
second_at d e es is = subst (λ n. Lawful n (parts.args_behind d (Some es)) (parts.args_behind (suc d) (Some es)) (SecondTexts es) EndsTarget) is (law_second d es)

law_args : (d : ℕ) → Lawful d (parts.args d) (parts.args (suc d)) ArgsTexts EndsTarget
law_args d = law_same (lists_same d) (lists_same (suc d)) (law_below
    (λ e lead. bind (parts.exprs d) (λ es. bind (token (symbol key.RightParen)) (λ close. parts.args_behind d (Some es))))
    (λ e lead. bind (parts.exprs (suc d)) (λ es. bind (token (symbol key.RightParen)) (λ close. parts.args_behind (suc d) (Some es))))
    (λ lead. some_held (both (EInteger 0 no_place ∷ []) None) SecondTexts (None, [], [], refl, inr (refl, refl), (refl, refl))) d
    (λ e is lead. law_held d e (λ es. parts.args_behind d (Some es)) (λ es. parts.args_behind (suc d) (Some es)) SecondTexts EndsTarget is (λ es. second_at d e es is))
    (law_pure d None EndsTarget) (starts_is (λ x stop. stop)))

args_is : (d : ℕ) (m : Option PArgs) (text : List Item) → ArgsTexts d m text → AreArgs d m text
args_is d m text (inl held) =
    let (es, front, back, from, is, rest) = held_is SecondTexts d m text held in
    let (other, same, second) = made EnclosedTexts (both es) d m back rest in
    rw same (front, back, is, list_is d other back second, from)
args_is d m text (inr (same, none)) = rw same none

is_args : (d : ℕ) (m : Option PArgs) (text : List Item) → AreArgs d m text → ArgsTexts d m text
is_args d None text none = inr (refl, none)
is_args d (Some x) text (front, back, is, second, from) = inl (subst (Then (One (symbol key.LeftParen)) (λ lead. Below (HeldTexts SecondTexts)) d (Some x)) (sym from)
    (is_held SecondTexts d (Some x) x.first front back is (make EnclosedTexts (both x.first) d x.second back (is_list d x.second back second))))

-- ---- calls

abbrev pub of_call : PCallee → Word → Option PArgs → PCall
of_call task entry lists = record { task = task; entry = entry; args = lists }

abbrev pub EntryTexts : PCallee → Word → Texts Item PCall
EntryTexts task entry = Then ArgsTexts (λ lists. Is (of_call task entry lists))

abbrev pub CallRest : PCallee → Texts Item PCall
CallRest task = Then (One (symbol key.Dot)) (λ dot. Then (One word) (EntryTexts task))

pub law_call_rest : (d : ℕ) (task : PCallee) → Lawful d (parts.call_rest d task) (parts.call_rest (suc d) task) (CallRest task) EndsTarget
law_call_rest d task = law_then (law_token (symbol_item key.Dot no_place) no_place (symbol_takes key.Dot no_place))
    (λ dot. law_then (law_token (word_item some_word) some_word refl)
    (λ entry. law_bind (law_args d) (λ lists. law_pure d (of_call task entry lists) EndsTarget) (λ lists. starts_is (λ x stop. stop))))

pub dot_target : (at : Span) → EndsTarget (symbol_item key.Dot at)
unfolding same
dot_target at = refl

abbrev TargetTexts : Texts Item PTarget
TargetTexts d x text = IsTarget d x text

abbrev CallTexts : Texts Item PCall
CallTexts = Then TargetTexts (λ x. CallRest (parts.callee_of x))

-- what stands behind the task, in plain words
pub call_rest_is : (d : ℕ) (task : PCallee) (x : PCall) (text : List Item) → CallRest task d x text →
    (dot : Span) × (back : List Item) × (text ≡ symbol_item key.Dot dot ∷ word_item x.entry ∷ back) × (x.task ≡ task) × AreArgs d x.args back
call_rest_is d task x text behind =
    let (dot, more, dotted, next) = after_symbol key.Dot (λ dot. Then (One word) (EntryTexts task)) d x text behind in
    let (entry, back, named, last) = after_word (EntryTexts task) d x more next in
    let (lists, same, args) = made ArgsTexts (of_call task entry) d x back last in
    let whole : text ≡ symbol_item key.Dot dot ∷ word_item entry ∷ back = dotted ∙ ap (λ l. symbol_item key.Dot dot ∷ l) named in
    rw same (dot, back, whole, refl, args_is d lists back args)

pub is_call_rest : (d : ℕ) (x : PCall) (dot : Span) (back : List Item) → AreArgs d x.args back → CallRest x.task d x (symbol_item key.Dot dot ∷ word_item x.entry ∷ back)
is_call_rest d x dot back args = symbol_then key.Dot (λ dot. Then (One word) (EntryTexts x.task)) d x dot (word_item x.entry ∷ back)
    (word_then (EntryTexts x.task) d x x.entry back (make ArgsTexts (of_call x.task x.entry) d x.args back (is_args d x.args back args)))

call_spell : (d : ℕ) (x : PCall) (text : List Item) → CallTexts d x text → IsCall d x text
call_spell d x text (task, front, rest, from, is, behind) =
    let (dot, back, dotted, same, args) = call_rest_is d (parts.callee_of task) x rest behind in
    record {
      front = front;
      dot = dot;
      back = back;
      task = subst (λ t. IsTarget d (record { name = t.name; index = t.index }) front) (sym same) is;
      args = args;
      text_is = from ∙ ap (λ l. front ++ l) dotted;
    }

spell_call : (d : ℕ) (x : PCall) (text : List Item) → IsCall d x text → CallTexts d x text
spell_call d x text is = (
  record { name = x.task.name; index = x.task.index },
  is.front,
  symbol_item key.Dot is.dot ∷ word_item x.entry ∷ is.back,
  is.text_is,
  is.task,
  is_call_rest d x is.dot is.back is.args,
)

pub law_call : (d : ℕ) → Lawful d (parts.call d) (parts.call (suc d)) (λ d x text. IsCall d x text) EndsTarget
law_call d = law_fit (λ e deep x text is. call_spell e x text is) (spell_call d)
    (law_bind (law_target d) (λ task. law_call_rest d (parts.callee_of task))
    (λ task. starts_token (λ k at some. subst EndsTarget (sym (symbol_is key.Dot k at some)) (dot_target at))))
