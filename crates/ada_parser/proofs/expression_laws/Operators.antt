-- The law of reading an operator behind a tree.
use Rattle.std.proofs.Common.{◌≡◌, ℕ, zero, suc, ◌≤◌, Bool, true, false, true≢false, ◌⊎◌, inl, inr, ⊎_elim, List, [], ◌∷◌, ◌++◌, Option, Some, None, refl, sym, ap, ◌∙◌, subst, arith}
use Rattle.std.specs.Prelude.{if◌then◌else◌}
use Rattle.std.proofs.lemmas.List.{append-nil}
use denote.Enum.Bare.{same_true, true_same}
use Rattle.ada_tree.specs.contracts.expressions.BinaryOp as operator_type
use Rattle.ada_tree.specs.declared.naming.Span.{Span}
use Rattle.ada_tree.specs.declared.expressions.BinaryOp.{BinaryOp}
use Rattle.ada_tree.specs.declared.expressions.BinaryOp.TheVariants.{And, Or, Xor, AndThen, OrElse, Equal, NotEqual, Less, LessEqual, Greater, GreaterEqual, Plus, Minus, Times, Divide, Mod, Rem}
use Rattle.ada_tree.specs.PlainExpr.{PExpr, EBinary}
use Rattle.ada_tree.specs.WellPlaced.{level, logical, relation, simple, term, binary_level, GoesOn}
use Rattle.ada_lexer.specs.declared.symbols.Symbol.{Symbol}
use Rattle.ada_lexer.specs.declared.symbols.Symbol.TheVariants as key
use Rattle.ada_expr_parser.specs.declared.items.ItemKind.{ItemKind}
use Rattle.ada_expr_parser.specs.declared.items.ItemKind.TheVariants as item
use Rattle.ada_expr_parser.specs.declared.items.Item.{Item}
use Rattle.ada_expr_parser.specs.declared.levels.Level.{Level}
use Rattle.ada_expr_parser.specs.declared.levels.Level.TheVariants.{Logical, Relation, Simple, Term, Factor, Primary}
use Rattle.ada_expr_parser.specs.Tests.{same, same_operator, symbol, logical_operator, relational_operator, adding_operator, multiplying_operator, operator_at, goes_on_with, may_follow, if_follows, operator_in}
use Rattle.ada_expr_parser.specs.Trees.{last_operator}
use Rattle.ada_expr_parser.specs.Reading.{short_form, is_last, operator_rest, operators}
use Rattle.ada_expr_parser.specs.Grammar.{symbol_item, infix_symbol, SpellsSecond, SpellsOperator, rank}
use Rattle.ada_expr_parser.specs.readers.Grammars.{Texts, Never, Is, One, Then, Or as Either}
use Rattle.ada_expr_parser.specs.readers.Lawful.{Careful, Lawful}
use Rattle.ada_expr_parser.proofs.readers.Binding.{law_pure}
use Rattle.ada_expr_parser.proofs.readers.Choosing.{careful_refuse, careful_on, law_on}
use Rattle.ada_expr_parser.proofs.readers.Fitting.{starts_is, starts_never, careful_fit}
use Rattle.ada_parser.proofs.expression_laws.Tokens.{none_is, symbol_is, symbol_takes}
use Rattle.ada_parser.proofs.expression_laws.Behind.{Follows, arithmetic_follows, relation_follows, follows_relation, loose_binary}
use Rattle.common_lemmas.proofs.Options.{some_same}

-- the first word of an operator as an operator of its own
abbrev pub plain_of : BinaryOp → BinaryOp
plain_of AndThen = And
plain_of OrElse = Or
plain_of op = op

-- no second word of a short-circuit form
abbrev pub IsNoSecond : Item → Type 0
IsNoSecond x = (symbol key.Then x ≡ None) × (symbol key.Else x ≡ None)

-- what is spelled behind the first word
abbrev short_texts : Symbol → BinaryOp → BinaryOp → Bool → Bool → Texts Item BinaryOp
short_texts word plain short true was_short = Is plain
short_texts word plain short false true = Either (Then (One (symbol word)) (λ at. Is short)) Never
short_texts word plain short false false = Either (Then (One (symbol word)) (λ at. Is short)) (Is plain)

law_short : (d : ℕ) (word : Symbol) (plain short : BinaryOp) (was_plain was_short : Bool) → ((x : Item) → IsNoSecond x → symbol word x ≡ None) →
    Lawful d (short_form word plain short was_plain was_short) (short_form word plain short was_plain was_short) (short_texts word plain short was_plain was_short) IsNoSecond
law_short d word plain short true was_short passed = law_pure d plain IsNoSecond
law_short d word plain short false true passed =
    law_on (λ at. law_pure d short IsNoSecond) (careful_refuse d IsNoSecond) starts_never (symbol_item word (record { start = 0; end = 0 })) (record { start = 0; end = 0 }) (symbol_takes word _)
law_short d word plain short false false passed =
    law_on (λ at. law_pure d short IsNoSecond) (law_pure d plain IsNoSecond).careful (starts_is passed) (symbol_item word (record { start = 0; end = 0 })) (record { start = 0; end = 0 }) (symbol_takes word _)

abbrev rest_texts : Option BinaryOp → BinaryOp → Texts Item BinaryOp
rest_texts last And = short_texts key.Then And AndThen (is_last And last) (is_last AndThen last)
rest_texts last Or = short_texts key.Else Or OrElse (is_last Or last) (is_last OrElse last)
rest_texts last op = Is op

law_rest : (d : ℕ) (last : Option BinaryOp) (op : BinaryOp) → Lawful d (operator_rest last op) (operator_rest last op) (rest_texts last op) IsNoSecond
law_rest d last And = law_short d key.Then And AndThen (is_last And last) (is_last AndThen last) (λ x is. is.0)
law_rest d last Or = law_short d key.Else Or OrElse (is_last Or last) (is_last OrElse last) (λ x is. is.1)
law_rest d last op = law_pure d op IsNoSecond

-- the operators that a symbol is, or begins
logical_is : (s : Symbol) (op : BinaryOp) → logical_operator s ≡ Some op → (s ≡ infix_symbol op) × (binary_level op ≡ logical) × (plain_of op ≡ op)
logical_is key.And op e = rw⁻¹ (some_same e) (refl, refl, refl)
logical_is key.Or op e = rw⁻¹ (some_same e) (refl, refl, refl)
logical_is key.Xor op e = rw⁻¹ (some_same e) (refl, refl, refl)
logical_is s op e = absurd (none_is e)

relational_is : (s : Symbol) (op : BinaryOp) → relational_operator s ≡ Some op → (s ≡ infix_symbol op) × (binary_level op ≡ relation) × (plain_of op ≡ op)
relational_is key.Equal op e = rw⁻¹ (some_same e) (refl, refl, refl)
relational_is key.NotEqual op e = rw⁻¹ (some_same e) (refl, refl, refl)
relational_is key.Less op e = rw⁻¹ (some_same e) (refl, refl, refl)
relational_is key.LessEqual op e = rw⁻¹ (some_same e) (refl, refl, refl)
relational_is key.Greater op e = rw⁻¹ (some_same e) (refl, refl, refl)
relational_is key.GreaterEqual op e = rw⁻¹ (some_same e) (refl, refl, refl)
relational_is s op e = absurd (none_is e)

adding_is : (s : Symbol) (op : BinaryOp) → adding_operator s ≡ Some op → (s ≡ infix_symbol op) × (binary_level op ≡ simple) × (plain_of op ≡ op)
adding_is key.Plus op e = rw⁻¹ (some_same e) (refl, refl, refl)
adding_is key.Minus op e = rw⁻¹ (some_same e) (refl, refl, refl)
adding_is s op e = absurd (none_is e)

multiplying_is : (s : Symbol) (op : BinaryOp) → multiplying_operator s ≡ Some op → (s ≡ infix_symbol op) × (binary_level op ≡ term) × (plain_of op ≡ op)
multiplying_is key.Star op e = rw⁻¹ (some_same e) (refl, refl, refl)
multiplying_is key.Slash op e = rw⁻¹ (some_same e) (refl, refl, refl)
multiplying_is key.Mod op e = rw⁻¹ (some_same e) (refl, refl, refl)
multiplying_is key.Rem op e = rw⁻¹ (some_same e) (refl, refl, refl)
multiplying_is s op e = absurd (none_is e)

operator_is : (l : Level) (s : Symbol) (op : BinaryOp) → operator_at l s ≡ Some op → (s ≡ infix_symbol op) × (binary_level op ≡ rank l) × (plain_of op ≡ op)
operator_is Logical s op e = logical_is s op e
operator_is Relation s op e = relational_is s op e
operator_is Simple s op e = adding_is s op e
operator_is Term s op e = multiplying_is s op e
operator_is Factor s op e = absurd (none_is e)
operator_is Primary s op e = absurd (none_is e)

pub low_binary : (op : BinaryOp) → binary_level op ≤ term
low_binary And = omega arith
low_binary op = omega arith

pub takes_operator : (l : Level) (op : BinaryOp) → binary_level op ≡ rank l → operator_at l (infix_symbol op) ≡ Some (plain_of op)
takes_operator Logical And is = refl
takes_operator Logical Or is = refl
takes_operator Logical Xor is = refl
takes_operator Logical AndThen is = refl
takes_operator Logical OrElse is = refl
takes_operator Logical op is = absurd (omega (arith, is))
takes_operator Relation Equal is = refl
takes_operator Relation NotEqual is = refl
takes_operator Relation Less is = refl
takes_operator Relation LessEqual is = refl
takes_operator Relation Greater is = refl
takes_operator Relation GreaterEqual is = refl
takes_operator Relation op is = absurd (omega (arith, is))
takes_operator Simple Plus is = refl
takes_operator Simple Minus is = refl
takes_operator Simple op is = absurd (omega (arith, is))
takes_operator Term Times is = refl
takes_operator Term Divide is = refl
takes_operator Term Mod is = refl
takes_operator Term Rem is = refl
takes_operator Term op is = absurd (omega (arith, is))
takes_operator Factor op is = let low = low_binary op in absurd (omega (arith, low, is))
takes_operator Primary op is = let low = low_binary op in absurd (omega (arith, low, is))

-- what an operator of a level is, by its test
follows_from : (l : Level) (last m : Option BinaryOp) (op : BinaryOp) → if_follows l last m ≡ Some op → (m ≡ Some op) × (may_follow l last op ≡ true)
follows_from l last (Some b) op e = may_from (may_follow l last b) refl e where
  may_from : (yes_is : Bool) → may_follow l last b ≡ yes_is → (if yes_is then Some b else None) ≡ Some op → (Some b ≡ Some op) × (may_follow l last op ≡ true)
  may_from true is e = (e, subst (λ t. may_follow l last t ≡ true) (some_same e) is)
  may_from false is e = absurd (none_is e)
follows_from l last None op e = absurd (none_is e)

pub operator_from : (l : Level) (last : Option BinaryOp) (kind : ItemKind) (op : BinaryOp) → operator_in l last kind ≡ Some op →
    (kind ≡ item.Symbol (infix_symbol op)) × (binary_level op ≡ rank l) × (plain_of op ≡ op) × (may_follow l last op ≡ true)
operator_from l last (item.Symbol s) op e =
    let (some, may) = follows_from l last (operator_at l s) op e in
    let (is, lev, plain) = operator_is l s op some in
    (ap item.Symbol is, lev, plain, may)
operator_from l last (item.Name n) op e = absurd (none_is e)
operator_from l last (item.Integer n) op e = absurd (none_is e)
operator_from l last (item.Duration n) op e = absurd (none_is e)
operator_from l last item.Text op e = absurd (none_is e)
operator_from l last item.End op e = absurd (none_is e)

-- the texts of the operators that may stand behind a tree
abbrev pub OperatorAt : Level → PExpr → BinaryOp → List Item → Type 0
OperatorAt l left op text = SpellsOperator op text × (binary_level op ≡ rank l) × Follows op left

same_operator_self : (op : BinaryOp) → same_operator op op ≡ true
unfolding same_operator
same_operator_self op = true_same operator_type.the_type op op refl

same_operator_is : (a b : BinaryOp) → same_operator a b ≡ true → a ≡ b
unfolding same_operator
same_operator_is a b e = same_true operator_type.the_type tt a b e

-- an operator of another level is not the last one
other_level : (op oq : BinaryOp) → (binary_level oq ≡ binary_level op → ⊥) → same_operator oq op ≡ false
other_level op oq other = decide_same (same_operator oq op) refl where
  decide_same : (b : Bool) → same_operator oq op ≡ b → same_operator oq op ≡ false
  decide_same true e = absurd (other (ap binary_level (same_operator_is oq op e)))
  decide_same false e = e

-- behind a chain of the same operator
chain_rest : (op : BinaryOp) (back : List Item) (e : ℕ) → binary_level op ≡ logical → SpellsSecond op back → rest_texts (Some op) (plain_of op) e op back
unfolding same_operator
chain_rest And back e is none = (refl, none)
chain_rest Or back e is none = (refl, none)
chain_rest Xor back e is none = (refl, none)
chain_rest AndThen back e is (at, one) = inl (at, back, [], sym (append-nil back), (symbol_item key.Then at, one, symbol_takes key.Then at), (refl, refl))
chain_rest OrElse back e is (at, one) = inl (at, back, [], sym (append-nil back), (symbol_item key.Else at, one, symbol_takes key.Else at), (refl, refl))
chain_rest op back e is none = absurd (omega (arith, is))

chain_goes : (op : BinaryOp) → binary_level op ≡ logical → goes_on_with (Some op) (plain_of op) ≡ true
unfolding same_operator
chain_goes And is = refl
chain_goes Or is = refl
chain_goes Xor is = refl
chain_goes AndThen is = refl
chain_goes OrElse is = refl
chain_goes op is = absurd (omega (arith, is))

chain_same : (oq b op : BinaryOp) (back : List Item) (e : ℕ) → binary_level oq ≡ logical → goes_on_with (Some oq) b ≡ true → rest_texts (Some oq) b e op back → op ≡ oq
unfolding same_operator
chain_same And And op back e is goes (same, none) = same
chain_same Or Or op back e is goes (same, none) = same
chain_same Xor Xor op back e is goes (same, none) = same
chain_same AndThen And op back e is goes (inl (at, one, more, from, token, (same, none))) = same
chain_same AndThen And op back e is goes (inr never) = absurd never
chain_same OrElse Or op back e is goes (inl (at, one, more, from, token, (same, none))) = same
chain_same OrElse Or op back e is goes (inr never) = absurd never
chain_same And b op back e is goes rest = absurd (true≢false (sym goes))
chain_same Or b op back e is goes rest = absurd (true≢false (sym goes))
chain_same Xor b op back e is goes rest = absurd (true≢false (sym goes))
chain_same AndThen b op back e is goes rest = absurd (true≢false (sym goes))
chain_same OrElse b op back e is goes rest = absurd (true≢false (sym goes))
chain_same oq b op back e is goes rest = absurd (omega (arith, is))

-- behind a tree that is no logical chain
abbrev IsFirst : Option BinaryOp → Type 0
IsFirst last = (oq : BinaryOp) → last ≡ Some oq → binary_level oq ≡ logical → ⊥

first_goes : (last : Option BinaryOp) (b : BinaryOp) → IsFirst last → goes_on_with last b ≡ true
first_goes (Some And) b first = absurd (first And refl refl)
first_goes (Some Or) b first = absurd (first Or refl refl)
first_goes (Some Xor) b first = absurd (first Xor refl refl)
first_goes (Some AndThen) b first = absurd (first AndThen refl refl)
first_goes (Some OrElse) b first = absurd (first OrElse refl refl)
first_goes last b first = refl

not_last : (op : BinaryOp) (last : Option BinaryOp) → binary_level op ≡ logical → IsFirst last → is_last op last ≡ false
not_last op (Some oq) is first = other_level op oq (λ e. first oq refl (e ∙ is))
not_last op None is first = refl

short_first : (word : Symbol) (plain short : BinaryOp) (was_plain was_short : Bool) (e : ℕ) (op : BinaryOp) (back : List Item) → was_plain ≡ false → was_short ≡ false →
    short_texts word plain short false false e op back → short_texts word plain short was_plain was_short e op back
short_first word plain short true was_short e op back one other rest = absurd (true≢false one)
short_first word plain short false true e op back one other rest = absurd (true≢false other)
short_first word plain short false false e op back one other rest = rest

first_rest : (last : Option BinaryOp) (op : BinaryOp) (back : List Item) (e : ℕ) → binary_level op ≡ logical → IsFirst last → SpellsSecond op back → rest_texts last (plain_of op) e op back
first_rest last And back e is first none = short_first key.Then And AndThen _ _ e And back (not_last And last refl first) (not_last AndThen last refl first) (inr (refl, none))
first_rest last Or back e is first none = short_first key.Else Or OrElse _ _ e Or back (not_last Or last refl first) (not_last OrElse last refl first) (inr (refl, none))
first_rest last Xor back e is first none = (refl, none)
first_rest last AndThen back e is first (at, one) = short_first key.Then And AndThen _ _ e AndThen back (not_last And last refl first) (not_last AndThen last refl first)
    (inl (at, back, [], sym (append-nil back), (symbol_item key.Then at, one, symbol_takes key.Then at), (refl, refl)))
first_rest last OrElse back e is first (at, one) = short_first key.Else Or OrElse _ _ e OrElse back (not_last Or last refl first) (not_last OrElse last refl first)
    (inl (at, back, [], sym (append-nil back), (symbol_item key.Else at, one, symbol_takes key.Else at), (refl, refl)))
first_rest last op back e is first none = absurd (omega (arith, is))

-- the tree on the left of a logical operator: a chain of that operator, or no logical chain
goes_last : (op : BinaryOp) (left : PExpr) → binary_level op ≡ logical → GoesOn op left → last_operator left ≡ Some op
goes_last And (EBinary oq l r s) is g = ap Some g.0
goes_last Or (EBinary oq l r s) is g = ap Some g.0
goes_last Xor (EBinary oq l r s) is g = ap Some g.0
goes_last AndThen (EBinary oq l r s) is g = ap Some g.0
goes_last OrElse (EBinary oq l r s) is g = ap Some g.0
goes_last And left is g = absurd g
goes_last Or left is g = absurd g
goes_last Xor left is g = absurd g
goes_last AndThen left is g = absurd g
goes_last OrElse left is g = absurd g
goes_last op left is g = absurd (omega (arith, is))

last_goes : (op : BinaryOp) (left : PExpr) → binary_level op ≡ logical → last_operator left ≡ Some op → GoesOn op left
last_goes And (EBinary oq l r s) is e = (some_same e, refl)
last_goes Or (EBinary oq l r s) is e = (some_same e, refl)
last_goes Xor (EBinary oq l r s) is e = (some_same e, refl)
last_goes AndThen (EBinary oq l r s) is e = (some_same e, refl)
last_goes OrElse (EBinary oq l r s) is e = (some_same e, refl)
last_goes And left is e = absurd (none_is e)
last_goes Or left is e = absurd (none_is e)
last_goes Xor left is e = absurd (none_is e)
last_goes AndThen left is e = absurd (none_is e)
last_goes OrElse left is e = absurd (none_is e)
last_goes op left is e = absurd (omega (arith, is))

first_if : (left : PExpr) → (level left ≡ logical → ⊥) → IsFirst (last_operator left)
first_if (EBinary op l r s) other oq e is = other (ap binary_level (some_same e) ∙ is)
first_if left other oq e is = absurd (none_is e)

decide_zero : (n : ℕ) → (n ≡ 0) ⊎ (n ≡ 0 → ⊥)
decide_zero zero = inl refl
decide_zero (suc n) = inr (λ e. omega (arith, e))

logical_goes : (op : BinaryOp) (left : PExpr) → binary_level op ≡ logical → Follows op left → goes_on_with (last_operator left) (plain_of op) ≡ true
logical_goes op left is follows = ⊎_elim
    (λ same. rw (goes_last op left is (follows (same ∙ sym is))) (chain_goes op is))
    (λ other. first_goes (last_operator left) (plain_of op) (first_if left other))
    (decide_zero (level left))

logical_rest : (op : BinaryOp) (left : PExpr) (back : List Item) (e : ℕ) → binary_level op ≡ logical → Follows op left → SpellsSecond op back → rest_texts (last_operator left) (plain_of op) e op back
logical_rest op left back e is follows spelled = ⊎_elim
    (λ same. subst (λ last. rest_texts last (plain_of op) e op back) (sym (goes_last op left is (follows (same ∙ sym is)))) (chain_rest op back e is spelled))
    (λ other. first_rest (last_operator left) op back e is (first_if left other) spelled)
    (decide_zero (level left))

logical_follows : (b op : BinaryOp) (left : PExpr) (back : List Item) (e : ℕ) → binary_level op ≡ logical → goes_on_with (last_operator left) b ≡ true → rest_texts (last_operator left) b e op back → Follows op left
logical_follows b op left back e is goes rest same =
    let (oq, last, loose) = loose_binary left logical (omega arith) (same ∙ is) in
    last_goes op left is (last ∙ ap Some (sym (chain_same oq b op back e loose
    (subst (λ m. goes_on_with m b ≡ true) last goes) (subst (λ m. rest_texts m b e op back) last rest))))

-- what was spelled behind a first word
abbrev IsLong : BinaryOp → Type 0
IsLong AndThen = Unit {0}
IsLong OrElse = Unit {0}
IsLong op = ⊥

short_and : (was_plain was_short : Bool) (e : ℕ) (op : BinaryOp) (back : List Item) → short_texts key.Then And AndThen was_plain was_short e op back → (infix_symbol op ≡ key.And) × (binary_level op ≡ logical) × SpellsSecond op back
short_and true was_short e op back (same, none) = rw same (refl, refl, none)
short_and false true e op back (inl (at, one, more, from, (k, one_is, some), (same, none))) =
    rw same (refl, refl, (at, from ∙ ap (λ l. l ++ more) one_is ∙ ap (λ l. k ∷ l) none ∙ ap (λ l. l ∷ []) (symbol_is key.Then k at some)))
short_and false true e op back (inr never) = absurd never
short_and false false e op back (inl (at, one, more, from, (k, one_is, some), (same, none))) =
    rw same (refl, refl, (at, from ∙ ap (λ l. l ++ more) one_is ∙ ap (λ l. k ∷ l) none ∙ ap (λ l. l ∷ []) (symbol_is key.Then k at some)))
short_and false false e op back (inr (same, none)) = rw same (refl, refl, none)

short_or : (was_plain was_short : Bool) (e : ℕ) (op : BinaryOp) (back : List Item) → short_texts key.Else Or OrElse was_plain was_short e op back → (infix_symbol op ≡ key.Or) × (binary_level op ≡ logical) × SpellsSecond op back
short_or true was_short e op back (same, none) = rw same (refl, refl, none)
short_or false true e op back (inl (at, one, more, from, (k, one_is, some), (same, none))) =
    rw same (refl, refl, (at, from ∙ ap (λ l. l ++ more) one_is ∙ ap (λ l. k ∷ l) none ∙ ap (λ l. l ∷ []) (symbol_is key.Else k at some)))
short_or false true e op back (inr never) = absurd never
short_or false false e op back (inl (at, one, more, from, (k, one_is, some), (same, none))) =
    rw same (refl, refl, (at, from ∙ ap (λ l. l ++ more) one_is ∙ ap (λ l. k ∷ l) none ∙ ap (λ l. l ∷ []) (symbol_is key.Else k at some)))
short_or false false e op back (inr (same, none)) = rw same (refl, refl, none)

rest_spells : (last : Option BinaryOp) (b op : BinaryOp) (e : ℕ) (back : List Item) → plain_of b ≡ b → rest_texts last b e op back → (infix_symbol op ≡ infix_symbol b) × (binary_level op ≡ binary_level b) × SpellsSecond op back
rest_spells last And op e back plain rest = short_and (is_last And last) (is_last AndThen last) e op back rest
rest_spells last Or op e back plain rest = short_or (is_last Or last) (is_last OrElse last) e op back rest
rest_spells last AndThen op e back plain rest = absurd (subst IsLong (sym plain) tt)
rest_spells last OrElse op e back plain rest = absurd (subst IsLong (sym plain) tt)
rest_spells last b op e back plain (same, none) = rw same (refl, refl, none)

plain_rest : (last : Option BinaryOp) (op : BinaryOp) (back : List Item) (e : ℕ) → 1 ≤ binary_level op → SpellsSecond op back → rest_texts last (plain_of op) e op back
plain_rest last And back e high none = absurd (omega (arith, high))
plain_rest last Or back e high none = absurd (omega (arith, high))
plain_rest last AndThen back e high none = absurd (omega (arith, high))
plain_rest last OrElse back e high none = absurd (omega (arith, high))
plain_rest last op back e high none = (refl, none)

-- which operators a test lets stand, and how the grammar has them
may_follows : (l : Level) (b op : BinaryOp) (left : PExpr) (e : ℕ) (back : List Item) → binary_level op ≡ rank l → may_follow l (last_operator left) b ≡ true → rest_texts (last_operator left) b e op back → Follows op left
may_follows Logical b op left e back is may rest = logical_follows b op left back e is may rest
may_follows Relation b op left e back is may rest = relation_follows op left is may
may_follows Simple b op left e back is may rest = arithmetic_follows op left (omega (arith, is))
may_follows Term b op left e back is may rest = arithmetic_follows op left (omega (arith, is))
may_follows Factor b op left e back is may rest = arithmetic_follows op left (omega (arith, is))
may_follows Primary b op left e back is may rest = arithmetic_follows op left (omega (arith, is))

follows_may : (l : Level) (op : BinaryOp) (left : PExpr) → binary_level op ≡ rank l → Follows op left → may_follow l (last_operator left) (plain_of op) ≡ true
follows_may Logical op left is follows = logical_goes op left is follows
follows_may Relation op left is follows = follows_relation op left is follows
follows_may Simple op left is follows = refl
follows_may Term op left is follows = refl
follows_may Factor op left is follows = refl
follows_may Primary op left is follows = refl

follows_rest : (l : Level) (op : BinaryOp) (left : PExpr) (back : List Item) (e : ℕ) → binary_level op ≡ rank l → Follows op left → SpellsSecond op back → rest_texts (last_operator left) (plain_of op) e op back
follows_rest Logical op left back e is follows spelled = logical_rest op left back e is follows spelled
follows_rest Relation op left back e is follows spelled = plain_rest (last_operator left) op back e (omega (arith, is)) spelled
follows_rest Simple op left back e is follows spelled = plain_rest (last_operator left) op back e (omega (arith, is)) spelled
follows_rest Term op left back e is follows spelled = plain_rest (last_operator left) op back e (omega (arith, is)) spelled
follows_rest Factor op left back e is follows spelled = plain_rest (last_operator left) op back e (omega (arith, is)) spelled
follows_rest Primary op left back e is follows spelled = plain_rest (last_operator left) op back e (omega (arith, is)) spelled

pub takes_in : (l : Level) (op : BinaryOp) (left : PExpr) (at : Span) → binary_level op ≡ rank l → Follows op left →
    operator_in l (last_operator left) (item.Symbol (infix_symbol op)) ≡ Some (plain_of op)
takes_in l op left at is follows = rw (takes_operator l op is) (rw (follows_may l op left is follows) refl)

-- the test of an operator of a level behind a tree
abbrev pub test_in : Level → PExpr → Item → Option BinaryOp
test_in l left x = operator_in l (last_operator left) x.kind

abbrev Read : Level → PExpr → Texts Item BinaryOp
Read l left = Either (Then (One (test_in l left)) (rest_texts (last_operator left))) Never

to_operator : (l : Level) (left : PExpr) (e : ℕ) (op : BinaryOp) (text : List Item) → Read l left e op text → OperatorAt l left op text
to_operator l left e op text (inr never) = absurd never
to_operator l left e op text (inl (b, one, back, from, (k, one_is, some), rest)) =
    let (kind, lev, plain, may) = operator_from l (last_operator left) k.kind b some in
    let (first, same_level, spelled) = rest_spells (last_operator left) b op e back plain rest in
    let token : k ≡ symbol_item (infix_symbol op) k.span = ap (λ t. record { kind = t; span = k.span }) (kind ∙ ap item.Symbol (sym first)) in
    ((k.span, back, spelled, from ∙ ap (λ t. t ++ back) one_is ∙ ap (λ t. t ∷ back) token), same_level ∙ lev, may_follows l b op left e back (same_level ∙ lev) may rest)

from_operator : (l : Level) (left : PExpr) (e : ℕ) (op : BinaryOp) (text : List Item) → OperatorAt l left op text → Read l left e op text
from_operator l left e op text ((at, back, spelled, from), lev, follows) =
    inl (plain_of op, symbol_item (infix_symbol op) at ∷ [], back, from, (symbol_item (infix_symbol op) at, refl, takes_in l op left at lev follows), follows_rest l op left back e lev follows spelled)

pub reads_operator : (l : Level) (d : ℕ) (left : PExpr) → Careful d ((operators l).operator left) ((operators l).operator left) (λ e. OperatorAt l left) IsNoSecond
reads_operator l d left = careful_fit (λ e deep op text is. to_operator l left e op text is) (λ op text is. from_operator l left d op text is)
    (careful_on (law_rest d (last_operator left)) (careful_refuse d IsNoSecond) starts_never)

-- a token that goes on begins an operator
pub begins_operator : (l : Level) (left : PExpr) (k : Item) (b : BinaryOp) → test_in l left k ≡ Some b → (op : BinaryOp) × (more : List Item) × OperatorAt l left op (k ∷ more)
begins_operator l left k b some =
    let (op, more, rest) = (law_rest 0 (last_operator left) b).some_text 0 (omega arith) in
    (op, more, to_operator l left 0 op (k ∷ more) (inl (b, k ∷ [], more, refl, (k, refl, some), rest)))
