-- The tests of items and the items that they take.
use Rattle.std.proofs.Common.{◌≡◌, Bool, true, false, Option, Some, None, refl, sym, ap, ◌∙◌, subst, arith}
use Rattle.std.specs.Prelude.{if◌then◌else◌}
use denote.Enum.Bare.{same_true, true_same}
use Rattle.ada_lexer.specs.contracts.symbols.Symbol as symbol_type
use Rattle.ada_tree.specs.declared.naming.Span.{Span}
use Rattle.ada_tree.specs.declared.naming.Word.{Word}
use Rattle.ada_tree.specs.declared.expressions.UnaryOp.{UnaryOp}
use Rattle.ada_tree.specs.declared.expressions.UnaryOp.TheVariants as unary
use Rattle.ada_tree.specs.WellPlaced.{unary_level, simple, factor}
use Rattle.ada_lexer.specs.declared.symbols.Symbol.{Symbol}
use Rattle.ada_lexer.specs.declared.symbols.Symbol.TheVariants as key
use Rattle.ada_expr_parser.specs.declared.items.ItemKind.{ItemKind}
use Rattle.ada_expr_parser.specs.declared.items.ItemKind.TheVariants as item
use Rattle.ada_expr_parser.specs.declared.items.Item.{Item}
use Rattle.ada_expr_parser.specs.Tests.{same, symbol, symbol_in, word, word_in, Number, number, number_in, Prefix, prefix, unary_in, with_place, factor_operator, sign}
use Rattle.ada_expr_parser.specs.Grammar.{symbol_item, word_item, number_item, prefix_symbol}
use Rattle.common_lemmas.proofs.Options.{some_same}

abbrev IsFull : {A : Type 0} → Option A → Type 0
IsFull (Some x) = Unit {0}
IsFull None = ⊥

pub none_is : {A : Type 0} {x : A} → None ≡ Some x → ⊥
none_is e = subst IsFull (sym e) tt

abbrev or_else : {A : Type 0} → A → Option A → A
or_else x (Some y) = y
or_else x None = x

pub same_self : (s : Symbol) → same s s ≡ true
unfolding same
same_self s = true_same symbol_type.the_type s s refl

same_is : (s t : Symbol) → same s t ≡ true → s ≡ t
unfolding same
same_is s t e = same_true symbol_type.the_type tt s t e

-- a symbol
symbol_from : (s t : Symbol) (at b : Span) (yes_is : Bool) → same t s ≡ yes_is → (if yes_is then Some at else None) ≡ Some b → (t ≡ s) × (at ≡ b)
symbol_from s t at b true is e = (same_is t s is, some_same e)
symbol_from s t at b false is e = absurd (none_is e)

symbol_kind : (s : Symbol) (kind : ItemKind) (at b : Span) → symbol_in s kind at ≡ Some b → (kind ≡ item.Symbol s) × (at ≡ b)
symbol_kind s (item.Symbol t) at b e = let (is, place) = symbol_from s t at b (same t s) refl e in (ap item.Symbol is, place)
symbol_kind s (item.Name n) at b e = absurd (none_is e)
symbol_kind s (item.Integer n) at b e = absurd (none_is e)
symbol_kind s (item.Duration n) at b e = absurd (none_is e)
symbol_kind s item.Text at b e = absurd (none_is e)
symbol_kind s item.End at b e = absurd (none_is e)

item_from : {kind other : ItemKind} {at b : Span} → kind ≡ other → at ≡ b → ◌≡◌ {A = Item} (record { kind = kind; span = at }) (record { kind = other; span = b })
item_from {kind} {other} {at} {b} e h = rw e (rw h refl)

pub symbol_is : (s : Symbol) (k : Item) (b : Span) → symbol s k ≡ Some b → k ≡ symbol_item s b
symbol_is s k b e = let (is, place) = symbol_kind s k.kind k.span b e in item_from is place

pub symbol_takes : (s : Symbol) (at : Span) → symbol s (symbol_item s at) ≡ Some at
symbol_takes s at = rw (same_self s) refl

-- an identifier
word_kind : (kind : ItemKind) (at : Span) (w : Word) → word_in kind at ≡ Some w → record { kind = kind; span = at } ≡ word_item w
word_kind (item.Name n) at w e = ap word_item (some_same e)
word_kind (item.Symbol t) at w e = absurd (none_is e)
word_kind (item.Integer n) at w e = absurd (none_is e)
word_kind (item.Duration n) at w e = absurd (none_is e)
word_kind item.Text at w e = absurd (none_is e)
word_kind item.End at w e = absurd (none_is e)

pub word_is : (k : Item) (w : Word) → word k ≡ Some w → k ≡ word_item w
word_is k w e = word_kind k.kind k.span w e

-- an integer
abbrev of_number : Number → Item
of_number n = number_item n.value n.span

number_kind : (kind : ItemKind) (at : Span) (n : Number) → number_in kind at ≡ Some n → record { kind = kind; span = at } ≡ number_item n.value n.span
number_kind (item.Integer m) at n e = ap of_number (some_same e)
number_kind (item.Symbol t) at n e = absurd (none_is e)
number_kind (item.Name m) at n e = absurd (none_is e)
number_kind (item.Duration m) at n e = absurd (none_is e)
number_kind item.Text at n e = absurd (none_is e)
number_kind item.End at n e = absurd (none_is e)

pub number_is : (k : Item) (n : Number) → number k ≡ Some n → k ≡ number_item n.value n.span
number_is k n e = number_kind k.kind k.span n e

-- an operator with one operand
factor_operator_is : (s : Symbol) (op : UnaryOp) → factor_operator s ≡ Some op → (s ≡ prefix_symbol op) × (unary_level op ≡ factor)
factor_operator_is key.Abs op e = rw⁻¹ (some_same e) (refl, refl)
factor_operator_is key.Not op e = rw⁻¹ (some_same e) (refl, refl)
factor_operator_is s op e = absurd (none_is e)

sign_is : (s : Symbol) (op : UnaryOp) → sign s ≡ Some op → (s ≡ prefix_symbol op) × (unary_level op ≡ simple)
sign_is key.Plus op e = rw⁻¹ (some_same e) (refl, refl)
sign_is key.Minus op e = rw⁻¹ (some_same e) (refl, refl)
sign_is s op e = absurd (none_is e)

with_place_is : (m : Option UnaryOp) (at : Span) (p : Prefix) → with_place m at ≡ Some p → (m ≡ Some p.op) × (at ≡ p.span)
with_place_is (Some op) at p e = let same = some_same e in (ap (λ q. Some q.op) same, ap (λ q. q.span) same)
with_place_is None at p e = absurd (none_is e)

unary_kind : (which : Symbol → Option UnaryOp) (kind : ItemKind) (op : UnaryOp) → unary_in which kind ≡ Some op → (s : Symbol) × (kind ≡ item.Symbol s) × (which s ≡ Some op)
unary_kind which (item.Symbol s) op e = (s, refl, e)
unary_kind which (item.Name n) op e = absurd (none_is e)
unary_kind which (item.Integer n) op e = absurd (none_is e)
unary_kind which (item.Duration n) op e = absurd (none_is e)
unary_kind which item.Text op e = absurd (none_is e)
unary_kind which item.End op e = absurd (none_is e)

prefix_from : (which : Symbol → Option UnaryOp) (k : Item) (p : Prefix) → prefix which k ≡ Some p → (s : Symbol) × (k ≡ symbol_item s p.span) × (which s ≡ Some p.op)
prefix_from which k p e =
    let (some, place) = with_place_is (unary_in which k.kind) k.span p e in
    let (s, is, op) = unary_kind which k.kind p.op some in
    (s, item_from is place, op)

pub abs_or_not_is : (k : Item) (p : Prefix) → prefix factor_operator k ≡ Some p → (k ≡ symbol_item (prefix_symbol p.op) p.span) × (unary_level p.op ≡ factor)
abs_or_not_is k p e =
    let (s, is, op) = prefix_from factor_operator k p e in
    let (from, level) = factor_operator_is s p.op op in
    (is ∙ ap (λ t. symbol_item t p.span) from, level)

pub plus_or_minus_is : (k : Item) (p : Prefix) → prefix sign k ≡ Some p → (k ≡ symbol_item (prefix_symbol p.op) p.span) × (unary_level p.op ≡ simple)
plus_or_minus_is k p e =
    let (s, is, op) = prefix_from sign k p e in
    let (from, level) = sign_is s p.op op in
    (is ∙ ap (λ t. symbol_item t p.span) from, level)

pub takes_abs_or_not : (op : UnaryOp) (at : Span) → unary_level op ≡ factor → prefix factor_operator (symbol_item (prefix_symbol op) at) ≡ Some (record { op = op; span = at })
takes_abs_or_not unary.Abs at e = refl
takes_abs_or_not unary.Not at e = refl
takes_abs_or_not unary.Plus at e = absurd (omega (arith, e))
takes_abs_or_not unary.Minus at e = absurd (omega (arith, e))

pub takes_plus_or_minus : (op : UnaryOp) (at : Span) → unary_level op ≡ simple → prefix sign (symbol_item (prefix_symbol op) at) ≡ Some (record { op = op; span = at })
takes_plus_or_minus unary.Plus at e = refl
takes_plus_or_minus unary.Minus at e = refl
takes_plus_or_minus unary.Abs at e = absurd (omega (arith, e))
takes_plus_or_minus unary.Not at e = absurd (omega (arith, e))
