-- The items of a text are one list: a token says one thing alone, since no text has two ids.
use Rattle.std.proofs.Common.{◌≡◌, ℕ, Bool, true, false, cond, List, [], ◌∷◌, ◌++◌, length, Some, slice_get, fold, refl, sym, ap, ap₂, ◌∙◌, subst, ◌⊎◌, inl, inr}
use Rattle.std.specs.List.{AllZip, list_any}
use Rattle.std.specs.Str.{bytes_eq}
use Rattle.ada_lexer.specs.declared.kinds.Token.{Token}
use Rattle.ada_lexer.specs.declared.kinds.TokenKind.{TokenKind}
use Rattle.ada_lexer.specs.declared.kinds.TokenKind.TheVariants as kinds
use Rattle.ada_lexer.proofs.Unique.{splits-unique}
use Rattle.ada_tree.specs.NameList.{predefined, interned}
use Rattle.ada_tree.proofs.Interning.{AreNames-predefined, nowhere, in_longer}
use Rattle.ada_lexer.specs.declared.symbols.Symbol.{Symbol}
use Rattle.ada_expr_parser.specs.declared.items.ItemKind.{ItemKind}
use Rattle.ada_expr_parser.specs.declared.items.ItemKind.TheVariants as item
use Rattle.ada_expr_parser.specs.declared.items.Item.{Item}
use Rattle.ada_expr_parser.specs.Items.{SaysItem, name_text, Says, IsItemOf, end_item, AreItems, interned_if, with_token, names_after}
use Rattle.ada_phrase_parser.specs.Spelling.{Source}
use Rattle.ada_parser.specs.Reads.{HasItems}

-- what a token that is no name says
abbrev said : TokenKind → ItemKind
said (kinds.Symbol s) = item.Symbol s
said (kinds.Integer n) = item.Integer n
said (kinds.Duration n) = item.Duration n
said kinds.Text = item.Text
said kinds.Name = item.End

stands_said : (kind : TokenKind) (x : ItemKind) → SaysItem kind x → said kind ≡ x
stands_said kind (item.Symbol s) is = ap said is
stands_said kind (item.Integer n) is = ap said is
stands_said kind (item.Duration n) is = ap said is
stands_said kind item.Text is = ap said is
stands_said kind (item.Name id) is = absurd is
stands_said kind item.End is = absurd is

-- no token that is a name stands for itself
no_name : (kind : TokenKind) (x : ItemKind) → kind ≡ kinds.Name → SaysItem kind x → ⊥
no_name kind (item.Symbol s) named is = (let same : kinds.Name ≡ kinds.Symbol s = sym named ∙ is in cc)
no_name kind (item.Integer n) named is = (let same : kinds.Name ≡ kinds.Integer n = sym named ∙ is in cc)
no_name kind (item.Duration n) named is = (let same : kinds.Name ≡ kinds.Duration n = sym named ∙ is in cc)
no_name kind item.Text named is = (let same : kinds.Name ≡ kinds.Text = sym named ∙ is in cc)
no_name kind (item.Name id) named is = is
no_name kind item.End named is = is

-- no text has two ids
abbrev Differ : List (List ℕ) → Type 0
Differ names = (t : List ℕ) (i j : ℕ) → slice_get names i ≡ Some t → slice_get names j ≡ Some t → i ≡ j

differ_added : (names : List (List ℕ)) (t : List ℕ) → Differ names → list_any (bytes_eq t) names ≡ false → Differ (names ++ t ∷ [])
differ_added names t differ none u i j at_i at_j = place (in_longer names t u i at_i) (in_longer names t u j at_j)
  where
    place : (slice_get names i ≡ Some u) ⊎ ((i ≡ length names) × (t ≡ u)) → (slice_get names j ≡ Some u) ⊎ ((j ≡ length names) × (t ≡ u)) → i ≡ j
    place (inl a) (inl b) = differ u i j a b
    place (inl a) (inr b) = absurd (nowhere t names i none (a ∙ ap Some (sym b.1)))
    place (inr a) (inl b) = absurd (nowhere t names j none (b ∙ ap Some (sym a.1)))
    place (inr a) (inr b) = a.0 ∙ sym b.0

differ_interned : (names : List (List ℕ)) (t : List ℕ) → Differ names → Differ (interned names t)
differ_interned names t differ = pick (list_any (bytes_eq t) names) refl
  where
    pick : (b : Bool) → list_any (bytes_eq t) names ≡ b → Differ (cond b names (names ++ t ∷ []))
    pick true is = differ
    pick false is = differ_added names t differ is

differ_if : (kind : TokenKind) (names : List (List ℕ)) (t : List ℕ) → Differ names → Differ (interned_if kind names t)
differ_if kinds.Name names t differ = differ_interned names t differ
differ_if _ names t differ = differ

differ_after : (bytes : List ℕ) (tokens : List Token) (names : List (List ℕ)) → Differ names → Differ (fold (with_token bytes) names tokens)
differ_after bytes [] names differ = differ
differ_after bytes (t ∷ tokens) names differ = differ_after bytes tokens (with_token bytes names t) (differ_if t.kind names (name_text bytes t) differ)

-- the names of a text differ
pub names_differ : (bytes : List ℕ) (tokens : List Token) → Differ (names_after bytes tokens)
names_differ bytes tokens = differ_after bytes tokens predefined AreNames-predefined.distinct

module _ (bytes : List ℕ) (names : List (List ℕ)) (differ : Differ names) where
  says_one : (token : Token) (x y : ItemKind) → Says bytes names token x → Says bytes names token y → x ≡ y
  says_one token (item.Name id) (item.Name other) one two = ap (λ n. item.Name record { 0 = n }) (differ (name_text bytes token) id.0 other.0 one.1 two.1)
  says_one token (item.Name id) y one two = absurd (no_name token.kind y one.0 two)
  says_one token x (item.Name id) one two = absurd (no_name token.kind x two.0 one)
  says_one token x y one two = sym (stands_said token.kind x one) ∙ stands_said token.kind y two

  item_one : (token : Token) (x y : Item) → IsItemOf bytes names token x → IsItemOf bytes names token y → x ≡ y
  item_one token x y one two =
      ap₂ (λ kind span. record { kind = kind; span = span }) (says_one token x.kind y.kind one.says two.says)
      (ap₂ (λ start end. record { start = start; end = end }) (one.start ∙ sym two.start) (one.end ∙ sym two.end))

  items_one : (tokens : List Token) (xs ys : List Item) → AllZip (IsItemOf bytes names) tokens xs → AllZip (IsItemOf bytes names) tokens ys → xs ≡ ys
  items_one [] [] [] one two = refl
  items_one [] [] (y ∷ ys) one two = absurd two
  items_one [] (x ∷ xs) ys one two = absurd one
  items_one (t ∷ tokens) [] ys one two = absurd one
  items_one (t ∷ tokens) (x ∷ xs) [] one two = absurd two
  items_one (t ∷ tokens) (x ∷ xs) (y ∷ ys) one two = ap₂ (λ a list. a ∷ list) (item_one t x y one.0 two.0) (items_one tokens xs ys one.1 two.1)

-- the tokens of a text are one list, and so are its names
pub names_one : (bytes : List ℕ) (s t : Source) (xs ys : List Item) → HasItems bytes s xs → HasItems bytes t ys → s ≡ t
names_one bytes s t xs ys one two =
    one.source_is ∙ ap (λ tokens. record { bytes = bytes; names = names_after bytes tokens }) (splits-unique bytes one.tokens two.tokens one.splits two.splits) ∙ sym two.source_is

items_of_one : (bytes : List ℕ) (tokens : List Token) (xs ys : List Item) → AreItems bytes (names_after bytes tokens) tokens xs → AreItems bytes (names_after bytes tokens) tokens ys → xs ≡ ys
items_of_one bytes tokens xs ys one two =
    one.2 ∙ ap (λ front. front ++ end_item bytes ∷ []) (items_one bytes (names_after bytes tokens) (names_differ bytes tokens) tokens one.0 two.0 one.1 two.1) ∙ sym two.2

are_items : (bytes : List ℕ) (s : Source) (xs : List Item) (h : HasItems bytes s xs) (tokens : List Token) → h.tokens ≡ tokens → AreItems bytes (names_after bytes tokens) tokens xs
are_items bytes s xs h tokens same =
    subst (λ t. AreItems bytes (names_after bytes t) t xs) same (subst (λ names. AreItems bytes names h.tokens xs) (ap (λ source. source.names) h.source_is) h.items_are)

-- the items of a text are one list
pub items_are_one : (bytes : List ℕ) (s t : Source) (xs ys : List Item) → HasItems bytes s xs → HasItems bytes t ys → xs ≡ ys
items_are_one bytes s t xs ys one two =
    items_of_one bytes two.tokens xs ys (are_items bytes s xs one two.tokens (splits-unique bytes one.tokens two.tokens one.splits two.splits)) (are_items bytes t ys two two.tokens refl)
