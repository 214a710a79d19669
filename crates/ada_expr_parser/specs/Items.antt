-- The items of a text: what each token says, with the names that the identifiers have, and the end.
use Rattle.std.specs.Prelude.{◌≡◌, ℕ, List, [], ◌∷◌, ◌++◌, fold, map, length, Some, slice_get, slice_range}
use Rattle.std.specs.List.{AllZip}
use Rattle.std.specs.Char.{to_ascii_uppercase}
use Rattle.ada_lexer.specs.declared.kinds.Token.{Token}
use Rattle.ada_lexer.specs.declared.kinds.TokenKind.{TokenKind}
use Rattle.ada_lexer.specs.declared.kinds.TokenKind.TheVariants as kinds
use Rattle.ada_tree.specs.NameList.{interned, predefined}
use Rattle.ada_expr_parser.specs.declared.items.ItemKind.{ItemKind}
use Rattle.ada_expr_parser.specs.declared.items.ItemKind.TheVariants as item
use Rattle.ada_expr_parser.specs.declared.items.Item.{Item}

-- a token of this kind that is no name says this
abbrev pub SaysItem : TokenKind → ItemKind → Type 0
SaysItem kind (item.Symbol s) = kind ≡ kinds.Symbol s
SaysItem kind (item.Integer value) = kind ≡ kinds.Integer value
SaysItem kind (item.Duration thousandths) = kind ≡ kinds.Duration thousandths
SaysItem kind item.Text = kind ≡ kinds.Text
SaysItem kind (item.Name id) = ⊥
SaysItem kind item.End = ⊥

-- an identifier in upper case: case makes no difference (2.3)
abbrev pub name_text : List ℕ → Token → List ℕ
name_text src token = map to_ascii_uppercase (slice_range src token.start token.end)

-- among these names, the token says this: an identifier is the name of its text, anything else stands for itself
abbrev pub Says : List ℕ → List (List ℕ) → Token → ItemKind → Type 0
Says src names token (item.Name id) = (token.kind ≡ kinds.Name) × (slice_get names id.0 ≡ Some (name_text src token))
Says src names token said = SaysItem token.kind said

-- the item is that of the token: it says what the token says, at its place
pub record IsItemOf (src : List ℕ) (names : List (List ℕ)) (token : Token) (x : Item) : Type 0 where
  pub says : Says src names token x.kind
  pub start : x.span.start ≡ token.start
  pub end : x.span.end ≡ token.end

-- the end of a text, an empty piece behind its last byte
abbrev pub end_item : List ℕ → Item
end_item src = record { kind = item.End; span = record { start = length src; end = length src } }

-- the items are those of the tokens, one by one, and then the end (this project's rule)
abbrev pub AreItems : List ℕ → List (List ℕ) → List Token → List Item → Type 0
AreItems src names tokens items = (front : List Item) × AllZip (IsItemOf src names) tokens front × (items ≡ front ++ end_item src ∷ [])

-- the names, with one more text where the token is a name
abbrev pub interned_if : TokenKind → List (List ℕ) → List ℕ → List (List ℕ)
interned_if kinds.Name names text = interned names text
interned_if _ names text = names

-- the names, with that of the token too where it is an identifier (2.3; this project's rule)
abbrev pub with_token : List ℕ → List (List ℕ) → Token → List (List ℕ)
with_token src names token = interned_if token.kind names (name_text src token)

-- the names of a text: the predefined ones, and then its own in the order in which they come first
abbrev pub names_after : List ℕ → List Token → List (List ℕ)
names_after src tokens = fold (with_token src) predefined tokens
