-- The words in which the grammar is said: which lists of items are a piece of a text. Nothing here reads (this project's rule).
use Rattle.std.specs.Prelude.{◌≡◌, ℕ, zero, suc, ◌⊎◌, Bool, true, List, [], ◌∷◌, ◌++◌, Option, Some, None, drop, slice_range, codes, if◌then◌else◌}
use Rattle.std.specs.List.{list_all}
use Rattle.std.specs.Str.{bytes_eq}
use Rattle.ada_lexer.specs.Bytes.{is_printable}
use Rattle.ada_lexer.specs.Strings.{content}
use Rattle.ada_tree.specs.NameList.{predefined}
use Rattle.ada_tree.specs.declared.naming.Span.{Span}
use Rattle.ada_tree.specs.declared.naming.Word.{Word}
use Rattle.ada_lexer.specs.declared.symbols.Symbol.{Symbol}
use Rattle.ada_expr_parser.specs.declared.items.ItemKind.TheVariants as item
use Rattle.ada_expr_parser.specs.declared.items.Item.{Item}
use Rattle.ada_expr_parser.specs.Grammar.{symbol_item, word_item}
use Rattle.ada_expr_parser.specs.Trees.{from_to}

-- What the items of a text do not say themselves: its bytes, in which the strings stand, and its names.
pub record Source : Type 0 where
  pub bytes : List ℕ
  pub names : List (List ℕ)

-- which lists of items are such a piece
abbrev pub Spelling : Type 1
Spelling = List Item → Type 0

-- no item
abbrev pub Nothing : Spelling
Nothing text = text ≡ []

-- no list of items at all
abbrev pub Never : Spelling
Never text = ⊥

-- the one, and right behind it the other
infixr 50 ◌▷◌
-- a piece of the one spelling, and right after it a piece of the other (this project's notation)
abbrev pub ◌▷◌ : Spelling → Spelling → Spelling
(P ▷ Q) text = (front : List Item) × (back : List Item) × (text ≡ front ++ back) × P front × Q back

-- the one or the other
abbrev pub Either : Spelling → Spelling → Spelling
Either P Q text = P text ⊎ Q text

-- this, or nothing
abbrev pub May : Spelling → Spelling
May P = Either Nothing P

-- what is there, or nothing
abbrev pub IfThere : {A : Type 0} → Option A → (A → Spelling) → Spelling
IfThere None P = Nothing
IfThere (Some a) P = P a

-- this, where something besides is true
abbrev pub Where : Type 0 → Spelling → Spelling
Where Fact P text = Fact × P text

-- a reserved word or a delimiter
abbrev pub Key : Symbol → Spelling
Key s text = (at : Span) × (text ≡ symbol_item s at ∷ [])

-- the identifier at its place
abbrev pub Named : Word → Spelling
Named w text = text ≡ word_item w ∷ []

-- the same name once more, wherever it stands
abbrev pub Again : Word → Spelling
Again w text = (at : Span) × (text ≡ word_item record { name = w.name; span = at } ∷ [])

-- the id of a text among names: its place, or where it is not there the next one
abbrev pub id_of : List (List ℕ) → List ℕ → ℕ
id_of [] t = zero
id_of (name ∷ names) t = if bytes_eq name t then zero else suc (id_of names t)

-- an identifier with this id
abbrev pub WithId : ℕ → Spelling
WithId id text = (at : Span) × (text ≡ word_item record { name = record { 0 = id }; span = at } ∷ [])

-- a predefined name (this project's list)
abbrev pub Predefined : List ℕ → Spelling
Predefined t = WithId (id_of predefined t)

-- the identifier PRIORITY (9.8), which is no predefined name: a text that lacks it would give it the next id
abbrev pub PriorityWord : Source → Spelling
PriorityWord source = WithId (id_of source.names (codes "PRIORITY"))

-- a duration literal, in thousandths of a second (2.4, 9.6)
abbrev pub Duration : ℕ → Spelling
Duration thousandths text = (at : Span) × (text ≡ record { kind = item.Duration thousandths; span = at } ∷ [])

-- what the string literal at a place says, two marks for one (2.6)
abbrev pub said_at : Source → Span → List ℕ
said_at source at = content true (drop 1 (slice_range source.bytes at.start at.end))

-- graphic characters of ASCII and blanks alone, as every string literal of a text holds (2.1, 2.6)
abbrev pub is_graphic : List ℕ → Bool
is_graphic t = list_all is_printable t

-- the string literal at this place, which says this (2.6)
abbrev pub StringAt : Source → List ℕ → Span → Spelling
StringAt source t at text = (text ≡ record { kind = item.Text; span = at } ∷ []) × (t ≡ said_at source at) × (is_graphic t ≡ true)

-- parts, each behind this
abbrev pub Behind : {A : Type 0} → Spelling → (A → Spelling) → List A → Spelling
Behind Between Part [] = Nothing
Behind Between Part (x ∷ more) = Between ▷ Part x ▷ Behind Between Part more

-- parts with this between them, one at least
abbrev pub Separated : {A : Type 0} → Spelling → (A → Spelling) → List A → Spelling
Separated Between Part [] = Never
Separated Between Part (x ∷ more) = Part x ▷ Behind Between Part more

-- parts one after the other
abbrev pub ListOf : {A : Type 0} → (A → Spelling) → List A → Spelling
ListOf Part [] = Nothing
ListOf Part (x ∷ more) = Part x ▷ ListOf Part more

-- One level deeper: d levels may stand below this, and one less below what stands in it. Where no level is left nothing does.
abbrev pub Inside : ℕ → (ℕ → Spelling) → Spelling
Inside zero P = Never
Inside (suc d) P = P d

-- the place of the last of these items, the first of which has this place
abbrev pub last_place : Span → List Item → Span
last_place at [] = at
last_place at (x ∷ more) = last_place x.span more

-- the place of a piece goes from its first item to its last
abbrev pub IsPlaceOf : Span → List Item → Type 0
IsPlaceOf at [] = ⊥
IsPlaceOf at (x ∷ more) = at ≡ from_to x.span (last_place x.span more)

-- this, at this place
abbrev pub Placed : Span → Spelling → Spelling
Placed at P text = P text × IsPlaceOf at text
