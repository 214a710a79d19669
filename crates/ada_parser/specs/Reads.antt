-- What it is to read a text: its tokens, their items, and the unit that these spell (2.2, 10.1, this project's limit of nesting).
use Rattle.std.specs.Prelude.{◌≡◌, ℕ, Bool, true, false, List, [], ◌∷◌, ◌++◌}
use Rattle.ada_expr_parser.specs.readers.Grammars.{Texts, Begins}
use Rattle.ada_expr_parser.specs.readers.Exactness.{WholeText}
use Rattle.ada_lexer.specs.declared.kinds.Token.{Token}
use Rattle.ada_lexer.specs.Split.{Splits}
use Rattle.ada_tree.specs.PlainProgram.{PProgram}
use Rattle.ada_expr_parser.specs.declared.items.ItemKind.{ItemKind}
use Rattle.ada_expr_parser.specs.declared.items.ItemKind.TheVariants as item
use Rattle.ada_expr_parser.specs.declared.items.Item.{Item}
use Rattle.ada_expr_parser.specs.Items.{AreItems, names_after}
use Rattle.ada_phrase_parser.specs.Spelling.{Source}
use Rattle.ada_parser.specs.Units.{PUnit, Units}

-- a text is nested at most 300 deep: its own statements have the nesting 1 and the roots of their expressions 2, so that at most 298 levels stand below these
abbrev pub deepest : ℕ
deepest = 298

-- the kind is that of the end of a text (this project's rule)
abbrev pub is_end_kind : ItemKind → Bool
is_end_kind item.End = true
is_end_kind _ = false

-- the item is the end of the text
abbrev pub is_end : Item → Bool
is_end x = is_end_kind x.kind

-- a unit and then the end of the text
abbrev pub WholeTexts : Source → Texts Item PUnit
WholeTexts source = WholeText is_end (Units source)

-- the unit of a program: all of it but its names
abbrev pub program_unit : PProgram → PUnit
program_unit p = record { text_io = p.text_io; name = p.name; decls = p.decls; body = p.body }

-- the items of a text, and its bytes with its names
pub record HasItems (bytes : List ℕ) (source : Source) (items : List Item) : Type 0 where
  pub tokens : List Token
  pub splits : Splits bytes tokens
  pub source_is : source ≡ record { bytes = bytes; names = names_after bytes tokens }
  pub items_are : AreItems bytes source.names tokens items

-- The bytes are the text of the program: they split into tokens, these say items with the names in the order in which they come first, and the items are a unit with that tree, nested at most 300 deep.
pub record Reads (bytes : List ℕ) (p : PProgram) : Type 0 where
  pub items : List Item
  pub are_items : HasItems bytes record { bytes = bytes; names = p.names } items
  pub spelled : WholeTexts record { bytes = bytes; names = p.names } deepest (program_unit p) items

-- the items begin some text of the grammar, nested however deep
abbrev pub BeginsSomeText : Source → List Item → Type 0
BeginsSomeText source front = (d : ℕ) × Begins (WholeTexts source d) front

-- the items begin some text that is nested at most 300 deep
abbrev pub BeginsText : Source → List Item → Type 0
BeginsText source front = Begins (WholeTexts source deepest) front

-- an item of a text, which may be its end, with the items before it and behind it
pub record HasItemAt (bytes : List ℕ) (at : ℕ) (source : Source) (front : List Item) (x : Item) : Type 0 where
  pub rest : List Item
  pub are_items : HasItems bytes source (front ++ (x ∷ rest))
  pub place_is : x.span.start ≡ at

-- The items before the place begin some text, and with the item that stands there they begin none.
pub record SyntaxAt (bytes : List ℕ) (at : ℕ) : Type 0 where
  pub source : Source
  pub front : List Item
  pub x : Item
  pub stands : HasItemAt bytes at source front x
  pub before : BeginsText source front
  pub never : BeginsSomeText source (front ++ (x ∷ [])) → ⊥

-- The items before the place begin some text nested at most 300 deep, and with the item that stands there they begin only deeper ones, and one at least.
pub record TooDeepAt (bytes : List ℕ) (at : ℕ) : Type 0 where
  pub source : Source
  pub front : List Item
  pub x : Item
  pub stands : HasItemAt bytes at source front x
  pub before : BeginsText source front
  pub not_here : BeginsText source (front ++ (x ∷ [])) → ⊥
  pub deeper : BeginsSomeText source (front ++ (x ∷ []))
