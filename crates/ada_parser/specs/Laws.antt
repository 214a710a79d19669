-- What is true of every text that is read (this project's rule).
use Rattle.std.specs.Prelude.{◌≡◌, ℕ, List}
use Rattle.ada_tree.specs.PlainProgram.{PProgram}
use Rattle.ada_tree.specs.WellPlaced.{IsWellPlaced}
use Rattle.ada_expr_parser.specs.declared.items.Item.{Item}
use Rattle.ada_phrase_parser.specs.Spelling.{Source}
use Rattle.ada_parser.specs.Reads.{HasItems, Reads}

-- A program that is read is well placed.
abbrev pub PlacesWell : Type 0
PlacesWell = (bytes : List ℕ) (p : PProgram) → Reads bytes p → IsWellPlaced p

-- A text has one list of items and one list of names.
abbrev pub HasOneText : Type 0
HasOneText = (bytes : List ℕ) (s t : Source) (xs ys : List Item) → HasItems bytes s xs → HasItems bytes t ys → (s ≡ t) × (xs ≡ ys)
