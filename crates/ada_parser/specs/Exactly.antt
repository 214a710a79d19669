-- What it comes to that a text is read by the laws of its grammar (this project's rule): a text that has tokens is that of one program, or it is refused at one place, as in no grammar or as too deep, and never two of these.
use Rattle.std.specs.Prelude.{◌≡◌, ℕ, true, false, List}
use Rattle.ada_expr_parser.specs.readers.Readers.{Answer, Found, Fault}
use Rattle.ada_tree.specs.PlainProgram.{PProgram}
use Rattle.ada_expr_parser.specs.declared.items.Item.{Item}
use Rattle.ada_expr_parser.specs.Gives.{place}
use Rattle.ada_parser.specs.Units.{PUnit}
use Rattle.ada_parser.specs.Reads.{HasItems, Reads, SyntaxAt, TooDeepAt}
use Rattle.ada_parser.specs.inner.ReadingUnits as reading

-- the program of a unit, with the names of its text
abbrev pub program_of : List (List ℕ) → PUnit → PProgram
program_of names u = record { names = names; text_io = u.text_io; name = u.name; decls = u.decls; body = u.body }

-- the bytes are the text of this program, and of no other
pub record IsRead (bytes : List ℕ) (p : PProgram) : Type 0 where
  pub reads : Reads bytes p
  pub no_other : (q : PProgram) → Reads bytes q → q ≡ p
  pub no_syntax : (at : ℕ) → SyntaxAt bytes at → ⊥
  pub not_deep : (at : ℕ) → TooDeepAt bytes at → ⊥

-- the bytes are refused at this place as in no grammar, and nowhere else
pub record IsRefused (bytes : List ℕ) (at : ℕ) : Type 0 where
  pub here : SyntaxAt bytes at
  pub nowhere_else : (b : ℕ) → SyntaxAt bytes b → b ≡ at
  pub no_program : (p : PProgram) → Reads bytes p → ⊥
  pub not_deep : (b : ℕ) → TooDeepAt bytes b → ⊥

-- the bytes are refused at this place as too deep, and nowhere else
pub record IsTooDeepAt (bytes : List ℕ) (at : ℕ) : Type 0 where
  pub here : TooDeepAt bytes at
  pub nowhere_else : (b : ℕ) → TooDeepAt bytes b → b ≡ at
  pub no_program : (p : PProgram) → Reads bytes p → ⊥
  pub no_syntax : (b : ℕ) → SyntaxAt bytes b → ⊥

-- what an answer says of the bytes, when the names are these
abbrev pub Says : List ℕ → List (List ℕ) → Answer Item PUnit → Type 0
Says bytes names (Found u rest) = IsRead bytes (program_of names u)
Says bytes names (Fault false rest) = IsRefused bytes (place rest)
Says bytes names (Fault true rest) = IsTooDeepAt bytes (place rest)

-- the answer for the items of the bytes says what is so
abbrev pub ReadsExactly : Type 0
ReadsExactly = (bytes : List ℕ) (names : List (List ℕ)) (items : List Item) → HasItems bytes record { bytes = bytes; names = names } items → Says bytes names (reading.text record { bytes = bytes; names = names } items)
