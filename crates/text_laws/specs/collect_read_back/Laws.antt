-- The laws that a collecting text can be printed, and that it is read back as it is printed (this project's rule).
use Rattle.std.specs.Prelude.{◌≡◌, ℕ, List}
use Rattle.ada_tree.specs.PlainProgram.{PProgram}
use Rattle.ada_tree.specs.WellPlaced.{IsWellPlaced}
use Rattle.ada_static_rules.specs.Refusals.{types_in}
use Rattle.ada_tree.specs.Same.{Same}
use Rattle.ada_parser.specs.Reads.{Reads}
use Rattle.ada_printer.specs.ProgramText.{program_text}
use Rattle.normal_laws.specs.runs.forms.Normalisable.{numbers_of}
use Rattle.collect_model.specs.aborts.Collecting.{collecting_tree}
use Rattle.text_laws.specs.normal.Example.{calling_text, calling}
use Rattle.text_laws.specs.normal.Laws.{IsOriginalText}

-- The bytes are the text of a legal program within the limit, and this is its collecting text.
pub record IsCollecting (bytes : List ℕ) (p text : PProgram) : Type 0 where
  pub legal : IsOriginalText bytes p
  pub is : text ≡ collecting_tree p (types_in p) (numbers_of p)

-- The text is well placed.
abbrev pub CollectIsPlaced : Type 0
CollectIsPlaced = (bytes : List ℕ) (p text : PProgram) → IsCollecting bytes p text → IsWellPlaced text

-- What is printed of it is read, as a program that is the same.
abbrev pub CollectIsReadBack : Type 0
CollectIsReadBack = (bytes : List ℕ) (p text : PProgram) → IsCollecting bytes p text → (q : PProgram) × Reads (program_text text) q × Same text q

-- A text with a task and a call is so.
abbrev pub IsMet : Type 0
IsMet = IsCollecting calling_text calling (collecting_tree calling (types_in calling) (numbers_of calling))
