-- The law that a printed normal form is read back (this project's rule).
use Rattle.std.specs.Prelude.{ℕ, List}
use Rattle.ada_tree.specs.PlainProgram.{PProgram}
use Rattle.ada_tree.specs.Same.{Same}
use Rattle.ada_parser.specs.Reads.{Reads}
use Rattle.ada_printer.specs.ProgramText.{program_text}
use Rattle.normal_laws.specs.runs.forms.Normalisable.{made_for}
use Rattle.normal_laws.specs.existence.Laws.{IsLegalOriginal}
use Rattle.text_laws.specs.normal.Example.{calling_text, calling}
use Rattle.text_laws.specs.normal.Laws.{IsOriginalText}

-- what is printed of a program is read, as a program that is the same
abbrev pub IsReadAsSame : PProgram → Type 0
IsReadAsSame p = (q : PProgram) × Reads (program_text p) q × Same p q

-- So is the normal form of each legal program.
abbrev pub NormalIsReadBack : Type 0
NormalIsReadBack = (p : PProgram) → IsLegalOriginal p → IsReadAsSame (made_for p)

-- Where the program was read from a text within the limit, nothing is asked but that it meets the static rules of an original.
abbrev pub TextIsReadBack : Type 0
TextIsReadBack = (bytes : List ℕ) (p : PProgram) → IsOriginalText bytes p → IsReadAsSame (made_for p)

-- A text with a task and a call is so.
abbrev pub IsMet : Type 0
IsMet = IsOriginalText calling_text calling
