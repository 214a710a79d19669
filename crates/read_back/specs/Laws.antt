-- What is printed is read back (this project's rule).
use Rattle.std.specs.Prelude.{◌≡◌, ℕ, List}
use Rattle.ada_tree.specs.PlainProgram.{PProgram}
use Rattle.ada_tree.specs.WellPlaced.{IsWellPlaced}
use Rattle.ada_tree.specs.Same.{Same}
use Rattle.ada_parser.specs.Reads.{Reads}
use Rattle.ada_printer.specs.ProgramText.{program_text}

-- The text of a well placed program is read as some program, and as one that is the same.
abbrev pub IsReadBack : Type 0
IsReadBack = (p : PProgram) → IsWellPlaced p → (q : PProgram) × Reads (program_text p) q × Same p q

-- So is the printed text of every program that was read.
abbrev pub IsReadAgain : Type 0
IsReadAgain = (bytes : List ℕ) (p : PProgram) → Reads bytes p → (q : PProgram) × Reads (program_text p) q × Same p q

-- Programs that are the same have one printed text.
abbrev pub PrintsAlike : Type 0
PrintsAlike = (p q : PProgram) → Same p q → program_text p ≡ program_text q
