-- What the text in a file that is printed calls for (this project's rules).
use Rattle.std.specs.Prelude.{◌≡◌, ℕ, List, ◌⊎◌}
use Rattle.ada_tree.specs.PlainProgram.{PProgram}
use Rattle.ada_tree.specs.Same.{Same}
use Rattle.ada_parser.specs.Exactly.{IsRead}
use Rattle.ada_printer.specs.ProgramText.{program_text}
use Rattle.debug_outcome.specs.Outcomes.{Outcome, writes}
use Rattle.debug_core.specs.TextFaults.{IsUnreadableText}

-- The bytes are a text of the grammar, that of one program and of no other, and this program is the same as that one: equal but for places, names by their texts.
pub record IsReadAsSame (bytes : List ℕ) (p : PProgram) : Type 0 where
  pub again : PProgram
  pub is_read : IsRead bytes again
  pub same : Same p again

-- The text is that of this program and of no other, and the outcome is the program's text in the layout, which is read back as the same program.
pub record IsPrinted (text : List ℕ) (o : Outcome) : Type 0 where
  pub program : PProgram
  pub is_read : IsRead text program
  pub read_back : IsReadAsSame (program_text program) program
  pub is : o ≡ writes (program_text program) 0

-- The bytes of a file that is printed call for this outcome.
abbrev pub PrintMeans : List ℕ → Outcome → Type 0
PrintMeans text o = IsPrinted text o ⊎ IsUnreadableText text o
