-- What the readers find next in a file: a line without a fault, and the bytes behind it (this project's format).
use Rattle.std.specs.Prelude.{◌≡◌, ◌++◌, ◌∷◌, [], ℕ, List, length, Some, None}
use Rattle.std.specs.List.{concat}
use Rattle.syn_event.specs.Numbering.{Numbering}
use Rattle.seq_file.specs.text_lines.Lines.{is_line_end, cut}
use Rattle.input_file.specs.ChoiceFiles.{choices_of_line, choice_fault}
use Rattle.input_file.specs.InputFiles.{InputLine, input_of_line, input_fault}
use Rattle.input_file.specs.inner.Tables.{IsTableOf}
use Rattle.input_file.specs.declared.table.Table.{Table}

-- the rest of a file begins with a line of choices that has no fault behind these lines, and with it these are all choices
pub record IsNextChoices (before : List (List ℕ)) (rest choices behind : List ℕ) : Type 0 where
  pub line : List ℕ
  pub added : List ℕ
  pub cuts : cut is_line_end rest ≡ Some (line, behind)
  pub writes : choices_of_line line ≡ Some added
  pub sound : choice_fault before (Some added) ≡ None
  pub all : choices ≡ concat (before ++ (added ∷ []))

-- the rest of a file begins with a line of inputs that has no fault behind these lines, and with it the table has all inputs
pub record IsNextInputs (numbers : Numbering) (before : List InputLine) (rest : List ℕ) (table : Table) (behind : List ℕ) : Type 0 where
  pub line : List ℕ
  pub added : InputLine
  pub cuts : cut is_line_end rest ≡ Some (line, behind)
  pub writes : input_of_line line ≡ Some added
  pub sound : input_fault numbers before (Some added) ≡ None
  pub all : IsTableOf (length numbers.tasks) (before ++ (added ∷ [])) table
