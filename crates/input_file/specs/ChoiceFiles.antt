-- Choice files: which choices a file is read as, and the first fault of a file (this project's format).
use Rattle.std.specs.Prelude.{◌≡◌, ◌≢◌, ◌≤◌, ◌+◌, ℕ, true, nat_le, List, [], length, codes, decimal, map, All, Option, Some, None, if◌then◌else◌}
use Rattle.std.specs.List.{join_with_byte, concat, sum_by}
use Rattle.seq_file.specs.text_lines.LineFiles.{Format, IsFile}
use Rattle.seq_file.specs.text_lines.Lines.{words_of, all_of}
use Rattle.seq_file.specs.text_lines.Numerals.{small_number, is_small_number}
use Rattle.input_file.specs.declared.errors.InputError.{InputError}
use Rattle.input_file.specs.declared.errors.InputError.TheVariants.{BadLine, TooMany}

-- a file has at most this many choices (this project's limit)
abbrev pub most_choices : ℕ
most_choices = 4000000

-- a line of choices: their numbers in decimal, with a blank between each two
abbrev pub choices_line : List ℕ → List ℕ
choices_line line = join_with_byte 32 (map decimal line)

-- The choices that a line writes, numbers of 32 bits without a sign; none where the line is not in the grammar.
abbrev pub choices_of_line : List ℕ → Option (List ℕ)
choices_of_line line = all_of small_number (words_of line)

-- the choices have 32 bits, and there is one
pub record IsChoiceLine (line : List ℕ) : Type 0 where
  pub some : line ≢ []
  pub small : All (λ n. is_small_number n ≡ true) line

-- how many choices the lines have
abbrev pub choice_count : List (List ℕ) → ℕ
choice_count lines = sum_by length lines

-- the lines may stand in one file
pub record AreChoices (lines : List (List ℕ)) : Type 0 where
  pub each : All IsChoiceLine lines
  pub few : choice_count lines ≤ most_choices

-- the fault of a line behind these lines, if it has one
abbrev pub choice_fault : List (List ℕ) → Option (List ℕ) → Option InputError
choice_fault before None = Some (BadLine (length before + 2))
choice_fault before (Some line) =
    if nat_le (choice_count before + length line) most_choices then None else Some (TooMany most_choices)

-- The format: lines of choices behind the line `ded-choices 1`.
abbrev pub choice_format : Format (List ℕ) InputError
choice_format = record {
  header = codes "ded-choices 1";
  text = choices_line;
  read = choices_of_line;
  Fit = AreChoices;
  fault = choice_fault;
  unnamed = BadLine 1;
}

-- The bytes are a choice file, and these are its choices, line by line.
pub record ChoicesRead (bytes choices : List ℕ) : Type 0 where
  pub lines : List (List ℕ)
  pub file : IsFile choice_format bytes lines
  pub all : choices ≡ concat lines
