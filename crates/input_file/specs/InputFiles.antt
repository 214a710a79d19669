-- Input files: which inputs a file is read as, and the first fault of a file (this project's format).
use Rattle.std.specs.Prelude.{◌≡◌, ◌≤◌, ◌<◌, ◌+◌, ◌==◌, ℕ, ℤ, Bool, true, false, ◌||◌, nat_le, nat_lt, List, [], ◌∷◌, length, codes, decimal, map, All, Option, Some, None, if◌then◌else◌, ⊤, slice_index_or}
use Rattle.std.specs.Fmt.{signed_decimal}
use Rattle.std.specs.List.{join_with_byte, sum_by}
use Rattle.syn_event.specs.Numbering.{Numbering}
use Rattle.seq_file.specs.text_lines.LineFiles.{Format, IsFile}
use Rattle.seq_file.specs.text_lines.Lines.{words_of, all_of, with_two}
use Rattle.seq_file.specs.text_lines.Numerals.{count, small_integer, is_small_integer}
use Rattle.input_file.specs.declared.errors.InputError.{InputError}
use Rattle.input_file.specs.declared.errors.InputError.TheVariants.{BadLine, UnknownTask, TooMany}

-- a file has at most this many integers (this project's limit)
abbrev pub most_inputs : ℕ
most_inputs = 1000000

-- What a line says: the number of a task, and the integers that it reads, in order.
pub record InputLine : Type 0 where
  pub task : ℕ
  pub values : List ℤ

-- a line with this task's number and these integers
abbrev pub input_with : ℕ → List ℤ → InputLine
input_with task values = record { task = task; values = values }

-- the text of a line: the number of the task, then each integer, in decimal and with a blank between each two
abbrev pub input_text : InputLine → List ℕ
input_text line = join_with_byte 32 (decimal line.task ∷ map signed_decimal line.values)

-- what the words of a line write
abbrev pub input_of_words : List (List ℕ) → Option InputLine
input_of_words [] = None
input_of_words (task ∷ values) = with_two input_with (count task) (all_of small_integer values)

-- What a line writes, with a task of any number and integers of 32 bits; none where the line is not in the grammar.
abbrev pub input_of_line : List ℕ → Option InputLine
input_of_line line = input_of_words (words_of line)

-- one of the lines is that of the task
abbrev pub has_line : ℕ → List InputLine → Bool
has_line task [] = false
has_line task (line ∷ rest) = (line.task == task) || has_line task rest

-- what the task reads: the integers of its line, and none where it has no line
abbrev pub line_values : ℕ → List InputLine → List ℤ
line_values task [] = []
line_values task (line ∷ rest) = if line.task == task then line.values else line_values task rest

-- how many integers the lines have
abbrev pub input_count : List InputLine → ℕ
input_count lines = sum_by (λ line. length line.values) lines

-- the number of a task of the program, main among them, which is 0
abbrev pub has_task : Numbering → ℕ → Bool
has_task numbers task = nat_lt task (length numbers.tasks)

-- no two lines are those of one task
abbrev pub AreApart : List InputLine → Type 0
AreApart [] = ⊤
AreApart (line ∷ rest) = (has_line line.task rest ≡ false) × AreApart rest

-- the line is that of a task of the program, and its integers have 32 bits
pub record IsInputLine (numbers : Numbering) (line : InputLine) : Type 0 where
  pub known : has_task numbers line.task ≡ true
  pub small : All (λ z. is_small_integer z ≡ true) line.values

-- the lines may stand in one file
pub record AreInputLines (numbers : Numbering) (lines : List InputLine) : Type 0 where
  pub each : All (IsInputLine numbers) lines
  pub apart : AreApart lines
  pub few : input_count lines ≤ most_inputs

-- the fault of a line behind these lines, if it has one
abbrev pub input_fault : Numbering → List InputLine → Option InputLine → Option InputError
input_fault numbers before None = Some (BadLine (length before + 2))
input_fault numbers before (Some line) =
    if has_line line.task before then Some (BadLine (length before + 2))
    else (if has_task numbers line.task
    then (if nat_le (input_count before + length line.values) most_inputs then None else Some (TooMany most_inputs))
    else Some (UnknownTask (length before + 2)))

-- The format: lines of inputs behind the line `ded-in 1`.
abbrev pub input_format : Numbering → Format InputLine InputError
input_format numbers = record {
  header = codes "ded-in 1";
  text = input_text;
  read = input_of_line;
  Fit = AreInputLines numbers;
  fault = input_fault numbers;
  unnamed = BadLine 1;
}

-- for each of so many tasks, what it reads by these lines
pub record AreListsOf (tasks : ℕ) (lines : List InputLine) (inputs : List (List ℤ)) : Type 0 where
  pub count : length inputs ≡ tasks
  pub each : (task : ℕ) → task < tasks → slice_index_or inputs task [] ≡ line_values task lines

-- The bytes are an input file, and these are the inputs of the program's tasks, from 0.
pub record InputsRead (numbers : Numbering) (bytes : List ℕ) (inputs : List (List ℤ)) : Type 0 where
  pub lines : List InputLine
  pub file : IsFile (input_format numbers) bytes lines
  pub lists : AreListsOf (length numbers.tasks) lines inputs
