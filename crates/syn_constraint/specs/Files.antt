-- Constraint files: which constraints a file is read as, and the first fault of a file (this project's format).
use Rattle.std.specs.Prelude.{◌≡◌, ◌≤◌, ◌+◌, ℕ, Bool, true, nat_le, nat_lt, List, [], ◌∷◌, length, codes, map, drop, All, Option, Some, None, if◌then◌else◌, ⊤}
use Rattle.syn_event.specs.Numbering.{Numbering}
use Rattle.seq_file.specs.text_lines.LineFiles.{Format, IsFile}
use Rattle.syn_constraint.specs.declared.constraints.Num.TheVariants.{Every}
use Rattle.syn_constraint.specs.declared.constraints.Pattern.{Pattern}
use Rattle.syn_constraint.specs.declared.constraints.Constraint.{Constraint}
use Rattle.syn_constraint.specs.declared.errors.ConError.{ConError}
use Rattle.syn_constraint.specs.declared.errors.ConError.TheVariants.{BadLine, BadNumber, TooMany}
use Rattle.syn_constraint.specs.Matching.{asked_of}
use Rattle.syn_constraint.specs.Known.{is_known_constraint}
use Rattle.syn_constraint.specs.Lines.{Line, BeforeLine, NeverLine, MostLine, constraint_of, largest_limit, number_count, line_text, line_of_text}

-- a file has at most this many constraints (this project's limit)
abbrev pub most_constraints : ℕ
most_constraints = 1000

-- every number will do that the letter of the pattern lacks
abbrev pub IsPlain : Pattern → Type 0
IsPlain pattern = All (λ n. n ≡ Every) (drop (number_count pattern.letter) (asked_of pattern))

-- the patterns of the line are plain, and its N is within the limit
abbrev pub IsSound : Line → Type 0
IsSound (BeforeLine early late) = IsPlain early × IsPlain late
IsSound (NeverLine counted opens closes) = IsPlain counted × IsPlain opens × IsPlain closes
IsSound (MostLine limit counted opens closes) = (limit ≤ largest_limit) × IsPlain counted × IsPlain opens × IsPlain closes

-- the line may stand in a file of the program
pub record IsConstraintLine (numbers : Numbering) (line : Line) : Type 0 where
  pub sound : IsSound line
  pub known : is_known_constraint numbers (constraint_of line) ≡ true

-- the lines may stand in one file
pub record AreConstraints (numbers : Numbering) (lines : List Line) : Type 0 where
  pub each : All (IsConstraintLine numbers) lines
  pub few : length lines ≤ most_constraints

-- the fault of a line at this place of the file, if it has one: it is out of the grammar, or has a number that the program has not
abbrev pub fault_of_line : Numbering → ℕ → Option Line → Option ConError
fault_of_line numbers place None = Some (BadLine place)
fault_of_line numbers place (Some line) = if is_known_constraint numbers (constraint_of line) then None else Some (BadNumber place)

-- the fault of a line behind so many lines, if it has one: first that it is one too many
abbrev pub fault_behind : Numbering → ℕ → Option Line → Option ConError
fault_behind numbers count line =
    if nat_lt count most_constraints then fault_of_line numbers (count + 2) line else Some (TooMany most_constraints)

-- The format: lines of constraints behind the line `ded-con 1`.
abbrev pub constraint_format : Numbering → Format Line ConError
constraint_format numbers = record {
  header = codes "ded-con 1";
  text = line_text;
  read = line_of_text;
  Fit = AreConstraints numbers;
  fault = λ before line. fault_behind numbers (length before) line;
  unnamed = BadLine 1;
}

-- The bytes are a constraint file, and these are its constraints, in order.
pub record ConstraintsRead (numbers : Numbering) (bytes : List ℕ) (constraints : List Constraint) : Type 0 where
  pub lines : List Line
  pub file : IsFile (constraint_format numbers) bytes lines
  pub all : constraints ≡ map constraint_of lines
