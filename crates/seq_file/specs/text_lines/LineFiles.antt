-- Files of lines: a first line that names the format, then one line for each member of a list (this project's format).
use Rattle.std.specs.Prelude.{◌≡◌, ◌≢◌, ℕ, Bool, false, bytes_eq, List, [], ◌∷◌, ◌++◌, Option, Some, option_and_then, ◌⊎◌}
use Rattle.std.specs.Option.{option_map_or}
use Rattle.seq_file.specs.text_lines.Lines.{first_line}

-- A format of files whose lines are of the type L, with faults of the type E.
pub record Format (L E : Type 0) : Type 1 where
  -- the first line
  pub header : List ℕ
  -- the text of a line
  pub text : L → List ℕ
  -- the line that a text writes, if it writes one
  pub read : List ℕ → Option L
  -- these lines may stand in one file
  pub Fit : List L → Type 0
  -- the fault of the next line behind these, if it has one; none stands for a text that writes no line
  pub fault : List L → Option L → Option E
  -- the fault of another first line
  pub unnamed : E

-- the texts of the lines, each ended by a line feed
abbrev pub lines_text : {L : Type 0} → (L → List ℕ) → List L → List ℕ
lines_text text [] = []
lines_text text (line ∷ rest) = (text line ++ (10 ∷ [])) ++ lines_text text rest

-- The text of a file of these lines: the line that names the format, then each of them.
unfoldable pub file_text : {L E : Type 0} → Format L E → List L → List ℕ
file_text format lines = (format.header ++ (10 ∷ [])) ++ lines_text format.text lines

-- The bytes are a file of these lines: they are the text of the lines, and the lines may stand in a file.
pub record IsFile {L E : Type 0} (format : Format L E) (bytes : List ℕ) (lines : List L) : Type 0 where
  pub text : bytes ≡ file_text format lines
  pub fit : format.Fit lines

-- the bytes begin with the line
abbrev pub begins_with_line : List ℕ → List ℕ → Bool
begins_with_line line bytes = option_map_or (λ first. bytes_eq first line) (first_line bytes) false

-- the bytes begin with the text of sound lines, and the next line has this fault
pub record FailsBehind {L E : Type 0} (format : Format L E) (bytes : List ℕ) (error : E) : Type 0 where
  pub lines : List L
  pub rest : List ℕ
  pub text : bytes ≡ file_text format lines ++ rest
  pub fit : format.Fit lines
  pub more : rest ≢ []
  pub fault : format.fault lines (option_and_then format.read (first_line rest)) ≡ Some error

-- The first bad line of the bytes has this fault: it is the first line, or it stands behind sound ones.
abbrev pub HasFirstFault : {L E : Type 0} → Format L E → List ℕ → E → Type 0
HasFirstFault format bytes error =
    ((begins_with_line format.header bytes ≡ false) × (error ≡ format.unnamed)) ⊎ FailsBehind format bytes error
