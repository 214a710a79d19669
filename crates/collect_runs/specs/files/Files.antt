-- The sequence file by the lines that a recorder has finished (this project's rules).
use Rattle.std.specs.Prelude.{◌≡◌, ℕ, Bool, true, false, List, [], ◌∷◌, ◌++◌, codes, drop}
use Rattle.std.specs.List.{slice_split}
use Rattle.ded_io.specs.Written.{◌⧺◌, each_text}
use Rattle.syn_event.specs.Numbering.{Numbering}
use Rattle.seq_file.specs.text_lines.Lines.{is_line_end}
use Rattle.seq_file.specs.Files.{header_line}

-- The output has these finished lines, each without the line feed that ends it, and this behind the last of these.
abbrev pub HasLines : List ℕ → List (List ℕ) → List ℕ → Type 0
HasLines output lines rest = slice_split is_line_end output ≡ lines ++ rest ∷ []

-- a line with the line feed that ends it
abbrev pub ended_line : List ℕ → List ℕ
ended_line line = line ⧺ codes "\n"

-- the line of the event Z, where the run has ended
abbrev pub end_line : Bool → List ℕ
end_line true = codes "Z\n"
end_line false = []

-- The sequence file of a program with these names and numbers by the lines that the recorder has finished, of which the first is the header: the header,
-- the line of each event, and Z exactly where the run has ended. The header stands there too where the recorder has not come to write it.
abbrev pub file_of_lines : List (List ℕ) → Numbering → List (List ℕ) → Bool → List ℕ
file_of_lines names numbers lines ended = header_line names numbers ⧺ (each_text ended_line (drop 1 lines) ⧺ end_line ended)
