-- The text of what a task has written, line by line (this project's format).
use Rattle.std.specs.Prelude.{ℕ, List, [], ◌∷◌, codes}
use Rattle.std.specs.List.{slice_split}
use Rattle.ded_io.specs.Written.{◌⧺◌, each_text}
use Rattle.seq_file.specs.text_lines.Lines.{is_line_end}

-- what an output has before its first line feed, between each two, and behind its last one
abbrev pub pieces_of : List ℕ → List (List ℕ)
pieces_of output = slice_split is_line_end output

-- all pieces but the last
abbrev pub but_last : List (List ℕ) → List (List ℕ)
but_last [] = []
but_last (piece ∷ []) = []
but_last (piece ∷ next ∷ rest) = piece ∷ but_last (next ∷ rest)

-- the last piece
abbrev pub last_piece : List (List ℕ) → List ℕ
last_piece [] = []
last_piece (piece ∷ []) = piece
last_piece (piece ∷ next ∷ rest) = last_piece (next ∷ rest)

-- the finished lines of an output, each without the line feed that ends it
abbrev pub finished_lines : List ℕ → List (List ℕ)
finished_lines output = but_last (pieces_of output)

-- what an output has behind its last line feed
abbrev pub unfinished_line : List ℕ → List ℕ
unfinished_line output = last_piece (pieces_of output)

-- a finished line, behind a bar
abbrev pub bar_line : List ℕ → List ℕ
bar_line line = codes "| " ⧺ (line ⧺ codes "\n")

-- a line that is not finished, behind an angle; there is none where it is empty
abbrev pub angle_line : List ℕ → List ℕ
angle_line [] = []
angle_line (b ∷ line) = codes "> " ⧺ ((b ∷ line) ⧺ codes "\n")

-- The text of an output: its finished lines, and then the one that is not finished.
abbrev pub output_text : List ℕ → List ℕ
output_text output = each_text bar_line (finished_lines output) ⧺ angle_line (unfinished_line output)
