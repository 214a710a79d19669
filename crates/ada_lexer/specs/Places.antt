-- Lines and columns of places in a text.
use Rattle.std.specs.Prelude.{ℕ, ◌+◌, List, length, take, count_by}
use Rattle.std.specs.List.{after_last}
use Rattle.ada_lexer.specs.Bytes.{is_line_end}

-- the line of a place: one more than the line feeds before it
abbrev pub line_at : List ℕ → ℕ → ℕ
line_at text at = 1 + count_by is_line_end (take at text)

-- the column of a place: one more than the bytes behind the last line feed before it, or behind the text's start where there is none
abbrev pub column_at : List ℕ → ℕ → ℕ
column_at text at = 1 + length (after_last is_line_end (take at text))
