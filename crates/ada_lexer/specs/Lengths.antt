-- How long the piece at the front of a text is, by the rule and as the code counts it.
use Rattle.std.specs.Prelude.{◌≡◌, ◌<◌, ◌≤◌, ◌⊎◌, length, take, ℕ, true, ◌+◌, ◌&&◌, List, [], ◌∷◌, is_some, ◌==◌, if◌then◌else◌}
use Rattle.ada_lexer.specs.Bytes.{is_letter, is_digit, is_white, run_len}
use Rattle.ada_lexer.specs.Words.{symbol_in, simple_delimiters, compound_delimiters}
use Rattle.ada_lexer.specs.Strings.{string_len}
use Rattle.ada_lexer.specs.Pieces.{word_goes_on, number_goes_on, comment_goes_on, IsLongest}
use Rattle.ada_lexer.specs.Split.{BeginsNothing}

-- the longest piece at the front of the text has this length
abbrev pub HasLongest : ℕ → List ℕ → Type 0
HasLongest n text = (n ≤ length text) × IsLongest (take n text) text

-- the length is that of the longest piece, or it is 0 and the text begins with none
abbrev pub IsMeasured : List ℕ → ℕ → Type 0
IsMeasured text n = ((0 < n) × HasLongest n text) ⊎ ((n ≡ 0) × BeginsNothing text)

-- a comment, a compound delimiter, a simple one, or nothing
unfoldable pub mark_len : List ℕ → ℕ
mark_len [] = 0
mark_len (b ∷ []) = if is_some (symbol_in simple_delimiters (b ∷ [])) then 1 else 0
mark_len (b ∷ c ∷ rest) =
    if b == 45 && c == 45 then run_len comment_goes_on rest + 2
    else (if is_some (symbol_in compound_delimiters (b ∷ c ∷ [])) then 2
    else (if is_some (symbol_in simple_delimiters (b ∷ [])) then 1 else 0))

-- the length of the piece that a text begins with, and 0 where it begins with none
unfoldable pub piece_len : List ℕ → ℕ
piece_len [] = 0
piece_len (b ∷ rest) =
    if is_white b then 1
    else (if is_letter b then run_len word_goes_on rest + 1
    else (if is_digit b then run_len number_goes_on rest + 1
    else (if b == 34 then string_len true rest + 1
    else mark_len (b ∷ rest))))
