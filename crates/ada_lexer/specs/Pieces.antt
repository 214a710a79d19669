-- The pieces that a text can fall into by their form: white space, comments, words, numbers, strings and delimiters.
use Rattle.std.specs.Prelude.{◌≡◌, ℕ, Bool, true, false, ◌≤◌, ◌&&◌, ◌||◌, not, List, [], ◌∷◌, length, take, is_some, ◌==◌, if◌then◌else◌, IsTrue}
use Rattle.ada_lexer.specs.Bytes.{is_letter, is_digit, is_letter_or_digit, is_white, is_line_end}
use Rattle.common_lemmas.specs.Following.{begins, every}
use Rattle.ada_lexer.specs.Words.{delimiter_symbol}
use Rattle.ada_lexer.specs.Strings.{is_string_run}

-- a letter or digit, or a single underscore before one: what may follow in an identifier (2.3)
abbrev pub word_goes_on : ℕ → List ℕ → Bool
word_goes_on b rest = is_letter_or_digit b || (b == 95 && begins is_letter_or_digit rest)

-- a digit, letter or underscore, or a point with a digit behind it: what a number takes, good or bad (this project's rule)
abbrev pub number_goes_on : ℕ → List ℕ → Bool
number_goes_on b rest = is_letter_or_digit b || b == 95 || (b == 46 && begins is_digit rest)

-- a comment takes every byte before the end of its line (2.7)
abbrev pub comment_goes_on : ℕ → List ℕ → Bool
comment_goes_on b rest = not (is_line_end b)

-- two hyphens begin a comment (2.7)
abbrev pub opens_comment : List ℕ → Bool
opens_comment (b ∷ c ∷ rest) = b == 45 && c == 45
opens_comment _ = false

-- two hyphens and what follows them on their line (2.7)
abbrev pub is_comment : List ℕ → Bool
is_comment (b ∷ c ∷ rest) = b == 45 && c == 45 && every comment_goes_on rest
is_comment _ = false

-- there is nothing
abbrev pub is_empty : List ℕ → Bool
is_empty [] = true
is_empty (b ∷ rest) = false

-- one piece of a text, by its first byte: one byte of white space, an identifier or reserved word of any length (2.3, 2.9), a number
-- good or bad (2.4), a string closed or not (2.6), a comment (2.7) or a delimiter (2.2)
unfoldable pub is_piece : List ℕ → Bool
is_piece [] = false
is_piece (b ∷ rest) =
    if is_white b then is_empty rest
    else (if is_letter b then every word_goes_on rest
    else (if is_digit b then every number_goes_on rest
    else (if b == 34 then is_string_run true rest
    else is_comment (b ∷ rest) || is_some (delimiter_symbol (b ∷ rest)))))

-- the piece stands at the front of the text, and no longer front of it is a piece: each is the longest that begins at its place (2.2)
pub record IsLongest (piece text : List ℕ) : Type 0 where
  pub stands : piece ≡ take (length piece) text
  pub is_one : IsTrue (is_piece piece)
  pub longest : (n : ℕ) → n ≤ length text → IsTrue (is_piece (take n text)) → n ≤ length piece
