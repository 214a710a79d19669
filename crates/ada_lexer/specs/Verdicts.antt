-- What a piece of a text is: nothing, a token, or the fault that it has.
use Rattle.std.specs.Prelude.{◌≡◌, ℕ, true, ◌+◌, not, List, [], ◌∷◌, length, Option, None, Some, option_map, position, nat_le, nat_lt, ◌==◌, if◌then◌else◌, IsTrue}
use Rattle.ada_lexer.specs.declared.kinds.TokenKind.{TokenKind}
use Rattle.ada_lexer.specs.declared.kinds.TokenKind.TheVariants.{Symbol, Name, Text}
use Rattle.ada_lexer.specs.declared.errors.LexError.TheVariants.{BadByte, OpenString, BadNumber, TooLong}
use Rattle.ada_lexer.specs.declared.verdicts.Verdict.{Verdict}
use Rattle.ada_lexer.specs.declared.verdicts.Verdict.TheVariants.{Gap, Kind, Fault}
use Rattle.ada_lexer.specs.Bytes.{is_letter, is_digit, is_printable, is_white}
use Rattle.ada_lexer.specs.Words.{reserved_symbol, delimiter_symbol}
use Rattle.ada_lexer.specs.Numbers.{number_kind}
use Rattle.ada_lexer.specs.Strings.{ends_inside, content}
use Rattle.ada_lexer.specs.Pieces.{opens_comment, is_piece}

-- an identifier has at most this many bytes (this project's limit)
abbrev pub max_name : ℕ
max_name = 150

-- a string's content has at most this many bytes (this project's limit)
abbrev pub max_content : ℕ
max_content = 200

-- a token of the kind that was found, and otherwise what stands for nothing found
abbrev pub token_or : Verdict → Option TokenKind → Verdict
token_or other (Some kind) = Kind kind
token_or other None = other

-- a reserved word in any case is its kind; another identifier is a name, which must not be too long (2.3, 2.9)
unfoldable pub word_verdict : ℕ → List ℕ → Verdict
word_verdict at text =
    token_or (if nat_le (length text) max_name then Kind Name else Fault (TooLong at)) (option_map Symbol (reserved_symbol text))

-- a number is an integer or a duration, or it is bad (2.4)
unfoldable pub number_verdict : ℕ → List ℕ → Verdict
number_verdict at text = token_or (Fault (BadNumber at)) (number_kind text)

-- a closed string of at most 200 is bad at its first byte that is no printable ASCII, and otherwise a text (2.6)
abbrev pub text_or_bad_byte : ℕ → Option ℕ → Verdict
text_or_bad_byte at (Some place) = Fault (BadByte (at + place))
text_or_bad_byte at None = Kind Text

-- a string by the bytes behind its opening mark: first it must be closed, then short enough, then printable (2.6)
unfoldable pub string_verdict : ℕ → List ℕ → Verdict
string_verdict at rest =
    if ends_inside true rest then Fault (OpenString at)
    else (if nat_lt max_content (length (content true rest)) then Fault (TooLong at)
    else text_or_bad_byte (at + 1) (position (λ b. not (is_printable b)) rest))

-- two hyphens begin a comment, which is a gap; the rest are delimiters (2.7, 2.2)
unfoldable pub mark_verdict : ℕ → List ℕ → Verdict
mark_verdict at text = if opens_comment text then Gap else token_or (Fault (BadByte at)) (option_map Symbol (delimiter_symbol text))

-- what the piece that begins at a place is, by its first byte: white space or a comment, a token of a kind, or a fault
unfoldable pub verdict : ℕ → List ℕ → Verdict
verdict at [] = Gap
verdict at (b ∷ rest) =
    if is_white b then Gap
    else (if is_letter b then word_verdict at (b ∷ rest)
    else (if is_digit b then number_verdict at (b ∷ rest)
    else (if b == 34 then string_verdict at rest
    else mark_verdict at (b ∷ rest))))

-- the text is a token of this kind: it is one piece, and as such a token
abbrev pub IsToken : List ℕ → TokenKind → Type 0
IsToken text kind = IsTrue (is_piece text) × (verdict 0 text ≡ Kind kind)
