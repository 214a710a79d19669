-- Numbers: their form and their value.
use Rattle.std.specs.Prelude.{ℕ, Bool, false, ◌+◌, ◌-◌, ◌*◌, ◌&&◌, ◌||◌, List, [], ◌∷◌, take, drop, Option, None, Some, position, nat_le, ◌==◌, if◌then◌else◌}
use Rattle.std.specs.Option.{option_map}
use Rattle.ada_lexer.specs.declared.kinds.TokenKind.{TokenKind}
use Rattle.ada_lexer.specs.declared.kinds.TokenKind.TheVariants.{Integer, Duration}
use Rattle.ada_lexer.specs.Bytes.{is_digit}
use Rattle.common_lemmas.specs.Following.{begins, every}

-- the largest integer literal (this project's limit)
abbrev pub max_integer : ℕ
max_integer = 2147483647

-- the longest duration: one day in thousandths of a second (this project's limit)
abbrev pub max_thousandths : ℕ
max_thousandths = 86400000

-- a digit, or an underscore with a digit behind it (2.4.1)
abbrev pub numeral_goes_on : ℕ → List ℕ → Bool
numeral_goes_on b rest = is_digit b || (b == 95 && begins is_digit rest)

-- digits with single underscores between digits (2.4.1)
abbrev pub is_numeral : List ℕ → Bool
is_numeral [] = false
is_numeral (b ∷ rest) = is_digit b && every numeral_goes_on rest

-- a value with one more digit behind it; an underscore counts nothing (2.4.1)
abbrev pub value_behind : ℕ → ℕ → ℕ
value_behind n b = if b == 95 then n else n * 10 + (b - 48)

-- the decimal value of digits behind those of value n; underscores count nothing (2.4.1)
abbrev pub decimal_from : ℕ → List ℕ → ℕ
decimal_from n [] = n
decimal_from n (b ∷ rest) = decimal_from (value_behind n b) rest

-- the value of an integer literal within the limit
unfoldable pub integer_value : List ℕ → Option ℕ
integer_value text = if is_numeral text && nat_le (decimal_from 0 text) max_integer then Some (decimal_from 0 text) else None

-- the thousandths that one to three digits behind a point mean (2.4.1, and this project's limit to three)
unfoldable pub decimals_value : List ℕ → Option ℕ
decimals_value (a ∷ []) = if is_digit a then Some ((a - 48) * 100) else None
decimals_value (a ∷ b ∷ []) = if is_digit a && is_digit b then Some ((a - 48) * 100 + (b - 48) * 10) else None
decimals_value (a ∷ b ∷ c ∷ []) =
    if is_digit a && is_digit b && is_digit c then Some ((a - 48) * 100 + (b - 48) * 10 + (c - 48)) else None
decimals_value _ = None

-- whole seconds and thousandths together, within the limit
abbrev pub thousandths_of : Option ℕ → Option ℕ → Option ℕ
thousandths_of (Some whole) (Some part) =
    if nat_le (whole * 1000 + part) max_thousandths then Some (whole * 1000 + part) else None
thousandths_of (Some whole) None = None
thousandths_of None part = None

-- the value of a duration literal in thousandths, given the place of its first point
unfoldable pub duration_value : ℕ → List ℕ → Option ℕ
duration_value point text = thousandths_of (integer_value (take point text)) (decimals_value (drop (point + 1) text))

-- a point
abbrev pub is_point : ℕ → Bool
is_point b = b == 46

-- a number without a point is an integer literal, one with a point a duration literal (2.4)
abbrev pub kind_by_point : List ℕ → Option ℕ → Option TokenKind
kind_by_point text None = option_map Integer (integer_value text)
kind_by_point text (Some point) = option_map Duration (duration_value point text)

-- the integer or the duration that a text is, by its value (2.4)
unfoldable pub number_kind : List ℕ → Option TokenKind
number_kind text = kind_by_point text (position is_point text)
