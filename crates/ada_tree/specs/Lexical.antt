-- Which names, numbers and strings the source can hold (this project's rules on identifiers, literals and reserved words, after ANSI/MIL-STD-1815A 2.3, 2.4, 2.6 and 2.9).
use Rattle.std.specs.Prelude.{ℕ, ◌≤◌, ◌==◌, nat_le, Bool, true, false, not, ◌&&◌, ◌||◌, IsTrue, List, [], ◌∷◌, length, codes, All, if◌then◌else◌}
use Rattle.std.specs.List.{list_any}
use Rattle.std.specs.Str.{bytes_eq}

-- the reserved words, in upper case
abbrev pub reserved : List (List ℕ)
reserved =
    codes "ABORT" ∷ codes "ABS" ∷ codes "ACCEPT" ∷ codes "ACCESS" ∷ codes "ALL" ∷ codes "AND" ∷ codes "ARRAY" ∷ codes "AT" ∷
    codes "BEGIN" ∷ codes "BODY" ∷ codes "CASE" ∷ codes "CONSTANT" ∷ codes "DECLARE" ∷ codes "DELAY" ∷ codes "DELTA" ∷ codes "DIGITS" ∷
    codes "DO" ∷ codes "ELSE" ∷ codes "ELSIF" ∷ codes "END" ∷ codes "ENTRY" ∷ codes "EXCEPTION" ∷ codes "EXIT" ∷ codes "FOR" ∷
    codes "FUNCTION" ∷ codes "GENERIC" ∷ codes "GOTO" ∷ codes "IF" ∷ codes "IN" ∷ codes "IS" ∷ codes "LIMITED" ∷ codes "LOOP" ∷
    codes "MOD" ∷ codes "NEW" ∷ codes "NOT" ∷ codes "NULL" ∷ codes "OF" ∷ codes "OR" ∷ codes "OTHERS" ∷ codes "OUT" ∷
    codes "PACKAGE" ∷ codes "PRAGMA" ∷ codes "PRIVATE" ∷ codes "PROCEDURE" ∷ codes "RAISE" ∷ codes "RANGE" ∷ codes "RECORD" ∷ codes "REM" ∷
    codes "RENAMES" ∷ codes "RETURN" ∷ codes "REVERSE" ∷ codes "SELECT" ∷ codes "SEPARATE" ∷ codes "SUBTYPE" ∷ codes "TASK" ∷ codes "TERMINATE" ∷
    codes "THEN" ∷ codes "TYPE" ∷ codes "USE" ∷ codes "WHEN" ∷ codes "WHILE" ∷ codes "WITH" ∷ codes "XOR" ∷ []

abbrev pub is_upper_letter : ℕ → Bool
is_upper_letter b = nat_le 65 b && nat_le b 90

abbrev pub is_digit : ℕ → Bool
is_digit b = nat_le 48 b && nat_le b 57

-- what may follow the first letter of an identifier: letters, digits and single underscores, of which none is the last; the truth value says that an underscore stands before
abbrev pub goes_on : Bool → List ℕ → Bool
goes_on under [] = not under
goes_on under (b ∷ bs) = if b == 95 then not under && goes_on true bs else (is_upper_letter b || is_digit b) && goes_on false bs

abbrev pub is_word : List ℕ → Bool
is_word [] = false
is_word (b ∷ bs) = is_upper_letter b && goes_on false bs

-- an identifier in upper case: at most 150 bytes, and no reserved word
abbrev pub IsIdentifier : List ℕ → Type 0
IsIdentifier t = IsTrue (is_word t) × (length t ≤ 150) × IsTrue (not (list_any (bytes_eq t) reserved))

-- the value of an integer literal
abbrev pub IsInteger : ℕ → Type 0
IsInteger n = n ≤ 2147483647

-- a duration, in thousandths of a second
abbrev pub IsDuration : ℕ → Type 0
IsDuration d = d ≤ 86400000

-- the content of a string literal: at most 200 printable characters of ASCII
abbrev pub IsStringContent : List ℕ → Type 0
IsStringContent t = All (λ b. (32 ≤ b) × (b ≤ 126)) t × (length t ≤ 200)
