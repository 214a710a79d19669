-- The classes of bytes, and the runs of bytes that go on.
use Rattle.std.specs.Prelude.{ℕ, Bool, ◌+◌, ◌&&◌, ◌||◌, List, [], ◌∷◌, nat_le, ◌==◌, if◌then◌else◌}

-- an upper or lower case letter (2.1)
abbrev pub is_letter : ℕ → Bool
is_letter b = (nat_le 97 b && nat_le b 122) || (nat_le 65 b && nat_le b 90)

-- a digit (2.1)
abbrev pub is_digit : ℕ → Bool
is_digit b = nat_le 48 b && nat_le b 57

-- a letter or a digit (2.3)
abbrev pub is_letter_or_digit : ℕ → Bool
is_letter_or_digit b = is_letter b || is_digit b

-- a graphic character of ASCII or the blank: what a string may hold (2.1, 2.6)
abbrev pub is_printable : ℕ → Bool
is_printable b = nat_le 32 b && nat_le b 126

-- blank, tab, carriage return, line feed and form feed: what may stand between tokens (2.2, and this project's list)
abbrev pub is_white : ℕ → Bool
is_white b = b == 32 || b == 9 || b == 13 || b == 10 || b == 12

-- the end of a line: a line feed alone (this project's rule)
abbrev pub is_line_end : ℕ → Bool
is_line_end b = b == 10

-- a letter in lower case, any other byte as it is: case makes no difference in words (2.3, 2.9)
abbrev pub in_lower_case : ℕ → ℕ
in_lower_case b = if nat_le 65 b && nat_le b 90 then b + 32 else b

-- how many bytes from the first on go on: what the code counts, and by proof the longest prefix at which `every` is true
abbrev pub run_len : (ℕ → List ℕ → Bool) → List ℕ → ℕ
run_len goes_on [] = 0
run_len goes_on (b ∷ rest) = if goes_on b rest then 1 + run_len goes_on rest else 0
